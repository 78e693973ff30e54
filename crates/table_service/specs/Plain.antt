-- The steps of a session that has a database of its own.
use Rattle.std.specs.Prelude.{◌≡◌, ◌⊎◌, ℕ}
use Rattle.http_front.specs.declared.message.Message.{Message}
use Rattle.http_session.specs.Exchanges.{Ways}
use Rattle.table_request.specs.declared.request.Request.{Request}
use Rattle.table_model.specs.declared.reply.Reply.{Reply}
use Rattle.table_model.specs.Database.{Database}
use Rattle.table_model.specs.Effect.{IsEffect}
use Rattle.table_model.specs.Expired.{swept}
use Rattle.plain_database.specs.Left.{IsLeftOut}
use Rattle.request_parts.specs.declared.refusal.Refusal.{Refusal}
use Rattle.table_service.specs.Telling.{States, IsRefusedAtOnce, Told, IsTold, told_memory, told_refusal, told_reply}

-- the request is applied, and this is told of it
abbrev pub IsApplied : Database → Request → ℕ → Told → Database → Type 0
IsApplied db request moment tells new = (reply : Reply) × IsEffect db request moment new reply × (tells ≡ told_reply reply)

-- the request is applied, and this is told of it; or memory was refused, and it is left out or applied whole
abbrev pub IsServed : Database → Request → ℕ → Told → Database → Type 0
IsServed db request moment tells new =
    IsApplied db request moment tells new
    ⊎ ((tells ≡ told_memory) × (IsLeftOut db moment new ⊎ ((other : Told) × IsApplied db request moment other new)))

-- the message states a request, which is served, or is refused; or memory was refused before it was read
abbrev pub IsMade : Database → Message → ℕ → Told → Database → Type 0
IsMade db message moment tells new =
    ((request : Request) × States message request × IsServed db request moment tells new)
    ⊎ ((refusal : Refusal) × IsRefusedAtOnce message refusal × (new ≡ db) × IsTold (told_refusal refusal) tells)
    ⊎ ((new ≡ db) × (tells ≡ told_memory))

-- the same, once the items that are expired at the moment are gone; or memory was refused for that, and nothing was done
abbrev pub IsStep : Database → Message → ℕ → Told → Database → Type 0
IsStep db message moment tells new = IsMade (swept db moment) message moment tells new ⊎ ((new ≡ db) × (tells ≡ told_memory))

-- leave is always given, and changes nothing
abbrev pub plain_ways : Ways Database
plain_ways = record {
  begins = λ old new. new ≡ old;
  stops = λ db. ⊥;
  steps = λ old message moment status body new. IsStep old message moment (status, body) new;
}
