-- A session that memory was refused to before its first message.
use Rattle.std.proofs.Common.{ℕ, List, [], Option, None, Some, IfSome, refl, sym, ap, inl, arith}
use Rattle.std.specs.Io.KnownBytes.{Appends}
use Rattle.std.proofs.lemmas.List.{append-nil}
use Rattle.http_session.specs.declared.end.SessionEnd.TheVariants.{NoMemory}
use Rattle.http_session.specs.Sessions.{MovesUp, Served}
use Rattle.table_model.specs.Database.{empty_database}
use Rattle.table_service.specs.Plain.{plain_ways}

nothing : (written : Option (List ℕ)) → Appends written written []
nothing None = tt
nothing (Some bytes) = sym (append-nil bytes)

no_looks : (coming : Option (ℕ → ℕ)) → MovesUp coming coming 0
no_looks None = tt
no_looks (Some moments) = λ k. ap moments (omega arith)

pub unserved : (bytes : List ℕ) (coming : Option (ℕ → ℕ)) (written : Option (List ℕ))
    → Served plain_ways bytes coming coming empty_database empty_database written written NoMemory
unserved bytes coming written = record {
  messages = [];
  rest = bytes;
  output = [];
  mid = empty_database;
  takes = refl;
  run = (refl, refl);
  leaves = ((λ k d below. absurd (omega arith)), refl, nothing written);
  looks = 0;
  moved = no_looks coming;
  looked = inl refl;
}

-- the same, where the source tells its bytes
pub unserved_known : (input : Option (List ℕ)) (coming : Option (ℕ → ℕ)) (written : Option (List ℕ))
    → IfSome input (λ bytes. Served plain_ways bytes coming coming empty_database empty_database written written NoMemory)
unserved_known None coming written = tt
unserved_known (Some bytes) coming written = unserved bytes coming written
