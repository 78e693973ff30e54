-- What a connection is answered, message by message, and how a session ends.
use Rattle.std.specs.Prelude.{◌≡◌, ◌⊎◌, ℕ, zero, suc, ◌+◌, ◌^◌, max, List, [], ◌∷◌, ◌++◌, length, Option, None, Some, ⊤}
use Rattle.std.specs.Io.KnownBytes.{Appends}
use Rattle.http_front.specs.declared.fault.HttpFault.{HttpFault}
use Rattle.http_front.specs.declared.message.Message.{Message}
use Rattle.http_front.specs.Messages.{IsMessage, IsRefusedBy}
use Rattle.http_front.specs.Replies.{refusal}
use Rattle.http_front.specs.Streams.{Takes, StaysOpen, Ends, whole, cut, refused, asked}
use Rattle.http_session.specs.declared.end.SessionEnd.{SessionEnd}
use Rattle.http_session.specs.declared.end.SessionEnd.TheVariants.{Ended, Asked, Refused, Cut, ReadFault, WriteFault, Spent, NoMemory}
use Rattle.http_session.specs.Exchanges.{Ways, IsReply}

-- the greatest of the moments that a clock gives up to a look, the first look being 0
abbrev pub greatest : (ℕ → ℕ) → ℕ → ℕ
greatest coming zero = coming 0
greatest coming (suc k) = max (greatest coming k) (coming (suc k))

-- where the clock tells what comes, the moment is the greatest that it gives up to a look
abbrev pub IsMomentAt : Option (ℕ → ℕ) → ℕ → ℕ → Type 0
IsMomentAt None look moment = ⊤
IsMomentAt (Some coming) look moment = moment ≡ greatest coming look

-- after `done` messages this one is answered by this text, at its moment
pub record IsAnswer {S : Type 0} (ways : Ways S) (coming : Option (ℕ → ℕ)) (old : S) (done : ℕ) (message : Message)
    (text : List ℕ) (new : S) : Type 0 where
  pub moment : ℕ
  pub moment_is : IsMomentAt coming done moment
  pub is_reply : IsReply ways old new done message moment text

-- after `done` messages these are answered by this output, one after the other
abbrev pub Run : {S : Type 0} → Ways S → Option (ℕ → ℕ) → S → ℕ → List Message → List ℕ → S → Type 0
Run ways coming old done [] output new = (output ≡ []) × (new ≡ old)
Run {S = S} ways coming old done (message ∷ messages) output new =
    (text : List ℕ) × (mid : S) × (rest : List ℕ) × IsAnswer ways coming old done message text mid × (output ≡ text ++ rest)
    × Run ways coming mid (done + 1) messages rest new

-- what is written next: the refusal of what is no message, or the answer of the next message
abbrev pub IsNext : {S : Type 0} → Ways S → Option (ℕ → ℕ) → S → S → ℕ → List ℕ → List ℕ → Type 0
IsNext ways coming old new done bytes next =
    ((fault : HttpFault) × IsRefusedBy fault bytes × (next ≡ refusal fault) × ways.begins old new)
    ⊎ ((message : Message) × (text : List ℕ) × (later : List ℕ)
    × IsMessage text message × (bytes ≡ text ++ later) × IsAnswer ways coming old done message next new)

-- how many messages a session answers at most
abbrev pub max_messages : ℕ
max_messages = 2 ^ 40

-- a session that ends so, after these messages and their output, in this state and with these bytes left: what it wrote,
-- and its state in the end
abbrev pub Leaves : {S : Type 0} → Ways S → Option (ℕ → ℕ) → SessionEnd → List Message → S → S → List ℕ
    → Option (List ℕ) → Option (List ℕ) → List ℕ → Type 0
Leaves ways coming Ended messages mid new rest old written output =
    Ends messages rest whole × ways.begins mid new × Appends old written output
Leaves ways coming Asked messages mid new rest old written output =
    Ends messages rest asked × (new ≡ mid) × Appends old written output
Leaves ways coming (Refused fault) messages mid new rest old written output =
    Ends messages rest (refused fault) × ways.begins mid new × Appends old written (output ++ refusal fault)
Leaves ways coming (Cut got) messages mid new rest old written output =
    Ends messages rest (cut got) × ways.begins mid new × Appends old written output
Leaves ways coming ReadFault messages mid new rest old written output =
    StaysOpen messages × ways.begins mid new × Appends old written output
Leaves ways coming WriteFault messages mid new rest old written output =
    StaysOpen messages
    × ((next : List ℕ) × (part : List ℕ) × (unwritten : List ℕ)
    × IsNext ways coming mid new (length messages) rest next × (next ≡ part ++ unwritten) × Appends old written (output ++ part))
Leaves ways coming Spent messages mid new rest old written output =
    StaysOpen messages × ((length messages ≡ max_messages) ⊎ ways.stops mid) × (new ≡ mid) × Appends old written output
Leaves ways coming NoMemory messages mid new rest old written output =
    StaysOpen messages × ways.begins mid new × Appends old written output

-- the clock's moments have moved up by so many looks
abbrev pub MovesUp : Option (ℕ → ℕ) → Option (ℕ → ℕ) → ℕ → Type 0
MovesUp None later looks = ⊤
MovesUp (Some coming) None looks = ⊥
MovesUp (Some coming) (Some later) looks = (k : ℕ) → later k ≡ coming (k + looks)

-- a session over this input: its messages were answered in order, from this state on, and it ended so; the clock was looked
-- at once a message, of which the last may have been left with a front of its reply
pub record Served {S : Type 0} (ways : Ways S) (input : List ℕ) (coming later : Option (ℕ → ℕ)) (old new : S)
    (written rewritten : Option (List ℕ)) (end : SessionEnd) : Type 0 where
  pub messages : List Message
  pub rest : List ℕ
  pub output : List ℕ
  pub mid : S
  pub takes : Takes input messages rest
  pub run : Run ways coming old 0 messages output mid
  pub leaves : Leaves ways coming end messages mid new rest written rewritten output
  pub looks : ℕ
  pub moved : MovesUp coming later looks
  pub looked : (looks ≡ length messages) ⊎ ((end ≡ WriteFault) × (looks ≡ length messages + 1))
