-- One message and its reply.
use Rattle.std.specs.Prelude.{◌≡◌, ◌⊎◌, ℕ, ◌+◌, max, Bool, List, Option, IfSome, Result, Ok, Err}
use Rattle.std.specs.Io.KnownBytes.{Appends, Consumes, IsAtEnd}
use Rattle.ddb_outside.specs.Clocks.{Looks}
use Rattle.ddb_outside.specs.Writes.{AppendsFront}
use Rattle.http_front.specs.declared.fault.HttpFault.{HttpFault}
use Rattle.http_front.specs.declared.message.Message.{Message}
use Rattle.http_front.specs.Messages.{IsMessage, IsRefusedBy, IsCutAt}
use Rattle.http_front.specs.Replies.{bytes_of, refusal}
use Rattle.http_session.specs.declared.end.SessionEnd.{SessionEnd}
use Rattle.http_session.specs.declared.end.SessionEnd.TheVariants.{Ended, Asked, Refused, Cut, ReadFault, WriteFault, Spent, NoMemory}

-- what a service may do to its state
pub record Ways (S : Type 0) : Type 1 where
  -- it gives leave to take a message: the state before and after
  pub begins : S → S → Type 0
  -- it gives none any more
  pub stops : S → Type 0
  -- it answers one: a state, the message, the moment, the status and the body of the reply, and the next state
  pub steps : S → Message → ℕ → ℕ → List ℕ → S → Type 0

-- where a connection stands: what is still to come, what the clock will give and the greatest moment that it gave, what
-- was written, and the state of the service
pub record Stand (S : Type 0) : Type 0 where
  pub coming : Option (List ℕ)
  pub moments : Option (ℕ → ℕ)
  pub latest : ℕ
  pub written : Option (List ℕ)
  pub state : S

abbrev pub stand : {S : Type 0} → Option (List ℕ) → Option (ℕ → ℕ) → ℕ → Option (List ℕ) → S → Stand S
stand coming moments latest written state =
    record { coming = coming; moments = moments; latest = latest; written = written; state = state }

-- the reply to a message at a moment, where it is the one after `done` others
pub record IsReply {S : Type 0} (ways : Ways S) (old new : S) (done : ℕ) (message : Message) (moment : ℕ) (text : List ℕ)
    : Type 0 where
  pub status : ℕ
  pub body : List ℕ
  pub begun : S
  pub begins : ways.begins old begun
  pub step : ways.steps begun message moment status body new
  pub text_is : text ≡ bytes_of status body (done + 1) message.last

-- a message was taken from what came, and then the clock was looked at once
pub record IsTaken {S : Type 0} (old new : Stand S) (message : Message) : Type 0 where
  pub text : List ℕ
  pub is : IsMessage text message
  pub taken : Consumes old.coming new.coming text
  pub moment : ℕ
  pub look : Looks old.moments new.moments moment
  pub latest : new.latest ≡ max moment old.latest

-- a message was taken, and then its reply was written, which is the text
pub record IsAnswered {S : Type 0} (ways : Ways S) (done : ℕ) (old new : Stand S) (message : Message) : Type 0 where
  pub is_taken : IsTaken old new message
  pub text : List ℕ
  pub is_reply : IsReply ways old.state new.state done message new.latest text
  pub wrote : Appends old.written new.written text

-- no message was taken: the clock was not looked at, and all that the service did is that it gave leave
pub record IsIdle {S : Type 0} (ways : Ways S) (old new : Stand S) : Type 0 where
  pub moments : new.moments ≡ old.moments
  pub latest : new.latest ≡ old.latest
  pub state : ways.begins old.state new.state

-- and nothing was written
abbrev pub IsUntouched : {S : Type 0} → Ways S → Stand S → Stand S → Type 0
IsUntouched ways old new = IsIdle ways old new × (new.written ≡ old.written)

-- the sink failed, so that a front of a reply was written
pub record IsCutReply {S : Type 0} (ways : Ways S) (done : ℕ) (old new : Stand S) : Type 0 where
  pub message : Message
  pub is_taken : IsTaken old new message
  pub text : List ℕ
  pub is_reply : IsReply ways old.state new.state done message new.latest text
  pub wrote : AppendsFront old.written new.written text

-- the sink failed, so that a front of the refusal of what is no message was written
pub record IsCutRefusal {S : Type 0} (ways : Ways S) (old new : Stand S) : Type 0 where
  pub fault : HttpFault
  pub is : IfSome old.coming (IsRefusedBy fault)
  pub idle : IsIdle ways old new
  pub wrote : AppendsFront old.written new.written (refusal fault)

-- what comes of one turn, after `done` messages: a message was answered, and may have asked for the end; or it is the end
abbrev pub IsTurn : {S : Type 0} → Ways S → ℕ → Stand S → Stand S → Result Bool SessionEnd → Type 0
IsTurn ways done old new (Ok last) = (message : Message) × IsAnswered ways done old new message × (message.last ≡ last)
IsTurn ways done old new (Err Ended) = IsAtEnd old.coming × IsUntouched ways old new
IsTurn ways done old new (Err Asked) = ⊥
IsTurn ways done old new (Err (Refused fault)) =
    IfSome old.coming (IsRefusedBy fault) × IsIdle ways old new × Appends old.written new.written (refusal fault)
IsTurn ways done old new (Err (Cut got)) = IfSome old.coming (IsCutAt got) × IsUntouched ways old new
IsTurn ways done old new (Err ReadFault) = IsUntouched ways old new
IsTurn ways done old new (Err WriteFault) = IsCutReply ways done old new ⊎ IsCutRefusal ways old new
IsTurn ways done old new (Err Spent) = ways.stops old.state × (new ≡ old)
IsTurn ways done old new (Err NoMemory) = IsUntouched ways old new
