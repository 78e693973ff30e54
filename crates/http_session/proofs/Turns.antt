-- What comes of a turn where there is no message.
use Rattle.std.proofs.Common.{◌≡◌, ◌⊎◌, ℕ, Option, IfSome, Err, refl, sym, subst, inl, inr}
use Rattle.std.specs.Io.KnownBytes.{Appends}
use Rattle.ddb_outside.specs.Writes.{AppendsFront}
use Rattle.http_front.specs.declared.fault.HttpFault.{HttpFault}
use Rattle.http_front.specs.Messages.{IsRefusedBy}
use Rattle.http_front.specs.Replies.{refusal}
use Rattle.http_session.specs.declared.end.SessionEnd.{SessionEnd}
use Rattle.http_session.specs.declared.end.SessionEnd.TheVariants.{Refused, WriteFault}
use Rattle.http_session.specs.Exchanges.{Ways, Stand, IsIdle, IsTurn}

-- the refusal was written, or a front of it
pub refused_turn : {S : Type 0} (ways : Ways S) (done : ℕ) (old new : Stand S) (fault : HttpFault) (end : SessionEnd)
    → IfSome old.coming (IsRefusedBy fault) → IsIdle ways old new → ((end ≡ Refused fault) ⊎ (end ≡ WriteFault))
    → (end ≡ Refused fault → Appends old.written new.written (refusal fault))
    → (end ≡ WriteFault → AppendsFront old.written new.written (refusal fault))
    → IsTurn ways done old new (Err end)
refused_turn ways done old new fault end is idle (inl same) whole front =
    subst (λ e. IsTurn ways done old new (Err e)) (sym same) (is, idle, whole same)
refused_turn ways done old new fault end is idle (inr same) whole front =
    subst (λ e. IsTurn ways done old new (Err e)) (sym same) (inr (record { fault = fault; is = is; idle = idle; wrote = front same }))
