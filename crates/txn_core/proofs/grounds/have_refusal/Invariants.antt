use Rattle.std.proofs.Common.{◌≡◌, ℕ, ◌<◌, get_or}
use Rattle.txn_core.specs.declared.reason.Reason.{Reason}
use Rattle.txn_core.proofs.grounds.have_refusal.Given as goal

abbrev pub invariant-loop-reason : goal.invariant-loop-reason
invariant-loop-reason g l = (k : ℕ) → k < l.reason-index → (d : Reason g.row.V.Denot g.row.F.Denot) → get_or l.reasons k d ≡ Reason.None
