use Rattle.std.proofs.Common.{◌≡◌, ℕ, drop}
use Rattle.std.specs.List.{list_all}
use Rattle.txn_replay.specs.Held.{is_listed}
use Rattle.txn_replay.proofs.pendings.are_among.Given as goal

abbrev pub invariant-loop-held : goal.invariant-loop-held
invariant-loop-held g l =
    (n : ℕ)
    → list_all (is_listed (g.R.Rules.protocol n).core l.others) l.pendings
    ≡ list_all (is_listed (g.R.Rules.protocol n).core l.others) (drop l.held-index l.pendings)
