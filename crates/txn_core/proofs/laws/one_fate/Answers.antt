use Rattle.std.proofs.Common.{◌∷◌, subst}
use Rattle.txn_core.specs.Runs.{IsRun}
use Rattle.txn_core.specs.History.{effects}
use Rattle.txn_core.proofs.SerialLaws.{decided_once, stands_once, outcome_at_commit}
use Rattle.txn_core.proofs.Moves.{first_decision_stands, others_leave_the_order}
use Rattle.txn_core.proofs.LegalRuns.{legal_run}
use Rattle.txn_core.proofs.Accepted.{held_is_accepted}
use Rattle.txn_core.proofs.laws.one_fate.Goals as goal

pub returns : goal.returns
returns g c =
    let S = g.R.Rules.protocol in
    let law = g.met.R.Rules.lawful in
    record {
      once = λ n es legal m. decided_once (S n).core (law n).core (effects es) (legal_run (S n) (law n) es legal) m;
      whole = λ n es legal m. stands_once (S n).core (law n).core (effects es) (legal_run (S n) (law n) es legal) m;
      accepted = λ n e es m legal commit q a h.
          outcome_at_commit (S n).core (law n).core (effects es) m
          (subst (λ x. IsRun (S n).core (x ∷ effects es)) commit (legal_run (S n) (law n) (e ∷ es) legal)) q a h;
      prepared = λ n. held_is_accepted (S n) (law n);
      first = λ n. first_decision_stands (S n) (law n);
      others = λ n. others_leave_the_order;
    }
