use Rattle.txn_core.proofs.Points.{history_forward}
use Rattle.txn_core.proofs.Causes.{get_is_shown}
use Rattle.txn_core.proofs.LegalRuns.{legal_run}
use Rattle.txn_core.proofs.OwnItems.{points_pass_own}
use Rattle.txn_core.proofs.laws.reads_go_forward.Goals as goal

pub returns : goal.returns
returns g c =
    let S = g.R.Rules.protocol in
    let law = g.met.R.Rules.lawful in
    record {
      shown = λ n es legal moment key v is. get_is_shown (S n) (law n) es legal moment key v is;
      forward = λ n newer es legal q. history_forward (S n).core (law n).core newer es (legal_run (S n) (law n) _ legal) q;
      own = λ n. points_pass_own (S n) (law n);
    }
