use Rattle.txn_core.specs.History.{effects}
use Rattle.txn_core.proofs.SerialLaws.{rows_are_shown, holds_the_tables}
use Rattle.txn_core.proofs.LegalRuns.{legal_run}
use Rattle.txn_core.proofs.laws.rows_are_shown.Goals as goal

pub returns : goal.returns
returns g c =
    let S = g.R.Rules.protocol in
    let law = g.met.R.Rules.lawful in
    record {
      rows = λ n es legal q. rows_are_shown (S n).core (law n).core (effects es) (legal_run (S n) (law n) es legal) q;
      images = λ n es legal q m e. (holds_the_tables (S n).core (law n).core (effects es) (legal_run (S n) (law n) es legal) q m e).0;
    }
