use Rattle.std.proofs.Common.{◌∙◌}
use Rattle.txn_core.specs.declared.answer.Answer.{Answer}
use Rattle.txn_core.specs.History.{reasons_of, kept}
use Rattle.txn_core.specs.Legal.{state}
use Rattle.control_cell.proofs.Numbered.{unfinished_are}
use Rattle.control_cell.proofs.cell.ControlCell.unfinished.Goals as goal

pub returns : goal.returns
returns g c =
    λ n moment es h.
    let are =
    c.in_ok-numbers.ensures.numbers
    ∙ unfinished_are (state (g.R.Rules.protocol n) es).ledger (reasons_of es) (kept es) c.args.self.now.ledger h.keeps
    c.in_ok-numbers.ensures.ordered in
    λ j. Answer.Numbers (are j)
