use Rattle.std.proofs.Common.{◌∙◌}
use Rattle.std.proofs.lemmas.Result.{IfOk-weaker}
use Rattle.txn_core.specs.History.{reasons_of, kept}
use Rattle.txn_core.specs.Legal.{state}
use Rattle.control_cell.proofs.Entries.{known_answer, unknown_answer}
use Rattle.control_cell.proofs.cell.ControlCell.recall.Goals as goal

pub returns-in-Some : goal.returns-in-Some
returns-in-Some g c =
    IfOk-weaker c.known.result _ _
    (λ a is n moment es h.
    is
    ∙ known_answer (g.R.Rules.protocol n) (state (g.R.Rules.protocol n) es).ledger (reasons_of es) (kept es) c.args.self.now.ledger
    c.args.number _ c.in-Some.ensures h.keeps)
    c.known.ensures

pub returns-in-None : goal.returns-in-None
returns-in-None g c =
    λ n moment es h.
    unknown_answer (g.R.Rules.protocol n) (state (g.R.Rules.protocol n) es).ledger (reasons_of es) (kept es) c.args.self.now.ledger
    c.args.number c.in-None.ensures h.keeps
