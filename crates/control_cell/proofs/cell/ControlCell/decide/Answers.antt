use Rattle.txn_core.specs.declared.message.Message.{Message}
use Rattle.txn_core.specs.declared.answer.Answer.{Answer}
use Rattle.txn_core.specs.History.{reasons_of, kept}
use Rattle.txn_core.specs.Legal.{state}
use Rattle.control_cell.proofs.Entries.{holds_by, decide_taken, decide_answered}
use Rattle.control_cell.proofs.cell.ControlCell.decide.Goals as goal

pub returns : goal.returns
returns g c =
    let d = c.decide-fate.ensures in
    let old = c.args.self.now.ledger in
    let new = c.decide-fate.new.self in
    let told = c.decide-fate.result in
    record {
      answers = λ n moment es h.
          decide_answered (g.R.Rules.protocol n) (state (g.R.Rules.protocol n) es).ledger (reasons_of es) (kept es) old c.args.number c.args.commit told d.answer h.keeps;
      takes = λ n moment es e h is.
          holds_by (g.R.Rules.protocol n) es e moment (Message.Decide c.args.number c.args.commit c.args.reasons)
          (Answer.Decided told.0 told.1) _ is
          (decide_taken (g.R.Rules.protocol n) es moment c.args.number c.args.commit c.args.reasons c.args.self.now.catalog old new told d.answer
          h.catalog_is h.keeps d.next d.records d.tokens);
    }
