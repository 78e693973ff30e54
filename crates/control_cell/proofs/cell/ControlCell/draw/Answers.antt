use Rattle.std.proofs.Common.{ap, ◌∙◌}
use Rattle.txn_core.specs.declared.message.Message.{Message}
use Rattle.txn_core.specs.declared.answer.Answer.{Answer}
use Rattle.control_cell.specs.Keeping.{with_actions}
use Rattle.control_cell.proofs.Entries.{holds_by}
use Rattle.control_cell.proofs.Beginnings.{drawn_taken}
use Rattle.control_cell.proofs.cell.ControlCell.draw.Goals as goal

pub returns : goal.returns
returns g c =
    let d = c.in_ok-number.ensures in
    let own = c.in_ok-own.ensures ∙ ap (λ a. with_actions a c.args.token) c.as_slice.ensures in
    record {
      drawn = λ j. Answer.Begun (d.number.0 j) (d.number.1 j);
      takes = λ n es e h is.
          holds_by (g.R.Rules.protocol n) es e c.args.moment (Message.Begin c.args.token c.args.actions)
          (Answer.Begun c.in_ok-number.number c.in_ok-number.stamp) _ is
          (drawn_taken (g.R.Rules.protocol n) es c.args.moment c.args.token c.args.actions c.in_ok-own.own c.args.self.now.catalog
          c.args.self.now.ledger c.begin.new.self c.in_ok-number.number c.in_ok-number.stamp d.number.0 d.number.1 own h.catalog_is h.keeps
          d.next d.records d.tokens);
      err = tt;
    }
