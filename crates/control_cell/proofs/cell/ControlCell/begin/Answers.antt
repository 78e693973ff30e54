use Rattle.std.proofs.Common.{true, refl, sym, ap, ◌∙◌}
use Rattle.std.specs.Ordering.{nat_cmp}
use Rattle.std.specs.BTreeMap.{get}
use Rattle.std.proofs.lemmas.Result.{IfOk-weaker}
use Rattle.txn_core.specs.declared.message.Message.{Message}
use Rattle.txn_core.specs.Answers.{begin_answer}
use Rattle.txn_ledger.specs.Contents.{next_of}
use Rattle.txn_ledger.specs.Records.{stamp_of}
use Rattle.control_cell.specs.Begins.{have_tables}
use Rattle.control_cell.proofs.Entries.{holds_by}
use Rattle.control_cell.proofs.Beginnings.{begin_answers, undrawn_left}
use Rattle.control_cell.proofs.cell.ControlCell.begin.Goals as goal

pub returns-in-Some-clause-takes : goal.returns-in-Some-clause-takes
returns-in-Some-clause-takes g c =
    λ n es e h is.
    holds_by (g.R.Rules.protocol n) es e c.args.moment (Message.Begin c.args.token c.args.actions) c.in-Some.told _ is
    (undrawn_left (g.R.Rules.protocol n) es c.args.moment c.args.token c.args.actions c.in-Some.told c.args.self.now.catalog
    c.args.self.now.ledger c.purge.new.self c.in-Some.ensures.draws_none h.catalog_is h.keeps c.purge.ensures.next
    (λ k. ap (λ m. get nat_cmp m k) c.purge.ensures.records) c.purge.ensures.tokens)

pub returns : goal.returns
returns g c =
    let free = c.in_default.ensures.free refl in
    let next = next_of c.args.self.now.ledger in
    record {
      answers =
          IfOk-weaker c.draw.result _ _
          (λ a is n es h.
          begin_answers (g.R.Rules.protocol n) es c.args.self.now c.args.moment c.args.token c.args.actions true a h
          (sym
          (ap (λ xs. have_tables (g.R.Rules.protocol n) c.args.self.now.catalog xs) (sym c.as_slice.ensures) ∙ c.in_default.ensures.there refl n))
          (is
          ∙ (λ j. begin_answer (g.R.Rules.protocol n).same_actions true (sym free j) c.args.actions (stamp_of c.args.moment next))))
          c.draw.ensures.drawn;
      takes = c.draw.ensures.takes;
      err = c.draw.ensures.err;
    }
