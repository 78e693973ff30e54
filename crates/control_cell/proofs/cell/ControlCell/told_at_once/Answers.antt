use Rattle.std.proofs.Common.{true, Some, refl, sym, ap, ◌∙◌}
use Rattle.txn_core.specs.declared.answer.Answer.{Answer}
use Rattle.txn_core.specs.Answers.{begin_answer}
use Rattle.txn_ledger.specs.Contents.{next_of}
use Rattle.txn_ledger.specs.Records.{stamp_of}
use Rattle.control_cell.specs.Keeping.{token_of}
use Rattle.control_cell.proofs.Beginnings.{begin_answers, told_draws_none}
use Rattle.control_cell.proofs.cell.ControlCell.told_at_once.Goals as goal

pub returns-then-not-has_tables-clause-answers : goal.returns-then-not-has_tables-clause-answers
returns-then-not-has_tables-clause-answers g c =
    λ n es h.
    begin_answers (g.R.Rules.protocol n) es c.args.self.now c.args.moment c.args.token.now c.args.actions.now _ Answer.Stale h
    (sym c.if-not-has_tables.true ∙ c.has_tables.ensures n) refl

pub returns-in-Some : goal.returns-in-Some
returns-in-Some g c =
    let next = next_of c.args.self.now.ledger in
    record {
      answers = λ n es h.
          begin_answers (g.R.Rules.protocol n) es c.args.self.now c.args.moment c.args.token.now c.args.actions.now true c.told_of.result h
          (sym c.if-not-has_tables.false ∙ c.has_tables.ensures n)
          (c.told_of.ensures n (stamp_of c.args.moment next)
          ∙ ap (λ f. begin_answer (g.R.Rules.protocol n).same_actions true f c.args.actions.now (stamp_of c.args.moment next)) c.in-Some.ensures);
      draws_none =
          told_draws_none (g.R.Rules.protocol 1).same_actions (token_of (Some c.in-Some.kept.now)) c.args.actions.now (stamp_of 0 0)
          c.told_of.result refl (c.told_of.ensures 1 (stamp_of 0 0));
      there = λ e. absurd (cc);
      free = λ e. absurd (cc);
    }
