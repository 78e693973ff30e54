use Rattle.std.proofs.Common.{◌≡◌, length, reverse, rules, subst, true, Some}
use Rattle.std.specs.Prelude.{◌↔◌, IsTrue, Any}
use Rattle.txn_core.specs.History.{reason_of}
use Rattle.txn_core.specs.Legal.{prepares}
use Rattle.txn_core.proofs.Grounded.{told_cons, told_not, told_none, told_short}
use Rattle.txn_core.proofs.grounds.+are_told.Goals as goal

pub returns-in_default : goal.returns-in_default
returns-in_default g t c =
    let e : length c.args.actions.now ≡ 0 = search rules in
    λ n. told_none (g.R.Rules.protocol n) (reverse c.args.past.now) c.args.number c.args.actions.now c.args.reasons.now e c.is_empty.result c.is_empty.ensures

pub returns-in_default-split_first : goal.returns-in_default-split_first
returns-in_default-split_first g t c =
    let e : length c.args.reasons.now ≡ 0 = search rules in
    λ n. told_short (g.R.Rules.protocol n) (reverse c.args.past.now) c.args.number c.in-Some.action.now c.in-Some.others.now c.args.actions.now c.args.reasons.now c.in-Some.ensures.cases.0 e

pub returns-then-was_told : goal.returns-then-was_told
returns-then-was_told g t c =
    λ n. told_cons (g.R.Rules.protocol n) (reverse c.args.past.now) c.args.number c.in-Some.action.now c.in-Some.others.now c.args.actions.now c.in-Some-split_first.reason.now c.in-Some-split_first.rest.now c.args.reasons.now
    c.in-Some.ensures.cases.0 c.in-Some-split_first.ensures.cases.0 c.was_told.result c.are_told.result c.if-was_told.true (subst (λ k. IsTrue c.was_told.result ↔ Any (λ e. (prepares (g.R.Rules.protocol n) c.args.number k e.message ≡ true) × (reason_of e.answer ≡ Some c.in-Some-split_first.reason.now)) (reverse c.args.past.now)) (c.key_of.ensures n) (c.was_told.ensures n)) (c.are_told.ensures n)

pub returns-else-was_told : goal.returns-else-was_told
returns-else-was_told g t c =
    λ n. told_not (g.R.Rules.protocol n) (reverse c.args.past.now) c.args.number c.in-Some.action.now c.in-Some.others.now c.args.actions.now c.in-Some-split_first.reason.now c.in-Some-split_first.rest.now c.args.reasons.now
    c.in-Some.ensures.cases.0 c.in-Some-split_first.ensures.cases.0 c.was_told.result c.if-was_told.false (subst (λ k. IsTrue c.was_told.result ↔ Any (λ e. (prepares (g.R.Rules.protocol n) c.args.number k e.message ≡ true) × (reason_of e.answer ≡ Some c.in-Some-split_first.reason.now)) (reverse c.args.past.now)) (c.key_of.ensures n) (c.was_told.ensures n))
