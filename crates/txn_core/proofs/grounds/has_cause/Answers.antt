use Rattle.std.proofs.Common.{length, reverse}
use Rattle.txn_core.proofs.Grounded.{cause_refused, cause_blank, gone_and_many, not_gone}
use Rattle.txn_core.proofs.grounds.has_cause.Goals as goal

pub returns-then-have_refusal : goal.returns-then-have_refusal
returns-then-have_refusal g c =
    λ n. cause_refused (g.R.Rules.protocol n) (reverse c.args.past.now) c.args.number c.args.actions.now c.args.reasons.now c.have_refusal.result c.if-have_refusal.true c.have_refusal.ensures c.are_told.result (c.are_told.ensures n)

pub returns-then-was : goal.returns-then-was
returns-then-was g c =
    λ n. cause_blank (g.R.Rules.protocol n) (reverse c.args.past.now) c.args.number c.args.actions.now c.args.reasons.now c.have_refusal.result c.if-have_refusal.false c.have_refusal.ensures _
    (gone_and_many (g.R.Rules.protocol n) (reverse c.args.past.now) c.args.number c.args.actions.now c.args.reasons.now c.was.result c.if-was.true _ c.was.ensures (length c.args.reasons.now) (length c.args.actions.now))

pub returns-else-was : goal.returns-else-was
returns-else-was g c =
    λ n. cause_blank (g.R.Rules.protocol n) (reverse c.args.past.now) c.args.number c.args.actions.now c.args.reasons.now c.have_refusal.result c.if-have_refusal.false c.have_refusal.ensures _
    (not_gone (g.R.Rules.protocol n) (reverse c.args.past.now) c.args.number c.args.actions.now c.args.reasons.now c.was.result c.if-was.false _ c.was.ensures (length c.args.reasons.now) (length c.args.actions.now))
