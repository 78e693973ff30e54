use Rattle.std.proofs.Common.{sym, ap, not, ◌&&◌, ◌∙◌}
use Rattle.txn_replay.specs.Held.{are_once}
use Rattle.txn_replay.proofs.pendings.are_once.Goals as goal

pub returns-then-is_again : goal.returns-then-is_again
returns-then-is_again g c = λ n.
    ap (λ b. not b && are_once (g.R.Rules.protocol n).core c.in-Some.others.now) (sym c.if-is_again.true ∙ c.is_again.ensures n)
    ∙ ap (λ xs. are_once (g.R.Rules.protocol n).core xs) (sym c.in-Some.ensures.cases.0)
    ∙ c.loop-first.invariant n

pub loop-first-preserved : goal.loop-first-preserved
loop-first-preserved g c = λ n.
    ap (λ b. not b && are_once (g.R.Rules.protocol n).core c.in-Some.others.now) (sym c.if-is_again.false ∙ c.is_again.ensures n)
    ∙ ap (λ xs. are_once (g.R.Rules.protocol n).core xs) (sym c.in-Some.ensures.cases.0)
    ∙ c.loop-first.invariant n
