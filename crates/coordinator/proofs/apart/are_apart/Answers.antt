use Rattle.std.proofs.Common.{◌≡◌, ◌||◌, ◌∷◌, ◌+◌, drop, false, sym, ap, ◌∙◌}
use Rattle.std.proofs.lemmas.List.{drop_more}
use Rattle.std.proofs.lemmas.Bool.{not-true}
use Rattle.coordinator.proofs.Differing.{at_first, is_seen, lent_more, one_more, same_is}
use Rattle.coordinator.proofs.apart.are_apart.Goals as goal

pub loop-action-init : goal.loop-action-init
loop-action-init g c = λ n.
    at_first (g.R.Rules.protocol n).core (is_seen g.R.Key.Ord.cmp c.new-seen.result.keys) c.args.actions.now
    (λ k. ap (λ keys. is_seen g.R.Key.Ord.cmp keys k) c.new-seen.ensures.empty)

pub loop-action-preserved : goal.loop-action-preserved
loop-action-preserved g c = λ n.
    let S = g.R.Rules.protocol n in
    let cmp = g.R.Key.Ord.cmp in
    let l = c.loop-action in
    let xs = c.args.actions.now in
    let x = c.action-item.result in
    let rest = drop (l.action-index + 1) xs in
    let here : drop l.action-index xs ≡ x ∷ rest = drop_more xs l.action-index x c.loop-action-test.true ∙ ap (λ y. y ∷ rest) (sym c.action-item.is) in
    let key = c.key_of.result.now in
    let its = c.key_of.ensures n in
    let new : is_seen cmp l.seen.keys key ≡ false = not-true (is_seen cmp l.seen.keys key) (sym c.in_ok-insert.ensures.added ∙ c.if-not-branch.false) in
    one_more S.core (is_seen cmp l.seen.keys) (is_seen cmp c.insert.new.self.keys) x (drop l.action-index xs) rest _ here
    (ap (is_seen cmp l.seen.keys) (sym its) ∙ new)
    (λ q.
    lent_more cmp l.seen.keys c.insert.new.self.keys key q (c.in_ok-insert.ensures.updates.0 (record c.key_of.result { now = q }))
    ∙ ap (λ b. b || is_seen cmp l.seen.keys q) (same_is S cmp (g.met.R.Rules.lawful n) (g.met.R.CellRules.ordered n) key q ∙ ap (λ k. S.core.same k q) its))
    (l.invariant n)
