use Rattle.std.proofs.Common.{◌≡◌, ◌-◌, refl, reverse, arith}
use Rattle.turnstile.specs.Passes.{most_units}
use Rattle.coordinator.proofs.Driven.{spent_now}
use Rattle.coordinator.proofs.preparation.prepare.Goals as goal

pub returns-then-left-eq0-clause-err : goal.returns-then-left-eq0-clause-err
returns-then-left-eq0-clause-err g c =
    let S = g.R.Rules.protocol (c.args.caller.now.id.slots - 1) in
    let p = c.args.pass.now in
    let none = c.if-left-eq0.true in
    let all = c.left.ensures in
    spent_now S p p (reverse p.front) c.args.driver.now _ refl (omega arith) c.requires.driver c.requires.next (λ e. cc)

pub returns-clause-spent : goal.returns-clause-spent
returns-clause-spent g c =
    let some = c.if-left-eq0.false in
    let all = c.left.ensures in (
      λ e. absurd (c.ask_acceptance.ensures.not_spent e),
      λ (full : c.args.pass.now.used ≡ most_units). let none : ⊥ = omega arith in absurd none,
    )
