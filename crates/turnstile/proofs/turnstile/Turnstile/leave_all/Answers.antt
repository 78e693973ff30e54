use Rattle.std.proofs.Common.{ap, ◌∙◌, sym, subst, filter}
use Rattle.atomic_table.specs.Seated.{TableId}
use Rattle.turnstile.specs.Histories.{Has, is_of}
use Rattle.turnstile.specs.Kept.{ticket}
use Rattle.turnstile.proofs.Stacks.{stacked_here}
use Rattle.turnstile.proofs.turnstile.Turnstile.leave_all.Goals as goal

pub leave_turns-requires-clause-small : goal.leave_turns-requires-clause-small
leave_turns-requires-clause-small g c = λ k t e. let held = ap (λ x. x.turns) c.pass.view_is ∙ c.requires.turns.0 in
    (c.pass.invariant.turns (ticket k t) (subst (λ l. Has l (ticket k t)) (sym held) (stacked_here c.args.turns.numbers.items k t e))).1

pub leave_turns-requires-clause-stands : goal.leave_turns-requires-clause-stands
leave_turns-requires-clause-stands g c = λ k x e. let W = g.W.World in
    let here = subst (λ f. W.stands c.args.self.now.id.slots k x (filter (λ a. is_of (W.cell a) k) f)) (sym (ap (λ p. p.front) c.pass.view_is)) (c.requires.stands k x e) in
    subst (λ (z : TableId). W.stands z.slots k x (filter (λ a. is_of (W.cell a) k) c.pass.inside.seat.me.0.front)) (sym (ap (λ t. t.id) c.self.view_is)) here
