use Rattle.std.proofs.Common.{◌≡◌, [], ◌∷◌, ap, ◌∙◌, sym, subst, refl, inl}
use Rattle.turnstile.specs.Histories.{Has}
use Rattle.turnstile.specs.Kept.{ticket}
use Rattle.turnstile.proofs.turnstile.Turnstile.leave.Goals as goal

pub put_back-requires-clause-small : goal.put_back-requires-clause-small
put_back-requires-clause-small g c = let t = c.args.turn in
    let held : c.pass.inside.seat.me.0.held ≡ ticket t.cell t.number ∷ [] = ap (λ x. x.turns) c.pass.view_is ∙ c.requires.turn in
    (c.pass.invariant.turns (ticket t.cell t.number) (subst (λ l. Has l (ticket t.cell t.number)) (sym held) (inl refl))).1
