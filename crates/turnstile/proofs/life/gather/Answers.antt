use Rattle.std.proofs.Common.{◌≡◌, [], ◌∷◌, length, vec_len, Some, arith, ◌∙◌, sym, subst, refl, inl, inr, ⊎_elim}
use Rattle.std.specs.Prelude.{slice_get}
use Rattle.turnstile.specs.Histories.{Has}
use Rattle.turnstile.specs.Passes.{HasPass}
use Rattle.turnstile.proofs.Basics.{get_last, get_push, get_front, below_get}
use Rattle.turnstile.proofs.life.gather.Goals as goal

pub absorb-requires-clause-of : goal.absorb-requires-clause-of
absorb-requires-clause-of g c = let W = g.W.World in let i = c.loop-pass.invariant in let new = c.pop.new.self.items in let x = c.in-Some.pass in let popped = c.in-Some.ensures.items in
    let at : slice_get c.loop-pass.passes.items (length new) ≡ Some x = subst (λ l. slice_get l (length new) ≡ Some x) (sym popped) (get_last new x) in
    let o = i.ours (length new) x at in let each = c.requires.each o.0 x o.1 in
    (i.of ∙ c.requires.of.0, c.into_seat.ensures.seat.0 ∙ each.0)

pub absorb-requires-clause-free : goal.absorb-requires-clause-free
absorb-requires-clause-free g c = let W = g.W.World in let i = c.loop-pass.invariant in let new = c.pop.new.self.items in let x = c.in-Some.pass in let popped = c.in-Some.ensures.items in
    let at : slice_get c.loop-pass.passes.items (length new) ≡ Some x = subst (λ l. slice_get l (length new) ≡ Some x) (sym popped) (get_last new x) in
    let o = i.ours (length new) x at in let each = c.requires.each o.0 x o.1 in
    (i.free, c.into_seat.ensures.free each.1)

pub loop-pass-preserved : goal.loop-pass-preserved
loop-pass-preserved g c = let W = g.W.World in let i = c.loop-pass.invariant in let new = c.pop.new.self.items in let x = c.in-Some.pass in let popped = c.in-Some.ensures.items in
    let at : slice_get c.loop-pass.passes.items (length new) ≡ Some x = subst (λ l. slice_get l (length new) ≡ Some x) (sym popped) (get_last new x) in
    let o = i.ours (length new) x at in let each = c.requires.each o.0 x o.1 in
    let a = c.absorb.ensures in let s = c.into_seat.ensures in
    let got : HasPass W.by x.number x.front c.absorb.new.place.me.0 = subst (λ f. HasPass W.by x.number f c.absorb.new.place.me.0) s.seat.1 (a.got x.number (subst (λ l. Has l x.number) (sym s.seat.2) (inl refl))) in record {
      of = a.of ∙ i.of;
      free = a.free;
      kept = λ q f h. a.kept q f (i.kept q f h);
      each = λ k p e. ⊎_elim
          (λ there. ⊎_elim (λ h. inl h) (λ h. inr (subst (λ y. HasPass W.by y.number y.front c.absorb.new.place.me.0) h.1 got)) (get_push new x p k (subst (λ l. slice_get l k ≡ Some p) popped there)))
          (λ had. inr (a.kept p.number p.front had))
          (i.each k p e);
      ours = λ k p e. i.ours k p (subst (λ l. slice_get l k ≡ Some p) (sym popped) (get_front new (x ∷ []) k p e));
    }

pub returns-clause-got : goal.returns-clause-got
returns-clause-got g c = λ k p e. let i = c.loop-pass.invariant in let none = c.in_default.ensures.cases.0 in let ok : vec_len c.loop-pass.passes ≡ length c.loop-pass.passes.items = c.loop-pass.passes.ok.0 in
    ⊎_elim (λ there. let b = below_get c.loop-pass.passes.items k p there in absurd (omega arith)) (λ had. had) (i.each k p e)
