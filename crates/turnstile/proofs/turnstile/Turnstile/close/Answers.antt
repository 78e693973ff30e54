use Rattle.std.proofs.Common.{◌≡◌, ℕ, ◌<◌, [], ◌∷◌, ◌++◌, length, Some, vec_len, arith, ap, ◌∙◌, sym, subst, refl, inl, ⊎_elim}
use Rattle.std.specs.Prelude.{slice_get}
use Rattle.atomic_table.specs.Seated.{TableId}
use Rattle.turnstile.specs.Histories.{Has}
use Rattle.turnstile.specs.Passes.{PassView, HasPass, IsOneHistory}
use Rattle.turnstile.proofs.Basics.{get_last, get_push, get_front, below_get}
use Rattle.turnstile.proofs.Histories.{trail_self, trail_on, trail_none}
use Rattle.turnstile.proofs.turnstile.Turnstile.close.Goals as goal

pub unreachable-requires : goal.unreachable-requires
unreachable-requires g c = let some_pass = subst (λ (k : ℕ). 0 < k) (ap (λ t. t.passes) c.self.view_is) c.self.invariant.1 in let h = c.requires.all 0 some_pass in
    let b = below_get c.args.passes h.0 h.1 h.2 in let e = ap length c.into-passes.ensures in let none = c.in_default.ensures.cases.0 in let ok : vec_len c.into-passes.result ≡ length c.into-passes.result.items = c.into-passes.result.ok.0 in omega arith

pub gather-place-requires-clause-of : goal.gather-place-requires-clause-of
gather-place-requires-clause-of g c = let W = g.W.World in let new = c.pop.new.self.items in let first = c.in-Some.first in let sid = ap (λ t. t.id) c.self.view_is in
    let all_is : new ++ first ∷ [] ≡ c.args.passes = sym c.in-Some.ensures.items ∙ c.into-passes.ensures in
    let first_of = c.requires.of (length new) first (subst (λ l. slice_get l (length new) ≡ Some first) all_is (get_last new first)) in
    (c.into_seat.ensures.seat.0 ∙ (first_of.0 ∙ sym sid), c.into_seat.ensures.free first_of.1)

pub gather-place-requires-clause-each : goal.gather-place-requires-clause-each
gather-place-requires-clause-each g c = λ i p e. let W = g.W.World in let new = c.pop.new.self.items in let first = c.in-Some.first in let sid = ap (λ t. t.id) c.self.view_is in
    let all_is : new ++ first ∷ [] ≡ c.args.passes = sym c.in-Some.ensures.items ∙ c.into-passes.ensures in
    let first_of = c.requires.of (length new) first (subst (λ l. slice_get l (length new) ≡ Some first) all_is (get_last new first)) in
    let o = c.requires.of i p (subst (λ l. slice_get l i ≡ Some p) all_is (get_front new (first ∷ []) i p e)) in (o.0 ∙ sym sid, o.1)

pub take_values-requires-clause-all : goal.take_values-requires-clause-all
take_values-requires-clause-all g c = λ q lt. let W = g.W.World in let new = c.pop.new.self.items in let first = c.in-Some.first in let sid = ap (λ t. t.id) c.self.view_is in
    let all_is : new ++ first ∷ [] ≡ c.args.passes = sym c.in-Some.ensures.items ∙ c.into-passes.ensures in
    let first_of = c.requires.of (length new) first (subst (λ l. slice_get l (length new) ≡ Some first) all_is (get_last new first)) in
    let s = c.into_seat.ensures in let a = c.gather-place.ensures in let place = c.gather-place.result.me.0 in
    let got_first : HasPass W.by first.number first.front place = a.kept first.number first.front (subst (λ f. HasPass W.by first.number f c.into_seat.result.me.0) s.seat.1 record { has = subst (λ l. Has l first.number) (sym s.seat.2) (inl refl); trail = trail_self W.by first.number c.into_seat.result.me.0.front }) in
    let got : (i : ℕ) (p : PassView g.row.W-Entry.Denot) → slice_get c.args.passes i ≡ Some p → HasPass W.by p.number p.front place = λ i p e. ⊎_elim (λ h. a.got i p h) (λ h. subst (λ x. HasPass W.by x.number x.front place) h.1 got_first)
    (get_push new first p i (subst (λ l. slice_get l i ≡ Some p) (sym all_is) e)) in
    let h = c.requires.all q (subst (λ (k : ℕ). q < k) (ap (λ t. t.passes) c.self.view_is) lt) in
    subst (λ x. Has place.numbers x) h.3 (got h.0 h.1 h.2).has

pub returns-clause-history : goal.returns-clause-history
returns-clause-history g c = let W = g.W.World in let new = c.pop.new.self.items in let first = c.in-Some.first in let sid = ap (λ t. t.id) c.self.view_is in
    let all_is : new ++ first ∷ [] ≡ c.args.passes = sym c.in-Some.ensures.items ∙ c.into-passes.ensures in
    let first_of = c.requires.of (length new) first (subst (λ l. slice_get l (length new) ≡ Some first) all_is (get_last new first)) in
    let s = c.into_seat.ensures in let a = c.gather-place.ensures in let place = c.gather-place.result.me.0 in
    let got_first : HasPass W.by first.number first.front place = a.kept first.number first.front (subst (λ f. HasPass W.by first.number f c.into_seat.result.me.0) s.seat.1 record { has = subst (λ l. Has l first.number) (sym s.seat.2) (inl refl); trail = trail_self W.by first.number c.into_seat.result.me.0.front }) in
    let got : (i : ℕ) (p : PassView g.row.W-Entry.Denot) → slice_get c.args.passes i ≡ Some p → HasPass W.by p.number p.front place = λ i p e. ⊎_elim (λ h. a.got i p h) (λ h. subst (λ x. HasPass W.by x.number x.front place) h.1 got_first)
    (get_push new first p i (subst (λ l. slice_get l i ≡ Some p) (sym all_is) e)) in
    let k = c.take_values.ensures.kept in
    subst (λ l. IsOneHistory W.by W.cell W.stands W.legal c.args.self.id.slots c.args.passes l) (sym c.from.ensures)
    (subst (λ (z : TableId). IsOneHistory W.by W.cell W.stands W.legal z.slots c.args.passes c.take_values.result.items) sid record {
      log = k.log;
      lawful = k.lawful;
      fronts = λ i p e. let h = got i p e in trail_on W.by p.number p.front [] place.front [] k.log h.trail (trail_none W.by p.number place.front k.log k.begins (k.same p.number h.has));
      values_stand = k.each;
    })
