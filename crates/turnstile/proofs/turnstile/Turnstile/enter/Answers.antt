use Rattle.std.proofs.Common.{◌≡◌, ℕ, ◌<◌, ◌≤◌, ◌+◌, ◌*◌, [], arith, ap, ◌∙◌, sym, subst}
use Rattle.atomic_table.specs.Seated.{TableId}
use Rattle.turnstile.specs.Histories.{Trail}
use Rattle.turnstile.specs.Kept.{ticket}
use Rattle.turnstile.specs.Steps.{Taken}
use Rattle.turnstile.specs.Passes.{most_units}
use Rattle.turnstile.proofs.Sound.{entered, spent}
use Rattle.turnstile.proofs.turnstile.Turnstile.enter.Goals as goal

pub returns-clause-trail : goal.returns-clause-trail
returns-clause-trail g c = let W = g.W.World in let v = c.pass.view_is in let s = c.self.view_is in let p = c.pass.inside in let n : ℕ = c.self.inside.table.shared.table_id.slots in
    let same : p.seat.table_id ≡ c.self.inside.table.shared.table_id = ap (λ x. x.turnstile) v ∙ (c.requires.of ∙ sym (ap (λ x. x.id) s)) in
    let slots : n ≡ p.seat.table_id.slots = sym (ap (λ (x : TableId). x.slots) same) in
    let m = p.seat.me in let b = c.wait-value.new.place.me in let k = c.args.cell in let t = c.draw-number.result in
    let left : p.used < most_units = let budget = c.pass.invariant.budget in let not_all = c.if-pass-eq-MOST_UNITS.false in omega arith in
    let sound = spent W.by W.moment W.legal p.seat.table_id m p.number p.moment p.used c.pass.invariant left in
    let few : m.0.drawn + 1 ≤ (p.used + 1) * 65 = let f = c.pass.invariant.few in omega arith in
    let below : k < p.seat.table_id.slots = subst (λ (x : ℕ). k < x) (ap (λ (x : TableId). x.slots) (sym c.requires.of ∙ sym (ap (λ x. x.turnstile) v))) c.requires.cell in
    let took = subst (λ (x : ℕ). Taken W.by W.cell W.legal x W.stands c.draw-number.new.place.me (ticket k t) c.wait-value.result b) slots c.wait-value.ensures.taken in
    let took_here = subst (λ q. Taken W.by W.cell W.legal p.seat.table_id.slots W.stands q (ticket k t) c.wait-value.result b) c.draw-number.ensures.drew took in
    let e = entered W.by W.cell W.moment W.legal W.stands p.seat.table_id p.number p.moment (p.used + 1) m b k t c.wait-value.result sound few below c.draw-number.ensures.small took_here in
    subst (λ x. Trail W.by x.number x.front [] b.0.front) v e.trail
