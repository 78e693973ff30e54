use Rattle.std.proofs.Common.{◌≡◌, ℕ, [], ap, ◌∙◌, sym, subst}
use Rattle.atomic_table.specs.Seated.{TableId}
use Rattle.turnstile.specs.Histories.{Trail}
use Rattle.turnstile.specs.Steps.{Met}
use Rattle.turnstile.proofs.Sound.{met_trail}
use Rattle.turnstile.proofs.turnstile.Turnstile.meet.Goals as goal

pub returns-clause-trail : goal.returns-clause-trail
returns-clause-trail g c = let W = g.W.World in let v = c.pass.view_is in let s = c.self.view_is in let p = c.pass.inside in let n : ℕ = c.self.inside.table.shared.table_id.slots in
    let same : p.seat.table_id ≡ c.self.inside.table.shared.table_id = ap (λ x. x.turnstile) v ∙ (c.requires.of.0 ∙ sym (ap (λ x. x.id) s)) in
    let slots : n ≡ p.seat.table_id.slots = sym (ap (λ (x : TableId). x.slots) same) in
    let met = subst (λ (x : ℕ). Met W.by W.cell W.legal x p.seat.me.0 c.other.inside.seat.me.0.front c.meet.new.place.me.0) slots c.meet.ensures.met in
    subst (λ x. Trail W.by x.number x.front [] c.meet.new.place.me.0.front) v (met_trail W.by W.cell W.moment W.legal W.stands p.seat.table_id p.number p.moment p.used p.seat.me c.meet.new.place.me c.other.inside.seat.me.0.front c.pass.invariant met)

pub returns-clause-other_trail : goal.returns-clause-other_trail
returns-clause-other_trail g c = let W = g.W.World in let v = c.other.view_is in let s = c.self.view_is in let p = c.other.inside in let n : ℕ = c.self.inside.table.shared.table_id.slots in
    let same : p.seat.table_id ≡ c.self.inside.table.shared.table_id = ap (λ x. x.turnstile) v ∙ (c.requires.of.1 ∙ sym (ap (λ x. x.id) s)) in
    let slots : n ≡ p.seat.table_id.slots = sym (ap (λ (x : TableId). x.slots) same) in
    let met = subst (λ (x : ℕ). Met W.by W.cell W.legal x p.seat.me.0 c.meet.new.place.me.0.front c.meet.new.other.me.0) slots c.meet.ensures.other_met in
    let trail = met_trail W.by W.cell W.moment W.legal W.stands p.seat.table_id p.number p.moment p.used p.seat.me c.meet.new.other.me c.meet.new.place.me.0.front c.other.invariant met in
    subst (λ f. Trail W.by c.args.other.now.number c.args.other.now.front [] f) c.meet.ensures.same (subst (λ x. Trail W.by x.number x.front [] c.meet.new.other.me.0.front) v trail)
