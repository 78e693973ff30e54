use Rattle.std.proofs.Common.{◌≡◌, ℕ, true, [], ◌∷◌, ◌++◌, ap, ◌∙◌, sym, subst, refl, inl, eq-eqb}
use Rattle.atomic_table.specs.Seated.{TableId}
use Rattle.turnstile.specs.Histories.{Has, is_of, at_cell, Ends}
use Rattle.turnstile.specs.Kept.{ticket}
use Rattle.turnstile.specs.Steps.{Counts}
use Rattle.turnstile.specs.Passes.{IsSound}
use Rattle.turnstile.proofs.Histories.{is_of_same}
use Rattle.turnstile.proofs.Sound.{counted}
use Rattle.turnstile.proofs.turnstile.Turnstile.commit_entry.Goals as goal

pub count-requires-clause-held : goal.count-requires-clause-held
count-requires-clause-held g c = λ d lt is. let W = g.W.World in let t = c.args.turn.now in
    let held : c.pass.inside.seat.me.0.held ≡ ticket t.cell t.number ∷ [] = ap (λ x. x.turns) c.pass.view_is ∙ c.requires.turn in
    let one : t.cell ≡ d = is_of_same t.cell d (subst (λ o. is_of o d ≡ true) c.requires.entry.2 is) in
    (t.number, subst (λ l. Has l (ticket d t.number)) (sym held) (inl (ap (λ (k : ℕ). ticket k t.number) one)))

pub invariant_of-pass : goal.invariant_of-pass
invariant_of-pass g c = let W = g.W.World in let v = c.pass.view_is in let s = c.self.view_is in let p = c.pass.inside in let n : ℕ = c.self.inside.table.shared.table_id.slots in
    let same : p.seat.table_id ≡ c.self.inside.table.shared.table_id = ap (λ x. x.turnstile) v ∙ (c.requires.of ∙ sym (ap (λ x. x.id) s)) in
    let slots : n ≡ p.seat.table_id.slots = sym (ap (λ (x : TableId). x.slots) same) in
    let m = p.seat.me in let b = c.count.new.place.me in let e = g.E.EntryOf.entry in
    let counts = subst (λ (x : ℕ). Counts W.by W.cell W.legal x e m b) slots c.count.ensures.counts in
    let done = counted W.by W.cell W.moment W.legal W.stands p.seat.table_id p.number p.moment p.used m b e c.pass.invariant (c.requires.entry.0 ∙ sym (ap (λ x. x.number) v)) (c.requires.entry.1 ∙ sym (ap (λ x. x.moment) v)) counts in
    subst (λ (z : TableId). IsSound W.by W.moment W.legal z b p.number p.moment p.used) (sym c.count.ensures.seat.0) done.sound

pub returns-clause-ends : goal.returns-clause-ends
returns-clause-ends g c = let W = g.W.World in let v = c.pass.view_is in let s = c.self.view_is in let p = c.pass.inside in let n : ℕ = c.self.inside.table.shared.table_id.slots in
    let same : p.seat.table_id ≡ c.self.inside.table.shared.table_id = ap (λ x. x.turnstile) v ∙ (c.requires.of ∙ sym (ap (λ x. x.id) s)) in
    let slots : n ≡ p.seat.table_id.slots = sym (ap (λ (x : TableId). x.slots) same) in
    let m = p.seat.me in let b = c.count.new.place.me in let e = g.E.EntryOf.entry in
    let counts = subst (λ (x : ℕ). Counts W.by W.cell W.legal x e m b) slots c.count.ensures.counts in
    let done = counted W.by W.cell W.moment W.legal W.stands p.seat.table_id p.number p.moment p.used m b e c.pass.invariant (c.requires.entry.0 ∙ sym (ap (λ x. x.number) v)) (c.requires.entry.1 ∙ sym (ap (λ x. x.moment) v)) counts in
    subst (λ x. Ends W.by x.number x.front e b.0.front) v done.ends

pub returns-clause-stands : goal.returns-clause-stands
returns-clause-stands g c = let W = g.W.World in let v = c.pass.view_is in let s = c.self.view_is in let p = c.pass.inside in let n : ℕ = c.self.inside.table.shared.table_id.slots in
    let same : p.seat.table_id ≡ c.self.inside.table.shared.table_id = ap (λ x. x.turnstile) v ∙ (c.requires.of ∙ sym (ap (λ x. x.id) s)) in
    let slots : n ≡ p.seat.table_id.slots = sym (ap (λ (x : TableId). x.slots) same) in
    let m = p.seat.me in let b = c.count.new.place.me in let e = g.E.EntryOf.entry in
    let counts = subst (λ (x : ℕ). Counts W.by W.cell W.legal x e m b) slots c.count.ensures.counts in
    let done = counted W.by W.cell W.moment W.legal W.stands p.seat.table_id p.number p.moment p.used m b e c.pass.invariant (c.requires.entry.0 ∙ sym (ap (λ x. x.number) v)) (c.requires.entry.1 ∙ sym (ap (λ x. x.moment) v)) counts in
    let t = c.args.turn.now in
    let held : m.0.held ≡ ticket t.cell t.number ∷ [] = ap (λ x. x.turns) v ∙ c.requires.turn in
    let here : is_of (W.cell e) t.cell ≡ true = subst (λ o. is_of o t.cell ≡ true) (sym c.requires.entry.2) (eq-eqb t.cell t.cell refl) in
    let added = done.added (ticket t.cell t.number) (subst (λ l. Has l (ticket t.cell t.number)) (sym held) (inl refl)) here in
    subst (λ l. W.stands c.args.self.now.id.slots t.cell t.value l) (sym (added ∙ ap (λ x. at_cell W.cell t.cell x.front ++ e ∷ []) v)) c.requires.stands
