use Rattle.std.proofs.Common.{refl, arith, ap, ◌∙◌, sym, subst, ◌+◌, ◌∷◌, Some, IsSome, rules}
use Rattle.atomic_table.specs.Table.{rest}
use Rattle.turnstile.specs.Kept.{ticket}
use Rattle.turnstile.specs.Steps.{Taken}
use Rattle.turnstile.proofs.Looks.{looks}
use Rattle.turnstile.proofs.Meets.{taken_of, one_value}
use Rattle.turnstile.proofs.steps.wait.Goals as goal

pub load-found-requires : goal.load-found-requires
load-found-requires g c = let W = g.W.World in let b = c.args.board.now.shared in let z = c.requires.sized in let words = z.words in let lt = c.requires.cell in let i = c.loop.invariant in (
  i.0 ∙ c.requires.of,
  omega arith,
  looks W.by W.cell W.stands W.legal b.table_id.slots b.key.passes b.key.cells z.cells _ c.loop.place.me (ticket c.args.cell c.args.number) (ap (λ m. m.0.drew) i.2 ∙ c.requires.drew) _ refl,
)

pub slot_mut-slot-requires : goal.slot_mut-slot-requires
slot_mut-slot-requires g c = let i = c.loop.invariant in let l = c.load-found.ensures in
    let took = (l.2 (ticket c.args.cell c.args.number) (ap (λ m. m.0.drew) i.2 ∙ c.requires.drew) refl).0 c.if-found-number.true in
    let e = ap (λ m. m.1) took.after in
    (l.0 ∙ (i.0 ∙ c.requires.of), (Some took.value, e ∙ ap (λ r. (c.args.cell, Some took.value) ∷ r) (sym (ap rest e))))

pub unwrap-requires : goal.unwrap-requires
unwrap-requires g c = let i = c.loop.invariant in let l = c.load-found.ensures in
    let took = (l.2 (ticket c.args.cell c.args.number) (ap (λ m. m.0.drew) i.2 ∙ c.requires.drew) refl).0 c.if-found-number.true in
    let o = one_value c.args.cell c.slot_mut-slot.result.now took.value _ _ (sym c.slot_mut-slot.ensures.value ∙ ap (λ m. m.1) took.after) in
    subst (λ x. IsSome x) (sym (c.replace.ensures.was ∙ o)) (search rules)

pub returns-then-found-number-clause-taken : goal.returns-then-found-number-clause-taken
returns-then-found-number-clause-taken g c = let W = g.W.World in let b = c.args.board.now.shared in let i = c.loop.invariant in let l = c.load-found.ensures in let m = c.load-found.new.seat.me in
    let took = (l.2 (ticket c.args.cell c.args.number) (ap (λ m. m.0.drew) i.2 ∙ c.requires.drew) refl).0 c.if-found-number.true in
    subst (λ q. Taken W.by W.cell W.legal b.table_id.slots W.stands q (ticket c.args.cell c.args.number) c.unwrap.result (m.0, (c.args.cell, c.replace.new.self) ∷ rest m.1)) i.2
    (taken_of W.by W.cell W.legal b.table_id.slots W.stands c.loop.place.me m (m.0, (c.args.cell, c.replace.new.self) ∷ rest m.1) (ticket c.args.cell c.args.number) c.slot_mut-slot.result.now c.unwrap.result took
    c.slot_mut-slot.ensures.value (ap (λ w. (m.0, (c.args.cell, w) ∷ rest m.1)) c.replace.ensures.is) (sym c.replace.ensures.was ∙ c.unwrap.ensures))

pub loop-preserved-then-looks-lt-LOOKS : goal.loop-preserved-then-looks-lt-LOOKS
loop-preserved-then-looks-lt-LOOKS g c = let i = c.loop.invariant in let l = c.load-found.ensures in
    (l.0 ∙ i.0, l.1 ∙ i.1, (l.2 (ticket c.args.cell c.args.number) (ap (λ m. m.0.drew) i.2 ∙ c.requires.drew) refl).1 c.if-found-number.false ∙ i.2)

pub loop-preserved : goal.loop-preserved
loop-preserved g c = let i = c.loop.invariant in let l = c.load-found.ensures in
    (l.0 ∙ i.0, l.1 ∙ i.1, (l.2 (ticket c.args.cell c.args.number) (ap (λ m. m.0.drew) i.2 ∙ c.requires.drew) refl).1 c.if-found-number.false ∙ i.2)
