use Rattle.std.proofs.Common.{rules, ◌≡◌, ◌+◌, Some, IsSome, ◌∙◌, ap, refl}
use Rattle.std.specs.BTreeMap.{get}
use Rattle.item_store.proofs.Weights.{held_less, same_pending}
use Rattle.item_store.proofs.slots.end_in.Goals as goal

pub returns-then-not-is_held_by-clause-same_held : goal.returns-then-not-is_held_by-clause-same_held
returns-then-not-is_held_by-clause-same_held g c = λ _.
    let old = c.in-Some.slot.now in
    let found : get g.K.Ord.cmp c.args.slots.now c.args.key.now ≡ Some old = search rules in
    same_pending g.K.Ord.cmp c.args.slots.now (c.get_mut.follows.lender old) c.args.key.now old old found refl (c.get_mut.follows.holds old).0

pub returns-then-is_some-clause-held : goal.returns-then-is_some-clause-held
returns-then-is_some-clause-held g c = λ _.
    let old = c.in-Some.slot.now in
    let new = c.end.new.self in
    let found : get g.K.Ord.cmp c.args.slots.now c.args.key.now ≡ Some old = search rules in
    let holds : IsSome old.pending = search rules in
    held_less g.K.Ord.cmp c.args.slots.now (c.get_mut.follows.lender new) c.args.key.now old new found holds c.end.ensures.free
    (c.get_mut.follows.holds new).0

pub returns-clause-held : goal.returns-clause-held
returns-clause-held g c = λ _.
    let old = c.in-Some.slot.now in
    let new = c.end.new.self in
    let found : get g.K.Ord.cmp c.args.slots.now c.args.key.now ≡ Some old = search rules in
    let holds : IsSome old.pending = search rules in
    ap (λ n. n + 1) c.take_out.ensures.held
    ∙ held_less g.K.Ord.cmp c.args.slots.now (c.get_mut.follows.lender new) c.args.key.now old new found holds c.end.ensures.free
    (c.get_mut.follows.holds new).0
