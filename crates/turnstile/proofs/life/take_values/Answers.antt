use Rattle.std.proofs.Common.{◌≡◌, ℕ, zero, suc, ◌+◌, Bool, false, List, [], ◌∷◌, length, get_or, set, Some, IsSome, arith, rules, ap, ◌∙◌, sym, subst, refl, filter, ⊎_elim, get_or-set_other}
use Rattle.std.specs.Prelude.{slice_get}
use Rattle.std.proofs.lemmas.List.{length_push}
use mathlib.Core.Logic.{dite}
use mathlib.Core.Option.{some, some-injective}
use native.Mathlib.Decide.{ℕ_discrete}
use lib.ListN.{get_elem?}
use Rattle.std.specs.Mem.Slots.{slots_filled, slots_items}
use Rattle.turnstile.specs.Histories.{is_of}
use Rattle.turnstile.proofs.Basics.{get_push, below_get, Some-injective}
use Rattle.turnstile.proofs.Ends.{closes}
use Rattle.turnstile.proofs.life.take_values.Goals as goal

set_false : (l : List Bool) (i : ℕ) → get_or (set l i false) i false ≡ false
set_false [] zero = refl
set_false [] (suc i) = refl
set_false (x ∷ xs) zero = refl
set_false (x ∷ xs) (suc i) = set_false xs i

pub unwrap-value-requires : goal.unwrap-value-requires
unwrap-value-requires g c = let W = g.W.World in let n : ℕ = c.args.table.shared.table_id.slots in let z = c.requires.sized in let free = c.requires.of.1 in let v = c.close_with-closed.ensures.values in let xs = slots_items c.close_with-closed.result.slots in
    let k = closes W.by W.cell W.stands W.legal n c.args.table.shared.key.passes c.args.table.shared.key.cells z.cells (slots_items c.close_with-closed.result.words) xs c.args.place.id c.args.place.me.0 v.2 c.requires.all free.drew free.held in
    let i = c.loop-slot.invariant in let len = i.len in let count = c.close_with-closed.ensures.counts.1 in let end = c.slot_count-slot-end.ensures in let test = c.loop-slot-test.true in
    let h = k.4 c.loop-slot.slot (omega arith) in
    let o : c.take.result ≡ Some h.0 = some-injective _ _ (sym c.take.ensures.value ∙ (ap (λ l. get_elem? l c.loop-slot.slot) i.items ∙ h.1)) in
    subst (λ x. IsSome x) (sym (c.into_inner.ensures ∙ o)) (search rules)

pub loop-slot-preserved : goal.loop-slot-preserved
loop-slot-preserved g c = let i = c.loop-slot.invariant in let t = c.take.ensures in let slot : ℕ = c.loop-slot.slot in let filled : List Bool = slots_filled c.loop-slot.closed.slots in
    let items = c.in-Ok.ensures.items in let capacity = c.in-Ok.ensures.capacity in let roomy = i.roomy in let len = i.len in let same_len = t.others.2 in let count = i.count in record {
      filled = λ k low high. ap (λ l. get_or l k false) t.others.1 ∙ (get_or-set_other filled slot k false false (λ e. omega arith) ∙ i.filled k (omega arith) (omega arith));
      emptied = λ k lt. ap (λ l. get_or l k false) t.others.1 ∙ dite (ℕ_discrete k slot) (λ e. ap (λ j. get_or (set filled slot false) j false) e ∙ set_false filled slot) (λ ne. get_or-set_other filled slot k false false ne ∙ i.emptied k (omega arith));
      items = t.others.0 ∙ i.items;
      len = t.others.2 ∙ i.len;
      roomy = omega arith;
      count = ap length items ∙ (length_push c.loop-slot.values.items c.unwrap-value.result ∙ ap (λ k. k + 1) count);
      taken = λ k x e. ⊎_elim
          (λ old. i.taken k x old)
          (λ new. ap (get_elem? (slots_items c.close_with-closed.result.slots)) (new.0 ∙ count) ∙ (sym (ap (λ l. get_elem? l slot) i.items) ∙ (t.value ∙ (ap (λ o. some o) (sym c.into_inner.ensures ∙ c.unwrap-value.ensures) ∙ ap (λ y. some (Some y)) new.1))))
          (get_push c.loop-slot.values.items c.unwrap-value.result x k (subst (λ l. slice_get l k ≡ Some x) items e));
    }

pub returns-clause-kept : goal.returns-clause-kept
returns-clause-kept g c = let W = g.W.World in let n : ℕ = c.args.table.shared.table_id.slots in let z = c.requires.sized in let free = c.requires.of.1 in let v = c.close_with-closed.ensures.values in let xs = slots_items c.close_with-closed.result.slots in
    let k = closes W.by W.cell W.stands W.legal n c.args.table.shared.key.passes c.args.table.shared.key.cells z.cells (slots_items c.close_with-closed.result.words) xs c.args.place.id c.args.place.me.0 v.2 c.requires.all free.drew free.held in
    let i = c.loop-slot.invariant in let count = i.count in let end = c.slot_count-slot-end.ensures in let every = c.close_with-closed.ensures.counts.1 in let auto = c.loop-slot.auto.slot-end in record {
      log = k.0;
      lawful = k.1;
      begins = k.2;
      same = k.3;
      each = λ cell x e. let b = below_get c.loop-slot.values.items cell x e in let h = k.4 cell (omega arith) in
          let one : h.0 ≡ x = Some-injective h.0 x (some-injective _ _ (sym h.1 ∙ i.taken cell x e)) in subst (λ y. W.stands n cell y (filter (λ a. is_of (W.cell a) cell) k.0)) one h.2;
    }
