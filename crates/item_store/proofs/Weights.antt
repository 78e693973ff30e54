-- How many items of a map are held, after one of its slots was changed.
use Rattle.std.specs.Option.{option_map, unwrap_or}
use Rattle.std.specs.BTreeMap.{BTreeMap, get, is_at, insert_entry, values, IsOrdered}
use Rattle.std.specs.Map.{values_of, remove_entry, set_value}
use Rattle.std.specs.List.{sum_by}
use Rattle.std.specs.Cmp.{IsTotalOrder}
use Rattle.std.specs.declared.cmp.Ordering.{Ordering}
use Rattle.std.proofs.Common.{◌≡◌, ℕ, ◌+◌, ◌≤◌, List, Option, None, Some, IsSome, IsTrue, is_some, if◌then◌else◌, refl, ap, arith}
use Rattle.std.proofs.lemmas.Map.Entries.{sum_by-remove_entry, sum_by-insert_entry, sum_by-set_value}
use Rattle.txn_core.specs.Answers.{is_holder}
use Rattle.item_store.specs.declared.slot.Pending.{Pending}
use Rattle.item_store.specs.declared.slot.Slot.{Slot}
use Rattle.item_store.specs.Slots.{held_in, holder_of, number_of, pending_of}
use Rattle.item_store.specs.Maps.{held_among}

-- the sum over a map of which one value was replaced
pub swapped :
    {K X : Type 0} (f : X → ℕ) (cmp : K → K → Ordering) (m n : BTreeMap K X) (k : K) (old new : X) → get cmp m k ≡ Some old
    → n.entries ≡ set_value (is_at (cmp k)) m.entries new → sum_by f (values n) + f old ≡ sum_by f (values m) + f new
swapped {K} {X} f cmp m n k old new found e =
    let moved : sum_by f (values n) ≡ sum_by f (values_of (set_value (is_at (cmp k)) m.entries new)) =
    ap (λ (es : List (K × X)). sum_by f (values_of es)) e in
    let sum : sum_by f (values_of (set_value (is_at (cmp k)) m.entries new)) + f old ≡ sum_by f (values m) + f new =
    sum_by-set_value f (is_at (cmp k)) m.entries old new found in
    omega arith

-- the sum over a map from which a value was taken; one that was put in a free place
pub without :
    {K X : Type 0} (f : X → ℕ) (cmp : K → K → Ordering) (m n : BTreeMap K X) (k : K) → n.entries ≡ remove_entry (is_at (cmp k)) m.entries
    → sum_by f (values n) + unwrap_or (option_map f (get cmp m k)) 0 ≡ sum_by f (values m)
without {K} {X} f cmp m n k e =
    let moved : sum_by f (values n) ≡ sum_by f (values_of (remove_entry (is_at (cmp k)) m.entries)) =
    ap (λ (es : List (K × X)). sum_by f (values_of es)) e in
    let sum : sum_by f (values_of (remove_entry (is_at (cmp k)) m.entries)) + unwrap_or (option_map f (get cmp m k)) 0 ≡ sum_by f (values m) =
    sum_by-remove_entry f (is_at (cmp k)) m.entries in
    omega arith

pub with_one :
    {K X : Type 0} (f : X → ℕ) (cmp : K → K → Ordering) → IsTotalOrder cmp → (m n : BTreeMap K X) (k : K) (x : X) → IsOrdered cmp m
    → n.entries ≡ insert_entry cmp m.entries k x
    → sum_by f (values n) + unwrap_or (option_map f (get cmp m k)) 0 ≡ sum_by f (values m) + f x
with_one {K} {X} f cmp total m n k x order e =
    let moved : sum_by f (values n) ≡ sum_by f (values_of (insert_entry cmp m.entries k x)) =
    ap (λ (es : List (K × X)). sum_by f (values_of es)) e in
    let sum : sum_by f (values_of (insert_entry cmp m.entries k x)) + unwrap_or (option_map f (get cmp m k)) 0 ≡ sum_by f (values m) + f x =
    sum_by-insert_entry f total m.entries k x order in
    omega arith

-- a value's own part of the sum
pub part_of :
    {K X : Type 0} (f : X → ℕ) (cmp : K → K → Ordering) (m : BTreeMap K X) (k : K) (x : X) → get cmp m k ≡ Some x
    → f x ≤ sum_by f (values m)
part_of f cmp m k x found =
    let sum : sum_by f (values_of (remove_entry (is_at (cmp k)) m.entries)) + unwrap_or (option_map f (get cmp m k)) 0 ≡ sum_by f (values m) =
    sum_by-remove_entry f (is_at (cmp k)) m.entries in
    let own : unwrap_or (option_map f (get cmp m k)) 0 ≡ f x = ap (λ o. unwrap_or (option_map f o) 0) found in
    omega arith

module _ {V : Type 0} where
  none_weighs : (o : Option (Slot V)) → pending_of o ≡ None → unwrap_or (option_map held_in o) 0 ≡ 0
  none_weighs None e = refl
  none_weighs (Some s) e = ap (λ (p : Option (Pending V)). if is_some p then 1 else 0) e

  -- the slot with another pending
  abbrev pub repended : Slot V → Option (Pending V) → Slot V
  repended s p = record { committed = s.committed; pending = p }

  -- 1 where there is a pending
  abbrev pub count_of : Option (Pending V) → ℕ
  count_of p = if is_some p then 1 else 0

  none_is : (p : Option (Pending V)) → p ≡ None → count_of p ≡ 0
  none_is p e = ap count_of e

  some_is : (p : Option (Pending V)) → IsSome p → count_of p ≡ 1
  some_is p h = ap (λ b. if b then 1 else 0) h

module _ {K V : Type 0} where
  pub removed :
      (cmp : K → K → Ordering) (m n : BTreeMap K (Slot V)) (k : K) → n.entries ≡ remove_entry (is_at (cmp k)) m.entries
      → pending_of (get cmp m k) ≡ None → held_among n ≡ held_among m
  removed cmp m n k e free =
      let sum : held_among n + unwrap_or (option_map held_in (get cmp m k)) 0 ≡ held_among m = without held_in cmp m n k e in
      let none : unwrap_or (option_map held_in (get cmp m k)) 0 ≡ 0 = none_weighs (get cmp m k) free in
      omega arith

  pub inserted :
      (cmp : K → K → Ordering) → IsTotalOrder cmp → (m n : BTreeMap K (Slot V)) (k : K) (s : Slot V) → IsOrdered cmp m
      → n.entries ≡ insert_entry cmp m.entries k s → pending_of (get cmp m k) ≡ None → held_among n ≡ held_among m + held_in s
  inserted cmp total m n k s order e free =
      let sum : held_among n + unwrap_or (option_map held_in (get cmp m k)) 0 ≡ held_among m + held_in s =
      with_one held_in cmp total m n k s order e in
      let none : unwrap_or (option_map held_in (get cmp m k)) 0 ≡ 0 = none_weighs (get cmp m k) free in
      omega arith

  pub exchanged :
      (cmp : K → K → Ordering) (m n : BTreeMap K (Slot V)) (k : K) (old new : Slot V) → get cmp m k ≡ Some old
      → n.entries ≡ set_value (is_at (cmp k)) m.entries new → held_among n + held_in old ≡ held_among m + held_in new
  exchanged cmp m n k old new found e = swapped held_in cmp m n k old new found e

  -- a slot whose pending stays; one that is held from then on; one that is not any more
  pub same_pending :
      (cmp : K → K → Ordering) (m n : BTreeMap K (Slot V)) (k : K) (old new : Slot V) → get cmp m k ≡ Some old
      → new.pending ≡ old.pending → n.entries ≡ set_value (is_at (cmp k)) m.entries new → held_among n ≡ held_among m
  same_pending cmp m n k old new found same e =
      let one : held_in new ≡ held_in old = ap count_of same in
      let sum : held_among n + held_in old ≡ held_among m + held_in new = exchanged cmp m n k old new found e in
      omega arith

  pub held_more :
      (cmp : K → K → Ordering) (m n : BTreeMap K (Slot V)) (k : K) (old : Slot V) (p : Pending V) → get cmp m k ≡ Some old
      → old.pending ≡ None → n.entries ≡ set_value (is_at (cmp k)) m.entries (repended old (Some p))
      → held_among n ≡ held_among m + 1
  held_more cmp m n k old p found free e =
      let none : held_in old ≡ 0 = none_is old.pending free in
      let sum : held_among n + held_in old ≡ held_among m + 1 = exchanged cmp m n k old (repended old (Some p)) found e in
      omega arith

  pub held_less :
      (cmp : K → K → Ordering) (m n : BTreeMap K (Slot V)) (k : K) (old new : Slot V) → get cmp m k ≡ Some old
      → IsSome old.pending → new.pending ≡ None → n.entries ≡ set_value (is_at (cmp k)) m.entries new
      → held_among n + 1 ≡ held_among m
  held_less cmp m n k old new found holds left e =
      let one : held_in old ≡ 1 = some_is old.pending holds in
      let none : held_in new ≡ 0 = none_is new.pending left in
      let sum : held_among n + held_in old ≡ held_among m + held_in new = exchanged cmp m n k old new found e in
      omega arith

  -- where a slot is held, one is
  pub holds_one :
      (cmp : K → K → Ordering) (m : BTreeMap K (Slot V)) (k : K) (n : ℕ) → IsTrue (is_holder (holder_of (get cmp m k)) n)
      → 1 ≤ held_among m
  holds_one cmp m k n h = by_slot (get cmp m k) refl h
    where
      by_pending : (s : Slot V) (p : Option (Pending V)) → s.pending ≡ p → IsTrue (is_holder (number_of p) n) → held_in s ≡ 1
      by_pending s None e h = absurd (cc)
      by_pending s (Some p) e h = ap count_of e

      by_slot : (o : Option (Slot V)) → get cmp m k ≡ o → IsTrue (is_holder (holder_of o) n) → 1 ≤ held_among m
      by_slot None e h = absurd (cc)
      by_slot (Some s) e h =
          let one = by_pending s s.pending refl h in
          let part : held_in s ≤ held_among m = part_of held_in cmp m k s e in
          omega arith
