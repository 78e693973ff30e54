-- What a change leaves, under another name of its table and its key.
use Rattle.std.specs.BTreeMap.{BTreeMap, is_at}
use Rattle.std.specs.Cmp.{IsTotalOrder}
use Rattle.std.specs.Ordering.{is_eq}
use Rattle.std.specs.declared.cmp.Ordering.{Ordering}
use Rattle.std.proofs.lemmas.Cmp.{tied_itself}
use Rattle.std.proofs.Common.{◌≡◌, ℕ, Bool, true, false, if◌then◌else◌, List, [], Option, refl, sym, ◌∙◌, subst}
use Rattle.std.specs.declared.cmp.Ord as ord
use Rattle.std.specs.declared.cmp.PartialEq as eq
use Rattle.std.specs.declared.cmp.PartialOrd as partial
use Rattle.index_feed.specs.declared.change.Change.{Change}
use Rattle.txn_core.specs.declared.stamp.Stamp.{Stamp}
use Rattle.txn_core.specs.State.{Tally}
use Rattle.item_store.specs.declared.slot.Pending.{Pending}
use Rattle.item_store.specs.Slots.{counted}
use Rattle.item_store.specs.Changes.{slot_at}
use Rattle.index_changes.specs.declared.change.IndexChanges.{IndexChanges}
use Rattle.index_changes.specs.Prepared.{Moves, moves_in, no_moves, prepared_in}
use Rattle.partition.specs.declared.cell.Partition.{Partition}
use Rattle.partition.specs.Stores.{slot_held, slot_written}
use Rattle.partition.specs.Changes.{Changes, IsUnprepared, set_at}

-- moves that are prepared for an item and taken back
module _ {K V N : Type 0} (cmp : K → K → Ordering) where
  pub moves_there :
      IsTotalOrder cmp → (lists with_them : BTreeMap K (IndexChanges K V N)) (k kept : K) → kept ≡ k → (m : Moves N)
      → ((q : K) → moves_in cmp with_them q ≡ (if is_at (cmp kept) q then m else moves_in cmp lists q)) → moves_in cmp with_them k ≡ m
  moves_there total lists with_them k kept one m set =
      set k ∙ (λ i. if is_at (cmp (one i)) k then m else moves_in cmp lists k) ∙ (λ i. if is_eq (tied_itself total k i) then m else moves_in cmp lists k)

  pub moves_back :
      (lists with_them held back : BTreeMap K (IndexChanges K V N)) (k kept : K) → kept ≡ k → (m : Moves N)
      → ((q : K) → is_at (cmp k) q ≡ true → moves_in cmp lists q ≡ no_moves)
      → ((q : K) → moves_in cmp with_them q ≡ (if is_at (cmp kept) q then m else moves_in cmp lists q))
      → ((q : K) → moves_in cmp held q ≡ moves_in cmp with_them q)
      → ((q : K) → moves_in cmp back q ≡ (if is_at (cmp k) q then no_moves else moves_in cmp held q))
      → (q : K) → moves_in cmp back q ≡ moves_in cmp lists q
  moves_back lists with_them held back k kept one m free set same taken q =
      taken q
      ∙ (λ i. if is_at (cmp k) q then no_moves else (same q ∙ set q ∙ (λ j. if is_at (cmp (one j)) q then m else moves_in cmp lists q)) i)
      ∙ by_key (is_at (cmp k) q) refl
    where
      by_key :
          (b : Bool) → is_at (cmp k) q ≡ b
          → (if b then no_moves else (if b then m else moves_in cmp lists q)) ≡ moves_in cmp lists q
      by_key true e = sym (free q e)
      by_key false e = refl

module _
    {K V C : Type 0} {O : ord.Ghosts K} {E : eq.Ghosts K} {P : partial.Ghosts K}
    {N : Type 0} {X : ord.Ghosts N} {Y : eq.Ghosts N} {Z : partial.Ghosts N} (c d : Partition K V C N O E P X Y Z) (t : Tally)
    (u v : ℕ) (x k : K) (table : u ≡ v) (key : x ≡ k) where
  -- an item that is held, for which nothing is set aside
  pub held_plain :
      (p : Pending V) (xs : List (Change K V)) → xs ≡ [] → IsUnprepared c k
      → Changes c d u x (slot_held (slot_at c.items u x) p) t (λ q. prepared_in O.cmp c.prepared.lists q) []
      → Changes c d v k (slot_held (slot_at c.items v k) p) t (set_at c k xs) []
  held_plain p xs none un is =
      let h =
      subst (λ y. Changes c d v y (slot_held (slot_at c.items v y) p) t (λ q. prepared_in O.cmp c.prepared.lists q) []) key
      (subst (λ z. Changes c d z x (slot_held (slot_at c.items z x) p) t (λ q. prepared_in O.cmp c.prepared.lists q) []) table is) in
      record {
        slots = h.slots;
        numbers_are = h.numbers_are;
        prepared_are = λ q. h.prepared_are q ∙ ready q (is_at (O.cmp k) q) refl;
        waiting = h.waiting;
        beside = h.beside;
      }
    where
      ready : (q : K) (b : Bool) → is_at (O.cmp k) q ≡ b → prepared_in O.cmp c.prepared.lists q ≡ (if b then xs else prepared_in O.cmp c.prepared.lists q)
      ready q true e = un q e ∙ sym none
      ready q false e = refl

  -- one that is held, for which these are
  pub held_with :
      (p : Pending V) (xs ys : List (Change K V)) → xs ≡ ys
      → Changes c d u x (slot_held (slot_at c.items u x) p) t (set_at c x xs) []
      → Changes c d v k (slot_held (slot_at c.items v k) p) t (set_at c k ys) []
  held_with p xs ys same is =
      subst (λ zs. Changes c d v k (slot_held (slot_at c.items v k) p) t (set_at c k zs) []) same
      (subst (λ y. Changes c d v y (slot_held (slot_at c.items v y) p) t (set_at c y xs) []) key
      (subst (λ z. Changes c d z x (slot_held (slot_at c.items z x) p) t (set_at c x xs) []) table is))

  -- one that was written
  pub written_so :
      (own : Stamp) (item row : Option V) → item ≡ row → (xs ys : List (Change K V)) → xs ≡ ys
      → Changes c d u x (slot_written t (slot_at c.items u x) item own) (counted t (slot_at c.items u x) item own) (λ q. prepared_in O.cmp c.prepared.lists q) xs
      → Changes c d v k (slot_written t (slot_at c.items v k) row own) (counted t (slot_at c.items v k) row own) (λ q. prepared_in O.cmp c.prepared.lists q) ys
  written_so own item row one xs ys same is =
      subst (λ zs. Changes c d v k (slot_written t (slot_at c.items v k) row own) (counted t (slot_at c.items v k) row own) (λ q. prepared_in O.cmp c.prepared.lists q) zs) same
      (subst (λ r. Changes c d v k (slot_written t (slot_at c.items v k) r own) (counted t (slot_at c.items v k) r own) (λ q. prepared_in O.cmp c.prepared.lists q) xs) one
      (subst (λ y. Changes c d v y (slot_written t (slot_at c.items v y) item own) (counted t (slot_at c.items v y) item own) (λ q. prepared_in O.cmp c.prepared.lists q) xs) key
      (subst (λ z. Changes c d z x (slot_written t (slot_at c.items z x) item own) (counted t (slot_at c.items z x) item own) (λ q. prepared_in O.cmp c.prepared.lists q) xs) table is)))
