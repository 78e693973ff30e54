-- What a plan queues is what the feed queues.
use Rattle.std.proofs.Common.{◌≡◌, ℕ, ◌∷◌, ◌++◌, ◌||◌, nat_eq, Bool, true, false, if◌then◌else◌, List, [], Option, None, Some, is_some, option_map, refl, sym, ap, ◌∙◌}
use Rattle.std.proofs.Common.{Less}
use Rattle.std.specs.List.{cons_option, filter, flat_map, list_any}
use Rattle.std.specs.Cmp.{IsTotalOrder}
use Rattle.std.specs.BTreeMap.{is_at}
use Rattle.std.specs.Map.{lookup}
use Rattle.std.specs.declared.cmp.Ordering.{Ordering}
use Rattle.std.proofs.lemmas.Bool.{cond-true, eq-eqb, eqb-true}
use Rattle.std.proofs.lemmas.Map.Entries.{lookup-filter-keys}
use Rattle.index_feed.specs.declared.change.Change.{Change}
use Rattle.index_feed.specs.Feed.{Each, Indexed, at_keys, founded, founding}
use Rattle.index_feed.specs.Laws.{AreInOrder, IsListOf}
use Rattle.item_store.specs.declared.slot.Committed.{Committed}
use Rattle.item_store.specs.declared.slot.Slot.{Slot}
use Rattle.item_store.specs.Slots.{item_of, row_of}
use Rattle.index_changes.proofs.Basics.{no_both}
use Rattle.index_changes.proofs.Foundings.{founding_none}
use Rattle.partition.proofs.Lists.{Ascend, looked}
use Rattle.partition.proofs.Unique.{filtered, item_looked, items_at, items_rise, unique}

module _ {K V C : Type 0} (I : Indexed K V C) (cat next : C) where
  abbrev pub found_by : K × V → List (Change K V)
  found_by r = founding I cat next r.0 (Some r.1)

  -- the keys without a row queue nothing
  pub by_rows :
      (i : ℕ) (row : K → Option V) (ks : List K) → Each (λ (r : K × V). (I.cell_of r.0 ≡ i) × (row r.0 ≡ Some r.1)) (at_keys I row ks)
      → flat_map (founded I cat next row i) ks ≡ flat_map found_by (at_keys I row ks)
  by_rows i row [] h = refl
  by_rows i row (k ∷ ks) h = by_row (row k) refl h (λ g. by_rows i row ks g)
    where
      either : (b : Bool) (xs : List (Change K V)) → xs ≡ [] → (if b then xs else []) ≡ []
      either true xs e = e
      either false xs e = refl

      by_row :
          (o : Option V) → row k ≡ o
          → Each (λ (r : K × V). (I.cell_of r.0 ≡ i) × (row r.0 ≡ Some r.1)) (cons_option (option_map (λ v. (k, v)) o) (at_keys I row ks))
          → (Each (λ (r : K × V). (I.cell_of r.0 ≡ i) × (row r.0 ≡ Some r.1)) (at_keys I row ks) → flat_map (founded I cat next row i) ks ≡ flat_map found_by (at_keys I row ks))
          → founded I cat next row i k ++ flat_map (founded I cat next row i) ks ≡ flat_map found_by (cons_option (option_map (λ v. (k, v)) o) (at_keys I row ks))
      by_row None e h rest =
          let none : founded I cat next row i k ≡ [] = either (nat_eq (I.cell_of k) i) (founding I cat next k (row k)) (ap (λ o. founding I cat next k o) e ∙ founding_none I cat next k) in
          λ j. none j ++ rest h j
      by_row (Some v) e h rest =
          let some : founded I cat next row i k ≡ found_by (k, v) =
          cond-true (nat_eq (I.cell_of k) i) (founding I cat next k (row k)) [] (eq-eqb (I.cell_of k) i h.0.0) ∙ ap (λ o. founding I cat next k o) e in
          λ j. some j ++ rest h.1 j

  -- what is nothing at each row is nothing
  pub none_found : (P : K × V → Type 0) (rows : List (K × V)) → Each P rows → ((r : K × V) → P r → found_by r ≡ []) → flat_map found_by rows ≡ []
  none_found P [] h so = refl
  none_found P (r ∷ rows) h so = λ j. so r h.0 j ++ none_found P rows h.1 so j

  -- only those that pass a test count, where the others queue nothing
  pub only_those :
      (P : K × V → Type 0) (test : K × V → Bool) (rows : List (K × V)) → Each P rows → ((r : K × V) → P r → test r ≡ false → found_by r ≡ [])
      → flat_map found_by rows ≡ flat_map found_by (filter test rows)
  only_those P test [] h so = refl
  only_those P test (r ∷ rows) h so = by_test (test r) refl (only_those P test rows h.1 so)
    where
      by_test :
          (b : Bool) → test r ≡ b → flat_map found_by rows ≡ flat_map found_by (filter test rows)
          → found_by r ++ flat_map found_by rows ≡ flat_map found_by (if b then r ∷ filter test rows else filter test rows)
      by_test true e rest = λ j. found_by r ++ rest j
      by_test false e rest = λ j. so r h.0 e j ++ rest j

  -- slots queue what their items do
  pub by_slots : (es : List (K × Slot V)) → flat_map (λ (e : K × Slot V). founding I cat next e.0 (row_of (Some e.1))) es ≡ flat_map found_by (items_at es)
  by_slots [] = refl
  by_slots (e ∷ es) = by_item e.1.committed refl (by_slots es)
    where
      by_item :
          (o : Option (Committed V)) → e.1.committed ≡ o
          → flat_map (λ (e : K × Slot V). founding I cat next e.0 (row_of (Some e.1))) es ≡ flat_map found_by (items_at es)
          → founding I cat next e.0 (row_of (Some e.1)) ++ flat_map (λ (e : K × Slot V). founding I cat next e.0 (row_of (Some e.1))) es
          ≡ flat_map found_by (cons_option (option_map (λ (x : Committed V). (e.0, x.item)) o) (items_at es))
      by_item None is rest = λ j. (ap (λ o. founding I cat next e.0 (item_of o)) is ∙ founding_none I cat next e.0) j ++ rest j
      by_item (Some x) is rest = λ j. ap (λ o. founding I cat next e.0 (item_of o)) is j ++ rest j

-- the rows of a table are those of its slots
module _
    {K V C : Type 0} (I : Indexed K V C) (cmp : K → K → Ordering) (total : IsTotalOrder cmp) (same_at : (x y : K) → is_at (cmp x) y ≡ I.same x y)
    (same_order : (x y : K) → I.cmp x y ≡ cmp x y) (exact_same : (x y : K) → I.same x y ≡ true → x ≡ y) (turned : (x y : K) → I.same x y ≡ true → I.same y x ≡ true)
    (i : ℕ) (row : K → Option V) (rows : List (K × V)) (listed : IsListOf I i row rows) where
  exact : (x y : K) → is_at (cmp x) y ≡ true → x ≡ y
  exact x y e = exact_same x y (sym (same_at x y) ∙ e)

  ascending : (rs : List (K × V)) → AreInOrder I rs → Ascend cmp rs
  ascending [] a = tt
  ascending (r ∷ rs) a = (below rs a.0, ascending rs a.1)
    where
      below : (ts : List (K × V)) → Each (λ (s : K × V). I.cmp r.0 s.0 ≡ Less) ts → Each (λ (s : K × V). cmp r.0 s.0 ≡ Less) ts
      below [] h = tt
      below (t ∷ ts) h = (sym (same_order r.0 t.0) ∙ h.0, below ts h.1)

  found_where : (q : K) (rs : List (K × V)) → list_any (λ (r : K × V). I.same r.0 q) rs ≡ true → lookup (is_at (cmp q)) rs ≡ None → ⊥
  found_where q [] any none = absurd (cc)
  found_where q (r ∷ rs) any none = by_head (I.same r.0 q) refl (is_at (cmp q) r.0) refl any none (λ a n. found_where q rs a n)
    where
      by_head :
          (a : Bool) → I.same r.0 q ≡ a → (b : Bool) → is_at (cmp q) r.0 ≡ b → (a || list_any (λ (r : K × V). I.same r.0 q) rs) ≡ true
          → (if b then Some r.1 else lookup (is_at (cmp q)) rs) ≡ None
          → (list_any (λ (r : K × V). I.same r.0 q) rs ≡ true → lookup (is_at (cmp q)) rs ≡ None → ⊥) → ⊥
      by_head a e true t any none rest = absurd (cc)
      by_head true e false t any none rest = no_both (is_at (cmp q) r.0) (same_at q r.0 ∙ turned r.0 q e) t
      by_head false e false t any none rest = rest any none

  is_none : (o : Option V) → ((v : V) → o ≡ Some v → ⊥) → o ≡ None
  is_none None h = refl
  is_none (Some v) h = absurd (h v refl)

  -- what is listed at a key
  its_home : (q : K) (v : V) → lookup (is_at (cmp q)) rows ≡ Some v → (I.cell_of q ≡ i) × (row q ≡ Some v)
  its_home q v e =
      let x = looked (λ (r : K × V). (I.cell_of r.0 ≡ i) × (row r.0 ≡ Some r.1)) (is_at (cmp q)) v rows listed.each e in
      let one = exact q x.0 x.1 in
      (ap (λ k. I.cell_of k) one ∙ x.2.0, ap row one ∙ x.2.1)

  row_looked : (q : K) → I.cell_of q ≡ i → lookup (is_at (cmp q)) rows ≡ row q
  row_looked q home = by_found (lookup (is_at (cmp q)) rows) refl (row q) refl
    where
      by_found : (o : Option V) → lookup (is_at (cmp q)) rows ≡ o → (p : Option V) → row q ≡ p → o ≡ p
      by_found (Some v) e p is = sym (its_home q v e).1 ∙ is
      by_found None e None is = refl
      by_found None e (Some v) is = absurd (found_where q rows (listed.all q home (ap (λ o. is_some o) is)) e)

  -- the slots of a table, in the order of their keys, have the rows of its items
  module _
      (table : K → ℕ) (u : ℕ) (es : List (K × Slot V)) (rise : Ascend cmp es)
      (have : (q : K) → I.cell_of q ≡ i → table q ≡ u → row_of (lookup (is_at (cmp q)) es) ≡ row q)
      (only : (q : K) (v : V) → row_of (lookup (is_at (cmp q)) es) ≡ Some v → (I.cell_of q ≡ i) × (table q ≡ u)) where
    abbrev of_table : K × V → Bool
    of_table r = nat_eq (table r.0) u

    table_rows : filter of_table rows ≡ items_at es
    table_rows =
        unique cmp total exact (filter of_table rows) (items_at es) (filtered cmp of_table rows (ascending rows listed.in_order)) (items_rise cmp es rise)
        (λ q.
        lookup-filter-keys (is_at (cmp q)) (λ k. nat_eq (table k) u) (nat_eq (table q) u) (λ k e. ap (λ z. nat_eq (table z) u) (sym (exact q k e))) rows
        ∙ by_table q (nat_eq (table q) u) refl
        ∙ sym (item_looked cmp exact q es rise))
      where
        by_table :
            (q : K) (b : Bool) → nat_eq (table q) u ≡ b
            → (if b then lookup (is_at (cmp q)) rows else None) ≡ row_of (lookup (is_at (cmp q)) es)
        by_table q false e = sym (is_none _ (λ v h. no_both (nat_eq (table q) u) (eq-eqb (table q) u (only q v h).1) e))
        by_table q true e = by_home (nat_eq (I.cell_of q) i) refl
          where
            by_home : (b : Bool) → nat_eq (I.cell_of q) i ≡ b → lookup (is_at (cmp q)) rows ≡ row_of (lookup (is_at (cmp q)) es)
            by_home true h =
                let home = eqb-true (I.cell_of q) i h in row_looked q home ∙ sym (have q home (eqb-true (table q) u e))
            by_home false h =
                is_none _ (λ v l. no_both (nat_eq (I.cell_of q) i) (eq-eqb (I.cell_of q) i (its_home q v l).0) h)
                ∙ sym (is_none _ (λ v l. no_both (nat_eq (I.cell_of q) i) (eq-eqb (I.cell_of q) i (only q v l).0) h))

    -- they queue what all items do, where those of other tables queue nothing
    pub table_queues :
        (cat next : C)
        → ((r : K × V) → (I.cell_of r.0 ≡ i) × (row r.0 ≡ Some r.1) → nat_eq (table r.0) u ≡ false → found_by I cat next r ≡ [])
        → flat_map (λ (e : K × Slot V). founding I cat next e.0 (row_of (Some e.1))) es ≡ flat_map (found_by I cat next) rows
    table_queues cat next so =
        by_slots I cat next es
        ∙ sym
        (only_those I cat next (λ (r : K × V). (I.cell_of r.0 ≡ i) × (row r.0 ≡ Some r.1)) of_table rows listed.each so
        ∙ ap (λ rs. flat_map (found_by I cat next) rs) table_rows)
