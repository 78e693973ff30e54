-- What is kept in a table belongs together: at first, and after each step.
use Rattle.std.specs.Prelude.{suc, ◌++◌, ◌||◌, map}
use Rattle.std.specs.Result.{result_map_both}
use Rattle.std.specs.List.{AllByRecursion, AllZip}
use Rattle.std.specs.List.Sorted.{IsStrictlySortedBy}
use Rattle.std.specs.Map.{keys_of}
use Rattle.std.proofs.Common.{◌≡◌, ℕ, true, false, List, [], ◌∷◌, Option, None, Some, length, take, drop, Result, Ok, Err, OnOk, OnErr, refl, sym, ap, ◌∙◌, subst}
use Rattle.std.proofs.Math.Seq.{take-append_seam}
use Rattle.table_schema.specs.declared.index.LocalIndex.{LocalIndex}
use Rattle.table_schema.specs.declared.index.GlobalIndex.{GlobalIndex}
use Rattle.table_schema.specs.declared.keys.KeyNames.{KeyNames}
use Rattle.table_schema.specs.declared.schema.Schema.{Schema}
use Rattle.table_schema.specs.Kind.{kind_of}
use Rattle.attr_value.specs.Tree.{Attributes}
use Rattle.attr_value.specs.Paths.{value_at}
use Rattle.item_keys.specs.declared.fault.KeyFault.{KeyFault}
use Rattle.item_keys.specs.declared.key.Key.{Key}
use Rattle.item_keys.specs.ItemKey.{part_of, sort_in, both, key_from, key_in}
use Rattle.row_keys.specs.declared.position.Position.{Position}
use Rattle.row_keys.specs.Keys.{row_order}
use Rattle.row_keys.specs.Rows.{Rows, item_at, position_if, index_keys}
use Rattle.table_rows.specs.declared.change.RowChange.{RowChange}
use Rattle.table_rows.specs.View.{is_pending, committed}
use Rattle.table_rows.specs.Slots.{SlotList, rows_of, has_slot, KeepsOtherSlots}
use Rattle.table_rows.specs.Places.{IndexView, index_over}
use Rattle.table_rows.specs.Moves.{is_place, comes, spot_of}
use Rattle.table_rows.specs.State.{told, AreInStep, IsKept, IsIndex, IsFresh, IsHeld, IsSettled, IsUndone, step_in}
use Rattle.table_rows.proofs.Changes.{distinct_more, more_in_step, same_in_step, committed_sorted}
use Rattle.table_rows.proofs.Listed.{over_in_step}
use Rattle.table_rows.proofs.Indexes.{settled, undone, fresh, prepared, zip_all, zip_keys, all_to}

-- a slice that is written whole is the list afterwards
pub written : {X : Type 0} (xs ys : List X) → length xs ≡ length ys → take (length ys) (xs ++ drop (length xs) ys) ≡ xs
written xs ys same = ap (λ n. take n (xs ++ drop (length xs) ys)) (sym same) ∙ take-append_seam xs (drop (length xs) ys)

pub zip_length : {X : Type 0} (R : X → X → Type 0) (xs ys : List X) → AllZip R xs ys → length ys ≡ length xs
zip_length R [] [] zip = refl
zip_length R [] (y ∷ ys) zip = absurd zip
zip_length R (x ∷ xs) [] zip = absurd zip
zip_length R (x ∷ xs) (y ∷ ys) zip = ap (λ (n : ℕ). suc n) (zip_length R xs ys zip.1)

-- ---- indexes that are made

globals_made : (make : KeyNames → IndexView) (globals : List GlobalIndex) → map (λ index. make index.keys) globals ≡ map make (map (λ index. index.keys) globals)
globals_made make [] = refl
globals_made make (index ∷ globals) = ap (λ l. make index.keys ∷ l) (globals_made make globals)

pub made : (make : KeyNames → IndexView) (locals : List LocalIndex) (globals : List GlobalIndex)
    → map (λ index. make index.keys) locals ++ map (λ index. make index.keys) globals
    ≡ map make (map (λ index. index.keys) locals ++ map (λ index. index.keys) globals)
made make [] globals = globals_made make globals
made make (index ∷ locals) globals = ap (λ l. make index.keys ∷ l) (made make locals globals)

keys_made : (schema : Schema) (rows : Rows) (keys : List KeyNames) → map (λ (index : IndexView). index.keys) (map (index_over schema rows) keys) ≡ keys
keys_made schema rows [] = refl
keys_made schema rows (k ∷ keys) = ap (λ l. k ∷ l) (keys_made schema rows keys)

all_made : (schema : Schema) (rows : Rows) → IsStrictlySortedBy row_order (keys_of rows) → (keys : List KeyNames)
    → AllByRecursion (IsIndex schema rows []) (map (index_over schema rows) keys)
all_made schema rows up [] = tt
all_made schema rows up (k ∷ keys) = (over_in_step schema k rows up, all_made schema rows up keys)

-- slots with indexes that were made of their rows, where nothing is prepared
pub kept_over : (schema : Schema) (slots : SlotList) (indexes : List IndexView) → IsStrictlySortedBy row_order (keys_of (rows_of slots)) → AreInStep slots []
    → indexes ≡ map (index_over schema (rows_of slots)) (index_keys schema) → IsKept schema slots [] indexes
kept_over schema slots indexes up step made =
    let whole : IsKept schema slots [] (map (index_over schema (rows_of slots)) (index_keys schema)) = record {
      ordered = up;
      distinct = tt;
      slots_in_step = step;
      have_keys = keys_made schema (rows_of slots) (index_keys schema);
      in_step = all_made schema (rows_of slots) up (index_keys schema);
    } in
    subst (IsKept schema slots []) (sym made) whole

no_keys : IsStrictlySortedBy row_order []
unfolding IsStrictlySortedBy
no_keys = tt

pub kept_new : (schema : Schema) (slots : SlotList) (pending : List RowChange) (indexes : List IndexView)
    → slots ≡ [] → pending ≡ [] → indexes ≡ map (index_over schema (rows_of slots)) (index_keys schema) → IsKept schema slots pending indexes
kept_new schema slots pending indexes no_slots none made =
    subst (λ p. IsKept schema slots p indexes) (sym none)
    (kept_over schema slots indexes (subst (λ (s : SlotList). IsStrictlySortedBy row_order (keys_of (rows_of s))) (sym no_slots) no_keys)
    (subst (λ s. AreInStep s []) (sym no_slots) (λ key. refl)) made)

-- ---- steps

module _ (schema : Schema) (slots new_slots : SlotList) (pending new_pending : List RowChange) (xs ys : List IndexView) (kept : IsKept schema slots pending xs) where
  -- the places that come by a change of another key are not there
  pub all_fresh : (c : RowChange) → is_pending pending c.key ≡ false
      → AllByRecursion (λ index. IsFresh (step_in schema (rows_of slots) c index) index) xs
  all_fresh c apart =
      all_to (IsIndex schema (rows_of slots) pending) (λ index. IsFresh (step_in schema (rows_of slots) c index) index)
      (λ x is. fresh schema (rows_of slots) pending x x is c apart) xs kept.in_step

  pub kept_prepared : (c : RowChange) → is_pending pending c.key ≡ false → rows_of new_slots ≡ rows_of slots → KeepsOtherSlots c.key slots new_slots
      → has_slot new_slots c.key ≡ true → new_pending ≡ pending ++ c ∷ []
      → AllZip (λ x y. IsHeld (step_in schema (rows_of slots) c x) x y) xs ys → IsKept schema new_slots new_pending ys
  kept_prepared c apart rows keeps has more zip =
      let whole : IsKept schema new_slots (pending ++ c ∷ []) ys = record {
        ordered = subst (λ (r : Rows). IsStrictlySortedBy row_order (keys_of r)) (sym rows) kept.ordered;
        distinct = distinct_more c pending kept.distinct apart;
        slots_in_step = more_in_step c slots new_slots keeps pending rows kept.slots_in_step has;
        have_keys = zip_keys (λ x y. IsHeld (step_in schema (rows_of slots) c x) x y) (λ x y h. h.keys) xs ys zip ∙ kept.have_keys;
        in_step = subst (λ (r : Rows). AllByRecursion (IsIndex schema r (pending ++ c ∷ [])) ys) (sym rows)
            (zip_all (IsIndex schema (rows_of slots) pending) (IsIndex schema (rows_of slots) (pending ++ c ∷ []))
            (λ x y. IsHeld (step_in schema (rows_of slots) c x) x y)
            (λ x y is h. prepared schema (rows_of slots) pending x y is c apart h) xs ys kept.in_step zip);
      } in
      subst (λ p. IsKept schema new_slots p ys) (sym more) whole

  pub kept_refused : (c : RowChange) → rows_of new_slots ≡ rows_of slots → KeepsOtherSlots c.key slots new_slots
      → has_slot new_slots c.key ≡ has_slot slots c.key → new_pending ≡ pending → ys ≡ xs → IsKept schema new_slots new_pending ys
  kept_refused c rows keeps has same back =
      let whole : IsKept schema new_slots pending xs = record {
        ordered = subst (λ (r : Rows). IsStrictlySortedBy row_order (keys_of r)) (sym rows) kept.ordered;
        distinct = kept.distinct;
        slots_in_step = same_in_step c slots new_slots keeps pending rows kept.slots_in_step has;
        have_keys = kept.have_keys;
        in_step = subst (λ (r : Rows). AllByRecursion (IsIndex schema r pending) xs) (sym rows) kept.in_step;
      } in
      subst (λ p. IsKept schema new_slots p ys) (sym same) (subst (IsKept schema new_slots pending) (sym back) whole)

  pub kept_committed : AllZip IsSettled xs ys → rows_of new_slots ≡ committed (rows_of slots) pending → AreInStep new_slots [] → new_pending ≡ []
      → IsKept schema new_slots new_pending ys
  kept_committed zip rows step none =
      let whole : IsKept schema new_slots [] ys = record {
        ordered = subst (λ (r : Rows). IsStrictlySortedBy row_order (keys_of r)) (sym rows) (committed_sorted (rows_of slots) pending kept.ordered);
        distinct = tt;
        slots_in_step = step;
        have_keys = zip_keys IsSettled (λ x y s. s.keys) xs ys zip ∙ kept.have_keys;
        in_step = subst (λ (r : Rows). AllByRecursion (IsIndex schema r []) ys) (sym rows)
            (zip_all (IsIndex schema (rows_of slots) pending) (IsIndex schema (committed (rows_of slots) pending) []) IsSettled
            (λ x y is s. settled schema (rows_of slots) pending x y is kept.ordered kept.distinct s) xs ys kept.in_step zip);
      } in
      subst (λ p. IsKept schema new_slots p ys) (sym none) whole

  pub kept_aborted : AllZip IsUndone xs ys → rows_of new_slots ≡ rows_of slots → AreInStep new_slots [] → new_pending ≡ [] → IsKept schema new_slots new_pending ys
  kept_aborted zip rows step none =
      let whole : IsKept schema new_slots [] ys = record {
        ordered = subst (λ (r : Rows). IsStrictlySortedBy row_order (keys_of r)) (sym rows) kept.ordered;
        distinct = tt;
        slots_in_step = step;
        have_keys = zip_keys IsUndone (λ x y s. s.keys) xs ys zip ∙ kept.have_keys;
        in_step = subst (λ (r : Rows). AllByRecursion (IsIndex schema r []) ys) (sym rows)
            (zip_all (IsIndex schema (rows_of slots) pending) (IsIndex schema (rows_of slots) []) IsUndone
            (λ x y is s. undone schema (rows_of slots) pending x y is kept.distinct s) xs ys kept.in_step zip);
      } in
      subst (λ p. IsKept schema new_slots p ys) (sym none) whole

-- ---- another schema

key_same : (s t : Schema) → s.definitions ≡ t.definitions → (keys : KeyNames) (item : Attributes) → key_in s keys item ≡ key_in t keys item
unfolding key_in
key_same s t same keys item =
    λ i. both key_from (part_of 2048 (kind_of keys.partition (same i)) (value_at keys.partition item)) (sort_same keys.sort i)
  where
    sort_same : (sort : Option (List ℕ)) → sort_in s sort item ≡ sort_in t sort item
    sort_same None = refl
    sort_same (Some name) = λ i. result_map_both Some (λ fault. fault) (part_of 1024 (kind_of name (same i)) (value_at name item))

told_same : (s t : Schema) → s.definitions ≡ t.definitions → (keys : KeyNames) (rows : Rows) (q : Position) → told s keys rows q ≡ told t keys rows q
told_same s t same keys rows q = go (item_at rows q.item)
  where
    go : (item : Option Attributes) → is_place (spot_of s keys q.item item) q ≡ is_place (spot_of t keys q.item item) q
    go None = refl
    go (Some item) = ap (λ (k : Result Key KeyFault). is_place (position_if q.item k) q) (key_same s t same keys item)

-- a schema with the same definitions and indexes keeps them
pub kept_same : (s t : Schema) (slots : SlotList) (xs : List IndexView) → IsKept s slots [] xs → s.definitions ≡ t.definitions → index_keys s ≡ index_keys t
    → IsKept t slots [] xs
kept_same s t slots xs kept same keys = record {
  ordered = kept.ordered;
  distinct = tt;
  slots_in_step = kept.slots_in_step;
  have_keys = kept.have_keys ∙ keys;
  in_step = all_to (IsIndex s (rows_of slots) []) (IsIndex t (rows_of slots) [])
      (λ x is. record { moves = is.moves; places = λ q. is.places q ∙ ap (λ b. b || comes x.moves q) (told_same s t same x.keys (rows_of slots) q) }) xs kept.in_step;
}

-- where memory was refused, and where it was not
pub by_result : {A E : Type 0} (r : Result A E) (G P Q R S T U : Type 0) → OnOk r P → OnOk r Q → OnOk r R → OnErr r S → OnErr r T → OnErr r U
    → (P → Q → R → G) → (S → T → U → G) → G
by_result (Ok a) G P Q R S T U p q r s t u f g = f p q r
by_result (Err e) G P Q R S T U p q r s t u f g = g s t u
