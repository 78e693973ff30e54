-- The places that an index keeps are those of its rows.
use Rattle.std.specs.Prelude.{◌||◌, ℕ, zero, suc, map, filter, is_some, option_map, slice_get}
use Rattle.std.specs.List.{AllByRecursion}
use Rattle.std.specs.List.Sorted.{IsStrictlySortedBy}
use Rattle.std.specs.Map.{keys_of, lookup}
use Rattle.std.specs.BTreeMap.{is_at}
use Rattle.std.specs.BTreeMap.Range.{entries_between, range_contains}
use Rattle.std.specs.declared.ops.Bound.{Bound}
use Rattle.std.proofs.Common.{◌≡◌, Bool, true, false, cond, List, [], ◌∷◌, Option, None, Some, refl, sym, ap, ◌∙◌, subst}
use Rattle.std.proofs.lemmas.Bool.{cond-true, cond-false}
use Rattle.attr_value.specs.Tree.{Attributes}
use Rattle.table_schema.specs.declared.keys.KeyNames.{KeyNames}
use Rattle.table_schema.specs.declared.schema.Schema.{Schema}
use Rattle.row_keys.specs.declared.position.Position.{Position}
use Rattle.row_keys.specs.declared.row_key.RowKey.{RowKey}
use Rattle.row_keys.specs.Keys.{row_order, position_order}
use Rattle.row_keys.specs.KeyLaws.{row_total, position_total}
use Rattle.row_keys.specs.Rows.{Rows, Entries, item_at, position_in, entered, index_of}
use Rattle.table_rows.specs.Moves.{is_place, comes, spot_of, enters}
use Rattle.table_rows.specs.Places.{IndexView, places_of, index_over, has_place}
use Rattle.table_rows.specs.Slots.{SlotList, row_if, rows_of}
use Rattle.table_rows.specs.State.{told, IsIndex, empty_index}
use Rattle.table_rows.proofs.Entries.{by_bool, clash, false_from, at_is, at_self, past_head, same_entries, sorted_in, lookup_in}
use Rattle.table_rows.proofs.Exact.{row_exact, position_exact}
use Rattle.table_rows.proofs.Moved.{spot_key}

entered_sorted : (p : Option Position) (item : Attributes) (es : Entries) → IsStrictlySortedBy position_order (keys_of es)
    → IsStrictlySortedBy position_order (keys_of (entered p item es))
entered_sorted None item es s = s
entered_sorted (Some at) item es s = sorted_in position_total position_exact at item es s

pub entered_found : (p : Option Position) (item : Attributes) (es : Entries) (q : Position)
    → lookup (is_at (position_order q)) (entered p item es) ≡ cond (is_place p q) (Some item) (lookup (is_at (position_order q)) es)
entered_found None item es q = refl
entered_found (Some at) item es q = lookup_in position_total position_exact q at item es

module _ (schema : Schema) (keys : KeyNames) where
  pub index_sorted : (rows : Rows) → IsStrictlySortedBy position_order (keys_of (index_of schema keys rows))
  unfolding IsStrictlySortedBy
  index_sorted [] = tt
  index_sorted (row ∷ rows) = entered_sorted (position_in schema keys row.0 row.1) row.1 (index_of schema keys rows) (index_sorted rows)

  module _ (row : RowKey × Attributes) (rows : Rows) (q : Position) where
    spot : Option Attributes → Bool
    spot item = is_place (spot_of schema keys q.item item) q

    at_row : is_at (row_order q.item) row.0 ≡ true → item_at rows q.item ≡ None
        → cond (is_place (position_in schema keys row.0 row.1) q) (Some row.1) (cond (told schema keys rows q) (item_at rows q.item) None)
        ≡ cond (told schema keys (row ∷ rows) q) (item_at (row ∷ rows) q.item) None
    at_row h gone =
        let key : q.item ≡ row.0 = at_is row_total row_exact q.item row.0 h in
        let item : item_at (row ∷ rows) q.item ≡ Some row.1 = cond-true (is_at (row_order q.item) row.0) (Some row.1) (item_at rows q.item) h in
        (λ i. cond (is_place (position_in schema keys (sym key i) row.1) q) (Some row.1)
        (cond (is_place (spot_of schema keys q.item (gone i)) q) (gone i) None))
        ∙ (λ i. cond (is_place (spot_of schema keys q.item (sym item i)) q) (sym item i) None)

    off_row : is_at (row_order q.item) row.0 ≡ false
        → cond (is_place (position_in schema keys row.0 row.1) q) (Some row.1) (cond (told schema keys rows q) (item_at rows q.item) None)
        ≡ cond (told schema keys (row ∷ rows) q) (item_at (row ∷ rows) q.item) None
    off_row h =
        let item : item_at (row ∷ rows) q.item ≡ item_at rows q.item = cond-false (is_at (row_order q.item) row.0) (Some row.1) (item_at rows q.item) h in
        let apart : is_place (position_in schema keys row.0 row.1) q ≡ false =
        false_from _ (λ y. clash (is_at (row_order q.item) row.0)
        (ap (λ (k : RowKey). is_at (row_order q.item) k) (spot_key schema keys q row.0 (Some row.1) y) ∙ at_self row_total row_exact q.item) h) in
        cond-false (is_place (position_in schema keys row.0 row.1) q) (Some row.1) (cond (told schema keys rows q) (item_at rows q.item) None) apart
        ∙ (λ i. cond (is_place (spot_of schema keys q.item (sym item i)) q) (sym item i) None)

  pub index_found : (rows : Rows) → IsStrictlySortedBy row_order (keys_of rows) → (q : Position)
      → lookup (is_at (position_order q)) (index_of schema keys rows) ≡ cond (told schema keys rows q) (item_at rows q.item) None
  unfolding IsStrictlySortedBy
  index_found [] s q = refl
  index_found (row ∷ rows) s q =
      entered_found (position_in schema keys row.0 row.1) row.1 (index_of schema keys rows) q
      ∙ ap (λ l. cond (is_place (position_in schema keys row.0 row.1) q) (Some row.1) l) (index_found rows s.1 q)
      ∙ by_bool (is_at (row_order q.item) row.0) _
      (λ h. at_row row rows q h (past_head row_total q.item row rows s h))
      (off_row row rows q)

told_some : (b : Bool) (item : Option Attributes) → (b ≡ true → is_some item ≡ true) → is_some (cond b item None) ≡ b
told_some true item f = f refl
told_some false item f = refl

spot_some : (schema : Schema) (keys : KeyNames) (q : Position) (item : Option Attributes) → is_place (spot_of schema keys q.item item) q ≡ true → is_some item ≡ true
spot_some schema keys q None h = absurd (cc)
spot_some schema keys q (Some item) h = refl

pub index_has : (schema : Schema) (keys : KeyNames) (rows : Rows) → IsStrictlySortedBy row_order (keys_of rows) → (q : Position)
    → is_some (lookup (is_at (position_order q)) (index_of schema keys rows)) ≡ told schema keys rows q
index_has schema keys rows s q =
    ap is_some (index_found schema keys rows s q)
    ∙ told_some (told schema keys rows q) (item_at rows q.item) (spot_some schema keys q (item_at rows q.item))

keys_of_places : (es : Entries) → keys_of (places_of es) ≡ keys_of es
keys_of_places [] = refl
keys_of_places (e ∷ es) = ap (λ l. e.0 ∷ l) (keys_of_places es)

found_in_places : (test : Position → Bool) (es : Entries) → is_some (lookup test (places_of es)) ≡ is_some (lookup test es)
found_in_places test [] = refl
found_in_places test (e ∷ es) = go (test e.0) (found_in_places test es)
  where
    go : (b : Bool) → is_some (lookup test (places_of es)) ≡ is_some (lookup test es)
        → is_some (cond b (Some tt) (lookup test (places_of es))) ≡ is_some (cond b (Some e.1) (lookup test es))
    go true h = refl
    go false h = h

pub same_unit : (a b : Option (Unit {0})) → is_some a ≡ is_some b → a ≡ b
same_unit None None e = refl
same_unit None (Some u) e = absurd (cc)
same_unit (Some u) None e = absurd (cc)
same_unit (Some u) (Some v) e = refl

pub or_false : (a : Bool) → (a || false) ≡ a
or_false true = refl
or_false false = refl

-- where nothing is prepared, an index keeps the places of its rows
pub places_are : (schema : Schema) (rows : Rows) (x : IndexView) → IsStrictlySortedBy row_order (keys_of rows)
    → IsStrictlySortedBy position_order (keys_of x.places) → IsIndex schema rows [] x → x.places ≡ places_of (index_of schema x.keys rows)
places_are schema rows x s up is =
    same_entries position_total position_exact x.places (places_of (index_of schema x.keys rows)) up
    (subst (IsStrictlySortedBy position_order) (sym (keys_of_places (index_of schema x.keys rows))) (index_sorted schema x.keys rows))
    (λ q. same_unit (lookup (is_at (position_order q)) x.places) (lookup (is_at (position_order q)) (places_of (index_of schema x.keys rows)))
    (is.places q ∙ ap (λ ms. told schema x.keys rows q || comes ms q) is.moves ∙ or_false (told schema x.keys rows q)
    ∙ sym (found_in_places (is_at (position_order q)) (index_of schema x.keys rows) ∙ index_has schema x.keys rows s q)))

-- the index of rows is in step with them
pub over_in_step : (schema : Schema) (keys : KeyNames) (rows : Rows) → IsStrictlySortedBy row_order (keys_of rows)
    → IsIndex schema rows [] (index_over schema rows keys)
over_in_step schema keys rows s = record {
  moves = refl;
  places = λ q. found_in_places (is_at (position_order q)) (index_of schema keys rows) ∙ index_has schema keys rows s q
      ∙ sym (or_false (told schema keys rows q));
}

-- the places that the items in slots enter are those of the index
enters_are : (schema : Schema) (keys : KeyNames) (slots : SlotList) (q : Position)
    → enters schema keys slots q ≡ is_some (lookup (is_at (position_order q)) (index_of schema keys (rows_of slots)))
enters_are schema keys [] q = refl
enters_are schema keys (slot ∷ slots) q = go slot.1 (enters_are schema keys slots q)
  where
    some_if : (b : Bool) (item : Attributes) (l : Option Attributes) → (b || is_some l) ≡ is_some (cond b (Some item) l)
    some_if true item l = refl
    some_if false item l = refl

    go : (item : Option Attributes) → enters schema keys slots q ≡ is_some (lookup (is_at (position_order q)) (index_of schema keys (rows_of slots)))
        → (is_place (spot_of schema keys slot.0 item) q || enters schema keys slots q)
        ≡ is_some (lookup (is_at (position_order q)) (index_of schema keys (row_if slot.0 item (rows_of slots))))
    go None h = h
    go (Some item) h =
        ap (λ b. is_place (position_in schema keys slot.0 item) q || b) h
        ∙ some_if (is_place (position_in schema keys slot.0 item) q) item (lookup (is_at (position_order q)) (index_of schema keys (rows_of slots)))
        ∙ ap is_some (sym (entered_found (position_in schema keys slot.0 item) item (index_of schema keys (rows_of slots)) q))

-- an index without places, into which those of all slots were entered, is the index of the rows
pub filled_over : (schema : Schema) (keys : KeyNames) (slots : SlotList) (old new : IndexView) → old ≡ empty_index keys → new.keys ≡ old.keys → new.moves ≡ old.moves
    → ((q : Position) → has_place new.places q ≡ (has_place old.places q || enters schema old.keys slots q))
    → IsStrictlySortedBy position_order (keys_of new.places) → new ≡ index_over schema (rows_of slots) keys
filled_over schema keys slots old new empty same moves places up =
    let rest : new.places ≡ places_of (index_of schema keys (rows_of slots)) =
    same_entries position_total position_exact new.places (places_of (index_of schema keys (rows_of slots))) up
    (subst (IsStrictlySortedBy position_order) (sym (keys_of_places (index_of schema keys (rows_of slots)))) (index_sorted schema keys (rows_of slots)))
    (λ q. same_unit (lookup (is_at (position_order q)) new.places) (lookup (is_at (position_order q)) (places_of (index_of schema keys (rows_of slots))))
    (places q ∙ (λ i. has_place (empty i).places q || enters schema (empty i).keys slots q) ∙ enters_are schema keys slots q
    ∙ sym (found_in_places (is_at (position_order q)) (index_of schema keys (rows_of slots))))) in
    λ i. record { keys = (same ∙ ap (λ (x : IndexView). x.keys) empty) i; places = rest i; moves = (moves ∙ ap (λ (x : IndexView). x.moves) empty) i }

filter_places : (p : Position → Bool) (es : Entries) → filter (λ e. p e.0) (places_of es) ≡ places_of (filter (λ e. p e.0) es)
filter_places p [] = refl
filter_places p (e ∷ es) = go (p e.0) (filter_places p es)
  where
    go : (b : Bool) → filter (λ e. p e.0) (places_of es) ≡ places_of (filter (λ e. p e.0) es)
        → cond b ((e.0, tt) ∷ filter (λ e. p e.0) (places_of es)) (filter (λ e. p e.0) (places_of es))
        ≡ places_of (cond b (e ∷ filter (λ e. p e.0) es) (filter (λ e. p e.0) es))
    go true h = ap (λ l. (e.0, tt) ∷ l) h
    go false h = h

filter_rows : (p : RowKey → Bool) (slots : SlotList) → rows_of (filter (λ e. p e.0) slots) ≡ filter (λ e. p e.0) (rows_of slots)
filter_rows p [] = refl
filter_rows p (slot ∷ slots) = go (p slot.0) slot.1 refl (filter_rows p slots)
  where
    go : (b : Bool) (item : Option Attributes) → p slot.0 ≡ b → rows_of (filter (λ e. p e.0) slots) ≡ filter (λ e. p e.0) (rows_of slots)
        → rows_of (cond b ((slot.0, item) ∷ filter (λ e. p e.0) slots) (filter (λ e. p e.0) slots))
        ≡ filter (λ e. p e.0) (row_if slot.0 item (rows_of slots))
    go true None e h = h
    go false None e h = h
    go true (Some item) e h =
        ap (λ l. (slot.0, item) ∷ l) h ∙ sym (cond-true (p slot.0) ((slot.0, item) ∷ filter (λ e. p e.0) (rows_of slots)) (filter (λ e. p e.0) (rows_of slots)) e)
    go false (Some item) e h =
        h ∙ sym (cond-false (p slot.0) ((slot.0, item) ∷ filter (λ e. p e.0) (rows_of slots)) (filter (λ e. p e.0) (rows_of slots)) e)

-- a range of slots is a range of rows
pub rows_in_range : (low high : Bound RowKey) (slots : SlotList) → rows_of (entries_between row_order low high slots) ≡ entries_between row_order low high (rows_of slots)
rows_in_range low high slots = filter_rows (range_contains row_order low high) slots

-- a range of places is a range of the index
pub places_in_range : (low high : Bound Position) (es : Entries) → entries_between position_order low high (places_of es) ≡ places_of (entries_between position_order low high es)
places_in_range low high es = filter_places (range_contains position_order low high) es

-- ---- the index of a number

pub nth : {X : Type 0} (P : X → Type 0) (xs : List X) (n : ℕ) (x : X) → AllByRecursion P xs → slice_get xs n ≡ Some x → P x
nth P [] n x all h = absurd (cc)
nth P (y ∷ ys) zero x all h = subst P (the_same h) all.0
  where
    the_same : Some y ≡ Some x → y ≡ x
    the_same e = cc
nth P (y ∷ ys) (suc n) x all h = nth P ys n x all.1 h

pub keys_at : (xs : List IndexView) (n : ℕ) (x : IndexView) → slice_get xs n ≡ Some x → slice_get (map (λ y. y.keys) xs) n ≡ Some x.keys
keys_at [] n x h = absurd (cc)
keys_at (y ∷ ys) zero x h = ap (option_map (λ (v : IndexView). v.keys)) h
keys_at (y ∷ ys) (suc n) x h = keys_at ys n x h
