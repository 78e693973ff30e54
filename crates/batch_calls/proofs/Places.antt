-- The item of each key, in a table that Looks told of.
use Rattle.std.proofs.Common.{◌≡◌, ℕ, List, [], ◌∷◌, ◌++◌, map, Option, Result, Ok, reverse, refl, sym, ap, subst, ◌∙◌, inl}
use Rattle.std.specs.List.{AllZip, flat_map}
use Rattle.turnstile.specs.Passes.{PassView}
use Rattle.item_keys.specs.declared.fault.KeyFault.{KeyFault}
use Rattle.item_keys.specs.declared.key.Key.{Key}
use Rattle.item_keys.specs.ItemKey.{key_alone}
use Rattle.row_keys.specs.declared.row_key.RowKey.{RowKey}
use Rattle.table_schema.specs.declared.schema.Schema.{Schema}
use Rattle.cluster.specs.Counts.{Counts}
use Rattle.table_request.specs.declared.items.GetItem.{GetItem}
use Rattle.table_request.specs.declared.batches.TableKeys.{TableKeys}
use Rattle.table_request.specs.declared.batches.TableWrites.{TableWrites}
use Rattle.table_request.specs.declared.batches.WriteRequest.{WriteRequest}
use Rattle.table_request.specs.declared.batches.WriteRequest.TheVariants as write
use Rattle.table_model.specs.declared.refusal.Invalid.{Invalid}
use Rattle.table_model.specs.Database.{Table}
use Rattle.table_model.specs.Batches.{asked_keys, asked_keys_if, write_key, write_keys, write_keys_if}
use Rattle.table_items.specs.Outcomes.{row_key_if}
use Rattle.numbered_tables.specs.Tables.{Kept, table_in}
use Rattle.table_batches.specs.Answers.{tables_alone}
use Rattle.table_batches.specs.Keys.{gathered}
use Rattle.table_batches.proofs.Named.{is_there}
use Rattle.cell_model.specs.declared.answer.TableLook.{TableLook}
use Rattle.cell_model.specs.declared.key.CellKey.{CellKey}
use Rattle.cell_model.specs.Service.{service}
use Rattle.table_history.specs.Entries.{TableEvent}
use Rattle.cell_asks.specs.Told.{WasTold}
use Rattle.item_calls.specs.Places.{item_at, row_at, IsKnown}
use Rattle.item_calls.proofs.Requests.{read_rows}
use Rattle.batch_calls.specs.Singles.{get_alone, gets_of, all_gets, writes_of, all_writes, key_written}
use Rattle.batch_calls.specs.Tables.{AreKnown, ArePlaced, AllPlaced}
use Rattle.batch_calls.proofs.Looked.{told_on}
use Rattle.batch_calls.proofs.Agreed.{each_row}

-- the item is there by a table that a Look told of
pub record PlaceKnown (es : List TableEvent) (name : List ℕ) (rows : Schema → Result RowKey Invalid) (at : CellKey) : Type 0 where
  pub look : TableLook
  pub told : WasTold es name look
  pub row : RowKey
  pub row_is : rows look.schema ≡ Ok row
  pub is : at ≡ item_at look.number row

module _ (n : ℕ) (p : PassView TableEvent) where
  pub known_now : (name : List ℕ) (rows : Schema → Result RowKey Invalid) (at : CellKey) → PlaceKnown (reverse p.front) name rows at → IsKnown n p name rows at p
  known_now name rows at known = record {
    look = known.look;
    told = known.told;
    row = known.row;
    row_is = known.row_is;
    is = known.is;
    looked = inl refl;
  }

  module _ (xs : List TableEvent) (k : ℕ) (q : PassView TableEvent) (counts : Counts (service n) p xs k q) where
    pub places_on : {X : Type 0} (name_of : X → List ℕ) (rows_of : X → Schema → Result RowKey Invalid) (rs : List X) (ats : List CellKey)
        → AllZip (λ r at. PlaceKnown (reverse p.front) (name_of r) (rows_of r) at) rs ats → AllZip (λ r at. PlaceKnown (reverse q.front) (name_of r) (rows_of r) at) rs ats
    places_on name_of rows_of [] [] known = tt
    places_on name_of rows_of [] (at ∷ ats) known = absurd known
    places_on name_of rows_of (r ∷ rs) [] known = absurd known
    places_on name_of rows_of (r ∷ rs) (at ∷ ats) known =
        let it = known.0 in (
          record {
            look = it.look;
            told = told_on n p xs k q counts (name_of r) it.look it.told;
            row = it.row;
            row_is = it.row_is;
            is = it.is;
          },
          places_on name_of rows_of rs ats known.1,
        )

-- ---- lists side by side

zip_maps : {A B C D : Type 0} (P : A → B → Type 0) (Q : C → D → Type 0) (f : A → C) (g : B → D) → ((a : A) (b : B) → P a b → Q (f a) (g b))
    → (xs : List A) (ys : List B) → AllZip P xs ys → AllZip Q (map f xs) (map g ys)
zip_maps P Q f g each [] [] all = tt
zip_maps P Q f g each [] (y ∷ ys) all = absurd all
zip_maps P Q f g each (x ∷ xs) [] all = absurd all
zip_maps P Q f g each (x ∷ xs) (y ∷ ys) all = (each x y all.0, zip_maps P Q f g each xs ys all.1)

zip_both : {A B : Type 0} (R : A → B → Type 0) (xs : List A) (ys : List B) (us : List A) (vs : List B) → AllZip R xs ys → AllZip R us vs → AllZip R (xs ++ us) (ys ++ vs)
zip_both R [] [] us vs one two = two
zip_both R [] (y ∷ ys) us vs one two = absurd one
zip_both R (x ∷ xs) [] us vs one two = absurd one
zip_both R (x ∷ xs) (y ∷ ys) us vs one two = (one.0, zip_both R xs ys us vs one.1 two)

-- one list behind another, part by part
zip_flat : {T A B : Type 0} (P : T → List B → Type 0) (R : A → B → Type 0) (f : T → List A) → ((t : T) (mine : List B) → P t mine → AllZip R (f t) mine)
    → (ts : List T) (places : List (List B)) → AllZip P ts places → AllZip R (flat_map f ts) (flat_map (λ mine. mine) places)
zip_flat P R f each [] [] all = tt
zip_flat P R f each [] (mine ∷ places) all = absurd all
zip_flat P R f each (t ∷ ts) [] all = absurd all
zip_flat P R f each (t ∷ ts) (mine ∷ places) all =
    zip_both R (f t) mine (flat_map f ts) (flat_map (λ m. m) places) (each t mine all.0) (zip_flat P R f each ts places all.1)

-- ---- the row of a write

abbrev pub rows_written : WriteRequest → Schema → Result RowKey Invalid
rows_written w schema = row_at (row_key_if (key_written schema w))

abbrev pub IsWriteAt : List TableEvent → List ℕ × WriteRequest → CellKey → Type 0
IsWriteAt es w at = PlaceKnown es w.0 (rows_written w.1) at

key_by_schema : (table : Table) (w : WriteRequest) → write_key table w ≡ key_written table.schema w
key_by_schema table (write.Put item) = refl
key_by_schema table (write.Delete key) = refl

-- ---- the items of a request

module _ (es : List TableEvent) (tables : Kept) (known : AreKnown es tables) where
  part_known : {X C : Type 0} (name : List ℕ) (key_of : Schema → X → Result Key KeyFault) (xs : List X) (keys : List (Result Key KeyFault)) (mine : List CellKey)
      → (placed : ArePlaced tables name keys mine) → keys ≡ map (key_of placed.table.rows.schema) xs
      → (make : X → C) (Q : C → CellKey → Type 0) → ((x : X) (at : CellKey) → PlaceKnown es name (λ schema. row_at (row_key_if (key_of schema x))) at → Q (make x) at)
      → AllZip Q (map make xs) mine
  part_known name key_of xs keys mine placed keys_are make Q each =
      let table = placed.table in
      let it = known name table placed.there in
      let schema : it.look.schema ≡ table.rows.schema = ap (λ x. x.rows.schema) (sym it.is) in
      let number : table.number ≡ it.look.number = ap (λ x. x.number) it.is in
      subst (AllZip Q (map make xs)) (sym placed.are)
      (zip_maps (λ x row. row_at (row_key_if (key_of table.rows.schema x)) ≡ Ok row) Q make (item_at table.number)
      (λ x row is. each x (item_at table.number row) (record {
        look = it.look;
        told = it.told;
        row = row;
        row_is = ap (λ s. row_at (row_key_if (key_of s x))) schema ∙ is;
        is = λ i. item_at (number i) row;
      })) xs placed.rows (each_row (key_of table.rows.schema) xs placed.rows (ap gathered (sym keys_are) ∙ placed.rows_are)))

  abbrev pub IsGetAt : GetItem → CellKey → Type 0
  IsGetAt r at = PlaceKnown es r.table (read_rows r) at

  gets_known : (t : TableKeys) (mine : List CellKey) → ArePlaced tables t.table (asked_keys (tables_alone tables) t) mine → AllZip IsGetAt (gets_of t) mine
  gets_known t mine placed =
      part_known t.table (λ schema key. key_alone schema schema.keys key) t.keys (asked_keys (tables_alone tables) t) mine placed
      (ap (λ (o : Option Table). asked_keys_if o t) (is_there tables t.table placed.table placed.there)) (get_alone t.table) IsGetAt (λ key at it. it)

  pub all_gets_known : (ts : List TableKeys) (places : List (List CellKey)) → AllPlaced (λ t. t.table) asked_keys tables ts places
      → AllZip IsGetAt (all_gets ts) (flat_map (λ mine. mine) places)
  all_gets_known ts places placed =
      zip_flat (λ t mine. ArePlaced tables t.table (asked_keys (tables_alone tables) t) mine) IsGetAt gets_of gets_known ts places placed

  writes_known : (t : TableWrites) (mine : List CellKey) → ArePlaced tables t.table (write_keys (tables_alone tables) t) mine → AllZip (IsWriteAt es) (writes_of t) mine
  writes_known t mine placed =
      part_known t.table key_written t.writes (write_keys (tables_alone tables) t) mine placed
      (ap (λ (o : Option Table). write_keys_if o t) (is_there tables t.table placed.table placed.there)
      ∙ (λ i. map (λ w. key_by_schema (table_in placed.table) w i) t.writes)) (λ w. (t.table, w)) (IsWriteAt es) (λ w at it. it)

  pub each_known : (ts : List TableWrites) (places : List (List CellKey)) → AllPlaced (λ t. t.table) write_keys tables ts places
      → AllZip (λ t mine. AllZip (IsWriteAt es) (writes_of t) mine) ts places
  each_known [] [] placed = tt
  each_known [] (mine ∷ places) placed = absurd placed
  each_known (t ∷ ts) [] placed = absurd placed
  each_known (t ∷ ts) (mine ∷ places) placed = (writes_known t mine placed.0, each_known ts places placed.1)

  pub all_writes_known : (ts : List TableWrites) (places : List (List CellKey)) → AllPlaced (λ t. t.table) write_keys tables ts places
      → AllZip (IsWriteAt es) (all_writes ts) (flat_map (λ mine. mine) places)
  all_writes_known ts places placed = zip_flat (λ t mine. AllZip (IsWriteAt es) (writes_of t) mine) (IsWriteAt es) writes_of (λ t mine all. all) ts places (each_known ts places placed)
