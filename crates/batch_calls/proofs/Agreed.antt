-- What the tables of Looks say of a request: it is refused, or admitted, as by every database that agrees; and where its items are.
use Rattle.std.proofs.Common.{◌≡◌, ℕ, true, false, List, [], ◌∷◌, ◌++◌, map, Option, None, Some, is_some, Result, Ok, Err, zip, refl, sym, ap, subst, ◌∙◌}
use Rattle.std.specs.Borrow.{Bor}
use Rattle.std.specs.List.{AllByRecursion, AllZip}
use Rattle.item_keys.specs.declared.fault.KeyFault.{KeyFault}
use Rattle.item_keys.specs.declared.key.Key.{Key}
use Rattle.row_keys.specs.declared.row_key.RowKey.{RowKey}
use Rattle.row_keys.specs.Keys.{row_key}
use Rattle.table_model.specs.declared.refusal.Refusal.{Refusal}
use Rattle.table_model.specs.Database.{Database, Table, table_named}
use Rattle.table_items.specs.Outcomes.{row_key_if}
use Rattle.numbered_tables.specs.declared.table.NumberedTable.{NumberedTable}
use Rattle.numbered_tables.specs.Tables.{Kept}
use Rattle.table_batches.specs.Answers.{tables_alone}
use Rattle.table_batches.specs.Keys.{gathered, AreKeysOf}
use Rattle.table_batches.proofs.Gathered.{rest_gathered}
use Rattle.table_batches.proofs.Named.{is_there, not_there}
use Rattle.table_batches.proofs.Schemas.{AlikeAt, schema_in}
use Rattle.cell_model.specs.declared.answer.TableLook.{TableLook}
use Rattle.cell_model.specs.declared.key.CellKey.{CellKey}
use Rattle.table_history.specs.Entries.{TableEvent}
use Rattle.cell_asks.specs.Told.{WasTold}
use Rattle.item_calls.specs.Places.{item_at, row_at}
use Rattle.batch_calls.specs.Looks.{AgreesWith, Admits}
use Rattle.batch_calls.specs.Tables.{table_at, AreKnown, HasAll, HaveIts, AllPlaced, IsPlacedBehind}

-- ---- tables that a database has

module _ (db : Database) (tables : Kept) (has : HasAll db tables) where
  alike_at : (name : List ℕ) → (is_some (table_named db name) ≡ true → is_some (table_at name tables) ≡ true) → AlikeAt (tables_alone tables) db name
  alike_at name have = by_table (table_at name tables) refl
    where
      none_named : (o : Option Table) → (is_some o ≡ true → false ≡ true) → None ≡ schema_in o
      none_named None never = refl
      none_named (Some x) never = let e = never refl in absurd (cc)

      by_table : (o : Option NumberedTable) → table_at name tables ≡ o → AlikeAt (tables_alone tables) db name
      by_table None none = ap schema_in (not_there tables name none) ∙ none_named (table_named db name) (λ some. sym (ap is_some none) ∙ have some)
      by_table (Some x) found = ap schema_in (is_there tables name x found) ∙ sym (has name x found)

  pub all_alike : {T : Type 0} (table_of : T → List ℕ) (ts : List T) → HaveIts db tables (map table_of ts) → AllByRecursion (λ t. AlikeAt (tables_alone tables) db (table_of t)) ts
  all_alike table_of [] have = tt
  all_alike table_of (t ∷ ts) have = (alike_at (table_of t) have.0, all_alike table_of ts have.1)

-- ---- tables that are known

module _ {T : Type 0} (table_of : T → List ℕ) (keys_of : Database → T → List (Result Key KeyFault)) (es : List TableEvent) (tables : Kept) (known : AreKnown es tables) where
  -- Looks told of the tables that have the items
  looks_of : (ts : List T) (places : List (List CellKey)) → AllPlaced table_of keys_of tables ts places → List TableLook
  looks_of [] [] placed = []
  looks_of [] (mine ∷ places) placed = absurd placed
  looks_of (t ∷ ts) [] placed = absurd placed
  looks_of (t ∷ ts) (mine ∷ places) placed = (known (table_of t) placed.0.table placed.0.there).look ∷ looks_of ts places placed.1

  were_told : (ts : List T) (places : List (List CellKey)) (placed : AllPlaced table_of keys_of tables ts places)
      → AllZip (WasTold es) (map table_of ts) (looks_of ts places placed)
  unfolding looks_of
  were_told [] [] placed = tt
  were_told [] (mine ∷ places) placed = absurd placed
  were_told (t ∷ ts) [] placed = absurd placed
  were_told (t ∷ ts) (mine ∷ places) placed = ((known (table_of t) placed.0.table placed.0.there).told, were_told ts places placed.1)

  -- a database that agrees with these Looks has the tables
  alike_with : (db : Database) (ts : List T) (places : List (List CellKey)) (placed : AllPlaced table_of keys_of tables ts places)
      → AgreesWith db (map table_of ts) (map (λ look. Some look) (looks_of ts places placed)) → AllByRecursion (λ t. AlikeAt db (tables_alone tables) (table_of t)) ts
  unfolding looks_of
  alike_with db [] [] placed agrees = tt
  alike_with db [] (mine ∷ places) placed agrees = absurd placed
  alike_with db (t ∷ ts) [] placed agrees = absurd placed
  alike_with db (t ∷ ts) (mine ∷ places) placed agrees =
      let it = known (table_of t) placed.0.table placed.0.there in (
        agrees.0 ∙ ap (λ x. Some x.rows.schema) (sym it.is) ∙ ap schema_in (sym (is_there tables (table_of t) placed.0.table placed.0.there)),
        alike_with db ts places placed.1 agrees.1,
      )

  -- what refuses nothing by the tables refuses nothing by the Looks
  pub admits : (ts : List T) (places : List (List CellKey)) → AllPlaced table_of keys_of tables ts places → (refusal : Database → Option Refusal)
      → ((db : Database) → AllByRecursion (λ t. AlikeAt db (tables_alone tables) (table_of t)) ts → refusal db ≡ refusal (tables_alone tables))
      → refusal (tables_alone tables) ≡ None → Admits refusal (map table_of ts) es
  admits ts places placed refusal alike free = record {
    looks = looks_of ts places placed;
    told = were_told ts places placed;
    free = λ db agrees. alike db (alike_with db ts places placed agrees) ∙ free;
  }

-- ---- places, one part after another

-- the parts, which are lent, with their rows
abbrev pub lent_part : {T X : Type 0} → Bor T × X → T × X
lent_part both = (both.0.now, both.1)

zip_push : {A B : Type 0} (R : A → B → Type 0) (xs : List A) (ys : List B) (x : A) (y : B) → AllZip R xs ys → R x y → AllZip R (xs ++ x ∷ []) (ys ++ y ∷ [])
zip_push R [] [] x y all here = (here, tt)
zip_push R [] (z ∷ ys) x y all here = absurd all
zip_push R (z ∷ xs) [] x y all here = absurd all
zip_push R (z ∷ xs) (w ∷ ys) x y all here = (all.0, zip_push R xs ys x y all.1 here)

module _ {T : Type 0} (table_of : T → List ℕ) (keys_of : Database → T → List (Result Key KeyFault)) (tables : Kept) where
  -- the items of these rows of a part
  abbrev pub IsPart : T × List RowKey → List CellKey → Type 0
  IsPart both mine = (table : NumberedTable) × (table_at (table_of both.0) tables ≡ Some table) × (mine ≡ map (item_at table.number) both.1)

  -- one part more
  pub place_more : (both : List (T × List RowKey)) (places new : List (List CellKey)) (t : T) (rows : List RowKey) → AllZip IsPart both places
      → IsPlacedBehind tables (table_of t) rows places new → AllZip IsPart (both ++ (t, rows) ∷ []) new
  place_more both places new t rows all placed =
      subst (AllZip IsPart (both ++ (t, rows) ∷ [])) (sym placed.is)
      (zip_push IsPart both places (t, rows) (map (item_at placed.table.number) rows) all (placed.table, placed.there, refl))

  pub places_are : (ts : List T) (keys : List (List RowKey)) (both : List (T × List RowKey)) (places : List (List CellKey)) → AllZip IsPart both places
      → both ≡ zip ts keys → AreKeysOf (keys_of (tables_alone tables)) ts keys → AllPlaced table_of keys_of tables ts places
  places_are ts keys both places parts is rows = go ts keys places (subst (λ xs. AllZip IsPart xs places) is parts) rows
    where
      go : (ts : List T) (keys : List (List RowKey)) (places : List (List CellKey)) → AllZip IsPart (zip ts keys) places
          → AreKeysOf (keys_of (tables_alone tables)) ts keys → AllPlaced table_of keys_of tables ts places
      go [] [] [] parts rows = tt
      go [] [] (mine ∷ places) parts rows = absurd parts
      go [] (k ∷ keys) places parts rows = absurd rows
      go (t ∷ ts) [] places parts rows = absurd rows
      go (t ∷ ts) (k ∷ keys) [] parts rows = absurd parts
      go (t ∷ ts) (k ∷ keys) (mine ∷ places) parts rows =
          let p = parts.0 in
          (record { table = p.0; there = p.1; rows = k; rows_are = rows.0; are = p.2 }, go ts keys places parts.1 rows.1)

-- ---- each key by itself

-- each of these keys has its row
pub each_row : {X : Type 0} (key_of : X → Result Key KeyFault) (xs : List X) (rows : List RowKey) → gathered (map key_of xs) ≡ Ok rows
    → AllZip (λ x row. row_at (row_key_if (key_of x)) ≡ Ok row) xs rows
each_row key_of [] [] is = tt
each_row key_of [] (row ∷ rows) is = absurd (cc)
each_row key_of (x ∷ xs) rows is = at_key (λ ks same. each_row key_of xs ks same) (key_of x) refl is
  where
    at_key : ((ks : List RowKey) → gathered (map key_of xs) ≡ Ok ks → AllZip (λ y row. row_at (row_key_if (key_of y)) ≡ Ok row) xs ks)
        → (k : Result Key KeyFault) → key_of x ≡ k → gathered (k ∷ map key_of xs) ≡ Ok rows → AllZip (λ y row. row_at (row_key_if (key_of y)) ≡ Ok row) (x ∷ xs) rows
    at_key others (Err fault) same is = absurd (cc)
    at_key others (Ok key) same is =
        let rest = rest_gathered (row_key key) (gathered (map key_of xs)) rows is in
        subst (λ all. AllZip (λ y row. row_at (row_key_if (key_of y)) ≡ Ok row) (x ∷ xs) all) rest.2
        (ap (λ k. row_at (row_key_if k)) same, others rest.0 rest.1)
