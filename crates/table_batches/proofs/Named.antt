-- Tables by name, in the database of the tables alone.
use Rattle.std.proofs.Common.{◌≡◌, ℕ, List, [], ◌∷◌, ◌++◌, append_assoc, map, Option, None, Some, is_some, true, false, Result, Ok, refl, sym, ap, ◌∙◌}
use Rattle.std.specs.Prelude.{filter_map}
use Rattle.std.specs.List.{cons_option}
use Rattle.std.specs.FinMap.{empty}
use Rattle.std.specs.Map.{lookup}
use Rattle.item_keys.specs.declared.fault.KeyFault.{KeyFault}
use Rattle.item_keys.specs.ItemKey.{key_alone}
use Rattle.row_keys.specs.declared.row_key.RowKey.{RowKey}
use Rattle.row_keys.specs.Rows.{item_at}
use Rattle.table_request.specs.declared.batches.TableKeys.{TableKeys}
use Rattle.table_request.specs.declared.batches.TableWrites.{TableWrites}
use Rattle.table_request.specs.declared.consumed.Consumed.{Consumed}
use Rattle.table_model.specs.declared.refusal.Refusal.TheVariants.{NoTable}
use Rattle.table_model.specs.Database.{Database, Table, table_named}
use Rattle.table_model.specs.Batches.{missing, missing_if, place_if, asked_keys, asked_keys_if, asked_items, asked_items_if, write_keys, write_keys_if, write_key, write_halves_in, used_if, used_by_writes}
use Rattle.table_model.specs.Consumed.{used_by_all}
use Rattle.numbered_tables.specs.declared.table.NumberedTable.{NumberedTable}
use Rattle.numbered_tables.specs.Tables.{Kept, table_in}
use Rattle.numbered_tables.proofs.Kept.{at, absent, there}
use Rattle.table_batches.specs.Answers.{tables_alone}
use Rattle.table_batches.specs.Keys.{gathered}
use Rattle.table_batches.specs.Writes.{changes_of, changes_if, changes_in}
use Rattle.table_batches.proofs.Gathered.{places}

pub not_there : (es : Kept) (name : List ℕ) → lookup (at name) es ≡ None → table_named (tables_alone es) name ≡ None
not_there es name none = absent es empty 0 name none

pub is_there : (es : Kept) (name : List ℕ) (x : NumberedTable) → lookup (at name) es ≡ Some x → table_named (tables_alone es) name ≡ Some (table_in x)
is_there es name x found = there es empty 0 name x found

none_known : (o : Option NumberedTable) → is_some o ≡ false → o ≡ None
none_known None is = refl
none_known (Some x) is = absurd (cc)

-- a table that is not known is missing
pub is_missing : (es : Kept) (name : List ℕ) → is_some (lookup (at name) es) ≡ false → missing (tables_alone es) name ≡ Some (NoTable name)
is_missing es name unknown = ap (missing_if name) (not_there es name (none_known (lookup (at name) es) unknown))

-- and one that is known is not
pub not_missing : (es : Kept) (name : List ℕ) → is_some (lookup (at name) es) ≡ true → missing (tables_alone es) name ≡ None
not_missing es name known = go (lookup (at name) es) refl known
  where
    go : (o : Option NumberedTable) → lookup (at name) es ≡ o → is_some o ≡ true → missing (tables_alone es) name ≡ None
    go None is passes = absurd (cc)
    go (Some x) is passes = ap (missing_if name) (is_there es name x is)

-- ---- what is asked of one table

pub keys_nowhere : (es : Kept) (t : TableKeys) → lookup (at t.table) es ≡ None → gathered (asked_keys (tables_alone es) t) ≡ Ok []
keys_nowhere es t none = ap (λ (o : Option Table). gathered (asked_keys_if o t)) (not_there es t.table none)

pub items_nowhere : (es : Kept) (t : TableKeys) → lookup (at t.table) es ≡ None → asked_items (tables_alone es) t ≡ []
items_nowhere es t none =
    ap (λ (o : Option Table). asked_items_if o (filter_map place_if (asked_keys_if o t))) (not_there es t.table none)

pub keys_asked :
    (es : Kept) (t : TableKeys) (x : NumberedTable) (found : Result (List RowKey) KeyFault) → lookup (at t.table) es ≡ Some x
    → found ≡ gathered (map (λ key. key_alone x.rows.schema x.rows.schema.keys key) t.keys) → gathered (asked_keys (tables_alone es) t) ≡ found
keys_asked es t x found here is = ap (λ (o : Option Table). gathered (asked_keys_if o t)) (is_there es t.table x here) ∙ sym is

pub items_asked :
    (es : Kept) (t : TableKeys) (x : NumberedTable) (keys : List RowKey) → lookup (at t.table) es ≡ Some x
    → Ok keys ≡ gathered (map (λ key. key_alone x.rows.schema x.rows.schema.keys key) t.keys)
    → map (item_at x.rows.rows) keys ≡ asked_items (tables_alone es) t
items_asked es t x keys here is =
    sym (ap (λ (o : Option Table). asked_items_if o (filter_map place_if (asked_keys_if o t))) (is_there es t.table x here)
    ∙ ap (map (item_at x.rows.rows)) (places (map (λ key. key_alone x.rows.schema x.rows.schema.keys key) t.keys) keys (sym is)))

-- ---- what is written to one table

pub writes_nowhere : (es : Kept) (t : TableWrites) → lookup (at t.table) es ≡ None → gathered (write_keys (tables_alone es) t) ≡ Ok []
writes_nowhere es t none = ap (λ (o : Option Table). gathered (write_keys_if o t)) (not_there es t.table none)

pub changes_nowhere : (es : Kept) (t : TableWrites) → lookup (at t.table) es ≡ None → changes_in (tables_alone es) t ≡ []
changes_nowhere es t none = ap (λ (o : Option Table). changes_if o t) (not_there es t.table none)

pub keys_written :
    (es : Kept) (t : TableWrites) (x : NumberedTable) (found : Result (List RowKey) KeyFault) → lookup (at t.table) es ≡ Some x
    → gathered (map (write_key (table_in x)) t.writes) ≡ found → gathered (write_keys (tables_alone es) t) ≡ found
keys_written es t x found here is = ap (λ (o : Option Table). gathered (write_keys_if o t)) (is_there es t.table x here) ∙ is

pub changes_written :
    (es : Kept) (t : TableWrites) (x : NumberedTable) → lookup (at t.table) es ≡ Some x
    → changes_of (table_in x) t.table t.writes ≡ changes_in (tables_alone es) t
changes_written es t x here = sym (ap (λ (o : Option Table). changes_if o t) (is_there es t.table x here))

pub used_nowhere : (es : Kept) (t : TableWrites) → lookup (at t.table) es ≡ None → used_by_writes (tables_alone es) (t ∷ []) ≡ []
used_nowhere es t none = ap (λ (o : Option Table). cons_option (used_if o t) []) (not_there es t.table none)

pub used_there :
    (es : Kept) (t : TableWrites) (x : NumberedTable) → lookup (at t.table) es ≡ Some x
    → used_by_writes (tables_alone es) (t ∷ []) ≡ used_by_all t.table (write_halves_in (table_in x)) t.writes ∷ []
used_there es t x here = ap (λ (o : Option Table). cons_option (used_if o t) []) (is_there es t.table x here)

-- what one table more uses stands before what the others use
pub used_more :
    (db : Database) (all : List Consumed) (t : TableWrites) (ts : List TableWrites)
    → (all ++ used_by_writes db (t ∷ [])) ++ used_by_writes db ts ≡ all ++ used_by_writes db (t ∷ ts)
used_more db all t ts =
    append_assoc all (used_by_writes db (t ∷ [])) (used_by_writes db ts)
    ∙ ap (λ (us : List Consumed). all ++ us) (go (used_if (table_named db t.table) t))
  where
    go : (o : Option Consumed) → cons_option o [] ++ used_by_writes db ts ≡ cons_option o (used_by_writes db ts)
    go None = refl
    go (Some used) = refl
