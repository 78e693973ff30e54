-- Tables without rows, as Looks told of them, by which a request is checked.
use Rattle.std.specs.Prelude.{◌≡◌, ℕ, List, [], ◌∷◌, ◌++◌, map, true, cond, Option, None, Some, is_some, option_map, Result, Ok, reverse}
use Rattle.std.specs.List.{AllByRecursion, AllZip}
use Rattle.std.specs.Ordering.{nat_cmp}
use Rattle.std.specs.Cmp.Lexicographic.{slice_cmp}
use Rattle.std.specs.BTreeMap.{is_at}
use Rattle.std.specs.Map.{lookup}
use Rattle.item_keys.specs.declared.fault.KeyFault.{KeyFault}
use Rattle.item_keys.specs.declared.key.Key.{Key}
use Rattle.row_keys.specs.declared.row_key.RowKey.{RowKey}
use Rattle.table_schema.specs.declared.schema.Schema.{Schema}
use Rattle.turnstile.specs.Passes.{PassView}
use Rattle.table_model.specs.declared.refusal.Refusal.{Refusal}
use Rattle.table_model.specs.Database.{Database, Table, table_named}
use Rattle.numbered_tables.specs.declared.table.NumberedTable.{NumberedTable}
use Rattle.numbered_tables.specs.Tables.{Kept, new_table}
use Rattle.table_batches.specs.Answers.{tables_alone}
use Rattle.table_batches.specs.Keys.{gathered}
use Rattle.cell_model.specs.declared.answer.TableLook.{TableLook}
use Rattle.cell_model.specs.declared.key.CellKey.{CellKey}
use Rattle.txn_core.specs.declared.message.Message.{Message}
use Rattle.cell_model.specs.declared.question.CatalogQuestion.TheVariants.{Look}
use Rattle.table_history.specs.Entries.{TableEvent}
use Rattle.cell_asks.specs.Steps.{One}
use Rattle.cell_asks.specs.Answers.{look_answer}
use Rattle.cell_asks.specs.declared.looks.Looks.{Looks}
use Rattle.cell_asks.specs.Told.{AreTold, WasTold}
use Rattle.item_calls.specs.Places.{item_at}
use Rattle.batch_calls.specs.Looks.{AgreesWith, AreLooked, LookedAll}
use Rattle.batch_calls.specs.declared.find.Found.{Found}

-- the table of a name
abbrev pub table_at : List ℕ → Kept → Option NumberedTable
table_at name tables = lookup (is_at (slice_cmp nat_cmp name)) tables

-- a Look of this history told of the table
pub record IsKnown (es : List TableEvent) (name : List ℕ) (table : NumberedTable) : Type 0 where
  pub look : TableLook
  pub told : WasTold es name look
  pub is : table ≡ new_table look.number look.schema

abbrev pub AreKnown : List TableEvent → Kept → Type 0
AreKnown es tables = (name : List ℕ) (table : NumberedTable) → table_at name tables ≡ Some table → IsKnown es name table

-- the table that is told of, if one is, has its place; the others stay
abbrev pub IsAdded : List ℕ → Option TableLook → Kept → Kept → Type 0
IsAdded name None old new = new ≡ old
IsAdded name (Some look) old new =
    (other : List ℕ) → table_at other new ≡ cond (is_at (slice_cmp nat_cmp name) other) (Some (new_table look.number look.schema)) (table_at other old)

-- ---- the tables of own Looks

-- an own Look told of the table of the name
pub record LooksUp (n : ℕ) (p : PassView TableEvent) (name : List ℕ) (old new : Kept) (q : PassView TableEvent) : Type 0 where
  pub told : Option TableLook
  pub look : One n p (Message.Ask (Look name)) (look_answer told) q
  pub added : IsAdded name told old new

abbrev pub schema_of : Database → List ℕ → Option Schema
schema_of db name = option_map (λ (t : Table). t.schema) (table_named db name)

module _ (db : Database) (tables : Kept) where
  -- the database has what is there
  abbrev pub HasAll : Type 0
  HasAll = (name : List ℕ) (table : NumberedTable) → table_at name tables ≡ Some table → schema_of db name ≡ Some table.rows.schema

  -- of these names what the database has is there
  abbrev pub HaveIts : List (List ℕ) → Type 0
  HaveIts names = AllByRecursion (λ name. is_some (table_named db name) ≡ true → is_some (table_at name tables) ≡ true) names

module _ (n : ℕ) (p : PassView TableEvent) (names : List (List ℕ)) where
  -- own Looks of these names gave the tables, which are those of every database that agrees with what was told
  pub record LooksGive (tables : Kept) (q : PassView TableEvent) : Type 0 where
    pub told : List (Option TableLook)
    pub looks : AreLooked n p names told q
    pub known : AreKnown (reverse q.front) tables
    pub has : (db : Database) → AgreesWith db names told → HasAll db tables
    pub have : (db : Database) → AgreesWith db names told → HaveIts db tables names

-- ---- where the items of a request are

-- the items of one part of a request, in its table
pub record ArePlaced (tables : Kept) (name : List ℕ) (keys : List (Result Key KeyFault)) (places : List CellKey) : Type 0 where
  pub table : NumberedTable
  pub there : table_at name tables ≡ Some table
  pub rows : List RowKey
  pub rows_are : gathered keys ≡ Ok rows
  pub are : places ≡ map (item_at table.number) rows

-- where the table has the items of these rows stands behind the others
pub record IsPlacedBehind (tables : Kept) (name : List ℕ) (rows : List RowKey) (old new : List (List CellKey)) : Type 0 where
  pub table : NumberedTable
  pub there : table_at name tables ≡ Some table
  pub is : new ≡ old ++ map (item_at table.number) rows ∷ []

module _ {T : Type 0} (table_of : T → List ℕ) (keys_of : Database → T → List (Result Key KeyFault)) where
  abbrev pub AllPlaced : Kept → List T → List (List CellKey) → Type 0
  AllPlaced tables parts places = AllZip (λ t mine. ArePlaced tables (table_of t) (keys_of (tables_alone tables) t) mine) parts places

  -- what is kept of Looks admits the request, and places its items
  pub record KeptAdmit (refusal : Database → List T → Option Refusal) (looks : Looks) (parts : List T) (places : List (List CellKey)) : Type 0 where
    pub tables : Kept
    pub known : (es : List TableEvent) → AreTold es looks → AreKnown es tables
    pub free : refusal (tables_alone tables) parts ≡ None
    pub placed : AllPlaced tables parts places

  module _ (refusal : Database → List T → Option Refusal) (n : ℕ) (p : PassView TableEvent) (parts : List T) where
    -- by tables that Looks told of, each at some time, nothing refuses the request
    pub record IsFound (places : List (List CellKey)) (q : PassView TableEvent) : Type 0 where
      pub looked : LookedAll n p (map table_of parts) q
      pub tables : Kept
      pub known : AreKnown (reverse q.front) tables
      pub free : refusal (tables_alone tables) parts ≡ None
      pub placed : AllPlaced tables parts places

    -- by the tables of own Looks this refuses it
    pub record LooksRefuse (why : Refusal) (q : PassView TableEvent) : Type 0 where
      pub tables : Kept
      pub given : LooksGive n p (map table_of parts) tables q
      pub is : refusal (tables_alone tables) parts ≡ Some why

    abbrev pub AreFound : Found → PassView TableEvent → Type 0
    AreFound (Found.At places) q = IsFound places q
    AreFound (Found.Refused why) q = LooksRefuse why q
