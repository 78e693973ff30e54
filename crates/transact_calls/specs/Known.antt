-- Tables without rows, as Looks told of them, by which a request is checked.
use Rattle.std.specs.Prelude.{◌≡◌, ℕ, Bool, true, false, List, ◌++◌, Option, None, Some, is_some, map, reverse, if◌then◌else◌}
use Rattle.std.specs.List.{AllByRecursion}
use Rattle.std.specs.Map.{lookup}
use Rattle.std.specs.BTreeMap.{is_at, insert_entry}
use Rattle.std.specs.Ordering.{nat_cmp}
use Rattle.std.specs.Cmp.Lexicographic.{slice_cmp}
use Rattle.turnstile.specs.Histories.{Has}
use Rattle.turnstile.specs.Passes.{PassView}
use Rattle.attr_value.specs.Tree.{Attributes}
use Rattle.item_keys.specs.ItemKey.{key_in, key_alone}
use Rattle.table_schema.specs.declared.schema.Schema.{Schema}
use Rattle.table_model.specs.declared.refusal.Refusal.{Refusal}
use Rattle.table_model.specs.declared.refusal.Refusal.TheVariants.{NoTable}
use Rattle.table_model.specs.Database.{Database, first}
use Rattle.table_model.specs.Batches.{missing}
use Rattle.numbered_tables.specs.declared.table.NumberedTable.{NumberedTable}
use Rattle.numbered_tables.specs.Tables.{Kept, new_table}
use Rattle.txn_core.specs.declared.message.Message.{Message}
use Rattle.cell_model.specs.declared.answer.TableLook.{TableLook}
use Rattle.cell_model.specs.declared.question.CatalogQuestion.TheVariants.{Look}
use Rattle.table_history.specs.Entries.{TableEvent}
use Rattle.cell_asks.specs.Steps.{One, IsInVain}
use Rattle.cell_asks.specs.Answers.{look_answer}
use Rattle.cell_asks.specs.Told.{WasTold}
use Rattle.transact_calls.specs.Looks.{Told, LookedAll, AgreesWith}

-- the table of a name
abbrev pub known_of : Kept → List ℕ → Option NumberedTable
known_of entries name = lookup (is_at (slice_cmp nat_cmp name)) entries

-- a table is, without rows, the one that a Look told of in this history
abbrev pub IsKnown : List TableEvent → List ℕ × NumberedTable → Type 0
IsKnown es entry = (look : TableLook) × WasTold es entry.0 look × (entry.1 ≡ new_table look.number look.schema)

abbrev pub AreKnown : List TableEvent → Kept → Type 0
AreKnown es entries = AllByRecursion (IsKnown es) entries

-- both schemas make the same keys of the same items
pub record HaveSameKeys (one other : Schema) : Type 0 where
  pub names : other.keys ≡ one.keys
  pub inside : (item : Attributes) → key_in other other.keys item ≡ key_in one one.keys item
  pub alone : (key : Attributes) → key_alone other other.keys key ≡ key_alone one one.keys key

-- what was told has a table of its name that makes the same keys
abbrev pub IsShown : Told → List ℕ × NumberedTable → Type 0
IsShown told entry = (look : TableLook) × Has told (entry.0, Some look) × HaveSameKeys entry.1.rows.schema look.schema

abbrev pub AreShown : Told → Kept → Type 0
AreShown told entries = AllByRecursion (IsShown told) entries

-- the table of a name is added, as a Look told of it
pub record HasAdded (name : List ℕ) (look : TableLook) (old new : Kept) : Type 0 where
  pub entries : new ≡ insert_entry (slice_cmp nat_cmp) old name (new_table look.number look.schema)
  pub found :
      (other : List ℕ) → known_of new other
      ≡ (if is_at (slice_cmp nat_cmp name) other then Some (new_table look.number look.schema) else known_of old other)

-- from p to q the tables of the names before these were looked for, where they were not known, and are there
pub record LooksOn (n : ℕ) (p : PassView TableEvent) (names rest : List (List ℕ)) (entries : Kept) (q : PassView TableEvent) : Type 0 where
  pub told : Told
  pub looks : LookedAll n p told q
  pub known : AreKnown (reverse q.front) entries
  pub shown : AreShown told entries
  pub before : List (List ℕ)
  pub names_are : names ≡ before ++ rest
  pub there : AllByRecursion (λ name. is_some (known_of entries name) ≡ true) before

-- a table is not there, as the own Looks told
pub record MissesTable (n : ℕ) (p : PassView TableEvent) (names : List (List ℕ)) (why : Refusal) (q : PassView TableEvent) : Type 0 where
  pub told : Told
  pub looks : LookedAll n p told q
  pub is : (db : Database) → AgreesWith told db → first (map (missing db) names) ≡ Some why

-- what an own Look told of a name is taken down: its table is added; or no table has the name, which refuses the request
abbrev pub Notes : List ℕ → Option TableLook → Kept → Kept → Option Refusal → Type 0
Notes name None old new why = (new ≡ old) × (why ≡ Some (NoTable name))
Notes name (Some look) old new why = HasAdded name look old new × (why ≡ None)

-- they were looked for, and are there; or one is not
abbrev pub LookedUp : ℕ → PassView TableEvent → List (List ℕ) → List (List ℕ) → Kept → Option Refusal → PassView TableEvent → Type 0
LookedUp n p names rest entries (Some why) q = MissesTable n p names why q
LookedUp n p names rest entries None q = LooksOn n p names rest entries q

-- the own Look of a name tells the table of this number
pub record IsStill (n : ℕ) (p : PassView TableEvent) (name : List ℕ) (number : ℕ) (q : PassView TableEvent) : Type 0 where
  pub look : TableLook
  pub one : One n p (Message.Ask (Look name)) (look_answer (Some look)) q
  pub is : look.number ≡ number

-- so or not, by the answer
abbrev pub AsksStill : ℕ → PassView TableEvent → List ℕ → ℕ → Bool → PassView TableEvent → Type 0
AsksStill n p name number true q = IsStill n p name number q
AsksStill n p name number false q = (told : Option TableLook) × One n p (Message.Ask (Look name)) (look_answer told) q

-- from p to q it was asked for these tables, and own Looks told of tables that make the same keys
pub record AreConfirmed (n : ℕ) (p : PassView TableEvent) (entries : Kept) (q : PassView TableEvent) : Type 0 where
  pub told : Told
  pub looks : LookedAll n p told q
  pub shown : AreShown told entries

-- so; or a table was another one, and the try is in vain
abbrev pub Confirms : ℕ → PassView TableEvent → Kept → Bool → PassView TableEvent → Type 0
Confirms n p entries true q = AreConfirmed n p entries q
Confirms n p entries false q = IsInVain n p q
