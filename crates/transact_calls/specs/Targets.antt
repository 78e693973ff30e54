-- Which items a request reads, and where they are, by tables that Looks told of.
use Rattle.std.specs.Prelude.{◌≡◌, ℕ, List, map, reverse, false, Some, Result, Ok, Err}
use Rattle.std.specs.List.{AllZip}
use Rattle.turnstile.specs.Passes.{PassView}
use Rattle.item_keys.specs.ItemKey.{key_alone}
use Rattle.row_keys.specs.declared.row_key.RowKey.{RowKey}
use Rattle.table_request.specs.declared.transactions.TransactRead.{TransactRead}
use Rattle.table_model.specs.declared.refusal.Refusal.{Refusal}
use Rattle.table_model.specs.Batches.{place_if}
use Rattle.table_model.specs.Transactions.{Target, has_repeat, read_refusal}
use Rattle.numbered_tables.specs.Tables.{Kept}
use Rattle.transact_reads.specs.declared.found.ReadAt.{ReadAt}
use Rattle.transact_reads.specs.Found.{database_of}
use Rattle.transact_reads.specs.Checked.{AreTargets}
use Rattle.cell_model.specs.declared.answer.TableLook.{TableLook}
use Rattle.cell_model.specs.declared.key.CellKey.{CellKey}
use Rattle.table_history.specs.Entries.{TableEvent}
use Rattle.cell_asks.specs.Told.{WasTold}
use Rattle.transact_calls.specs.Looks.{Told, LookedAll, FindsRefusal}
use Rattle.transact_calls.specs.Stated.{item_at}

-- a read is of this item: its table is one that a Look told of in this history, and has this row's key
pub record IsTargetOf (es : List TableEvent) (read : TransactRead) (target : Target) : Type 0 where
  pub look : TableLook
  pub told : WasTold es read.table look
  pub row : RowKey
  pub row_is : place_if (key_alone look.schema look.schema.keys read.key) ≡ Some row
  pub is : target ≡ record { name = read.table; number = look.number; key = row }

-- where an item is
abbrev pub key_of : Target → CellKey
key_of target = item_at target.number target.key

abbrev pub key_at : ReadAt → CellKey
key_at place = item_at place.table place.key

-- the items of these reads, in order, are at these keys, and no two of them are one
pub record AreItemsOf (es : List TableEvent) (reads : List TransactRead) (keys : List CellKey) : Type 0 where
  pub targets : List Target
  pub each : AllZip (IsTargetOf es) reads targets
  pub apart : has_repeat targets ≡ false
  pub are : keys ≡ map key_of targets

-- by these tables the request is refused, or its items are at these keys
abbrev pub AreKeysBy : Kept → List TransactRead → Result (List CellKey) Refusal → Type 0
AreKeysBy entries reads (Err why) = read_refusal (database_of entries) reads ≡ Some why
AreKeysBy entries reads (Ok keys) = (targets : List Target) × AreTargets (database_of entries) reads targets × (keys ≡ map key_of targets)

module _ (n : ℕ) (p : PassView TableEvent) (reads : List TransactRead) where
  -- by tables that were told of before or by own Looks, the items are at these keys
  pub record FindsKeys (keys : List CellKey) (q : PassView TableEvent) : Type 0 where
    pub told : Told
    pub looks : LookedAll n p told q
    pub items : AreItemsOf (reverse q.front) reads keys

  -- so, or own Looks refuse the request
  abbrev pub FindsItems : Result (List CellKey) Refusal → PassView TableEvent → Type 0
  FindsItems (Ok keys) q = FindsKeys keys q
  FindsItems (Err why) q = FindsRefusal n p (λ db. read_refusal db reads) why q
