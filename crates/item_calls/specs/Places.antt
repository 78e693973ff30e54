-- Where the item of a request is, by what Looks told (API Reference: Key).
use Rattle.std.specs.Prelude.{◌≡◌, ℕ, List, Option, None, Some, Result, Ok, Err, reverse}
use Rattle.std.specs.Option.{option_copied}
use Rattle.turnstile.specs.Passes.{PassView}
use Rattle.txn_core.specs.declared.message.Message.{Message}
use Rattle.item_keys.specs.declared.fault.KeyFault.{KeyFault}
use Rattle.item_keys.specs.ItemKey.{key_in, key_alone}
use Rattle.row_keys.specs.declared.row_key.RowKey.{RowKey}
use Rattle.expr_parse.specs.declared.tree.Update.{Update}
use Rattle.table_schema.specs.declared.keys.KeyNames.{KeyNames}
use Rattle.table_schema.specs.declared.schema.Schema.{Schema}
use Rattle.table_model.specs.declared.refusal.Refusal.{Refusal}
use Rattle.table_model.specs.declared.refusal.Refusal.TheVariants as refusal
use Rattle.table_model.specs.declared.refusal.Invalid.{Invalid}
use Rattle.table_model.specs.declared.refusal.Invalid.TheVariants as invalid
use Rattle.table_model.specs.Writes.{touched_key}
use Rattle.table_items.specs.Outcomes.{row_key_if}
use Rattle.cell_model.specs.declared.key.CellKey.{CellKey}
use Rattle.cell_model.specs.declared.key.CellKey.TheVariants.{Item}
use Rattle.cell_model.specs.declared.answer.TableLook.{TableLook}
use Rattle.cell_model.specs.declared.question.CatalogQuestion.TheVariants.{Look}
use Rattle.table_history.specs.Entries.{TableEvent}
use Rattle.cell_asks.specs.Steps.{One}
use Rattle.cell_asks.specs.Answers.{look_answer}
use Rattle.cell_asks.specs.Told.{Looked, WasTold}
use Rattle.item_calls.specs.declared.place.Place.{Place}
use Rattle.item_calls.specs.declared.place.Wanted.{Wanted}
use Rattle.item_calls.specs.declared.place.Wanted.TheVariants as wanted

-- ---- the row of an item, by a schema

abbrev pub row_at : Result RowKey KeyFault → Result RowKey Invalid
row_at (Ok row) = Ok row
row_at (Err fault) = Err (invalid.Key fault)

-- a fault of the key stands before an update of a key attribute
abbrev pub row_unless : Option (List ℕ) → Result RowKey KeyFault → Result RowKey Invalid
row_unless touched (Err fault) = Err (invalid.Key fault)
row_unless None (Ok row) = Ok row
row_unless (Some name) (Ok row) = Err (invalid.UpdateOfKey name)

abbrev pub unless_touched : KeyNames → Option Update → Result RowKey KeyFault → Result RowKey Invalid
unless_touched keys update row = row_unless (touched_key keys update) row

-- the key of the wanted item's row, or why the request is refused
abbrev pub row_wanted : Wanted → Schema → Result RowKey Invalid
row_wanted (wanted.Item item) schema = row_at (row_key_if (key_in schema schema.keys item.now))
row_wanted (wanted.Key key) schema = row_at (row_key_if (key_alone schema schema.keys key.now))
row_wanted (wanted.Update key update) schema =
    unless_touched schema.keys (option_copied update) (row_key_if (key_alone schema schema.keys key.now))

-- ---- its place

-- where the table of a number has the item of a row
abbrev pub item_at : ℕ → RowKey → CellKey
item_at number row = Item (record { table = number; key = row })

-- the item is there, or the request is refused
abbrev pub place_if : ℕ → Result RowKey Invalid → Place
place_if number (Ok row) = Place.At (item_at number row)
place_if number (Err why) = Place.Refused (refusal.Invalid why)

-- by what an own Look told
abbrev pub place_told : List ℕ → (Schema → Result RowKey Invalid) → Option TableLook → Place
place_told name rows None = Place.Refused (refusal.NoTable name)
place_told name rows (Some look) = place_if look.number (rows look.schema)

-- a fault is not told by what is kept
abbrev pub kept_at : ℕ → Result RowKey Invalid → Option CellKey
kept_at number (Ok row) = Some (item_at number row)
kept_at number (Err why) = None

abbrev pub kept_place : (Schema → Result RowKey Invalid) → Option TableLook → Option CellKey
kept_place rows None = None
kept_place rows (Some look) = kept_at look.number (rows look.schema)

-- ---- finding it

module _ (n : ℕ) (p : PassView TableEvent) (name : List ℕ) where
  module _ (rows : Schema → Result RowKey Invalid) where
    -- the item is there by a table that a Look told of, at some time
    pub record IsKnown (key : CellKey) (q : PassView TableEvent) : Type 0 where
      pub look : TableLook
      pub told : WasTold (reverse q.front) name look
      pub row : RowKey
      pub row_is : rows look.schema ≡ Ok row
      pub is : key ≡ item_at look.number row
      pub looked : Looked n p name q

    -- the own Look told this refusal
    pub record LookRefuses (why : Refusal) (q : PassView TableEvent) : Type 0 where
      pub told : Option TableLook
      pub look : One n p (Message.Ask (Look name)) (look_answer told) q
      pub is : place_told name rows told ≡ Place.Refused why

    abbrev pub IsPlaced : Place → PassView TableEvent → Type 0
    IsPlaced (Place.At key) q = IsKnown key q
    IsPlaced (Place.Refused why) q = LookRefuses why q
