-- What the code's outcomes and keys stand for.
use Rattle.std.specs.Prelude.{Result, Ok, Err}
use Rattle.item_keys.specs.declared.fault.KeyFault.{KeyFault}
use Rattle.item_keys.specs.declared.key.Key.{Key}
use Rattle.row_keys.specs.declared.row_key.RowKey.{RowKey}
use Rattle.row_keys.specs.Keys.{row_key}
use Rattle.table_model.specs.Outcome as model
use Rattle.table_items.specs.declared.outcome.ItemOutcome.{ItemOutcome}
use Rattle.table_items.specs.declared.outcome.ItemOutcome.TheVariants.{Becomes, False, Faulty}

abbrev pub outcome_of : ItemOutcome → model.ItemOutcome
outcome_of (Becomes item) = model.becomes item
outcome_of False = model.is_false
outcome_of (Faulty fault) = model.is_faulty fault

-- the key of the row of a key, or the key's fault
abbrev pub row_key_if : Result Key KeyFault → Result RowKey KeyFault
row_key_if (Ok key) = Ok (row_key key)
row_key_if (Err fault) = Err fault
