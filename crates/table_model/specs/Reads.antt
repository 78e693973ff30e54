-- Reads of one item (API Reference: GetItem).
use Rattle.std.specs.Prelude.{Option, None, Some, option_map}
use Rattle.attr_value.specs.Tree.{Attributes}
use Rattle.expr_words.specs.declared.tree.Paths.{Paths}
use Rattle.projection.specs.Picked.{asked, picked_item}
use Rattle.item_keys.specs.ItemKey.{key_alone}
use Rattle.capacity.specs.Units.{read_halves}
use Rattle.table_request.specs.declared.consumed.Consumed.{Consumed}
use Rattle.table_request.specs.declared.items.GetItem.{GetItem}
use Rattle.table_model.specs.declared.reply.Reply.{Reply}
use Rattle.table_model.specs.declared.reply.Reply.TheVariants.{Read}
use Rattle.table_model.specs.Writes.{old_at}
use Rattle.table_model.specs.Database.{Database, Effect, table_named, in_table, at_key}
use Rattle.table_model.specs.Consumed.{where_asked, bytes_of, read_mode, used_of}

-- what is shown of an item: what the projection picks, or all of it
abbrev pub view : Option Paths → Attributes → Attributes
view None item = item
view (Some projection) item = picked_item item (asked projection.paths)

-- what the read of an item uses
abbrev pub used_by_read : GetItem → Option Attributes → Option Consumed
used_by_read r item = where_asked r.capacity (used_of r.table (read_halves (read_mode r.consistent) (bytes_of item)))

-- what is told of an item that may be there
abbrev pub told_read : GetItem → Option Attributes → Reply
told_read r item = Read (option_map (view r.projection) item) (used_by_read r item)

abbrev pub get_item : Database → GetItem → Effect
get_item db r =
    in_table db r.table (table_named db r.table)
    (λ table. at_key db (key_alone table.schema table.schema.keys r.key)
    (λ key. (db, told_read r (old_at table key))))
