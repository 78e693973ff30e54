-- What is told of items that were read.
use Rattle.std.specs.Prelude.{List, Bool, map, Option, option_map}
use Rattle.std.specs.List.{zip}
use Rattle.attr_value.specs.Tree.{Attributes}
use Rattle.capacity.specs.declared.halves.Mode.TheVariants.{Transact}
use Rattle.capacity.specs.Units.{read_halves}
use Rattle.table_request.specs.Usage.{by_table}
use Rattle.table_request.specs.declared.consumed.Consumed.{Consumed}
use Rattle.table_request.specs.declared.transactions.TransactRead.{TransactRead}
use Rattle.table_model.specs.declared.reply.Reply.{Reply}
use Rattle.table_model.specs.declared.reply.Reply.TheVariants.{TransactRead as Read}
use Rattle.table_model.specs.Reads.{view}
use Rattle.table_model.specs.Consumed.{where_asked, bytes_of, used_of}

-- what is shown of the item that a read found, where it is there
abbrev pub shown_in : TransactRead → Option Attributes → Option Attributes
shown_in read item = option_map (view read.projection) item

-- what the read uses
abbrev pub used_in : TransactRead → Option Attributes → Consumed
used_in read item = used_of read.table (read_halves Transact (bytes_of item))

-- the reply to all of these, each a read that found an item
abbrev pub all_told : {X : Type 0} → (X → TransactRead) → (X → Option Attributes) → Bool → List X → Reply
all_told read item capacity all =
    Read (map (λ one. shown_in (read one) (item one)) all) (where_asked capacity (by_table (map (λ one. used_in (read one) (item one)) all)))

-- the reply to reads that found these items, in order
abbrev pub reads_told : Bool → List TransactRead → List (Option Attributes) → Reply
reads_told capacity reads items = all_told (λ both. both.0) (λ both. both.1) capacity (zip reads items)
