-- What a BatchGetItem reads, as the code goes over it.
use Rattle.std.specs.Prelude.{List, [], ◌∷◌, map, length, take, drop, filter_map, Bool, Option}
use Rattle.attr_value.specs.Tree.{Attributes}
use Rattle.expr_words.specs.declared.tree.Paths.{Paths}
use Rattle.table_request.specs.declared.batches.TableKeys.{TableKeys}
use Rattle.table_request.specs.declared.consumed.Consumed.{Consumed}
use Rattle.table_model.specs.declared.reply.Reply.{Reply}
use Rattle.table_model.specs.declared.reply.Reply.TheVariants.{BatchRead}
use Rattle.table_model.specs.declared.reply.FoundItems.{FoundItems}
use Rattle.table_model.specs.Reads.{view}
use Rattle.table_model.specs.Batches.{most_batch_bytes, read_count, unread, used_by_keys}
use Rattle.table_model.specs.Consumed.{where_asked}

-- what is shown of the items that are there
abbrev pub shown : Option Paths → List (Option Attributes) → List Attributes
shown projection items = map (view projection) (filter_map (λ item. item) items)

-- of each table what is shown of its items, as far as these items go
abbrev pub found_among : List TableKeys → List (Option Attributes) → List FoundItems
found_among [] items = []
found_among (t ∷ ts) items =
    record { table = t.table; items = shown t.projection (take (length t.keys) items) }
    ∷ found_among ts (drop (length t.keys) items)

-- of each table what is used by the reads of its items, as far as these items go
abbrev pub used_among : List TableKeys → List (Option Attributes) → List Consumed
used_among [] items = []
used_among (t ∷ ts) items = used_by_keys t (take (length t.keys) items) ∷ used_among ts (drop (length t.keys) items)

-- the answer where these items are asked
abbrev pub read_of : Bool → List TableKeys → List (Option Attributes) → Reply
read_of asked ts items =
    let count = read_count most_batch_bytes items in
    BatchRead (found_among ts (take count items)) (unread count ts) (where_asked asked (used_among ts (take count items)))
