-- What the bodies of BatchGetItem and BatchWriteItem state (API Reference: BatchGetItem, BatchWriteItem). Tables come in
-- the order of their names' bytes, as the members of the body's object do.
use Rattle.std.specs.Prelude.{◌≡◌, ◌⊎◌, ⊤, ℕ, List, [], ◌∷◌, Option, Some, None, option_map, option_and_then, Result, Ok, Err}
use Rattle.serde_json.specs.Data.{Data, Members, no_members, member}
use Rattle.serde_json.specs.Find.{as_object}
use Rattle.attr_value.specs.Tree.{Attributes}
use Rattle.expr_words.specs.declared.given.NamePair.{NamePair}
use Rattle.api_form.specs.declared.name.Name.TheVariants as name
use Rattle.table_request.specs.declared.batches.BatchGet.{BatchGet}
use Rattle.table_request.specs.declared.batches.TableKeys.{TableKeys}
use Rattle.table_request.specs.declared.batches.BatchWrite.{BatchWrite}
use Rattle.table_request.specs.declared.batches.TableWrites.{TableWrites}
use Rattle.table_request.specs.declared.batches.WriteRequest.{WriteRequest}
use Rattle.table_request.specs.declared.batches.WriteRequest.TheVariants as write
use Rattle.request_parts.specs.declared.refusal.Refusal.{Refusal}
use Rattle.request_parts.specs.Members.{member_at, stated_text, stated_flag, list_at, elements, item_at, item_in, inside, object_at, each}
use Rattle.request_parts.specs.Placeholders.{known_names, members_in, name_pairs}
use Rattle.request_parts.specs.Asks.{IsPart}
use Rattle.request_parts.specs.Parts.{projection_asks}
use Rattle.request_parts.specs.Trees.{StatesPaths}
use Rattle.request_parts.specs.declared.legacy.LegacyKind.TheVariants as kind
use Rattle.api_request.specs.Items.{asks_capacity}
use Rattle.api_request.specs.Legacy.{WithLegacy, in_table}

-- the placeholders of names, where they are stated
abbrev pub stated_names : Data → Option (List NamePair)
stated_names d = option_map name_pairs (option_and_then as_object (member_at name.ExpressionAttributeNames d))

-- the keys that are asked of a table, under its name
pub record StatesKeys (table : List ℕ) (d : Data) (r : TableKeys) : Type 0 where
  pub named : r.table ≡ table
  pub keys : r.keys ≡ each item_in (list_at name.Keys d)
  pub projection : StatesPaths (known_names d) (stated_text name.ProjectionExpression d) r.projection
  pub consistent : r.consistent ≡ stated_flag name.ConsistentRead d
  pub expression : r.expression ≡ stated_text name.ProjectionExpression d
  pub names : r.names ≡ stated_names d
  pub attributes : r.attributes ≡ None

-- what is asked of a table, or why it is refused
abbrev pub IsTable : List ℕ → Data → Result TableKeys Refusal → Type 0
IsTable table d = WithLegacy kind.Read (in_table d) (IsPart projection_asks (StatesKeys table)) d

-- all tables, in order, or the first refusal: those before it are not refused
abbrev pub AreTables : Members → Result (List TableKeys) Refusal → Type 0
AreTables no_members (Ok []) = ⊤
AreTables (member k d ms) (Ok (r ∷ rs)) = IsTable k d (Ok r) × AreTables ms (Ok rs)
AreTables (member k d ms) (Err why) = IsTable k d (Err why) ⊎ ((r : TableKeys) × IsTable k d (Ok r) × AreTables ms (Err why))
AreTables _ _ = ⊥

abbrev pub IsBatchGet : Data → Result BatchGet Refusal → Type 0
IsBatchGet d (Ok r) = AreTables (members_in name.RequestItems d) (Ok r.tables) × (r.capacity ≡ asks_capacity d)
IsBatchGet d (Err why) = AreTables (members_in name.RequestItems d) (Err why)

-- an item that is put, or else one that is dropped by its key
abbrev pub put_or : Option Data → Attributes → WriteRequest
put_or (Some p) key = write.Put (item_at name.Item p)
put_or None key = write.Delete key

abbrev pub write_in : Data → WriteRequest
write_in d = put_or (object_at name.PutRequest d) (item_at name.Key (inside name.DeleteRequest d))

abbrev pub table_writes : Members → List TableWrites
table_writes no_members = []
table_writes (member k d ms) = record { table = k; writes = each write_in (elements d) } ∷ table_writes ms

pub record IsBatchWrite (d : Data) (r : BatchWrite) : Type 0 where
  pub tables : r.tables ≡ table_writes (members_in name.RequestItems d)
  pub capacity : r.capacity ≡ asks_capacity d
