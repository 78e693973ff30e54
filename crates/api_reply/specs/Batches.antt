-- What is found by a batch, and what of it was left undone, in the shape of the request (API Reference: BatchGetItem,
-- BatchWriteItem).
use Rattle.std.specs.Prelude.{List, codes, option_map}
use Rattle.serde_json.specs.Data.{Data, no_members, member, object, string, boolean}
use Rattle.attr_value.specs.Tree.{Attributes}
use Rattle.attr_json.specs.Written.{members_of}
use Rattle.expr_words.specs.declared.given.NamePair.{NamePair}
use Rattle.table_request.specs.declared.batches.TableKeys.{TableKeys}
use Rattle.table_request.specs.declared.batches.TableWrites.{TableWrites}
use Rattle.table_request.specs.declared.batches.WriteRequest.{WriteRequest}
use Rattle.table_request.specs.declared.batches.WriteRequest.TheVariants as write
use Rattle.table_model.specs.declared.reply.FoundItems.{FoundItems}
use Rattle.api_reply.specs.Json.{optional, list_of, object_of}

abbrev pub item : Attributes → Data
item attributes = object (members_of attributes)

abbrev pub items : FoundItems → Data
items t = list_of item t.items

-- the names that placeholders stand for
abbrev pub names : List NamePair → Data
names pairs = object_of (λ pair. pair.placeholder) (λ pair. string pair.name) pairs

-- keys that were not read, and how they were to be read
abbrev pub unread : TableKeys → Data
unread t =
    object
    (optional (codes "AttributesToGet") (option_map (list_of string) t.attributes)
    (optional (codes "ConsistentRead") (option_map boolean t.consistent)
    (optional (codes "ExpressionAttributeNames") (option_map names t.names)
    (member (codes "Keys") (list_of item t.keys)
    (optional (codes "ProjectionExpression") (option_map string t.expression) no_members)))))

abbrev pub unwritten_one : WriteRequest → Data
unwritten_one (write.Put attributes) =
    object (member (codes "PutRequest") (object (member (codes "Item") (item attributes) no_members)) no_members)
unwritten_one (write.Delete key) =
    object (member (codes "DeleteRequest") (object (member (codes "Key") (item key) no_members)) no_members)

abbrev pub unwritten : TableWrites → Data
unwritten t = list_of unwritten_one t.writes
