-- What was consumed of the tables' capacity, told beside what a reply says anyway (API Reference: ConsumedCapacity). Units
-- need not be whole, so this is the JSON of `json`, in which a number is a text.
use Rattle.std.specs.Prelude.{ℕ, List, [], ◌∷◌, codes, Option, None, Some}
use Rattle.std.specs.Ordering.{nat_cmp, match_ordering}
use Rattle.std.specs.Cmp.Lexicographic.{slice_cmp}
use Rattle.json.specs.Json as json
use Rattle.json.specs.Json.{Json, Items, Members}
use Rattle.json.specs.Token.{Token}
use Rattle.json.specs.Tree.{json_tokens}
use Rattle.serde_json.specs.Data.{Data}
use Rattle.serde_json.specs.Written.{outline}
use Rattle.capacity.specs.Units.{units}
use Rattle.table_request.specs.declared.consumed.Consumed.{Consumed}

-- of one table
abbrev pub capacity : Consumed → Json
capacity used =
    json.object
    (json.member (codes "CapacityUnits") (json.number (units used.halves))
    (json.member (codes "TableName") (json.string used.table) json.no_members))

abbrev pub each_capacity : List Consumed → Items
each_capacity [] = json.no_items
each_capacity (used ∷ others) = json.item (capacity used) (each_capacity others)

-- of several tables
abbrev pub capacities : List Consumed → Json
capacities used = json.array (each_capacity used)

-- a member among others in the order of their names
abbrev pub put : List ℕ → Json → Members → Members
put name j json.no_members = json.member name j json.no_members
put name j (json.member other k rest) =
    match_ordering (slice_cmp nat_cmp name other)
    (json.member name j (json.member other k rest))
    (json.member name j rest)
    (json.member other k (put name j rest))

-- an object with the member ConsumedCapacity, where there is one
abbrev pub with_consumed : Option Json → Json → Json
with_consumed None body = body
with_consumed (Some j) (json.object members) = json.object (put (codes "ConsumedCapacity") j members)
with_consumed (Some j) other = other

-- ---- as it is written

-- JSON with it
abbrev pub beside : Option Json → Data → List Token
beside consumed d = json_tokens (with_consumed consumed (outline d))

-- the member where it stands
abbrev pub consumed_tokens : Option Json → List Token
consumed_tokens None = []
consumed_tokens (Some j) = Token.key (codes "ConsumedCapacity") ∷ json_tokens j
