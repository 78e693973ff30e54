-- The tokens that the text of a value's JSON is made of.
use Rattle.std.specs.Prelude.{ℕ, List, true, codes}
use Rattle.json.specs.Token.{Token}
use Rattle.json.specs.Tree.{json_tokens}
use Rattle.number38.specs.Printed.{printed}
use Rattle.serde_json.specs.Data as json
use Rattle.serde_json.specs.Data.{Data}
use Rattle.serde_json.specs.Written.{outline}
use Rattle.attr_value.specs.Tree.{Tree, text, number, binary, boolean, null, list, map, text_set, number_set, binary_set}
use Rattle.attr_json.specs.Written.{strings, base64_of, items_of, members_of}

-- the tokens of JSON
abbrev pub tokens_of : Data → List Token
tokens_of d = json_tokens (outline d)

-- the name of a value's type
abbrev pub type_of : Tree → List ℕ
type_of (text s) = codes "S"
type_of (number z) = codes "N"
type_of (binary bytes) = codes "B"
type_of (boolean flag) = codes "BOOL"
type_of null = codes "NULL"
type_of (list inside) = codes "L"
type_of (map inside) = codes "M"
type_of (text_set ss) = codes "SS"
type_of (number_set zs) = codes "NS"
type_of (binary_set bs) = codes "BS"

-- the JSON that stands under it
abbrev pub content_of : Tree → Data
content_of (text s) = json.string s
content_of (number z) = json.string (printed z)
content_of (binary bytes) = json.string (base64_of bytes)
content_of (boolean flag) = json.boolean flag
content_of null = json.boolean true
content_of (list inside) = json.array (items_of inside)
content_of (map inside) = json.object (members_of inside)
content_of (text_set ss) = json.array (strings (λ s. s) ss)
content_of (number_set zs) = json.array (strings printed zs)
content_of (binary_set bs) = json.array (strings base64_of bs)
