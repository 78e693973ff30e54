-- JSON as it is written: members that are there and members that may be, lists, and objects whose names are data.
use Rattle.std.specs.Prelude.{◌≡◌, ℕ, List, [], ◌∷◌, ◌++◌, map, Option, None, Some}
use Rattle.json.specs.Token.{Token}
use Rattle.json.specs.Tree.{members_tokens}
use Rattle.json.specs.Written.{Written}
use Rattle.serde_json.specs.Data as json
use Rattle.serde_json.specs.Data.{Data, Members, no_members, member}
use Rattle.serde_json.specs.View.{items_of}
use Rattle.serde_json.specs.Written.{members_outline}

-- a whole number
abbrev pub whole : ℕ → Data
whole n = json.number (json.unsigned n)

-- a member that stands where it has a value
abbrev pub optional : List ℕ → Option Data → Members → Members
optional name None rest = rest
optional name (Some d) rest = member name d rest

-- a list of what is made of each element
abbrev pub list_of : {A : Type 0} → (A → Data) → List A → Data
list_of made xs = json.array (items_of (map made xs))

-- members of which each has its own name, before others
abbrev pub entries : {A : Type 0} → (A → List ℕ) → (A → Data) → List A → Members → Members
entries name made [] rest = rest
entries name made (x ∷ xs) rest = member (name x) (made x) (entries name made xs rest)

-- an object of such members
abbrev pub object_of : {A : Type 0} → (A → List ℕ) → (A → Data) → List A → Data
object_of name made xs = json.object (entries name made xs no_members)

-- what stands in an object from these members on, its end included
abbrev pub inside : Members → List Token
inside members = members_tokens (members_outline members)

-- members were written: whatever comes behind them stands behind them
unfoldable pub Adds : (Members → Members) → Written → Written → Type 0
Adds members old new = (rest : Members) → new.tokens ++ inside rest ≡ old.tokens ++ inside (members rest)
