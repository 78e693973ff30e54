-- The trees that legacy parameters stand for. Values are named by their places, from the place of the first one on.
use Rattle.std.specs.Prelude.{ℕ, ◌+◌, List, [], ◌∷◌, ◌++◌, length, map, Bool, true, false, Option, None, Some}
use Rattle.std.specs.List.{range_with_len}
use Rattle.std.specs.Option.{option_to_list, is_some}
use Rattle.base_types.specs.declared.path.DocPath.{DocPath}
use Rattle.base_types.specs.declared.path.Step.TheVariants.{Name}
use Rattle.expr_words.specs.declared.tree.Operand.TheVariants.{Path, Value}
use Rattle.expr_words.specs.Trees.{Tree, Disjunction, Conjunction, Negation, Compared, Range, Choice, Presence, Absence, FrontTest, PartTest, OfValue, Alone}
use Rattle.expr_parse.specs.UpdateTree.{UpdateTree}
use Rattle.legacy_params.specs.declared.part.LegacyTest.{LegacyTest}
use Rattle.legacy_params.specs.declared.part.LegacyChange.{LegacyChange}
use Rattle.legacy_params.specs.declared.operator.Operator.{Operator}
use Rattle.legacy_params.specs.declared.operator.Operator.TheVariants.{Compare, Exists, Absent, Contains, NotContains, BeginsWith, Among, Between}
use Rattle.legacy_params.specs.declared.operator.Action.{Action}
use Rattle.legacy_params.specs.declared.operator.Action.TheVariants.{Put, Add, Delete}
use Rattle.legacy_params.specs.Tests.{values_of, asked}
use Rattle.legacy_params.specs.Changes.{done}

-- the path of an attribute
abbrev pub path_to : List ℕ → DocPath
path_to name = record { steps = Name name ∷ [] }

-- ---- tests

-- what an operator asks of a path, with so many values from a place on
abbrev pub asked_of : Operator → DocPath → ℕ → ℕ → Tree
asked_of (Compare op) path first count = Compared op (Path path) (Value first)
asked_of Exists path first count = Presence path
asked_of Absent path first count = Absence path
asked_of Contains path first count = PartTest (Path path) (Value first)
asked_of NotContains path first count = Negation (PartTest (Path path) (Value first))
asked_of BeginsWith path first count = FrontTest (Path path) (Value first)
asked_of Among path first count = Choice (Path path) (map (λ place. Value place) (range_with_len first count))
asked_of Between path first count = Range (Path path) (Value first) (Value (first + 1))

-- what a test asks
abbrev pub part_of : ℕ → LegacyTest → Tree
part_of first t = asked_of (asked t) (path_to t.name) first (length (values_of t))

abbrev pub parts_of : ℕ → List LegacyTest → List Tree
parts_of first [] = []
parts_of first (t ∷ ts) = part_of first t ∷ parts_of (first + length (values_of t)) ts

abbrev pub join : Bool → Tree → Tree → Tree
join true = Disjunction
join false = Conjunction

-- a part behind what is there so far
abbrev pub joined_to : Bool → Option Tree → Tree → Tree
joined_to any None part = part
joined_to any (Some left) part = join any left part

-- all parts, joined from the left by OR or by AND
abbrev pub joined : Bool → Option Tree → List Tree → Option Tree
joined any left [] = left
joined any left (part ∷ parts) = joined any (Some (joined_to any left part)) parts

-- what all tests ask; no test is no condition
abbrev pub condition_of : Bool → ℕ → List LegacyTest → Option Tree
condition_of any first ts = joined any None (parts_of first ts)

-- ---- changes

abbrev pub nothing : UpdateTree
nothing = record { sets = []; removes = []; adds = []; deletes = [] }

-- what an action does to what stands at a path, with the value of a place or without one
abbrev pub done_at : Action → DocPath → ℕ → Bool → UpdateTree
done_at Put path place has_value = record nothing { sets = record { path = path; sum = Alone (OfValue place) } ∷ [] }
done_at Add path place has_value = record nothing { adds = record { path = path; value = place } ∷ [] }
done_at Delete path place false = record nothing { removes = path ∷ [] }
done_at Delete path place true = record nothing { deletes = record { path = path; value = place } ∷ [] }

-- what a change does
abbrev pub change_of : ℕ → LegacyChange → UpdateTree
change_of first c = done_at (done c) (path_to c.name) first (is_some c.value)

-- clause by clause, what the first lists before what the second does
abbrev pub followed : UpdateTree → UpdateTree → UpdateTree
followed u v = record { sets = u.sets ++ v.sets; removes = u.removes ++ v.removes; adds = u.adds ++ v.adds; deletes = u.deletes ++ v.deletes }

-- what all changes do
abbrev pub changed : ℕ → List LegacyChange → UpdateTree
changed first [] = nothing
changed first (c ∷ cs) = followed (change_of first c) (changed (first + length (option_to_list c.value)) cs)

-- the same; no change is no update
abbrev pub update_of : ℕ → List LegacyChange → Option UpdateTree
update_of first [] = None
update_of first (c ∷ cs) = Some (changed first (c ∷ cs))
