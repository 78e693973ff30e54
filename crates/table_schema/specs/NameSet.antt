-- Sets of names.
use Rattle.std.specs.Prelude.{ℕ, Bool, true, not, ◌&&◌, List, [], ◌∷◌, map, IsTrue}
use Rattle.std.specs.Borrow.{Bor}
use Rattle.std.specs.BTreeSet.{BTreeSet}
use Rattle.std.specs.Cmp.Lexicographic.{slice_cmp}
use Rattle.std.specs.List.{list_any}
use Rattle.std.specs.Ordering.{nat_cmp, is_eq}

-- the names of a set
abbrev pub names_in : BTreeSet (Bor (List ℕ)) → List (List ℕ)
names_in names = map (λ name. name.now) names.keys

-- whether two names are the same
abbrev pub is_same : List ℕ → List ℕ → Bool
is_same name other = is_eq (slice_cmp nat_cmp name other)

-- whether the name is among these
abbrev pub has : List (List ℕ) → List ℕ → Bool
has names name = list_any (is_same name) names

-- whether the items' names are neither among these nor twice among themselves
abbrev pub are_new : {T : Type 0} → (T → List ℕ) → List (List ℕ) → List T → Bool
are_new name_of names [] = true
are_new name_of names (item ∷ items) = not (has names (name_of item)) && are_new name_of (name_of item ∷ names) items

-- each of the names is among the others
abbrev pub IsWithin : List (List ℕ) → List (List ℕ) → Type 0
IsWithin names others = (n : List ℕ) → IsTrue (has names n) → IsTrue (has others n)
