-- What becomes of a list by all writes, place by place.
use Rattle.std.specs.Prelude.{◌≡◌, ℕ, ◌+◌, ◌-◌, ◌<◌, ◌≤◌, List, [], ◌∷◌, nat_lt, nat_le, ◌==◌, count_by, slice_get, Some}
use Rattle.std.specs.Prelude.{None, Bool, false, ◌&&◌, ◌⊎◌}
use Rattle.std.specs.List.{AllByRecursion}
use Rattle.base_types.specs.declared.path.Step.TheVariants.{Index}
use Rattle.attr_value.specs.Paths.{element_at}
use Rattle.attr_value.specs.Sizes.{count}
use Rattle.attr_value.specs.Tree.{Tree, Trees}
use Rattle.path_entries.specs.Entries.{below, is_place}
use Rattle.item_writes.specs.NewTree.{Written}
use Rattle.item_writes.specs.Edits.{element, list_with_all}

-- a write takes out the element at this place: it ends right there, and has no value
abbrev pub takes_out : ℕ → Written → Bool
takes_out place (Index here ∷ [], None) = here == place
takes_out place _ = false

-- it takes out one before this place
abbrev pub takes_out_before : ℕ → Written → Bool
takes_out_before place (Index here ∷ [], None) = nat_lt here place
takes_out_before place _ = false

-- it puts a value past the end of a list with so many elements
abbrev pub appends : ℕ → Written → Bool
appends end (Index here ∷ [], Some value) = nat_le end here
appends end _ = false

-- it does, at a place before this one
abbrev pub appends_before : ℕ → ℕ → Written → Bool
appends_before end place (Index here ∷ [], Some value) = nat_le end here && nat_lt here place
appends_before end place _ = false

-- no write takes out the element at this place
abbrev pub Stays : ℕ → List Written → Type 0
Stays place ws = AllByRecursion (λ w. takes_out place w ≡ false) ws

-- how many elements before this place are taken out
abbrev pub taken_out_before : ℕ → List Written → ℕ
taken_out_before place ws = count_by (takes_out_before place) ws

-- the place of an element that stays: lower by those before it that are taken out
abbrev pub new_place : ℕ → List Written → ℕ
new_place place ws = place - taken_out_before place ws

-- of two elements that stay the new places are in order as the old ones are
abbrev pub KeepsOrder : List Written → Type 0
KeepsOrder ws = (place later : ℕ) → place < later → Stays place ws → new_place place ws < new_place later ws

-- an element that is not taken out stands at its new place, with the writes that lead on from its old one
abbrev pub ClosesUp : Trees → List Written → Type 0
ClosesUp elements ws = (place : ℕ) (old : Tree) → element_at place elements ≡ Some old → Stays place ws
    → element_at (new_place place ws) (list_with_all elements ws) ≡ element old (below (is_place place) ws)

-- where no write begins with its place, that is the old element
abbrev pub KeepsElements : Trees → List Written → Type 0
KeepsElements elements ws = (place : ℕ) (old : Tree) → element_at place elements ≡ Some old → below (is_place place) ws ≡ []
    → element_at (new_place place ws) (list_with_all elements ws) ≡ Some old

-- where a value is written right there, that is what is written
abbrev pub PutsElements : Trees → List Written → Type 0
PutsElements elements ws = (place : ℕ) (old value : Tree) (k : ℕ) → element_at place elements ≡ Some old
    → slice_get ws k ≡ Some (Index place ∷ [], Some value)
    → element_at (new_place place ws) (list_with_all elements ws) ≡ Some value

-- the place of a value that is written past the end: behind all that stay and behind those that are written past it before
abbrev pub appended_place : Trees → ℕ → List Written → ℕ
appended_place elements place ws = new_place (count elements) ws + count_by (appends_before (count elements) place) ws

-- what is written past the end stands there
abbrev pub AppendsInOrder : Trees → List Written → Type 0
AppendsInOrder elements ws =
    (place : ℕ) (value : Tree) (k : ℕ) → count elements ≤ place → slice_get ws k ≡ Some (Index place ∷ [], Some value)
    → element_at (appended_place elements place ws) (list_with_all elements ws) ≡ Some value

-- an element that is not taken out has this new place
abbrev pub StaysAt : Trees → List Written → ℕ → Type 0
StaysAt elements ws spot = (place : ℕ) × (place < count elements) × Stays place ws × (new_place place ws ≡ spot)

-- the value is written past the end
abbrev pub IsAppended : Trees → List Written → Tree → Type 0
IsAppended elements ws value =
    (place : ℕ) × (k : ℕ) × (count elements ≤ place) × (slice_get ws k ≡ Some (Index place ∷ [], Some value))

-- nothing else stands in the new list
abbrev pub HasNothingElse : Trees → List Written → Type 0
HasNothingElse elements ws = (spot : ℕ) (t : Tree) → element_at spot (list_with_all elements ws) ≡ Some t
    → StaysAt elements ws spot ⊎ IsAppended elements ws t

-- it has as many elements as stay and as are written past the end
abbrev pub HasAsMany : Trees → List Written → Type 0
HasAsMany elements ws =
    count (list_with_all elements ws) ≡ new_place (count elements) ws + count_by (appends (count elements)) ws
