-- Paths of which none begins another.
use Rattle.std.specs.Prelude.{◌≡◌, List, [], ◌∷◌, map, Bool, true, false, ◌&&◌, ⊤}
use Rattle.std.specs.List.{AllByRecursion}
use Rattle.base_types.specs.declared.path.Step.{Step}
use Rattle.base_types.specs.declared.path.Step.TheVariants.{Name, Index}
use Rattle.path_entries.specs.Entries.{is_name, is_place}
use Rattle.item_writes.specs.NewTree.{Written}

abbrev pub same_step : Step → Step → Bool
same_step (Name name) step = is_name name step
same_step (Index place) step = is_place place step

-- one path begins the other
abbrev pub overlap : List Step → List Step → Bool
overlap [] q = true
overlap (s ∷ p) [] = true
overlap (s ∷ p) (t ∷ q) = same_step s t && overlap p q

-- no path begins a later one, and none begins an earlier one
abbrev pub AreApart : List (List Step) → Type 0
AreApart [] = ⊤
AreApart (p ∷ ps) = AllByRecursion (λ q. overlap p q ≡ false) ps × AreApart ps

abbrev pub paths_of : List Written → List (List Step)
paths_of ws = map (λ w. w.0) ws
