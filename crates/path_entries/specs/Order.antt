-- The order of paths, and of a path's first step beside a step that is looked for.
use Rattle.std.specs.Prelude.{◌≡◌, List, [], ◌∷◌, ⊤, Bool, false}
use Rattle.std.specs.Cmp.Lexicographic.{slice_cmp}
use Rattle.std.specs.List.{AllByRecursion}
use Rattle.std.specs.Ordering.{nat_cmp, is_gt, is_lt}
use Rattle.std.specs.declared.cmp.Ordering.{Ordering}
use Rattle.std.specs.declared.cmp.Ordering.TheVariants.{Less, Greater}
use Rattle.base_types.specs.declared.path.Step.{Step}
use Rattle.base_types.specs.declared.path.Step.TheVariants as step
use Rattle.path_entries.specs.declared.key.PathEntry.{PathEntry}
use Rattle.path_entries.specs.declared.key.Key.{Key}
use Rattle.path_entries.specs.declared.key.Key.TheVariants.{Name, Place}

-- names by their bytes, and then places by number
abbrev pub step_order : Step → Step → Ordering
step_order (step.Name n) (step.Name m) = slice_cmp nat_cmp n m
step_order (step.Name n) (step.Index b) = Less
step_order (step.Index a) (step.Name n) = Greater
step_order (step.Index a) (step.Index b) = nat_cmp a b

-- by the first different step, a proper front first
abbrev pub path_order : List Step → List Step → Ordering
path_order = slice_cmp step_order

-- an entry stands before another by their paths
abbrev pub is_before : {A : Type 0} → PathEntry A → PathEntry A → Bool
is_before e f = is_lt (path_order e.steps.now f.steps.now)

-- a step beside the one that is looked for
abbrev pub step_key_order : Key → Step → Ordering
step_key_order (Name name) (step.Name here) = slice_cmp nat_cmp here name.now
step_key_order (Name name) (step.Index here) = Greater
step_key_order (Place place) (step.Name here) = Less
step_key_order (Place place) (step.Index here) = nat_cmp here place

-- a path's first step beside the one that is looked for; no step is below
abbrev pub key_order : Key → List Step → Ordering
key_order key [] = Less
key_order key (first ∷ steps) = step_key_order key first

-- no path is above a later one
abbrev pub AreInOrder : {A : Type 0} → List (List Step × A) → Type 0
AreInOrder [] = ⊤
AreInOrder (e ∷ es) = AllByRecursion (λ f. is_gt (path_order e.0 f.0) ≡ false) es × AreInOrder es
