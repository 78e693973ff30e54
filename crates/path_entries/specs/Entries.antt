-- Steps with something at their end, and those that lead on behind a step.
use Rattle.std.specs.Prelude.{ℕ, List, [], ◌∷◌, map, Bool, false, ◌==◌, bytes_eq, if◌then◌else◌, Option, Some, None}
use Rattle.base_types.specs.declared.path.Step.{Step}
use Rattle.base_types.specs.declared.path.Step.TheVariants as step
use Rattle.path_entries.specs.declared.key.PathEntry.{PathEntry}
use Rattle.path_entries.specs.declared.key.Key.{Key}
use Rattle.path_entries.specs.declared.key.Key.TheVariants.{Name, Place}

abbrev pub is_name : List ℕ → Step → Bool
is_name name (step.Name here) = bytes_eq here name
is_name name (step.Index here) = false

abbrev pub is_place : ℕ → Step → Bool
is_place place (step.Name here) = false
is_place place (step.Index here) = here == place

abbrev pub passes : Key → Step → Bool
passes (Name name) = is_name name.now
passes (Place place) = is_place place

-- there is a first step, and it passes
abbrev pub begins : (Step → Bool) → List Step → Bool
begins test [] = false
begins test (first ∷ steps) = test first

-- what is behind the first step, where that passes
abbrev pub behind : {A : Type 0} → (Step → Bool) → List Step → A → Option (List Step × A)
behind test [] value = None
behind test (first ∷ steps) value = if test first then Some (steps, value) else None

abbrev pub or_rest : {A : Type 0} → Option A → List A → List A
or_rest None rest = rest
or_rest (Some x) rest = x ∷ rest

-- the entries behind a step that passes
abbrev pub below : {A : Type 0} → (Step → Bool) → List (List Step × A) → List (List Step × A)
below test [] = []
below test (e ∷ es) = or_rest (behind test e.0 e.1) (below test es)

-- the entries of the code
abbrev pub entry_of : {A : Type 0} → PathEntry A → List Step × A
entry_of e = (e.steps.now, e.value)

abbrev pub entries_of : {A : Type 0} → List (PathEntry A) → List (List Step × A)
entries_of es = map entry_of es
