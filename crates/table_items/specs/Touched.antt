-- The attributes of an item that an update writes, found among its paths in order.
use Rattle.std.specs.Prelude.{ℕ, List, map, Bool}
use Rattle.std.specs.List.{list_any}
use Rattle.base_types.specs.declared.path.Step.{Step}
use Rattle.path_entries.specs.declared.key.PathEntry.{PathEntry}
use Rattle.path_entries.specs.Entries.{begins, is_name}

-- the steps of entries that say nothing
abbrev pub steps_of : List (PathEntry (Unit {0})) → List (List Step)
steps_of entries = map (λ e. e.steps.now) entries

-- some entry begins with the name
abbrev pub has_name : List (PathEntry (Unit {0})) → List ℕ → Bool
has_name entries name = list_any (λ e. begins (is_name name) e.steps.now) entries
