-- Lists that are the same as far as both go.
use Rattle.std.specs.Prelude.{◌≡◌, ◌<◌, ℕ, List, length, slice_index_or}
use Rattle.base_types.specs.declared.path.Step.{Step}

abbrev pub Agree : List Step → List Step → Type 0
Agree p q = (k : ℕ) (d : Step) → k < length p → k < length q → slice_index_or p k d ≡ slice_index_or q k d
