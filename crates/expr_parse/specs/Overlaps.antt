-- Paths of which one begins the other.
use Rattle.std.specs.Prelude.{◌≡◌, ◌+◌, ◌<◌, ◌⊎◌, ℕ, List, ◌++◌, Some, map, slice_get}
use Rattle.std.specs.Borrow.{Bor}
use Rattle.base_types.specs.declared.path.DocPath.{DocPath}
use Rattle.base_types.specs.declared.path.Step.{Step}

-- the steps of the first begin the second's
abbrev pub Begins : DocPath → DocPath → Type 0
Begins p q = (more : List Step) × (p.steps ++ more ≡ q.steps)

-- one begins the other
abbrev pub Overlap : DocPath → DocPath → Type 0
Overlap p q = Begins p q ⊎ Begins q p

-- two of the paths, at different places, of which one begins the other
pub record HaveOverlap (paths : List DocPath) : Type 0 where
  pub i : ℕ
  pub j : ℕ
  pub p : DocPath
  pub q : DocPath
  pub apart : i < j
  pub first : slice_get paths i ≡ Some p
  pub second : slice_get paths j ≡ Some q
  pub overlap : Overlap p q

-- two neighbours of which one begins the other
pub record SomeNeighbours (paths : List DocPath) : Type 0 where
  pub place : ℕ
  pub p : DocPath
  pub q : DocPath
  pub first : slice_get paths place ≡ Some p
  pub second : slice_get paths (place + 1) ≡ Some q
  pub overlap : Overlap p q

-- what is lent
abbrev pub pointees : List (Bor DocPath) → List DocPath
pointees paths = map (λ path. path.now) paths
