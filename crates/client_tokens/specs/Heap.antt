-- The order of the entries: a binary heap by the moments at which they are due.
use Rattle.std.specs.Prelude.{◌≢◌, ℕ, ◌+◌, ◌*◌, ◌<◌, ◌≤◌, List, [], map, length, slice_get, slice_index, String}
use Rattle.std.specs.String.{string_bytes}
use Rattle.std.specs.Option.{option_map_or}
use Rattle.client_tokens.specs.declared.kept.Kept.{Kept}
use Rattle.client_tokens.specs.Kept.{due}

-- when each entry is due
abbrev pub dues : {K A : Type 0} → List (K × Kept A) → List ℕ
dues entries = map (λ e. due e.1) entries

-- the token of the entry at a place
abbrev pub token_at : {Y X : Type 0} → List (String Y × X) → ℕ → List ℕ
token_at entries place = option_map_or (λ e. string_bytes e.0) (slice_get entries place) []

-- nothing is due before what stands above it: the number at p stands above those at 2p + 1 and 2p + 2
abbrev pub IsHeap : List ℕ → Type 0
IsHeap ns = (p k : ℕ) → 2 * p + 1 ≤ k → k ≤ 2 * p + 2 → k < length ns → slice_index ns p ≤ slice_index ns k

-- the same with the number at j left out, where what stands above j isn't later than what stands below j
pub record IsHeapBut (ns : List ℕ) (j : ℕ) : Type 0 where
  pub others : (p k : ℕ) → 2 * p + 1 ≤ k → k ≤ 2 * p + 2 → k < length ns → p ≢ j → k ≢ j → slice_index ns p ≤ slice_index ns k
  pub across : (p k : ℕ) → 2 * p + 1 ≤ j → j ≤ 2 * p + 2 → 2 * j + 1 ≤ k → k ≤ 2 * j + 2 → k < length ns → slice_index ns p ≤ slice_index ns k

-- the number at j isn't before the one above it
abbrev pub IsNotBeforeParent : List ℕ → ℕ → Type 0
IsNotBeforeParent ns j = (p : ℕ) → 2 * p + 1 ≤ j → j ≤ 2 * p + 2 → slice_index ns p ≤ slice_index ns j

-- the number at c isn't later than any of those below j
abbrev pub IsEarliestChild : List ℕ → ℕ → ℕ → Type 0
IsEarliestChild ns j c = (k : ℕ) → 2 * j + 1 ≤ k → k ≤ 2 * j + 2 → k < length ns → slice_index ns c ≤ slice_index ns k
