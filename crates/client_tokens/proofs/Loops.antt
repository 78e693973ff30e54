-- What the loops that move an entry keep.
use Rattle.std.proofs.Common.{◌≡◌, ℕ, ◌<◌, String, length}
use Rattle.std.specs.HashMap.{HashMap}
use Rattle.client_tokens.specs.declared.kept.Kept.{Kept}
use Rattle.client_tokens.specs.Heap.{dues, IsHeap, IsHeapBut, IsNotBeforeParent}
use Rattle.client_tokens.specs.TokenMap.{token_map, purged}

-- the entries are those of old, and all but the one at `at` stand in order
pub record Moves {Y A S : Type 0} (old new : HashMap (String Y) (Kept A) S) (at : ℕ) : Type 0 where
  pub within : at < length new.entries
  pub others : IsHeapBut (dues new.entries) at
  pub same : token_map new.entries ≡ token_map old.entries
  pub len : length new.entries ≡ length old.entries

-- and the entry at `at` isn't due before the one above it
pub record MovesDown {Y A S : Type 0} (old new : HashMap (String Y) (Kept A) S) (at : ℕ) : Type 0 where
  pub moves : Moves old new at
  pub above : IsNotBeforeParent (dues new.entries) at

-- the entries of new are in order, and with the expired ones taken out they are what those of old are
pub record Purges {Y A S : Type 0} (moment : ℕ) (old new : HashMap (String Y) (Kept A) S) : Type 0 where
  pub ordered : IsHeap (dues new.entries)
  pub same : purged (token_map new.entries) moment ≡ purged (token_map old.entries) moment
