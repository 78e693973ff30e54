-- What `load` does: a load of many clients, and the six lines of its summary.
use Rattle.std.specs.Prelude.{◌≡◌, ◌⊎◌, ℕ, ℤ, ◌+◌, List, [], ◌∷◌, ◌++◌, Option, codes, decimal}
use Rattle.std.specs.Fmt.{signed_decimal}
use Rattle.std.specs.Io.KnownBytes.{Appends}
use Rattle.ddb_outside.specs.Writes.{AppendsFront}
use Rattle.turnstile.specs.Passes.{PassView, TurnstileView, first_passes}
use Rattle.cluster.specs.Steps.{partitions_of}
use Rattle.table_history.specs.Entries.{TableEvent}
use Rattle.table_load.specs.declared.client.Client.{Client}
use Rattle.table_load.specs.declared.end.Summary.{Summary}
use Rattle.table_load.specs.Loads.{AreClients, IsLoaded}

-- a line of a count, and one of a sum
unfoldable pub count_line : List ℕ → ℕ → List ℕ
count_line name count = name ++ codes " " ++ decimal count ++ codes "\n"

unfoldable pub sum_line : List ℕ → ℤ → List ℕ
sum_line name sum = name ++ codes " " ++ signed_decimal sum ++ codes "\n"

-- the six lines
unfoldable pub summary_text : Summary → List ℕ
summary_text summary =
    count_line (codes "accounts") summary.accounts ++ (count_line (codes "transfers") summary.transfers
    ++ (sum_line (codes "sum") summary.sum ++ (sum_line (codes "weighted") summary.weighted
    ++ (count_line (codes "index rows") summary.index_rows ++ sum_line (codes "index weighted") summary.index_weighted))))

-- they were written, or the sink failed at them, or memory was refused for them
abbrev pub TellsSummary : Summary → Option (List ℕ) → Option (List ℕ) → ℕ → Type 0
TellsSummary summary old new status =
    ((status ≡ 0) × Appends old new (summary_text summary)) ⊎ ((status ≡ 3) × AppendsFront old new (summary_text summary))
    ⊎ ((status ≡ 7) × (new ≡ old))

-- a load came to this summary: of so many clients out of so many partitions, each with a pass that had seen nothing before, and so one
-- more pass, the bank's
pub record LoadsTables (start clients count partitions : ℕ) (summary : Summary) : Type 0 where
  pub cells : TurnstileView
  pub of_all : partitions_of cells ≡ partitions
  pub passes : List (PassView TableEvent)
  pub bank : PassView TableEvent
  pub first : passes ++ bank ∷ [] ≡ first_passes cells.id (clients + 1) (clients + 1)
  pub begun : List Client
  pub are : AreClients passes begun
  pub seen : PassView TableEvent
  pub left : List Client
  pub loaded : IsLoaded partitions start count bank begun summary seen left

-- the load was done and its summary told; or nothing was written, since units were used up, memory was refused, or the gate stopped it
abbrev pub RunsLoad : ℕ → ℕ → ℕ → ℕ → Option (List ℕ) → Option (List ℕ) → ℕ → Type 0
RunsLoad start clients count partitions old new status =
    ((summary : Summary) × LoadsTables start clients count partitions summary × TellsSummary summary old new status)
    ⊎ (((status ≡ 6) ⊎ (status ≡ 7) ⊎ (status ≡ 8)) × (new ≡ old))
