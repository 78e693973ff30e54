-- What an item queues for one index that may be new.
use Rattle.std.specs.Prelude.{ℕ, List, [], Option, None, if◌then◌else◌}
use Rattle.index_feed.specs.declared.change.Change.{Change}
use Rattle.index_feed.specs.Feed.{change_of, row_in}
use Rattle.txn_core.specs.Indexing.{indexed}
use Rattle.txn_core.specs.Service.{Service}
use Rattle.index_changes.specs.Commands.{is_in}

-- its row there, where the index is not one of these
abbrev pub founded_for :
    {K V A F C D Q B : Type 0} → Service K V A F C D Q B → List ℕ → C → K → Option V → ℕ → List (Change K V)
founded_for S old next k now g =
    if is_in old g then [] else change_of (indexed S.core S.index) g None (row_in (indexed S.core S.index) next g k now)
