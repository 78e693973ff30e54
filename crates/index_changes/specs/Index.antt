-- What a change of an item queues for one index.
use Rattle.std.specs.Prelude.{ℕ, List, Option}
use Rattle.index_feed.specs.declared.change.Change.{Change}
use Rattle.index_feed.specs.Feed.{change_of, row_in}
use Rattle.txn_core.specs.Indexing.{indexed}
use Rattle.txn_core.specs.Service.{Service}

-- what takes the item's row in an index from the old one to the new one
abbrev pub changes_in :
    {K V A F C D Q B : Type 0} → Service K V A F C D Q B → C → K → Option V → Option V → ℕ → List (Change K V)
changes_in S cat k old new g =
    change_of (indexed S.core S.index) g (row_in (indexed S.core S.index) cat g k old) (row_in (indexed S.core S.index) cat g k new)
