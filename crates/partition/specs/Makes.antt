-- What an action makes of its item, and what that makes of indexes.
use Rattle.std.specs.Prelude.{◌≡◌, Option, None, Some}
use Rattle.std.specs.declared.cmp.Ord as ord
use Rattle.std.specs.declared.cmp.PartialEq as eq
use Rattle.std.specs.declared.cmp.PartialOrd as partial
use Rattle.index_feed.specs.Feed.{changes}
use Rattle.txn_core.specs.declared.outcome.Outcome.TheVariants.{New}
use Rattle.txn_core.specs.Indexing.{indexed}
use Rattle.txn_core.specs.Service.{Service}
use Rattle.item_store.specs.Slots.{holder_of, row_of}
use Rattle.index_changes.specs.declared.change.IndexChanges.{IndexChanges}
use Rattle.index_changes.specs.Prepared.{moves_of}
use Rattle.index_changes.specs.Entries.{LocalEntries, moves_by}
use Rattle.partition.specs.declared.cell.Partition.{Partition}
use Rattle.partition.specs.Knows.{kept_at, outcome_at}

module _ {K V A F C D Q B N : Type 0} (S : Service K V A F C D Q B) (L : LocalEntries K V C N) where
  -- the changes of rows are those that an item's change from the one to the other makes, and so are the moves of local entries
  pub record Makes (cat : C) (k : K) (old new : Option V) (made : IndexChanges K V N) : Type 0 where
    pub rows : made.rows.items ≡ changes (indexed S.core S.index) cat k old new
    pub moves : moves_of (Some made) ≡ moves_by L cat k old new

  -- nobody holds an action's item in a cell, the action makes it this, and these are what that makes of indexes
  pub record MakesItem
      {O : ord.Ghosts K} {E : eq.Ghosts K} {P : partial.Ghosts K} {X : ord.Ghosts N} {Y : eq.Ghosts N} {Z : partial.Ghosts N}
      (c : Partition K V C N O E P X Y Z) (action : A) (item : Option V) (made : IndexChanges K V N) : Type 0 where
    pub free : holder_of (kept_at S c (S.core.key_of action)) ≡ None
    pub new : outcome_at S c action ≡ New item
    pub indexes : Makes c.catalog (S.core.key_of action) (row_of (kept_at S c (S.core.key_of action))) item made
