-- What the feed of indexes needs to know of tables: the order of keys and the index rows of items.
use Rattle.std.specs.Prelude.{◌≡◌, ◌⊎◌, ℕ, ◌<◌, Bool, true, List, Option, is_some}
use Rattle.std.specs.List.{list_any}
use Rattle.std.specs.declared.cmp.Ordering.{Ordering}
use Rattle.index_feed.specs.declared.change.Row.{Row}
use Rattle.index_feed.specs.Feed.{Indexed, served, IsLawful as IsFeedLawful}
use Rattle.txn_core.specs.Protocol.{Protocol}

-- K: which item, or which row of an index; V: what it holds; C: the catalog of tables; D: a change of it
pub record Indexing (K V C D : Type 0) : Type 0 where
  -- the order of keys
  pub cmp : K → K → Ordering
  -- both hold the same
  pub equal : V → V → Bool
  -- the item that an index row is of
  pub item_of : K → K
  -- the numbers of the indexes of an item's table, ascending
  pub indexes : C → K → List ℕ
  -- an item's row in an index, where it has one
  pub row_of : C → ℕ → K → V → Option (Row K V)
  -- the keys of the items that a command brings with a new table
  pub brings : D → C → List K

module _ {K V A F C D : Type 0} (P : Protocol K V A F C D) (X : Indexing K V C D) where
  -- the same, with keys, cells and numbers as the protocol has them
  abbrev pub indexed : Indexed K V C
  indexed =
      record {
        same = P.same;
        cmp = X.cmp;
        equal = X.equal;
        cell_of = P.cell_of;
        item_of = X.item_of;
        indexes = X.indexes;
        row_of = X.row_of;
        drawn = P.drawn;
      }

  -- keys are in a total order and rows name their items; the number of an index never comes again
  pub record IsIndexingLawful : Type 0 where
    pub feed : IsFeedLawful indexed
    pub alike : (v : V) → X.equal v v ≡ true
    -- an index that is there is of a table that is there
    pub there : (c : C) (g : ℕ) (k : K) → served indexed c g k ≡ true → P.there c k ≡ true
    -- an index that a command brings has a number that was not drawn before, and one that stays is as it was
    pub comes :
        (d : D) (moment : ℕ) (c : C) (g : ℕ) (k : K) → served indexed (P.change d moment c) g k ≡ true
        → (served indexed c g k ≡ true) ⊎ (P.drawn c < g)
    pub steady :
        (d : D) (moment : ℕ) (c : C) (g : ℕ) (k : K) (v : V) → served indexed (P.change d moment c) g k ≡ true
        → served indexed c g k ≡ true → X.row_of (P.change d moment c) g k v ≡ X.row_of c g k v
    pub brings :
        (d : D) (c : C) (k : K) → is_some (P.adds d c k) ≡ true → list_any (λ x. P.same x k) (X.brings d c) ≡ true
