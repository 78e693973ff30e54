-- The keys that a cell lists are in order, and none is left out.
use Rattle.std.specs.Prelude.{◌≡◌, ℕ, true, List, Option, is_some}
use Rattle.std.specs.List.{list_any}
use Rattle.std.specs.List.Sorted.{IsStrictlySortedBy}
use Rattle.index_feed.specs.Feed.{Each, Feed, Indexed}

module _ {K V C : Type 0} (I : Indexed K V C) where
  -- the keys are of the cell and ascend, and each key of the cell at which something stands is among them
  pub record AreAllOf (i : ℕ) (row : K → Option V) (ks : List K) : Type 0 where
    pub homes : Each (λ k. I.cell_of k ≡ i) ks
    pub rise : IsStrictlySortedBy I.cmp ks
    pub all : (k : K) → I.cell_of k ≡ i → is_some (row k) ≡ true → list_any (λ x. I.same x k) ks ≡ true

  -- a feed lists all items of the cell, and all its rows of each index
  pub record ListsAll (i : ℕ) (f : Feed K V C) : Type 0 where
    pub items : AreAllOf i f.row (f.keys i)
    pub rows : (g : ℕ) → AreAllOf i (f.shown g) (f.row_keys i)
