-- What holds of the feed in every legal list of events.
use Rattle.std.specs.Prelude.{◌≡◌, ℕ, ◌≤◌, true, false, List, [], ◌∷◌, Option, None, Some, is_some}
use Rattle.std.specs.List.{list_any}
use Rattle.std.specs.declared.cmp.Ordering.TheVariants.{Less}
use Rattle.index_feed.specs.declared.change.Change.{Change}
use Rattle.index_feed.specs.Feed.{Each, Out, Indexed, Feed, items_in, rows_in, Event, Peeks, Feeds, Acks, served, overlay, feed, due, WasSent, IsLegal, WasDue}

module _ {K V C : Type 0} (I : Indexed K V C) where
  -- each row of an index is its item's projection at a prefix
  abbrev pub IndexRowsProject : Type 0
  IndexRowsProject =
      (c : C) (es : List (Event K V C)) → IsLegal I c es → (g : ℕ) (q : K) (r : V)
      → (feed I c es).shown g q ≡ Some r → WasDue I c es g q r

  -- every item, and every index row, stands in the list of its cell
  pub record AreListed (f : Feed K V C) : Type 0 where
    pub items : (k : K) → is_some (f.row k) ≡ true → list_any (λ x. I.same x k) (f.keys (I.cell_of k)) ≡ true
    pub rows : (g : ℕ) (q : K) → is_some (f.shown g q) ≡ true → list_any (λ x. I.same x q) (f.row_keys (I.cell_of q)) ≡ true

  -- each key is below those after it
  abbrev pub AreInOrder : List (K × V) → Type 0
  AreInOrder [] = Unit {0}
  AreInOrder (r ∷ rows) = Each (λ (s : K × V). I.cmp r.0 s.0 ≡ Less) rows × AreInOrder rows

  -- the rows at keys of one cell, all of them, each once and in the order of keys
  pub record IsListOf (i : ℕ) (row : K → Option V) (rows : List (K × V)) : Type 0 where
    pub each : Each (λ (r : K × V). (I.cell_of r.0 ≡ i) × (row r.0 ≡ Some r.1)) rows
    pub all : (k : K) → I.cell_of k ≡ i → is_some (row k) ≡ true → list_any (λ (r : K × V). I.same r.0 k) rows ≡ true
    pub in_order : AreInOrder rows

  -- a cell's lists are of its items, and of its rows of each index
  abbrev pub ItemsAreListed : Type 0
  ItemsAreListed =
      (c : C) (es : List (Event K V C)) → IsLegal I c es → (i : ℕ) → IsListOf i (feed I c es).row (items_in I (feed I c es) i)

  abbrev pub IndexRowsAreListed : Type 0
  IndexRowsAreListed =
      (c : C) (es : List (Event K V C)) → IsLegal I c es → (g i : ℕ)
      → IsListOf i ((feed I c es).shown g) (rows_in I (feed I c es) g i)

  abbrev pub RowsAreListed : Type 0
  RowsAreListed = (c : C) (es : List (Event K V C)) → IsLegal I c es → AreListed (feed I c es)

  -- an index's row, after the changes that wait in the outbox of its item, is its item's projection
  abbrev pub WhatWaitsCompletes : Type 0
  WhatWaitsCompletes =
      (c : C) (es : List (Event K V C)) → IsLegal I c es → (g : ℕ) (q : K)
      → served I (feed I c es).catalog g (I.item_of q) ≡ true
      → overlay I ((feed I c es).outbox (I.cell_of (I.item_of q))) g q ((feed I c es).shown g q) ≡ due I (feed I c es) g q

  -- an index that is gone has no rows, and never gets one
  abbrev pub NoneServedNoRow : Type 0
  NoneServedNoRow =
      (c : C) (es : List (Event K V C)) → IsLegal I c es → (g : ℕ) (q : K)
      → served I (feed I c es).catalog g (I.item_of q) ≡ false → (feed I c es).shown g q ≡ None

  -- where every outbox is empty each index has exactly the rows that it should have
  abbrev pub DrainedIsProjection : Type 0
  DrainedIsProjection =
      (c : C) (es : List (Event K V C)) → IsLegal I c es → ((i : ℕ) → (feed I c es).outbox i ≡ []) → (g : ℕ) (q : K)
      → (feed I c es).shown g q ≡ due I (feed I c es) g q

  -- an ApplyIndex after one of the same source and sequence changes nothing, however late
  abbrev pub RepeatsChangeNothing : Type 0
  RepeatsChangeNothing =
      (c : C) (es : List (Event K V C)) (i s : ℕ) (x : Change K V) → IsLegal I c (Feeds i s x ∷ es)
      → WasSent I es i s → feed I c (Feeds i s x ∷ es) ≡ feed I c es

  -- nor does an Ack of a sequence that was acknowledged
  abbrev pub AcksChangeOnce : Type 0
  AcksChangeOnce =
      (c : C) (es : List (Event K V C)) (i s : ℕ) → s ≤ (feed I c es).sent i
      → feed I c (Acks i s ∷ es) ≡ feed I c es

  -- what should be there is the same before and after every message of the feed
  pub record LeaveItems (c : C) (es : List (Event K V C)) : Type 0 where
    pub peeks :
        (i : ℕ) (o : Option (Out K V)) (g : ℕ) (q : K)
        → due I (feed I c (Peeks i o ∷ es)) g q ≡ due I (feed I c es) g q
    pub feeds :
        (i s : ℕ) (x : Change K V) (g : ℕ) (q : K)
        → due I (feed I c (Feeds i s x ∷ es)) g q ≡ due I (feed I c es) g q
    pub acks : (i s : ℕ) (g : ℕ) (q : K) → due I (feed I c (Acks i s ∷ es)) g q ≡ due I (feed I c es) g q

  abbrev pub FeedsLeaveItems : Type 0
  FeedsLeaveItems = (c : C) (es : List (Event K V C)) → LeaveItems c es
