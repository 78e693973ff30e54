-- What holds of every item, and of the ledger, after every run.
use Rattle.std.proofs.Common.{◌≡◌, ◌≢◌, ℕ, ◌<◌, ◌≤◌, true, false, None, Some}
use Rattle.txn_core.specs.declared.fate.Fate.TheVariants.{Undecided, Committed}
use Rattle.txn_core.specs.Stamps.{earlier, IsBy}
use Rattle.txn_core.specs.declared.outcome.Outcome.TheVariants.{New}
use Rattle.txn_core.specs.Protocol.{Protocol}
use Rattle.txn_core.specs.State.{Pending, Spot, Tally, Ledger, State, holder, last, action_on, touches}

pub record GoodSpot {K V A F C D : Type 0} (P : Protocol K V A F C D) (l : Ledger A) (cat : C) (c : Tally) (q : K) (s : Spot V) : Type 0 where
  -- a pending is of a begun transaction that has an action on the item, carries its stamp, and holds that action's outcome
  pub drawn : (p : Pending V) → s.pend ≡ Some p → p.number < l.next
  pub stamped : (p : Pending V) → s.pend ≡ Some p → p.stamp ≡ l.stamp p.number
  pub named : (p : Pending V) → s.pend ≡ Some p → touches P l p.number q ≡ true
  pub image : (p : Pending V) (a : A) → s.pend ≡ Some p → action_on P l p.number q ≡ Some a → P.act cat a s.row ≡ New p.image
  pub alive : (p : Pending V) → s.pend ≡ Some p → P.there cat q ≡ true
  -- it was not applied yet, and what was applied on the item was earlier
  pub once : (p : Pending V) → s.pend ≡ Some p → s.applied p.number ≡ false
  pub above : (p : Pending V) (n : ℕ) → s.pend ≡ Some p → s.applied n ≡ true → earlier (l.stamp n) p.stamp ≡ true
  -- until its commit the row is the item of the tables; from then on its image is
  pub open_ : (p : Pending V) → s.pend ≡ Some p → l.fate p.number ≢ Committed → s.row ≡ s.tab
  pub veiled : (p : Pending V) → s.pend ≡ Some p → l.fate p.number ≡ Committed → (s.tab ≡ p.image) × (s.row ≡ s.base p.number)
  pub free : s.pend ≡ None → s.row ≡ s.tab
  -- a committed transaction holds the item until it is applied, an accepted one until it is decided
  pub waits : (n : ℕ) → l.fate n ≡ Committed → touches P l n q ≡ true → s.applied n ≡ false → holder s.pend ≡ Some n
  pub settled : (n : ℕ) → s.applied n ≡ true → l.fate n ≡ Committed
  pub ready : (n : ℕ) → l.fate n ≡ Undecided → s.accepted n ≡ true → holder s.pend ≡ Some n
  pub finished : (n : ℕ) → l.done n ≡ true → l.fate n ≡ Committed → touches P l n q ≡ true → s.applied n ≡ true
  -- no transaction was applied at a stamp after the item's last
  pub late : (n : ℕ) → P.there cat q ≡ true → s.applied n ≡ true → IsBy (l.stamp n) (last c s)
  -- an item of a table that is not drawn yet, and of one that is gone
  pub unborn : P.drawn cat < P.table q → (s.pend ≡ None) × ((n : ℕ) → s.applied n ≡ false)
  pub absent : P.there cat q ≡ false → s.row ≡ None

pub record Good {K V A F C D : Type 0} (P : Protocol K V A F C D) (w : State K V A C) : Type 0 where
  pub spots : (q : K) → GoodSpot P w.ledger w.catalog (w.cell (P.cell_of q)) q (w.spot q)
  pub alike : (x y : K) → P.same x y ≡ true → w.spot x ≡ w.spot y
  pub decided : (n : ℕ) → w.ledger.done n ≡ true → w.ledger.fate n ≢ Undecided
  pub ended : (n : ℕ) → w.ledger.gone n ≡ true → w.ledger.done n ≡ true
  pub fresh : (n : ℕ) → w.ledger.next ≤ n → w.ledger.fate n ≡ Undecided
