-- What a call changes in the local entries of a cell.
use Rattle.std.specs.Prelude.{◌≡◌, ℕ, true, false, List, Option, if◌then◌else◌}
use Rattle.std.specs.BTreeMap.{BTreeMap, is_at}
use Rattle.std.specs.declared.cmp.Ordering.{Ordering}
use Rattle.std.specs.declared.cmp.Ord as ord
use Rattle.std.specs.declared.cmp.PartialEq as eq
use Rattle.std.specs.declared.cmp.PartialOrd as partial
use Rattle.item_store.specs.Changes.{slot_at}
use Rattle.local_index.specs.declared.claim.Claim.{Claim}
use Rattle.local_index.specs.Claims.{is_held}
use Rattle.local_index.specs.Entries.{is_among}
use Rattle.local_index.specs.Tables.{ClaimsUnder, claim_under}
use Rattle.index_changes.specs.Prepared.{Moves, moves_in, no_moves}
use Rattle.partition.specs.declared.cell.Partition.{Partition}

module _ {N : Type 0} (cmp : N → N → Ordering) where
  -- none of these entries of a table is held
  abbrev pub AreUnheld : BTreeMap ℕ (BTreeMap N Claim) → ℕ → List N → Type 0
  AreUnheld tables u es = (q : N) → is_among cmp es q ≡ true → is_held (claim_under cmp tables u q) ≡ false

  -- each entry has its own claim
  abbrev pub SameClaims : BTreeMap ℕ (BTreeMap N Claim) → BTreeMap ℕ (BTreeMap N Claim) → Type 0
  SameClaims s t = (v : ℕ) (q : N) → claim_under cmp t v q ≡ claim_under cmp s v q

module _
    {K V C : Type 0} {O : ord.Ghosts K} {E : eq.Ghosts K} {P : partial.Ghosts K}
    {N : Type 0} {X : ord.Ghosts N} {Y : eq.Ghosts N} {Z : partial.Ghosts N} where
  -- the moves of entries that are prepared for each item, where they are these for one
  abbrev pub moves_at : Partition K V C N O E P X Y Z → K → Moves N → K → Moves N
  moves_at c k m q = if is_at (O.cmp k) q then m else moves_in O.cmp c.prepared.lists q

  -- none are prepared for an item
  abbrev pub HasNoMoves : Partition K V C N O E P X Y Z → K → Type 0
  HasNoMoves c k = (q : K) → is_at (O.cmp k) q ≡ true → moves_in O.cmp c.prepared.lists q ≡ no_moves

  -- each entry of a table has afterwards the claim that this gives, each other one its own; these moves are prepared for each item
  abbrev pub MovesEntries :
      Partition K V C N O E P X Y Z → Partition K V C N O E P X Y Z → ℕ → (N → Option Claim → Option Claim) → (K → Moves N) → Type 0
  MovesEntries c d u change moves =
      ClaimsUnder X.cmp change c.locals.tables d.locals.tables u × ((q : K) → moves_in O.cmp d.prepared.lists q ≡ moves q)

  -- the items are as they were
  abbrev pub KeepsItems : Partition K V C N O E P X Y Z → Partition K V C N O E P X Y Z → Type 0
  KeepsItems c d = ((v : ℕ) (q : K) → slot_at d.items v q ≡ slot_at c.items v q) × (d.catalog ≡ c.catalog)

  -- entries and moves are as they were
  abbrev pub SameEntries : Partition K V C N O E P X Y Z → Partition K V C N O E P X Y Z → Type 0
  SameEntries c d =
      SameClaims X.cmp c.locals.tables d.locals.tables
      × ((q : K) → moves_in O.cmp d.prepared.lists q ≡ moves_in O.cmp c.prepared.lists q)
