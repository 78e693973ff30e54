-- Pages: the rows that a cell shows to them, and what they are answered.
use Rattle.std.specs.Prelude.{◌≡◌, ℕ, List, [], Option, None, Some}
use Rattle.std.specs.List.{filter_map}
use Rattle.std.specs.Option.{option_map}
use Rattle.std.specs.Ordering.{nat_cmp}
use Rattle.std.specs.BTreeMap.{BTreeMap, IsOrdered, get}
use Rattle.std.specs.declared.cmp.Ordering.{Ordering}
use Rattle.std.specs.declared.cmp.Ord as ord
use Rattle.std.specs.declared.cmp.PartialEq as eq
use Rattle.std.specs.declared.cmp.PartialOrd as partial
use Rattle.index_feed.specs.Feed.{Feed, items_in, rows_in}
use Rattle.txn_core.specs.Answers.{page_answer}
use Rattle.txn_core.specs.Indexing.{indexed}
use Rattle.txn_core.specs.Service.{Service, Reply}
use Rattle.txn_core.specs.State.{State}
use Rattle.item_store.specs.declared.slot.Slot.{Slot}
use Rattle.item_store.specs.declared.table.TableItems.{TableItems}
use Rattle.item_store.specs.Slots.{row_of}
use Rattle.local_index.specs.declared.claim.Claim.{Claim}
use Rattle.local_index.specs.Claims.{is_committed}
use Rattle.local_index.specs.Entries.{is_among}
use Rattle.local_index.specs.Tables.{claim_in}
use Rattle.partition.specs.declared.cell.Partition.{Partition}
use Rattle.index_changes.specs.Entries.{LocalEntries, entries_at}
use Rattle.partition.specs.Holds.{Holds}
use Rattle.partition.specs.InStep.{IsInStep}
use Rattle.partition.specs.Listed.{ListsAll}

module _ {K V C N : Type 0} (L : LocalEntries K V C N) (by : K → K → Ordering) (cmp : N → N → Ordering) where
  -- the committed ones of these entries are exactly those of the committed items of a table: the claim of an entry, of the item
  -- that it names
  abbrev pub AreEntriesOf : C → BTreeMap K (Slot V) → BTreeMap N Claim → Type 0
  AreEntriesOf cat slots entries =
      (q : N)
      → is_committed (get cmp entries q) ≡ is_among cmp (entries_at L cat (L.item q) (row_of (get by slots (L.item q)))) q

  -- and so of the entries of a table that may have had none yet
  abbrev pub AreEntriesIn : C → BTreeMap K (Slot V) → Option (BTreeMap N Claim) → Type 0
  AreEntriesIn cat slots entries =
      (q : N)
      → is_committed (claim_in cmp entries q) ≡ is_among cmp (entries_at L cat (L.item q) (row_of (get by slots (L.item q)))) q

module _ {K V : Type 0} where
  -- the committed items among those that a table keeps, in the order of their keys
  abbrev pub committed_among : List (K × Slot V) → List (K × V)
  committed_among entries = filter_map (λ e. option_map (λ v. (e.0, v)) (row_of (Some e.1))) entries

  -- the rows of an index, in the order of their keys
  abbrev pub rows_of : Option (BTreeMap K V) → List (K × V)
  rows_of None = []
  rows_of (Some rows) = rows.entries

  -- their keys ascend
  abbrev pub AreRowsOrdered : (K → K → Ordering) → Option (BTreeMap K V) → Type 0
  AreRowsOrdered cmp None = Unit {0}
  AreRowsOrdered cmp (Some rows) = IsOrdered cmp rows

  module _ {O : ord.Ghosts K} {E : eq.Ghosts K} {P : partial.Ghosts K} where
    -- the committed items of a table that may have no place yet, and that their keys ascend
    abbrev pub items_of : Option (TableItems K V O E P) → List (K × V)
    items_of None = []
    items_of (Some items) = committed_among items.slots.entries

    abbrev pub AreItemsOrdered : Option (TableItems K V O E P) → Type 0
    AreItemsOrdered None = Unit {0}
    AreItemsOrdered (Some items) = IsOrdered O.cmp items.slots

module _
    {K V C : Type 0} {O : ord.Ghosts K} {E : eq.Ghosts K} {P : partial.Ghosts K}
    {N : Type 0} {X : ord.Ghosts N} {Y : eq.Ghosts N} {Z : partial.Ghosts N} where
  -- what a cell shows to a page of this table, or of this index
  abbrev pub shown_to : Partition K V C N O E P X Y Z → ℕ → Option ℕ → List (K × V)
  shown_to c table None = items_of (get nat_cmp c.items.tables table)
  shown_to c table (Some index) = rows_of (get nat_cmp c.rows.indexes index)

  -- it is in the order of keys
  abbrev pub IsShownInOrder : Partition K V C N O E P X Y Z → ℕ → Option ℕ → Type 0
  IsShownInOrder c table None = AreItemsOrdered (get nat_cmp c.items.tables table)
  IsShownInOrder c table (Some index) = AreRowsOrdered O.cmp (get nat_cmp c.rows.indexes index)

module _ {K V A F C D Q B : Type 0} (S : Service K V A F C D Q B) where
  -- the rows that a feed lists for a page of the cell: its items, or its rows of an index
  abbrev pub listed_for : Feed K V C → ℕ → Option ℕ → List (K × V)
  listed_for f i None = items_in (indexed S.core S.index) f i
  listed_for f i (Some index) = rows_in (indexed S.core S.index) f index i

  -- the answer to a page
  abbrev pub page_says : State K V A C → Feed K V C → ℕ → Q → Reply S
  page_says w f i page = page_answer (S.serves w.catalog page) (S.page w.catalog (listed_for f i (S.page_index page)) page)

  module _ {O : ord.Ghosts K} {E : eq.Ghosts K} {P : partial.Ghosts K} {N : Type 0} {X : ord.Ghosts N} {Y : eq.Ghosts N} {Z : partial.Ghosts N} where
    -- the answer to a page of this table, by what the cell shows
    abbrev pub paged : Partition K V C N O E P X Y Z → ℕ → Q → Reply S
    paged c table page = page_answer (S.serves c.catalog page) (S.page c.catalog (shown_to c table (S.page_index page)) page)

    -- of every state and feed that the cell i holds, in step, where the feed lists all that is there, the answer is this
    abbrev pub SaysPage : LocalEntries K V C N → ℕ → Partition K V C N O E P X Y Z → Q → Reply S → Type 0
    SaysPage L i c page a =
        (w : State K V A C) (f : Feed K V C) → Holds S i c w f → ListsAll (indexed S.core S.index) i f → IsInStep S L c
        → a ≡ page_says w f i page
