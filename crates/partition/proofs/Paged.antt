-- What a cell shows to a page is what the feed lists for it.
use Rattle.std.proofs.Common.{◌≡◌, ℕ, nat_eq, ◌&&◌, Bool, true, false, if◌then◌else◌, cond, filter, List, [], ◌∷◌, Option, None, Some, Equal, refl, sym, ap, ◌∙◌, subst}
use Rattle.std.specs.Prelude.{T}
use Rattle.std.specs.List.Sorted.{IsStrictlySortedBy}
use Rattle.std.specs.Cmp.{IsTotalOrder}
use Rattle.std.specs.FinMap.Entries.{find, find-where_key, is_sorted, is_sorted-where_key, same_entries}
use Rattle.std.specs.Map.{keys_of}
use Rattle.std.specs.Ordering.{is_eq, nat_cmp}
use Rattle.std.specs.BTreeMap.{BTreeMap, get}
use Rattle.std.specs.declared.cmp.Ord as ord
use Rattle.std.specs.declared.cmp.PartialEq as eq
use Rattle.std.specs.declared.cmp.PartialOrd as partial
use Rattle.std.specs.declared.cmp.Ordering.{Ordering}
use Rattle.std.proofs.lemmas.Bool.{eqb-true}
use Rattle.index_feed.specs.Feed.{Feed, items_in, rows_in}
use Rattle.txn_core.specs.Answers.{page_answer}
use Rattle.txn_core.specs.Feeding.{feed_after, rows_for}
use Rattle.txn_core.specs.Indexing.{indexed}
use Rattle.txn_core.specs.Legal.{page_after, state}
use Rattle.txn_core.specs.Service.{Service, History, IsServiceLawful, Reply}
use Rattle.txn_core.specs.State.{State}
use Rattle.item_store.specs.declared.slot.Slot.{Slot}
use Rattle.item_store.specs.declared.table.TableItems.{TableItems}
use Rattle.item_store.specs.Slots.{row_of}
use Rattle.item_store.specs.Tables.{slot_in}
use Rattle.global_index.specs.Rows.{row_in}
use Rattle.partition.specs.declared.cell.Partition.{Partition}
use Rattle.local_index.specs.Entries.{is_among}
use Rattle.index_changes.specs.Entries.{LocalEntries, entries_at}
use Rattle.partition.specs.Holds.{Holds, slot_for}
use Rattle.partition.specs.InStep.{IsInStep}
use Rattle.partition.specs.Listed.{ListsAll}
use Rattle.partition.specs.Pages.{AreEntriesIn, AreItemsOrdered, AreRowsOrdered, IsShownInOrder, SaysPage, items_of, listed_for, page_says, paged, rows_of, shown_to}
use Rattle.partition.proofs.Keeping.{row_back}
use Rattle.partition.proofs.Listed.{lists_after}
use Rattle.partition.proofs.Shown.{find_is, listed_found, listed_sorted, picked_is, told, told_found, told_sorted}

module _
    {K V A F C D Q B N : Type 0} (S : Service K V A F C D Q B) (L : LocalEntries K V C N)
    {O : ord.Ghosts K} {E : eq.Ghosts K} {P : partial.Ghosts K} {X : ord.Ghosts N} {Y : eq.Ghosts N} {Z : partial.Ghosts N} where
  -- in a cell in step a table's entries are those of its items, whether or not either has a place
  pub beside_are :
      (c : Partition K V C N O E P X Y Z) (u : ℕ) (o : Option (TableItems K V O E P)) → get nat_cmp c.items.tables u ≡ o
      → (slots : BTreeMap K (Slot V)) → ((k : K) → get O.cmp slots k ≡ slot_in o k) → IsInStep S L c
      → AreEntriesIn L O.cmp X.cmp c.catalog slots (get nat_cmp c.locals.tables u)
  beside_are c u o is slots found step q =
      step.entries.committed u q
      ∙ (λ j. is_among X.cmp (entries_at L c.catalog (L.item q) (row_of (slot_in (is j) (L.item q)))) q)
      ∙ sym (λ j. is_among X.cmp (entries_at L c.catalog (L.item q) (row_of (found (L.item q) j))) q)

-- of pairs that all stand there nothing is left out
pub told_all : {K V : Type 0} (es : List (K × V)) → told (λ e. e.0) (λ e. Some e.1) es ≡ es
told_all [] = refl
told_all (e ∷ es) = ap (λ rest. e ∷ rest) (told_all es)

ascending : {K X : Type 0} (cmp other : K → K → Ordering) → cmp ≡ other → (es : List (K × X)) → IsStrictlySortedBy other (keys_of es) → IsStrictlySortedBy cmp (keys_of es)
ascending cmp other is es rise = subst (λ R. IsStrictlySortedBy R (keys_of es)) (sym is) rise

rows_found : {K V : Type 0} (cmp other : K → K → Ordering) → cmp ≡ other → (o : Option (BTreeMap K V)) (q : K) → find cmp q (rows_of o) ≡ row_in other o q
rows_found cmp other is None q = refl
rows_found cmp other is (Some rows) q = find_is cmp q rows.entries ∙ ap (λ R. get R rows q) is

rows_sorted : {K V : Type 0} {cmp : K → K → Ordering} (total : IsTotalOrder cmp) (exact : (x y : K) → cmp x y ≡ Equal → x ≡ y) (other : K → K → Ordering) → cmp ≡ other
    → (o : Option (BTreeMap K V)) → AreRowsOrdered other o → T (is_sorted cmp (rows_of o))
rows_sorted total exact other is None up = tt
rows_sorted {cmp = cmp} total exact other is (Some rows) up =
    subst (λ es. T (is_sorted cmp es)) (told_all rows.entries)
    (told_sorted total exact (λ e. e.0) (λ e. Some e.1) rows.entries (ascending cmp other is rows.entries up))

module _ {K V : Type 0} {cmp : K → K → Ordering} (total : IsTotalOrder cmp) (exact : (x y : K) → cmp x y ≡ Equal → x ≡ y)
    {O : ord.Ghosts K} {E : eq.Ghosts K} {P : partial.Ghosts K} (is : cmp ≡ O.cmp) where
  items_sorted : (o : Option (TableItems K V O E P)) → AreItemsOrdered o → T (is_sorted cmp (items_of o))
  items_sorted None up = tt
  items_sorted (Some items) up =
      told_sorted total exact (λ e. e.0) (λ e. row_of (Some e.1)) items.slots.entries (ascending cmp O.cmp is items.slots.entries up)

  items_found : (o : Option (TableItems K V O E P)) → AreItemsOrdered o → (q : K) → find cmp q (items_of o) ≡ row_of (slot_in o q)
  items_found None up q = refl
  items_found (Some items) up q =
      told_found total exact (λ e. e.0) (λ e. row_of (Some e.1)) q items.slots.entries (ascending cmp O.cmp is items.slots.entries up)
      ∙ picked_is cmp row_of refl q items.slots.entries ∙ ap (λ R. row_of (get R items.slots q)) is

-- an item that lives in another table or another cell is not shown
where_it_lives : {V : Type 0} (table cell : Bool) (x : Option V) (s : Option (Slot V)) → (cell ≡ true → x ≡ row_of s)
    → cond table (if cell then x else None) None ≡ row_of (if table && cell then s else None)
where_it_lives true true x s is = is refl
where_it_lives true false x s is = refl
where_it_lives false cell x s is = refl

-- a page that is not served tells nothing
if_served : {K V A F B : Type 0} (b : Bool) (x y : B) → (b ≡ true → x ≡ y) → page_answer {K = K} {V = V} {A = A} {F = F} b x ≡ page_answer b y
if_served true x y is = ap (λ z. page_answer true z) (is refl)
if_served false x y is = refl

module _
    {K V A F C D Q B : Type 0} (S : Service K V A F C D Q B) (law : IsServiceLawful S)
    {O : ord.Ghosts K} {E : eq.Ghosts K} {P : partial.Ghosts K} {N : Type 0} {X : ord.Ghosts N} {Y : eq.Ghosts N} {Z : partial.Ghosts N} (order : (x y : K) → S.index.cmp x y ≡ O.cmp x y)
    (i : ℕ) (c : Partition K V C N O E P X Y Z) (w : State K V A C) (f : Feed K V C) (here : Holds S i c w f) (lists : ListsAll (indexed S.core S.index) i f) where
  total : IsTotalOrder S.index.cmp
  total = law.index.feed.ordered

  exact : (x y : K) → S.index.cmp x y ≡ Equal → x ≡ y
  exact x y e = law.index.feed.exact x y (law.index.feed.one x y ∙ ap is_eq e)

  cmp_is : S.index.cmp ≡ O.cmp
  cmp_is = λ j x y. order x y j

  pub items_are : (u : ℕ) → AreItemsOrdered (get nat_cmp c.items.tables u)
      → filter (λ row. nat_eq (S.core.table row.0) u) (items_in (indexed S.core S.index) f i) ≡ items_of (get nat_cmp c.items.tables u)
  items_are u up =
      let I = indexed S.core S.index in
      same_entries S.index.cmp total exact _ _
      (is_sorted-where_key S.index.cmp (λ q. nat_eq (S.core.table q) u) (items_in I f i) (listed_sorted I law.index.feed f.row i (f.keys i) lists.items))
      (items_sorted total exact cmp_is (get nat_cmp c.items.tables u) up)
      (λ q.
      find-where_key S.index.cmp (λ k. nat_eq (S.core.table k) u) q (λ x e. ap (λ k. nat_eq (S.core.table k) u) (sym (exact q x e))) (items_in I f i)
      ∙ ap (λ o. cond (nat_eq (S.core.table q) u) o None) (listed_found I law.index.feed f.row i (f.keys i) lists.items q)
      ∙ where_it_lives (nat_eq (S.core.table q) u) (nat_eq (S.core.cell_of q) i) (f.row q) (slot_for (w.spot q))
      (λ home. here.shown q (eqb-true (S.core.cell_of q) i home) ∙ sym (row_back (w.spot q)))
      ∙ ap row_of (sym (here.items u q)) ∙ sym (items_found total exact cmp_is (get nat_cmp c.items.tables u) up q))

  rows_are : (g : ℕ) → AreRowsOrdered O.cmp (get nat_cmp c.rows.indexes g) → rows_in (indexed S.core S.index) f g i ≡ rows_of (get nat_cmp c.rows.indexes g)
  rows_are g up =
      let I = indexed S.core S.index in
      same_entries S.index.cmp total exact _ _ (listed_sorted I law.index.feed (f.shown g) i (f.row_keys i) (lists.rows g))
      (rows_sorted total exact O.cmp cmp_is (get nat_cmp c.rows.indexes g) up)
      (λ q. listed_found I law.index.feed (f.shown g) i (f.row_keys i) (lists.rows g) q ∙ sym (here.rows g q) ∙ sym (rows_found S.index.cmp O.cmp cmp_is (get nat_cmp c.rows.indexes g) q))

  module _ (table : ℕ) (page : Q)
      (own : (cat : C) (rows : List (K × V)) → S.page cat rows page ≡ S.page cat (filter (λ row. nat_eq (S.core.table row.0) table) rows) page) where
    told_is : (o : Option ℕ) → IsShownInOrder c table o → S.page w.catalog (shown_to c table o) page ≡ S.page w.catalog (listed_for S f i o) page
    told_is None up = ap (λ rows. S.page w.catalog rows page) (sym (items_are table up)) ∙ sym (own w.catalog (items_in (indexed S.core S.index) f i))
    told_is (Some g) up = ap (λ rows. S.page w.catalog rows page) (sym (rows_are g up))

    pub page_is : (S.serves c.catalog page ≡ true → IsShownInOrder c table (S.page_index page)) → paged S c table page ≡ page_says S w f i page
    page_is up =
        (λ j. page_answer (S.serves (here.catalog j) page) (S.page (here.catalog j) (shown_to c table (S.page_index page)) page))
        ∙ if_served (S.serves w.catalog page) _ _
        (λ served. told_is (S.page_index page) (up (ap (λ cat. S.serves cat page) here.catalog ∙ served)))

rows_same : {K V A F C D Q B : Type 0} (S : Service K V A F C D Q B) (es : History S) (i : ℕ) (o : Option ℕ) → listed_for S (feed_after S es) i o ≡ rows_for S es i o
rows_same S es i None = refl
rows_same S es i (Some g) = refl

module _ {K V A F C D Q B : Type 0} (S : Service K V A F C D Q B) (law : IsServiceLawful S) {O : ord.Ghosts K} {E : eq.Ghosts K} {P : partial.Ghosts K} {N : Type 0} {X : ord.Ghosts N} {Y : eq.Ghosts N} {Z : partial.Ghosts N} where
  -- so it answers as legal histories have it
  pub page_answered :
      (L : LocalEntries K V C N) (c : Partition K V C N O E P X Y Z) (page : Q) (a : Reply S) (es : History S)
      → SaysPage S L (S.page_cell page) c page a
      → Holds S (S.page_cell page) c (state S es) (feed_after S es) → IsInStep S L c → a ≡ page_after S es page
  page_answered L c page a es says here step =
      says (state S es) (feed_after S es) here (lists_after S law (S.page_cell page) es) step
      ∙ ap (λ rows. page_answer (S.serves (state S es).catalog page) (S.page (state S es).catalog rows page)) (rows_same S es (S.page_cell page) (S.page_index page))
