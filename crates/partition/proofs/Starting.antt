-- A cell without items holds the state without items.
use Rattle.std.proofs.Common.{◌≡◌, ℕ, nat_eq, Bool, true, false, if◌then◌else◌, [], Option, None, Some, is_some, refl, sym, ◌∙◌}
use Rattle.std.specs.declared.cmp.Ord as ord
use Rattle.std.specs.declared.cmp.PartialEq as eq
use Rattle.std.specs.declared.cmp.PartialOrd as partial
use Rattle.txn_core.specs.Service.{Service}
use Rattle.std.specs.Ordering.{nat_cmp}
use Rattle.std.specs.BTreeMap.{BTreeMap, get}
use Rattle.std.specs.declared.cmp.Ordering.{Ordering}
use Rattle.item_store.specs.declared.table.TableItems.{TableItems}
use Rattle.item_store.specs.declared.store.ItemStore.{ItemStore}
use Rattle.item_store.specs.Slots.{image_of, pending_of, row_of}
use Rattle.item_store.specs.Tables.{has_table, slot_in}
use Rattle.local_index.specs.declared.claim.Claim.{Claim}
use Rattle.local_index.specs.Claims.{is_committed, is_held}
use Rattle.local_index.specs.Entries.{is_among}
use Rattle.local_index.specs.Tables.{claim_in, has_table as has_entries}
use Rattle.item_store.specs.Counts.{fresh, tally}
use Rattle.global_index.specs.Marks.{mark_in}
use Rattle.global_index.specs.Rows.{has_index, row_in}
use Rattle.index_changes.specs.declared.change.IndexChanges.{IndexChanges}
use Rattle.index_changes.specs.Prepared.{moves_in, no_moves, prepared_in}
use Rattle.partition.specs.declared.cell.Partition.{Partition}
use Rattle.partition.specs.Holds.{Holds, lives}
use Rattle.index_changes.specs.Entries.{LocalEntries, entries_at}
use Rattle.partition.specs.InStep.{AreInStep, moves_kept}
use Rattle.partition.specs.Says.{first_feed, first_state}

-- a cell in which there is nothing
pub record IsBare
    {K V C : Type 0} {O : ord.Ghosts K} {E : eq.Ghosts K} {P : partial.Ghosts K}
    {N : Type 0} {X : ord.Ghosts N} {Y : eq.Ghosts N} {Z : partial.Ghosts N} (c : Partition K V C N O E P X Y Z) : Type 0 where
  pub tables : (u : ℕ) → has_table c.items.tables u ≡ false
  pub numbers : tally c.items.counts ≡ fresh
  pub prepared : (q : K) → prepared_in O.cmp c.prepared.lists q ≡ []
  pub waiting : c.outbox.waiting.items ≡ []
  pub sent : c.outbox.sent ≡ 0
  pub marks : (j : ℕ) → mark_in c.marks.last.items j ≡ 0
  pub rows : (g : ℕ) → has_index c.rows.indexes g ≡ false

no_slot :
    {K V : Type 0} {O : ord.Ghosts K} {E : eq.Ghosts K} {P : partial.Ghosts K} (o : Option (TableItems K V O E P)) (q : K)
    → is_some o ≡ false → slot_in o q ≡ None
no_slot None q e = refl
no_slot (Some items) q e = absurd (cc)

no_row : {K V : Type 0} (cmp : K → K → Ordering) (o : Option (BTreeMap K V)) (q : K) → is_some o ≡ false → row_in cmp o q ≡ None
no_row cmp None q e = refl
no_row cmp (Some rows) q e = absurd (cc)

same : {X : Type 0} (b : Bool) (x : X) → x ≡ (if b then x else x)
same true x = refl
same false x = refl

module _
    {K V A F C D Q B : Type 0} (S : Service K V A F C D Q B) {O : ord.Ghosts K} {E : eq.Ghosts K} {P : partial.Ghosts K}
    {N : Type 0} {X : ord.Ghosts N} {Y : eq.Ghosts N} {Z : partial.Ghosts N}
    (i : ℕ) (c : Partition K V C N O E P X Y Z) (bare : IsBare c) (partitions : c.partitions ≡ S.control) where
  pub bare_holds : Holds S i c (first_state S c.catalog) (first_feed S c.catalog)
  bare_holds =
      record {
        partitions = partitions;
        items = λ u q. no_slot (get nat_cmp c.items.tables u) q (bare.tables u) ∙ same (lives S i u q) None;
        numbers = bare.numbers;
        catalog = refl;
        prepared = λ q. bare.prepared q ∙ same (nat_eq (S.core.cell_of q) i) [];
        waiting = bare.waiting;
        sent = bare.sent;
        marks = bare.marks;
        rows = λ g q. no_row O.cmp (get nat_cmp c.rows.indexes g) q (bare.rows g) ∙ same (nat_eq (S.core.cell_of q) i) None;
        under = refl;
        shown = λ q at_q. refl;
      }

no_claim : {N : Type 0} (cmp : N → N → Ordering) (o : Option (BTreeMap N Claim)) (q : N) → is_some o ≡ false → claim_in cmp o q ≡ None
no_claim cmp None q e = refl
no_claim cmp (Some entries) q e = absurd (cc)

module _
    {K V A F C D Q B N : Type 0} (S : Service K V A F C D Q B) (L : LocalEntries K V C N)
    {O : ord.Ghosts K} {E : eq.Ghosts K} {P : partial.Ghosts K} (cmp : N → N → Ordering) (cat : C)
    (items : ItemStore K V O E P) (lists : BTreeMap K (IndexChanges K V N)) (entries : BTreeMap ℕ (BTreeMap N Claim)) where
  -- and its entries are in step with its items: there are none
  pub bare_in_step :
      ((u : ℕ) → has_table items.tables u ≡ false) → ((q : K) → moves_in O.cmp lists q ≡ no_moves) → ((u : ℕ) → has_entries entries u ≡ false)
      → AreInStep S L cmp cat items lists entries
  bare_in_step no_items no_lists none =
      let slot = λ (u : ℕ) (q : K). no_slot (get nat_cmp items.tables u) q (no_items u) in
      let claim = λ (u : ℕ) (q : N). no_claim cmp (get nat_cmp entries u) q (none u) in
      record {
        entries = record {
          committed = λ u q. (λ i. is_committed (claim u q i)) ∙ (λ i. is_among cmp (entries_at L cat (L.item q) (row_of (sym (slot u (L.item q)) i))) q);
          held = λ u q. (λ i. is_held (claim u q i)) ∙ (λ i. is_among cmp (entries_at L cat (L.item q) (image_of (pending_of (sym (slot u (L.item q)) i)))) q);
        };
        moves = λ q. no_lists q ∙ (λ i. moves_kept L cat q (sym (slot (S.core.table q) q) i));
      }
