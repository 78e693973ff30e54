-- A plan and what a cell holds hang on nothing else that it keeps.
use Rattle.std.proofs.Common.{◌≡◌, ℕ, ◌+◌, ◌<◌, ◌^◌, List, sym, ap, ◌∙◌, subst}
use Rattle.std.specs.declared.cmp.Ord as ord
use Rattle.std.specs.declared.cmp.PartialEq as eq
use Rattle.std.specs.declared.cmp.PartialOrd as partial
use Rattle.index_feed.specs.Feed.{Feed}
use Rattle.std.specs.Cmp.{IsTotalOrder}
use Rattle.txn_core.specs.Service.{Service, IsServiceLawful}
use Rattle.txn_core.specs.Stamps.{later, single}
use Rattle.txn_core.specs.State.{State}
use Rattle.item_store.specs.declared.store.ItemStore.{ItemStore}
use Rattle.item_store.specs.Changes.{slot_at}
use Rattle.item_store.specs.Counts.{tally}
use Rattle.global_index.specs.Marks.{mark_in}
use Rattle.global_index.specs.Rows.{row_under}
use Rattle.local_index.specs.declared.indexes.LocalIndexes.{LocalIndexes}
use Rattle.local_index.specs.Tables.{claim_under}
use Rattle.index_changes.specs.Prepared.{moves_in, prepared_in}
use Rattle.partition.specs.declared.cell.Partition.{Partition}
use Rattle.index_changes.specs.declared.command_rules.TableChange.{TableChange}
use Rattle.index_changes.specs.declared.plan.CatalogPlan.{CatalogPlan}
use Rattle.index_changes.specs.Commands.{dropped_by, subject}
use Rattle.partition.specs.Holds.{Holds}
use Rattle.index_changes.specs.Plans.{IsMade, IsOrderedFor, IsPlan, brought, closed_by, queued_for}
use Rattle.index_changes.specs.Entries.{AreEntriesLawful, LocalEntries}
use Rattle.partition.specs.InStep.{StaysInStep}
use Rattle.partition.specs.Plans.{IsPlaced, SameButPlan}
use Rattle.partition.proofs.Staying.{same_stays}

module _ {K V A F C D Q B : Type 0} (S : Service K V A F C D Q B) {O : ord.Ghosts K} {E : eq.Ghosts K} {P : partial.Ghosts K} {N : Type 0} {X : ord.Ghosts N} {Y : eq.Ghosts N} {Z : partial.Ghosts N} where
  pub same_but_plan :
      (i : ℕ) (c d : Partition K V C N O E P X Y Z) (w : State K V A C) (f : Feed K V C) → SameButPlan c d → Holds S i c w f → Holds S i d w f
  same_but_plan i c d w f same h =
      record {
        partitions = same.partitions ∙ h.partitions;
        items = λ u q. ap (λ m. slot_at m u q) same.items ∙ h.items u q;
        numbers = ap (λ m. tally m.counts) same.items ∙ h.numbers;
        catalog = same.catalog ∙ h.catalog;
        prepared = λ q. ap (λ m. prepared_in O.cmp m.lists q) same.prepared ∙ h.prepared q;
        waiting = same.waiting ∙ h.waiting;
        sent = same.sent ∙ h.sent;
        marks = λ j. ap (λ m. mark_in m.last.items j) same.marks ∙ h.marks j;
        rows = λ g q. ap (λ r. row_under O.cmp r.indexes g q) same.rows ∙ h.rows g q;
        under = h.under;
        shown = h.shown;
      }

  pub place_moved :
      (target : D → C → TableChange) (c e : Partition K V C N O E P X Y Z) (d : D) → SameButPlan c e
      → IsPlaced (target d c.catalog) c.items.tables → IsPlaced (target d e.catalog) e.items.tables
  place_moved target c e d same here = subst (λ (y : C × ItemStore K V O E P). IsPlaced (target d y.0) y.1.tables) (λ j. (sym same.catalog j, sym same.items j)) here

  pub entries_place_moved :
      (target : D → C → TableChange) (c e : Partition K V C N O E P X Y Z) (d : D) → SameButPlan c e
      → IsPlaced (target d c.catalog) c.locals.tables → IsPlaced (target d e.catalog) e.locals.tables
  entries_place_moved target c e d same here =
      subst (λ (y : C × LocalIndexes N). IsPlaced (target d y.0) y.1.tables) (λ j. (sym same.catalog j, sym same.locals j)) here

  module _
      (law : IsServiceLawful S) (ordered : (x y : K) → S.index.cmp x y ≡ O.cmp x y) (L : LocalEntries K V C N)
      (fair : AreEntriesLawful S L X.cmp) (total : IsTotalOrder X.cmp) where
    -- entries that were in step with their items are so still
    pub but_plan_stays : (c e : Partition K V C N O E P X Y Z) → SameButPlan c e → StaysInStep S L c e
    but_plan_stays c e same =
        same_stays S law ordered L fair total c e same.catalog (λ v q. ap (λ m. slot_at m v q) same.items)
        (λ v q. ap (λ l. claim_under X.cmp l.tables v q) same.locals, λ q. ap (λ m. moves_in O.cmp m.lists q) same.prepared)

  module _
      (target : D → C → TableChange) (numbers : C → ℕ → List ℕ) (i : ℕ) (c e : Partition K V C N O E P X Y Z) (d : D) (moment : ℕ) (p : CatalogPlan K V C N O E P X Y Z)
      (same : SameButPlan c e) (plan : IsPlan S target numbers i c.catalog c.items d moment p) where
    both : ◌≡◌ {A = C × ItemStore K V O E P} (c.catalog, c.items) (e.catalog, e.items)
    both = λ j. (sym same.catalog j, sym same.items j)

    pub plan_moved : IsPlan S target numbers i e.catalog e.items d moment p
    plan_moved =
        record {
          catalog = plan.catalog ∙ ap (λ y. S.core.change d moment y) (sym same.catalog);
          dropped = plan.dropped ∙ ap (λ y. dropped_by (target d y)) (sym same.catalog);
          closed = plan.closed ∙ ap (λ y. closed_by numbers (subject (target d y)) y p.catalog) (sym same.catalog);
          number = subst (λ (m : ItemStore K V O E P). m.counts.count + m.held + 1 < 2 ^ 64) (sym same.items) plan.number;
          made = subst (λ (y : C × ItemStore K V O E P). IsMade (target d y.0) (brought S i d y.0 p.catalog (later y.1.counts.floor (single moment)) (y.1.counts.count + 1)) p.made) both plan.made;
          order = subst (λ (y : C × ItemStore K V O E P). IsOrderedFor (target d y.0) y.1.tables) both plan.order;
          changes = plan.changes ∙ ap (λ (y : C × ItemStore K V O E P). queued_for S numbers (target d y.0) y.0 p.catalog y.1.tables p.made) both;
        }
