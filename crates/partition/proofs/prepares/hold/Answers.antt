use Rattle.std.proofs.Common.{◌≡◌, [], None, Some, sym, ap, ◌∙◌, subst}
use Rattle.index_feed.specs.Feed.{changes}
use Rattle.txn_core.specs.Indexing.{indexed}
use Rattle.item_store.specs.Slots.{holder_of, pending_of, row_of}
use Rattle.item_store.specs.Changes.{slot_at}
use Rattle.item_store.specs.Counts.{tally}
use Rattle.index_changes.specs.Prepared.{moves_of, no_moves}
use Rattle.index_changes.specs.Entries.{moves_by}
use Rattle.partition.specs.Changes.{IsUnprepared}
use Rattle.partition.specs.Knows.{kept_at}
use Rattle.partition.proofs.Holding.{held_plain, held_with}
use Rattle.partition.proofs.Moved.{on_err_with, on_ok_with}
use Rattle.partition.proofs.Staying.{either_way, either_with, held_plain_stays, held_with_stays, hold_refused_stays, same_stays}
use Rattle.partition.proofs.Stepping.{free_slot}
use Rattle.partition.proofs.prepares.hold.Goals as goal

pub hold-requires : goal.hold-requires
hold-requires g c =
    let S = g.R.Rules.protocol 0 in
    record {
      free = free_slot (pending_of (slot_at c.args.cell.now.items c.table_of-table.result c.into_key.result))
          ((λ j. holder_of (slot_at c.args.cell.now.items ((c.table_of-table.ensures 0 ∙ ap (λ k. S.core.table k) (c.key_of-key.ensures 0)) j) (c.into_key.ensures 0 j))) ∙ (c.requires 0).free);
    }

pub hold_with-requires-clause-copies : goal.hold_with-requires-clause-copies
hold_with-requires-clause-copies g c = g.met.R.CellRules.copied

pub hold_with-requires-clause-free : goal.hold_with-requires-clause-free
hold_with-requires-clause-free g c =
    let S = g.R.Rules.protocol 0 in
    free_slot (pending_of (slot_at c.args.cell.now.items c.table_of-table.result c.key_of-key.result.now))
    ((λ j. holder_of (slot_at c.args.cell.now.items ((c.table_of-table.ensures 0 ∙ ap (λ k. S.core.table k) (c.key_of-key.ensures 0)) j) (c.key_of-key.ensures 0 j))) ∙ (c.requires 0).free)

pub returns-then-is_empty-clause-left : goal.returns-then-is_empty-clause-left
returns-then-is_empty-clause-left g c =
    on_ok_with c.hold.result c.hold.ensures.ok
    (λ h n un.
    let S = g.R.Rules.protocol n in
    let k = S.core.key_of c.args.action in
    let xs = changes (indexed S.core S.index) c.args.cell.now.catalog k (row_of (kept_at S c.args.cell.now k)) c.args.pending.image in
    let same : c.args.changes.rows.items ≡ xs = (c.requires n).indexes.rows in
    let nil : c.args.changes.rows.items ≡ [] = (c.is_empty.ensures.0 c.if-is_empty.true).no_rows in
    held_plain c.args.cell.now c.hold.new.self (tally c.args.cell.now.items.counts) c.table_of-table.result (S.core.table k) c.into_key.result k
    (c.table_of-table.ensures n ∙ ap (λ y. S.core.table y) (c.key_of-key.ensures n)) (c.into_key.ensures n) c.args.pending xs (sym same ∙ nil) un h)

pub returns-clause-left : goal.returns-clause-left
returns-clause-left g c =
    on_ok_with c.hold_with.result c.hold_with.ensures.ok
    (λ h n un.
    let S = g.R.Rules.protocol n in
    let k = S.core.key_of c.args.action in
    let xs = changes (indexed S.core S.index) c.args.cell.now.catalog k (row_of (kept_at S c.args.cell.now k)) c.args.pending.image in
    let same : c.args.changes.rows.items ≡ xs = (c.requires n).indexes.rows in
    held_with c.args.cell.now c.hold_with.new.self (tally c.args.cell.now.items.counts) c.table_of-table.result (S.core.table k) c.key_of-key.result.now k
    (c.table_of-table.ensures n ∙ ap (λ y. S.core.table y) (c.key_of-key.ensures n)) (c.key_of-key.ensures n) c.args.pending c.args.changes.rows.items xs same h)

pub returns-clause-err : goal.returns-clause-err
returns-clause-err g c =
    on_err_with c.hold_with.result c.hold_with.ensures.err
    (λ none n un.
    none (subst (λ y. IsUnprepared c.args.cell.now y) (sym (c.key_of-key.ensures n)) un))

pub returns-then-is_empty-clause-in_step : goal.returns-then-is_empty-clause-in_step
returns-then-is_empty-clause-in_step g c = λ n.
    let S = g.R.Rules.protocol n in
    let L = g.R.CellRules.locals in
    let cell = c.args.cell.now in
    let u = c.table_of-table.result in
    let k = c.into_key.result in
    let table : u ≡ S.core.table k = c.table_of-table.ensures n ∙ ap (λ y. S.core.table y) (c.key_of-key.ensures n ∙ sym (c.into_key.ensures n)) in
    let free : pending_of (slot_at cell.items u k) ≡ None =
    free_slot (pending_of (slot_at cell.items u k)) ((λ j. holder_of (slot_at cell.items ((c.table_of-table.ensures n ∙ ap (λ y. S.core.table y) (c.key_of-key.ensures n)) j) (c.into_key.ensures n j))) ∙ (c.requires n).free) in
    let made : moves_of (Some c.args.changes) ≡ moves_by L cell.catalog k (row_of (slot_at cell.items u k)) c.args.pending.image =
    (c.requires n).indexes.moves
    ∙ (λ j. moves_by L cell.catalog (sym (c.into_key.ensures n) j) (row_of (slot_at cell.items ((sym (ap (λ y. S.core.table y) (c.key_of-key.ensures n)) ∙ sym (c.table_of-table.ensures n)) j) (sym (c.into_key.ensures n) j))) c.args.pending.image) in
    let none = c.is_empty.ensures.0 c.if-is_empty.true in
    let no : no_moves ≡ moves_by L cell.catalog k (row_of (slot_at cell.items u k)) c.args.pending.image =
    (λ i. record { old = sym none.none_before i; new = sym none.none_after i }) ∙ made in
    either_way c.hold.result c.hold.ensures.ok c.hold.ensures.err
    (λ h. held_plain_stays S (g.met.R.Rules.lawful n) (g.met.R.CellRules.ordered n) L (g.met.R.CellRules.entries_lawful n) g.met.R.LocalEntry.Ord.total
    cell c.hold.new.self h.beside.catalog u k table c.args.pending h.slots free no c.hold.ensures.entries)
    (λ h. same_stays S (g.met.R.Rules.lawful n) (g.met.R.CellRules.ordered n) L (g.met.R.CellRules.entries_lawful n) g.met.R.LocalEntry.Ord.total
    cell c.hold.new.self h.beside.catalog h.slots c.hold.ensures.entries)

pub returns-clause-in_step : goal.returns-clause-in_step
returns-clause-in_step g c = λ n.
    let S = g.R.Rules.protocol n in
    let L = g.R.CellRules.locals in
    let cell = c.args.cell.now in
    let u = c.table_of-table.result in
    let k = c.key_of-key.result.now in
    let table : u ≡ S.core.table k = c.table_of-table.ensures n in
    let free : pending_of (slot_at cell.items u k) ≡ None =
    free_slot (pending_of (slot_at cell.items u k)) ((λ j. holder_of (slot_at cell.items ((c.table_of-table.ensures n ∙ ap (λ y. S.core.table y) (c.key_of-key.ensures n)) j) (c.key_of-key.ensures n j))) ∙ (c.requires n).free) in
    let made : moves_of (Some c.args.changes) ≡ moves_by L cell.catalog k (row_of (slot_at cell.items u k)) c.args.pending.image =
    (c.requires n).indexes.moves
    ∙ (λ j. moves_by L cell.catalog (sym (c.key_of-key.ensures n) j) (row_of (slot_at cell.items ((sym (ap (λ y. S.core.table y) (c.key_of-key.ensures n)) ∙ sym (c.table_of-table.ensures n)) j) (sym (c.key_of-key.ensures n) j))) c.args.pending.image) in
    either_with c.hold_with.result c.hold_with.ensures.ok c.hold_with.ensures.held c.hold_with.ensures.kept c.hold_with.ensures.refused
    (λ h moved. held_with_stays S (g.met.R.Rules.lawful n) (g.met.R.CellRules.ordered n) L (g.met.R.CellRules.entries_lawful n) g.met.R.LocalEntry.Ord.total
    cell c.hold_with.new.self h.beside.catalog u k table c.args.pending (moves_of (Some c.args.changes)) h.slots free made moved)
    (λ h same. hold_refused_stays S (g.met.R.Rules.lawful n) (g.met.R.CellRules.ordered n) L (g.met.R.CellRules.entries_lawful n) g.met.R.LocalEntry.Ord.total
    cell c.hold_with.new.self h.1 u k table c.args.pending (moves_of (Some c.args.changes)) h.0 free made same)
