use Rattle.std.proofs.Common.{◌≡◌, None, Some, sym, ap, ◌∙◌}
use Rattle.index_feed.specs.Feed.{changes}
use Rattle.txn_core.specs.Indexing.{indexed}
use Rattle.txn_core.specs.Protocol.{after}
use Rattle.txn_core.specs.Stamps.{single}
use Rattle.item_store.specs.Slots.{holder_of, pending_of, row_of}
use Rattle.item_store.specs.Changes.{slot_at}
use Rattle.item_store.specs.Counts.{tally}
use Rattle.index_changes.specs.Prepared.{moves_of}
use Rattle.index_changes.specs.Entries.{moves_by}
use Rattle.partition.specs.Knows.{kept_at, outcome_at}
use Rattle.partition.proofs.Holding.{written_so}
use Rattle.partition.proofs.Moved.{either_end, if_ok_with, on_ok_with}
use Rattle.partition.proofs.Staying.{written_stays, write_refused_stays}
use Rattle.partition.proofs.Stepping.{free_slot}
use Rattle.partition.proofs.writes.put_item.Goals as goal

pub put-requires : goal.put-requires
put-requires g c =
    let S = g.R.Rules.protocol 0 in
    record {
      copies = g.met.R.CellRules.copied;
      free = free_slot (pending_of (slot_at c.args.cell.now.items c.table_of-table.result c.into_key-key.result))
          ((λ j. holder_of (slot_at c.args.cell.now.items ((c.table_of-table.ensures 0 ∙ ap (λ k. S.core.table k) (c.key_of.ensures 0)) j) (c.into_key-key.ensures 0 j))) ∙ (c.requires 0).free);
    }

pub returns-clause-left : goal.returns-clause-left
returns-clause-left g c = on_ok_with c.put.result c.put.ensures.ok (λ h n.
    let S = g.R.Rules.protocol n in
    let k = S.core.key_of c.args.action in
    let row = row_of (kept_at S c.args.cell.now k) in
    let made : c.args.item ≡ after (outcome_at S c.args.cell.now c.args.action) row = sym (ap (λ o. after o row) (c.requires n).new) in
    let xs = changes (indexed S.core S.index) c.args.cell.now.catalog k row c.args.item in
    let same : c.args.changes.rows.items ≡ xs = (c.requires n).indexes.rows in (
      free_slot (pending_of (kept_at S c.args.cell.now k)) ((c.requires n).free),
      written_so c.args.cell.now c.put.new.self (tally c.args.cell.now.items.counts) c.table_of-table.result (S.core.table k) c.into_key-key.result k
          (c.table_of-table.ensures n ∙ ap (λ y. S.core.table y) (c.key_of.ensures n)) (c.into_key-key.ensures n) (single c.args.moment) c.args.item (after (outcome_at S c.args.cell.now c.args.action) row) made
          c.args.changes.rows.items (changes (indexed S.core S.index) c.args.cell.now.catalog k row (after (outcome_at S c.args.cell.now c.args.action) row))
          (same ∙ ap (λ v. changes (indexed S.core S.index) c.args.cell.now.catalog k row v) made)
          h,
    ))

pub returns-clause-old : goal.returns-clause-old
returns-clause-old g c =
    if_ok_with c.put.result c.put.ensures.old
    (λ old is n.
    let S = g.R.Rules.protocol n in
    is ∙ (λ j. row_of (slot_at c.args.cell.now.items ((c.table_of-table.ensures n ∙ ap (λ y. S.core.table y) (c.key_of.ensures n)) j) (c.into_key-key.ensures n j))))

pub returns-clause-in_step : goal.returns-clause-in_step
returns-clause-in_step g c = λ n.
    let S = g.R.Rules.protocol n in
    let L = g.R.CellRules.locals in
    let cell = c.args.cell.now in
    let u = c.table_of-table.result in
    let k = c.into_key-key.result in
    let free : pending_of (slot_at cell.items u k) ≡ None = free_slot (pending_of (slot_at cell.items u k)) ((λ j. holder_of (slot_at cell.items ((c.table_of-table.ensures n ∙ ap (λ y. S.core.table y) (c.key_of.ensures n)) j) (c.into_key-key.ensures n j))) ∙ (c.requires n).free) in
    let moves : moves_of (Some c.args.changes) ≡ moves_by L cell.catalog k (row_of (slot_at cell.items u k)) c.args.item =
    (c.requires n).indexes.moves
    ∙ (λ j. moves_by L cell.catalog (sym (c.into_key-key.ensures n) j) (row_of (slot_at cell.items ((sym (ap (λ y. S.core.table y) (c.key_of.ensures n)) ∙ sym (c.table_of-table.ensures n)) j) (sym (c.into_key-key.ensures n) j))) c.args.item) in
    let apart = c.table_of-table.ensures n ∙ ap (λ y. S.core.table y) (c.key_of.ensures n ∙ sym (c.into_key-key.ensures n)) in
    either_end c.put.result c.put.ensures.ok c.put.ensures.noted c.put.ensures.err c.put.ensures.refused
    (λ h noted. written_stays S (g.met.R.Rules.lawful n) (g.met.R.CellRules.ordered n) L (g.met.R.CellRules.entries_lawful n) g.met.R.LocalEntry.Ord.total
    cell c.put.new.self h.beside.catalog u k apart
    (tally cell.items.counts) c.args.item (single c.args.moment) (moves_of (Some c.args.changes)) h.slots free moves noted)
    (λ h refused. write_refused_stays S (g.met.R.Rules.lawful n) (g.met.R.CellRules.ordered n) L (g.met.R.CellRules.entries_lawful n) g.met.R.LocalEntry.Ord.total
    cell c.put.new.self h.beside.catalog u k apart
    c.args.item (moves_of (Some c.args.changes)) h.slots free moves refused)
