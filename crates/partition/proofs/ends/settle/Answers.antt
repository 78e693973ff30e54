use Rattle.std.proofs.Common.{rules, ◌≡◌, false, IsSome, IsTrue, ◌∙◌, sym}
use Rattle.item_store.specs.Slots.{pending_of}
use Rattle.item_store.specs.Changes.{slot_at}
use Rattle.item_store.specs.Counts.{tally}
use Rattle.partition.proofs.Staying.{settled_stays, same_stays}
use Rattle.partition.proofs.Stepping.{held_slot}
use Rattle.partition.proofs.ends.settle.Goals as goal

pub returns-then-not-settle-clause-in_step : goal.returns-then-not-settle-clause-in_step
returns-then-not-settle-clause-in_step g c = λ n.
    let cell = c.args.cell.now in
    let no : c.settle.result ≡ false = search rules in
    let h = c.settle.ensures.same no in
    same_stays (g.R.Rules.protocol n) (g.met.R.Rules.lawful n) (g.met.R.CellRules.ordered n) g.R.CellRules.locals (g.met.R.CellRules.entries_lawful n) g.met.R.LocalEntry.Ord.total
    cell c.settle.new.self h.beside.catalog h.slots (c.settle.ensures.same_entries no)

pub returns-clause-in_step : goal.returns-clause-in_step
returns-clause-in_step g c = λ n.
    let cell = c.args.cell.now in
    let u = c.table_of.result in
    let k = c.args.key.now in
    let yes : IsTrue c.settle.result = search rules in
    let held : IsSome (pending_of (slot_at cell.items u k)) = held_slot (pending_of (slot_at cell.items u k)) c.args.number (sym c.settle.ensures.answer ∙ yes) in
    let h = c.settle.ensures.changed yes in
    settled_stays (g.R.Rules.protocol n) (g.met.R.Rules.lawful n) (g.met.R.CellRules.ordered n) g.R.CellRules.locals (g.met.R.CellRules.entries_lawful n) g.met.R.LocalEntry.Ord.total
    cell c.settle.new.self h.beside.catalog u k (c.table_of.ensures n) (tally cell.items.counts) h.slots held (c.settle.ensures.settled yes)
