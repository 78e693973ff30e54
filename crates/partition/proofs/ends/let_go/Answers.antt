use Rattle.std.proofs.Common.{rules, ◌≡◌, false, IsSome, IsTrue, ◌∙◌, sym}
use Rattle.item_store.specs.Slots.{pending_of}
use Rattle.item_store.specs.Changes.{slot_at}
use Rattle.partition.proofs.Staying.{let_go_stays, same_stays}
use Rattle.partition.proofs.Stepping.{held_slot}
use Rattle.partition.proofs.ends.let_go.Goals as goal

pub returns-then-not-let_go-clause-in_step : goal.returns-then-not-let_go-clause-in_step
returns-then-not-let_go-clause-in_step g c = λ n.
    let cell = c.args.cell.now in
    let no : c.let_go.result ≡ false = search rules in
    let h = c.let_go.ensures.same no in
    same_stays (g.R.Rules.protocol n) (g.met.R.Rules.lawful n) (g.met.R.CellRules.ordered n) g.R.CellRules.locals (g.met.R.CellRules.entries_lawful n) g.met.R.LocalEntry.Ord.total
    cell c.let_go.new.self h.beside.catalog h.slots (c.let_go.ensures.same_entries no)

pub returns-clause-in_step : goal.returns-clause-in_step
returns-clause-in_step g c = λ n.
    let cell = c.args.cell.now in
    let u = c.table_of.result in
    let k = c.args.key.now in
    let yes : IsTrue c.let_go.result = search rules in
    let held : IsSome (pending_of (slot_at cell.items u k)) = held_slot (pending_of (slot_at cell.items u k)) c.args.number (sym c.let_go.ensures.answer ∙ yes) in
    let h = c.let_go.ensures.changed yes in
    let_go_stays (g.R.Rules.protocol n) (g.met.R.Rules.lawful n) (g.met.R.CellRules.ordered n) g.R.CellRules.locals (g.met.R.CellRules.entries_lawful n) g.met.R.LocalEntry.Ord.total
    cell c.let_go.new.self h.beside.catalog u k (c.table_of.ensures n) h.slots held (c.let_go.ensures.released yes)
