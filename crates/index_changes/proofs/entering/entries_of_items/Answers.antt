use Rattle.std.proofs.Common.{rules, ◌≡◌, None, Some, if◌then◌else◌, sym, ap, ◌∙◌}
use Rattle.std.specs.BTreeMap.{get}
use Rattle.local_index.specs.declared.claim.Claim.TheVariants.{Committed}
use Rattle.index_changes.proofs.EntriesOver.{committed_where, entered, free, of_its_item, some_has}
use Rattle.index_changes.proofs.Keys.{at_is, one_key}
use Rattle.index_changes.proofs.entering.entries_of_items.Goals as goal

pub loop-key-preserved-in-Continue-1 : goal.loop-key-preserved-in-Continue-1
loop-key-preserved-in-Continue-1 g c = λ q.
    let cmp = g.R.LocalEntry.Ord.cmp in
    entered g.R.CellRules.locals cmp c.args.catalog.now q c.loop-key.key-iterator c.next.new.self (c.in-Some.key.now, c.in-Some.slot.now) c.in-Some.ensures.steps
    (get cmp c.loop-key.entries q) _ (c.loop-key.invariant q) (get cmp c.enter.new.entries q) c.in-Some-committed.committed c.in-Some-committed.is
    (c.in_ok-enter.ensures q)

pub loop-key-preserved : goal.loop-key-preserved
loop-key-preserved g c = λ q.
    let cmp = g.R.LocalEntry.Ord.cmp in
    let none : c.in-Some.slot.now.committed ≡ None = search rules in
    free g.R.CellRules.locals cmp c.args.catalog.now q c.loop-key.key-iterator c.next.new.self (c.in-Some.key.now, c.in-Some.slot.now) c.in-Some.ensures.steps
    (get cmp c.loop-key.entries q) _ (c.loop-key.invariant q) none

pub returns : goal.returns
returns g c = λ q.
    let by = g.R.Key.Ord.cmp in
    let cmp = g.R.LocalEntry.Ord.cmp in
    let L = g.R.CellRules.locals in
    let S = g.R.Rules.protocol 1 in
    let law = g.met.R.Rules.lawful 1 in
    let cat = c.args.catalog.now in
    let now = get cmp c.loop-key.entries q in
    ap (λ l. if some_has L cmp cat q l then Some Committed else now) (sym c.in-None.ensures.steps.0)
    ∙ c.loop-key.invariant q
    ∙ ap (λ b. if b then Some Committed else None)
    (of_its_item L cmp cat q by g.met.R.Key.Ord.total (λ x y e. one_key S law x y (sym (at_is S law (g.met.R.CellRules.ordered 1) x y) ∙ e))
    (λ k v e. one_key S law k (L.item q) ((g.met.R.CellRules.entries_lawful 1).named cat k v q e)) c.args.items.now.slots.entries c.are_in_order.ensures)
    ∙ committed_where _
