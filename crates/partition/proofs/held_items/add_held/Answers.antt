use Rattle.std.proofs.Common.{◌≡◌, ◌++◌, sym, ap, ◌∙◌}
use Rattle.std.proofs.lemmas.List.{append-nil}
use Rattle.std.specs.BTreeMap.{values}
use Rattle.std.specs.List.{sum_by}
use Rattle.item_store.specs.Slots.{held_in}
use Rattle.partition.proofs.Holders.{none_listed}
use Rattle.partition.proofs.held_items.add_held.Goals as goal

pub returns-then-held-eq0-clause-held : goal.returns-then-held-eq0-clause-held
returns-then-held-eq0-clause-held g c =
    let items = c.args.items.now in
    let none : sum_by held_in (values items.slots) ≡ 0 = sym items.counted ∙ sym c.held.ensures ∙ c.if-held-eq0.true in
    sym (append-nil c.args.held.now.items) ∙ sym (ap (λ l. c.args.held.now.items ++ l) (none_listed items.slots.entries none))
