use Rattle.std.proofs.Common.{◌≡◌, [], ◌++◌, drop, sym, ap, ◌∙◌, subst, append-nil}
use Rattle.std.proofs.lemmas.List.{at_drop_all}
use Rattle.path_entries.specs.Entries.{below, passes, entries_of}
use Rattle.path_entries.specs.Order.{AreInOrder}
use Rattle.path_entries.proofs.Ranges.{below_filter, order_below}
use Rattle.path_entries.proofs.group.below.Goals as goal

pub returns-clause-behind : goal.returns-clause-behind
returns-clause-behind g c =
    let l = c.loop-entry in
    let xs = c.range-entry-items.result.now in
    let key = c.args.key in
    let none : below (passes key) (entries_of (drop l.entry-index xs)) ≡ [] = at_drop_all (λ es. below (passes key) (entries_of es)) xs l.entry-index c.loop-entry-test.false in
    sym (append-nil (entries_of l.deeper.items)) ∙ ap (λ r. entries_of l.deeper.items ++ r) (sym none) ∙ l.invariant
    ∙ ap (λ es. below (passes key) (entries_of es)) c.range-entry-items.ensures ∙ below_filter (passes key) c.args.entries.now

pub returns-clause-in_order : goal.returns-clause-in_order
returns-clause-in_order g c = subst AreInOrder (sym (returns-clause-behind g c)) (order_below c.args.key (entries_of c.args.entries.now) c.requires)
