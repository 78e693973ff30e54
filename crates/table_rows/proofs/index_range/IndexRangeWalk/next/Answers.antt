use Rattle.std.proofs.Common.{Option, ap, ◌∙◌}
use Rattle.std.specs.Prelude.{option_map}
use Rattle.std.specs.Option.{option_copied}
use Rattle.attr_value.specs.Tree.{Attributes}
use Rattle.row_keys.specs.declared.position.Position.{Position}
use Rattle.row_keys.specs.Keys.{position_order}
use Rattle.row_keys.specs.Rows.{item_at}
use Rattle.table_rows.specs.Slots.{SlotList, rows_of}
use Rattle.table_rows.proofs.Found.{entry_found, walk_first, walk_ordered, walk_few}
use Rattle.table_rows.proofs.index_range.IndexRangeWalk.next.Goals as goal

-- the item at a place
abbrev item_of : SlotList → Position × Unit {0} → Option Attributes
item_of slots place = item_at (rows_of slots) place.0.item

pub returns-in_default-clause-first : goal.returns-in_default-clause-first
returns-in_default-clause-first g c =
    let look = item_of c.self.inside.slots.now in
    ap (entry_found look) c.in_default.ensures.first
    ∙ walk_first look position_order c.self.inside.places c.args.self.now c.self.view_is c.self.invariant c.args.forward (option_copied c.args.after)

pub returns-in_default-clause-ordered : goal.returns-in_default-clause-ordered
returns-in_default-clause-ordered g c =
    walk_ordered (item_of c.self.inside.slots.now) position_order c.self.inside.places c.args.self.now c.self.view_is c.self.invariant c.next.ensures.ordered

pub returns-in_default-clause-few : goal.returns-in_default-clause-few
returns-in_default-clause-few g c =
    walk_few (item_of c.self.inside.slots.now) position_order c.self.inside.places c.args.self.now c.self.view_is c.self.invariant c.next.ensures.few

pub returns-in_default-get-clause-first : goal.returns-in_default-get-clause-first
returns-in_default-get-clause-first g c =
    let look = item_of c.self.inside.slots.now in
    ap (option_map (λ (item : Attributes). (c.in-Some.place.now, item))) c.in_default-get.ensures
    ∙ ap (entry_found look) c.in-Some.ensures.first
    ∙ walk_first look position_order c.self.inside.places c.args.self.now c.self.view_is c.self.invariant c.args.forward (option_copied c.args.after)

pub returns-in_default-get-clause-ordered : goal.returns-in_default-get-clause-ordered
returns-in_default-get-clause-ordered g c =
    walk_ordered (item_of c.self.inside.slots.now) position_order c.self.inside.places c.args.self.now c.self.view_is c.self.invariant c.next.ensures.ordered

pub returns-in_default-get-clause-few : goal.returns-in_default-get-clause-few
returns-in_default-get-clause-few g c =
    walk_few (item_of c.self.inside.slots.now) position_order c.self.inside.places c.args.self.now c.self.view_is c.self.invariant c.next.ensures.few

pub returns-clause-first : goal.returns-clause-first
returns-clause-first g c =
    let look = item_of c.self.inside.slots.now in
    ap (option_map (λ (item : Attributes). (c.in-Some.place.now, item))) c.in-Some-get.ensures
    ∙ ap (entry_found look) c.in-Some.ensures.first
    ∙ walk_first look position_order c.self.inside.places c.args.self.now c.self.view_is c.self.invariant c.args.forward (option_copied c.args.after)

pub returns-clause-ordered : goal.returns-clause-ordered
returns-clause-ordered g c =
    walk_ordered (item_of c.self.inside.slots.now) position_order c.self.inside.places c.args.self.now c.self.view_is c.self.invariant c.next.ensures.ordered

pub returns-clause-few : goal.returns-clause-few
returns-clause-few g c =
    walk_few (item_of c.self.inside.slots.now) position_order c.self.inside.places c.args.self.now c.self.view_is c.self.invariant c.next.ensures.few
