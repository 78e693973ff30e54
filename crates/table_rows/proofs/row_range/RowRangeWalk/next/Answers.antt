use Rattle.std.proofs.Common.{rules, ◌≡◌, Option, None, Some, ap, sym, ◌∙◌}
use Rattle.std.specs.Prelude.{option_map}
use Rattle.std.specs.Option.{option_copied}
use Rattle.attr_value.specs.Tree.{Attributes}
use Rattle.row_keys.specs.declared.row_key.RowKey.{RowKey}
use Rattle.row_keys.specs.Keys.{row_order}
use Rattle.row_keys.specs.Rows.{Rows}
use Rattle.table_rows.specs.Found.{found_for}
use Rattle.table_rows.specs.Slots.{SlotList, rows_of}
use Rattle.table_rows.proofs.Found.{entry_found, walk_first, walk_ordered, walk_few}
use Rattle.table_rows.proofs.Looked.{rows_found}
use Rattle.table_rows.proofs.row_range.RowRangeWalk.next.Goals as goal

abbrev item_of : RowKey × Option Attributes → Option Attributes
item_of slot = slot.1

shown : (slots : SlotList) (self : Rows) → rows_of slots ≡ self → found_for item_of slots ≡ self
shown slots self is = rows_found slots ∙ is

pub returns-in_default-clause-first : goal.returns-in_default-clause-first
returns-in_default-clause-first g c =
    ap (entry_found item_of) c.in_default.ensures.first
    ∙ walk_first item_of row_order c.self.inside.slots c.args.self.now (shown c.self.inside.slots c.args.self.now c.self.view_is) c.self.invariant
    c.args.forward (option_copied c.args.after)

pub returns-in_default-clause-ordered : goal.returns-in_default-clause-ordered
returns-in_default-clause-ordered g c =
    walk_ordered item_of row_order c.self.inside.slots c.args.self.now (shown c.self.inside.slots c.args.self.now c.self.view_is) c.self.invariant
    c.next.ensures.ordered

pub returns-in_default-clause-few : goal.returns-in_default-clause-few
returns-in_default-clause-few g c =
    walk_few item_of row_order c.self.inside.slots c.args.self.now (shown c.self.inside.slots c.args.self.now c.self.view_is) c.self.invariant
    c.next.ensures.few

pub returns-in_default-slot-clause-first : goal.returns-in_default-slot-clause-first
returns-in_default-slot-clause-first g c =
    let none : c.in-Some.slot.now ≡ None = search rules in
    ap (option_map (λ (item : Attributes). (c.in-Some.key.now, item))) (sym none)
    ∙ ap (entry_found item_of) c.in-Some.ensures.first
    ∙ walk_first item_of row_order c.self.inside.slots c.args.self.now (shown c.self.inside.slots c.args.self.now c.self.view_is) c.self.invariant
    c.args.forward (option_copied c.args.after)

pub returns-in_default-slot-clause-ordered : goal.returns-in_default-slot-clause-ordered
returns-in_default-slot-clause-ordered g c =
    walk_ordered item_of row_order c.self.inside.slots c.args.self.now (shown c.self.inside.slots c.args.self.now c.self.view_is) c.self.invariant
    c.next.ensures.ordered

pub returns-in_default-slot-clause-few : goal.returns-in_default-slot-clause-few
returns-in_default-slot-clause-few g c =
    walk_few item_of row_order c.self.inside.slots c.args.self.now (shown c.self.inside.slots c.args.self.now c.self.view_is) c.self.invariant
    c.next.ensures.few

pub returns-clause-first : goal.returns-clause-first
returns-clause-first g c =
    let there : c.in-Some.slot.now ≡ Some c.in-Some-slot.item = search rules in
    ap (option_map (λ (item : Attributes). (c.in-Some.key.now, item))) (sym there)
    ∙ ap (entry_found item_of) c.in-Some.ensures.first
    ∙ walk_first item_of row_order c.self.inside.slots c.args.self.now (shown c.self.inside.slots c.args.self.now c.self.view_is) c.self.invariant
    c.args.forward (option_copied c.args.after)

pub returns-clause-ordered : goal.returns-clause-ordered
returns-clause-ordered g c =
    walk_ordered item_of row_order c.self.inside.slots c.args.self.now (shown c.self.inside.slots c.args.self.now c.self.view_is) c.self.invariant
    c.next.ensures.ordered

pub returns-clause-few : goal.returns-clause-few
returns-clause-few g c =
    walk_few item_of row_order c.self.inside.slots c.args.self.now (shown c.self.inside.slots c.args.self.now c.self.view_is) c.self.invariant
    c.next.ensures.few
