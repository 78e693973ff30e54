use Rattle.std.proofs.Common.{None, is_some, ◌∙◌, ap}
use Rattle.row_keys.specs.Rows.{with_item}
use Rattle.table_rows.specs.Slots.{SlotList, rows_of, has_slot}
use Rattle.table_rows.proofs.SlotLists.{slot_changed}
use Rattle.table_rows.proofs.slots.Slots.clear.Goals as goal

pub returns-clause-rows : goal.returns-clause-rows
returns-clause-rows c =
    slot_changed c.self.inside.slots.entries c.remove.new.self.entries c.self.invariant c.remove.ensures.ordered c.args.key.now None
    c.remove.ensures.updates.0
    ∙ ap (λ (s : SlotList). with_item (rows_of s) c.args.key.now None) c.self.view_is

pub returns-clause-others : goal.returns-clause-others
returns-clause-others c = λ other apart.
    ap is_some (c.remove.ensures.updates.2 other apart) ∙ ap (λ (s : SlotList). has_slot s other) c.self.view_is

pub returns-clause-slot : goal.returns-clause-slot
returns-clause-slot c = ap is_some c.remove.ensures.updates.1
