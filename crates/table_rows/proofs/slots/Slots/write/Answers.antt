use Rattle.std.proofs.Common.{◌≡◌, Some, is_some, true, ◌∙◌, ap}
use Rattle.std.specs.Map.{lookup}
use Rattle.std.specs.BTreeMap.{is_at, Updates}
use Rattle.row_keys.specs.Keys.{row_order}
use Rattle.row_keys.specs.Rows.{with_item}
use Rattle.table_rows.specs.Slots.{SlotList, rows_of, has_slot}
use Rattle.table_rows.proofs.SlotLists.{slot_changed, not_refused}
use Rattle.table_rows.proofs.slots.Slots.write.Goals as goal

pub returns-clause-rows : goal.returns-clause-rows
returns-clause-rows c =
    let has : has_slot c.self.inside.slots.entries c.args.key ≡ true = ap (λ (s : SlotList). has_slot s c.args.key) c.self.view_is ∙ c.requires in
    let updates : Updates row_order c.self.inside.slots c.insert.new.self c.args.key (Some (Some c.args.item)) =
    not_refused c.insert.result _ (lookup (is_at (row_order c.args.key)) c.self.inside.slots.entries) c.insert.ensures.updates c.insert.ensures.absent has in
    slot_changed c.self.inside.slots.entries c.insert.new.self.entries c.self.invariant c.insert.ensures.ordered c.args.key (Some (Some c.args.item))
    updates.0
    ∙ ap (λ (s : SlotList). with_item (rows_of s) c.args.key (Some c.args.item)) c.self.view_is

pub returns-clause-others : goal.returns-clause-others
returns-clause-others c = λ other apart.
    let has : has_slot c.self.inside.slots.entries c.args.key ≡ true = ap (λ (s : SlotList). has_slot s c.args.key) c.self.view_is ∙ c.requires in
    let updates : Updates row_order c.self.inside.slots c.insert.new.self c.args.key (Some (Some c.args.item)) =
    not_refused c.insert.result _ (lookup (is_at (row_order c.args.key)) c.self.inside.slots.entries) c.insert.ensures.updates c.insert.ensures.absent has in
    ap is_some (updates.2 other apart) ∙ ap (λ (s : SlotList). has_slot s other) c.self.view_is

pub returns-clause-slot : goal.returns-clause-slot
returns-clause-slot c =
    let has : has_slot c.self.inside.slots.entries c.args.key ≡ true = ap (λ (s : SlotList). has_slot s c.args.key) c.self.view_is ∙ c.requires in
    let updates : Updates row_order c.self.inside.slots c.insert.new.self c.args.key (Some (Some c.args.item)) =
    not_refused c.insert.result _ (lookup (is_at (row_order c.args.key)) c.self.inside.slots.entries) c.insert.ensures.updates c.insert.ensures.absent has in
    ap is_some updates.1
