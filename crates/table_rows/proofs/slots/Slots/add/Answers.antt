use Rattle.std.proofs.Common.{◌≡◌, false, subst, None, Some, is_some, ◌∙◌, ap, sym, refl}
use Rattle.table_rows.specs.Slots.{SlotList, rows_of, has_slot}
use Rattle.table_rows.proofs.SlotLists.{item_in, rows_at, slot_blank, none_from}
use Rattle.table_rows.proofs.slots.Slots.add.Goals as goal

pub returns-in-Ok-clause-rows : goal.returns-in-Ok-clause-rows
returns-in-Ok-clause-rows c =
    let slots : SlotList = c.self.inside.slots.entries in
    let gone = rows_at slots c.self.invariant c.args.key ∙ ap item_in (none_from _ (subst (λ (s : SlotList). has_slot s c.args.key ≡ false) (sym c.self.view_is) c.requires)) in
    slot_blank slots c.insert.new.self.entries c.self.invariant c.insert.ensures.ordered c.args.key (Some None) c.in-Ok.ensures.updates.0 gone refl
    ∙ ap rows_of c.self.view_is

pub returns-in-Ok-clause-others : goal.returns-in-Ok-clause-others
returns-in-Ok-clause-others c = λ other apart.
    ap is_some (c.in-Ok.ensures.updates.2 other apart) ∙ ap (λ (s : SlotList). has_slot s other) c.self.view_is
