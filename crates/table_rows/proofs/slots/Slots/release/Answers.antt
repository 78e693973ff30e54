use Rattle.std.proofs.Common.{rules, ◌≡◌, true, None, is_some, ◌∙◌, ap, sym, refl, subst}
use Rattle.row_keys.specs.Rows.{item_at}
use Rattle.table_rows.specs.Slots.{SlotList, rows_of, has_slot}
use Rattle.table_rows.proofs.SlotLists.{slot_blank, slot_filled}
use Rattle.table_rows.proofs.slots.Slots.release.Goals as goal

pub returns-clause-rows : goal.returns-clause-rows
returns-clause-rows c =
    let gone : item_at (rows_of c.args.self.now) c.args.key.now ≡ None = search rules in
    slot_blank c.self.inside.slots.entries c.remove.new.self.entries c.self.invariant c.remove.ensures.ordered c.args.key.now None
    c.remove.ensures.updates.0 (ap (λ (s : SlotList). item_at (rows_of s) c.args.key.now) c.self.view_is ∙ gone) refl
    ∙ ap rows_of c.self.view_is

pub returns-clause-others : goal.returns-clause-others
returns-clause-others c = λ other apart.
    ap is_some (c.remove.ensures.updates.2 other apart) ∙ ap (λ (s : SlotList). has_slot s other) c.self.view_is

pub returns-clause-slot : goal.returns-clause-slot
returns-clause-slot c =
    let gone : item_at (rows_of c.args.self.now) c.args.key.now ≡ None = search rules in
    ap is_some c.remove.ensures.updates.1 ∙ ap is_some (sym gone)

pub returns-then-is_some-clause-slot : goal.returns-then-is_some-clause-slot
returns-then-is_some-clause-slot c =
    let key = c.args.key.now in
    let there : is_some (item_at (rows_of c.args.self.now) key) ≡ true = search rules in
    subst (λ (s : SlotList). has_slot s key ≡ is_some (item_at (rows_of s) key)) c.self.view_is
    (slot_filled c.self.inside.slots.entries c.self.invariant key (ap (λ (s : SlotList). is_some (item_at (rows_of s) key)) c.self.view_is ∙ there))
