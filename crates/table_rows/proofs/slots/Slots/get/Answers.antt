use Rattle.std.proofs.Common.{rules, ◌≡◌, None, Some, ◌∙◌, ap, sym}
use Rattle.std.specs.Map.{lookup}
use Rattle.std.specs.Option.{option_copied}
use Rattle.std.specs.BTreeMap.{is_at}
use Rattle.row_keys.specs.Keys.{row_order}
use Rattle.row_keys.specs.Rows.{item_at}
use Rattle.table_rows.specs.Slots.{SlotList, rows_of}
use Rattle.table_rows.proofs.SlotLists.{item_in, rows_at}
use Rattle.table_rows.proofs.slots.Slots.get.Goals as goal

pub returns-in-Some : goal.returns-in-Some
returns-in-Some c =
    let slots : SlotList = c.self.inside.slots.entries in
    let there : lookup (is_at (row_order c.args.key.now)) slots ≡ Some c.in-Some.slot.now = search rules in
    let given : option_copied c.as_ref.result ≡ c.in-Some.slot.now = search rules in
    given ∙ ap item_in (sym there) ∙ sym (rows_at slots c.self.invariant c.args.key.now)
    ∙ ap (λ (s : SlotList). item_at (rows_of s) c.args.key.now) c.self.view_is

pub returns-in-None : goal.returns-in-None
returns-in-None c =
    let slots : SlotList = c.self.inside.slots.entries in
    let there : lookup (is_at (row_order c.args.key.now)) slots ≡ None = search rules in
    ap item_in (sym there) ∙ sym (rows_at slots c.self.invariant c.args.key.now)
    ∙ ap (λ (s : SlotList). item_at (rows_of s) c.args.key.now) c.self.view_is
