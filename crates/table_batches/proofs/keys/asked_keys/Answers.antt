use Rattle.std.proofs.Common.{rules, ◌≡◌, map, Some, None, Ok, sym, ap, ◌∙◌}
use Rattle.std.specs.Map.{lookup}
use Rattle.std.proofs.lemmas.Result.{IfOk-weaker}
use Rattle.item_keys.specs.ItemKey.{key_alone}
use Rattle.numbered_tables.proofs.Kept.{at}
use Rattle.table_batches.specs.Keys.{gathered}
use Rattle.table_batches.proofs.Named.{keys_nowhere, keys_asked}
use Rattle.table_batches.proofs.keys.asked_keys.Goals as goal

pub returns-in_default : goal.returns-in_default
returns-in_default c =
    let es = c.args.tables.now.entries in
    let t = c.args.asked.now in
    let none : lookup (at t.table) es ≡ None = search rules in
    ap (λ keys. Ok keys) c.new.ensures ∙ sym (keys_nowhere es t none)

pub returns : goal.returns
returns c =
    let es = c.args.tables.now.entries in
    let t = c.args.asked.now in
    let x = c.in-Some.table.now in
    let here : lookup (at t.table) es ≡ Some x = search rules in
    IfOk-weaker c.row_keys.result _ _
    (λ keys is. sym (keys_asked es t x keys here
    (is ∙ (λ i. gathered (map (λ key. key_alone (c.schema.ensures i) (c.schema.ensures i).keys key) (c.as_slice.ensures i))))))
    c.row_keys.ensures
