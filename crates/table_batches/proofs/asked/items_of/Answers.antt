use Rattle.std.proofs.Common.{rules, ◌≡◌, [], ◌++◌, map, Some, None, Ok, Err, refl, sym, ap, ◌∙◌}
use Rattle.std.specs.Map.{lookup}
use Rattle.std.specs.Option.{option_copied}
use Rattle.std.proofs.lemmas.List.{append-nil, map-id}
use Rattle.item_keys.specs.ItemKey.{key_alone}
use Rattle.row_keys.specs.Rows.{item_at}
use Rattle.table_model.specs.Batches.{has_twice}
use Rattle.numbered_tables.proofs.Kept.{at}
use Rattle.table_batches.specs.Keys.{gathered}
use Rattle.table_batches.proofs.Named.{keys_nowhere, items_nowhere, keys_asked, items_asked}
use Rattle.table_batches.proofs.asked.items_of.Goals as goal

pub returns-in_default : goal.returns-in_default
returns-in_default c =
    let es = c.args.tables.now.entries in
    let t = c.args.asked.now in
    let none : lookup (at t.table) es ≡ None = search rules in
    let items = map option_copied c.args.items.now.items in
    ([], keys_nowhere es t none, refl, sym (ap (λ more. items ++ more) (items_nowhere es t none) ∙ append-nil items))

pub returns-in-Err : goal.returns-in-Err
returns-in-Err c =
    let es = c.args.tables.now.entries in
    let t = c.args.asked.now in
    let x = c.in-Some.table.now in
    let here : lookup (at t.table) es ≡ Some x = search rules in
    keys_asked es t x (Err c.in-Err.fault) here
    (sym c.in-Err.is ∙ c.in_ok-keys.ensures
    ∙ (λ i. gathered (map (λ key. key_alone (c.schema.ensures i) (c.schema.ensures i).keys key) (c.as_slice.ensures i))))

pub returns : goal.returns
returns c =
    let es = c.args.tables.now.entries in
    let t = c.args.asked.now in
    let x = c.in-Some.table.now in
    let keys = c.in-Ok.keys in
    let here : lookup (at t.table) es ≡ Some x = search rules in
    let read : Ok keys ≡ gathered (map (λ key. key_alone x.rows.schema x.rows.schema.keys key) t.keys) =
    sym c.in-Ok.is ∙ c.in_ok-keys.ensures
    ∙ (λ i. gathered (map (λ key. key_alone (c.schema.ensures i) (c.schema.ensures i).keys key) (c.as_slice.ensures i))) in
    let items = map option_copied c.args.items.now.items in (
      keys,
      keys_asked es t x (Ok keys) here read,
      c.in_ok-has_twice.ensures ∙ ap has_twice (map-id c.as_slice-3.result.now ∙ c.as_slice-3.ensures),
      c.in_ok-look_up.ensures ∙ ap (λ ks. items ++ map (item_at x.rows.rows) ks) c.as_slice-2.ensures
          ∙ ap (λ more. items ++ more) (items_asked es t x keys here read),
    )
