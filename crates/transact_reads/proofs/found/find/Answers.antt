use Rattle.std.specs.Map.{lookup}
use Rattle.std.proofs.Common.{rules, ◌≡◌, ◌∙◌, ℕ, List, None, Some, sym, ap}
use Rattle.item_keys.specs.ItemKey.{key_alone}
use Rattle.table_model.specs.declared.refusal.Refusal.TheVariants.{NoTable}
use Rattle.table_items.specs.Outcomes.{row_key_if}
use Rattle.numbered_tables.proofs.Kept.{at}
use Rattle.transact_reads.proofs.Reading.{not_there, unfit, fit}
use Rattle.transact_reads.proofs.found.find.Goals as goal

pub returns-in_default : goal.returns-in_default
returns-in_default c =
    let read = c.args.read.now in
    let none : lookup (at read.table) c.args.tables.now.entries ≡ None = search rules in
    not_there c.args.tables.now.entries read none ∙ ap (λ (name : List ℕ). Some (NoTable name)) (sym c.in_ok-try_clone.ensures)

pub returns-in-Ok : goal.returns-in-Ok
returns-in-Ok c =
    let read = c.args.read.now in
    let there : lookup (at read.table) c.args.tables.now.entries ≡ Some c.in-Some.table.now = search rules in
    fit c.args.tables.now.entries (record { read = c.args.read; table = c.in-Some.table; key = c.in-Ok.key }) there
    (sym c.in-Ok.is ∙ c.in_ok-key.ensures ∙ (λ i. row_key_if (key_alone (c.schema.ensures i) (c.schema.ensures i).keys read.key)))

pub returns-in-Err : goal.returns-in-Err
returns-in-Err c =
    let read = c.args.read.now in
    let there : lookup (at read.table) c.args.tables.now.entries ≡ Some c.in-Some.table.now = search rules in
    unfit c.args.tables.now.entries read c.in-Some.table.now c.in-Err.fault there
    (sym c.in-Err.is ∙ c.in_ok-key.ensures ∙ (λ i. row_key_if (key_alone (c.schema.ensures i) (c.schema.ensures i).keys read.key)))
