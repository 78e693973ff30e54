use Rattle.std.specs.Map.{lookup}
use Rattle.std.proofs.Common.{rules, ◌≡◌, None, Some, sym, ap, ◌∙◌}
use Rattle.table_model.specs.Transactions.{change_key}
use Rattle.table_items.specs.Outcomes.{row_key_if}
use Rattle.numbered_tables.proofs.Kept.{at}
use Rattle.table_model.specs.declared.refusal.Refusal.TheVariants.{NoTable}
use Rattle.transact_writes.proofs.Checks.{no_table, placed, bad}
use Rattle.transact_writes.proofs.aim.placed.Goals as goal

pub returns-in_default : goal.returns-in_default
returns-in_default c =
    let es = c.args.tables.now.entries in
    let action = c.args.action.now in
    let none : lookup (at action.table) es ≡ None = search rules in
    no_table es action none ∙ ap (λ name. Some (NoTable name)) (sym c.in_ok-try_clone.ensures)

pub returns-in-Ok : goal.returns-in-Ok
returns-in-Ok c =
    let es = c.args.tables.now.entries in
    let action = c.args.action.now in
    let t = c.in-Some.table.now in
    let found : lookup (at action.table) es ≡ Some t = search rules in
    placed es action t c.in-Ok.key found c.are_in_order.ensures
    (sym c.in-Ok.is ∙ c.in_ok-key.ensures ∙ ap (λ schema. row_key_if (change_key schema action.change)) c.schema.ensures)

pub returns-in-Err : goal.returns-in-Err
returns-in-Err c =
    let es = c.args.tables.now.entries in
    let action = c.args.action.now in
    let t = c.in-Some.table.now in
    let found : lookup (at action.table) es ≡ Some t = search rules in
    bad es action t c.in-Err.fault found
    (sym c.in-Err.is ∙ c.in_ok-key.ensures ∙ ap (λ schema. row_key_if (change_key schema action.change)) c.schema.ensures)
