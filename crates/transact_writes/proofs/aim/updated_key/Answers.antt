use Rattle.std.specs.Map.{lookup}
use Rattle.std.specs.FinMap.{empty}
use Rattle.std.proofs.Common.{rules, ◌≡◌, None, Some, option_map, option_and_then, sym, ap, ◌∙◌}
use Rattle.table_model.specs.declared.refusal.Refusal.TheVariants.{Invalid}
use Rattle.table_model.specs.declared.refusal.Invalid.TheVariants.{UpdateOfKey}
use Rattle.table_model.specs.Database.{Table}
use Rattle.table_model.specs.Writes.{touched_key}
use Rattle.table_model.specs.Transactions.{change_key_update}
use Rattle.numbered_tables.proofs.Kept.{at, absent, there}
use Rattle.transact_writes.proofs.aim.updated_key.Goals as goal

pub returns-in_default : goal.returns-in_default
returns-in_default c =
    let es = c.args.tables.now.entries in
    let action = c.args.action.now in
    let none : lookup (at action.table) es ≡ None = search rules in
    sym (ap (option_and_then (λ (table : Table). change_key_update table.schema action.change)) (absent es empty 0 action.table none))

pub returns-in-Update : goal.returns-in-Update
returns-in-Update c =
    let es = c.args.tables.now.entries in
    let action = c.args.action.now in
    let t = c.in-Some.table.now in
    let found : lookup (at action.table) es ≡ Some t = search rules in
    ap (option_map (λ name. Invalid (UpdateOfKey name)))
    (c.touched_key.ensures ∙ ap (λ schema. touched_key schema.keys (Some c.in-Update.update)) c.schema.ensures)
    ∙ sym (ap (option_and_then (λ (table : Table). change_key_update table.schema action.change)) (there es empty 0 action.table t found)
    ∙ ap (change_key_update t.rows.schema) c.in-Update.is)
