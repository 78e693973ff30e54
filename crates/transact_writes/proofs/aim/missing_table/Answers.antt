use Rattle.std.specs.Map.{lookup}
use Rattle.std.proofs.Common.{rules, ◌≡◌, Some, true, false, is_some, ap, ◌∙◌}
use Rattle.table_model.specs.declared.refusal.Refusal.TheVariants.{NoTable}
use Rattle.numbered_tables.proofs.Kept.{at}
use Rattle.transact_writes.specs.Aimed.{database_of}
use Rattle.transact_writes.proofs.Checks.{missing_in, is_missing, is_there, found_first, passed_first}
use Rattle.transact_writes.proofs.aim.missing_table.Goals as goal

pub returns-then-not-contains_key : goal.returns-then-not-contains_key
returns-then-not-contains_key c =
    let es = c.args.tables.now.entries in
    let action = c.action-item.result in
    let none : is_some (lookup (at action.table) es) ≡ false = search rules in
    ap (λ name. Some (NoTable name)) c.in_ok-try_clone.ensures
    ∙ found_first (missing_in (database_of es)) c.args.actions.now c.loop-action.action-index action (NoTable action.table) c.loop-action-test.true
    c.action-item.is c.loop-action.invariant (is_missing es action none)

pub loop-action-preserved : goal.loop-action-preserved
loop-action-preserved c =
    let es = c.args.tables.now.entries in
    let action = c.action-item.result in
    let has : is_some (lookup (at action.table) es) ≡ true = search rules in
    passed_first (missing_in (database_of es)) c.args.actions.now c.loop-action.action-index action c.loop-action-test.true c.action-item.is
    c.loop-action.invariant (is_there es action has)
