use Rattle.std.specs.Map.{lookup}
use Rattle.std.specs.Option.{option_copied}
use Rattle.std.proofs.Common.{rules, ◌≡◌, None, Some, ◌∙◌}
use Rattle.std.proofs.lemmas.Result.{IfOk-weaker}
use Rattle.numbered_tables.proofs.Kept.{at}
use Rattle.table_request.specs.declared.transactions.TransactAction.{TransactAction}
use Rattle.transact_writes.specs.Judged.{judged_in}
use Rattle.transact_writes.proofs.Judging.{there_at, judged_at}
use Rattle.transact_writes.proofs.judge.judge_kept.Goals as goal

pub unreachable-requires : goal.unreachable-requires
unreachable-requires c =
    let es = c.args.tables.now.entries in
    let action = c.args.action.now in
    let none : lookup (at action.table) es ≡ None = search rules in
    there_at es action c.args.key c.requires none

pub returns : goal.returns
returns c =
    let es = c.args.tables.now.entries in
    let action = c.args.action.now in
    let t = c.in-Some.table.now in
    let found : lookup (at action.table) es ≡ Some t = search rules in
    let lent : option_copied c.as_ref-condition.result ≡ action.condition = search rules in
    IfOk-weaker c.judge_copy.result _ _
    (λ verdict is.
    is
    ∙ (λ i. judged_in t.rows c.args.key (let a : TransactAction = record {
      table = c.in_ok-try_clone-in-Some.ensures i;
      change = action.change;
      condition = lent i;
      values = action.values;
      show_old = action.show_old;
    } in a))
    ∙ judged_at es action t c.args.key found c.requires)
    c.judge_copy.ensures
