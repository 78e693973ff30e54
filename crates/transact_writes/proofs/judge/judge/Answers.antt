use Rattle.std.specs.Map.{lookup}
use Rattle.std.proofs.Common.{rules, ◌≡◌, None, Some, ◌∙◌}
use Rattle.std.proofs.lemmas.Result.{IfOk-weaker}
use Rattle.numbered_tables.proofs.Kept.{at}
use Rattle.transact_writes.specs.Aimed.{action_in, target_in}
use Rattle.transact_writes.proofs.Judging.{there_for, judged_there}
use Rattle.transact_writes.proofs.judge.judge.Goals as goal

pub unreachable-requires : goal.unreachable-requires
unreachable-requires c =
    let es = c.args.tables.now.entries in
    let action = action_in c.args.aimed in
    let none : lookup (at action.table) es ≡ None = search rules in
    there_for es action (target_in c.args.aimed) c.requires.0 none

pub returns : goal.returns
returns c =
    let es = c.args.tables.now.entries in
    let action = action_in c.args.aimed in
    let t = c.in-Some.table.now in
    let found : lookup (at action.table) es ≡ Some t = search rules in
    IfOk-weaker c.judge_in.result _ _ (λ verdict is. is ∙ judged_there es action t (target_in c.args.aimed) found c.requires.0) c.judge_in.ensures
