use Rattle.std.proofs.Common.{map, ap, subst}
use Rattle.std.specs.List.{AllByRecursion}
use Rattle.std.specs.Vec.Iter.{into_iter_items}
use Rattle.transact_writes.specs.Aimed.{database_of, action_in, IsTarget}
use Rattle.transact_writes.proofs.Judging.{verdict_more}
use Rattle.transact_writes.proofs.settle.judge_all.Goals as goal

pub loop-aimed-preserved : goal.loop-aimed-preserved
loop-aimed-preserved c =
    let db = database_of c.args.tables.now.entries in
    let left = into_iter_items c.loop-aimed.aimed-iterator in
    let rest = into_iter_items c.next.new.self in
    let steps = c.in-Some.ensures.steps.0 in
    record {
      so_far =
          verdict_more db (map action_in c.args.aimed) (map action_in left) (map action_in rest) (action_in c.in-Some.aimed) c.loop-aimed.verdicts
          c.add.new.self c.in_ok-judge.field-0 c.loop-aimed.invariant.so_far (ap (map action_in) steps) c.in_ok-add.ensures c.in_ok-judge.ensures;
      targets = (subst (AllByRecursion (IsTarget db)) steps c.loop-aimed.invariant.targets).1;
    }
