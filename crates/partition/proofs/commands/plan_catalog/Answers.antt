use Rattle.std.proofs.Common.{rules, ◌≡◌, sym, ◌∙◌, subst}
use Rattle.index_changes.specs.Plans.{IsPlan}
use Rattle.partition.specs.Plans.{IsPlaced}
use Rattle.partition.proofs.Changing.{unchanged}
use Rattle.partition.proofs.Moved.{on_ok_with}
use Rattle.partition.proofs.Planned.{but_plan_stays, entries_place_moved, place_moved, plan_moved, same_but_plan}
use Rattle.partition.proofs.Staying.{same_stays}
use Rattle.partition.proofs.commands.plan_catalog.Goals as goal

pub returns-clause-planned : goal.returns-clause-planned
returns-clause-planned g c =
    on_ok_with c.put_plan.result c.put_plan.ensures.put
    (λ put n is.
    let target = g.R.CommandRules.target in
    let numbers = g.R.CommandRules.numbers in
    let made = c.make_place.new.cell in
    let one : made.partitions ≡ n = c.make_place.ensures.kept.beside.partitions ∙ sym is in
    let placed : IsPlaced (target c.args.command.now made.catalog) made.items.tables = search rules in
    let beside : IsPlaced (target c.args.command.now made.catalog) made.locals.tables = search rules in (
      c.in_ok-plan.plan,
      put,
      plan_moved (g.R.Rules.protocol n) target numbers c.args.here made c.put_plan.new.self c.args.command.now c.args.moment c.in_ok-plan.plan
          c.put_plan.ensures.kept
          (subst (λ m. IsPlan (g.R.Rules.protocol m) target numbers c.args.here made.catalog made.items c.args.command.now c.args.moment c.in_ok-plan.plan) one c.in_ok-plan.ensures.plan),
      place_moved (g.R.Rules.protocol n) target made c.put_plan.new.self c.args.command.now c.put_plan.ensures.kept placed,
      entries_place_moved (g.R.Rules.protocol n) target made c.put_plan.new.self c.args.command.now c.put_plan.ensures.kept beside,
      c.in_ok-plan.ensures.entries,
    ))

pub returns-clause-kept : goal.returns-clause-kept
returns-clause-kept g c = λ n i w f here.
    let S = g.R.Rules.protocol n in
    same_but_plan S i c.make_place.new.cell c.put_plan.new.self w f c.put_plan.ensures.kept
    (unchanged S i c.args.cell.now c.make_place.new.cell w f c.make_place.ensures.kept here)

pub returns-clause-in_step : goal.returns-clause-in_step
returns-clause-in_step g c = λ n step.
    let S = g.R.Rules.protocol n in
    let law = g.met.R.Rules.lawful n in
    let ordered = g.met.R.CellRules.ordered n in
    let fair = g.met.R.CellRules.entries_lawful n in
    let total = g.met.R.LocalEntry.Ord.total in
    let kept = c.make_place.ensures.kept in
    but_plan_stays S law ordered g.R.CellRules.locals fair total c.make_place.new.cell c.put_plan.new.self c.put_plan.ensures.kept
    (same_stays S law ordered g.R.CellRules.locals fair total c.args.cell.now c.make_place.new.cell kept.beside.catalog kept.slots c.make_place.ensures.entries step)
