use Rattle.std.proofs.Common.{◌∷◌}
use Rattle.partition.proofs.Commanded.{from_own, has_room, stands, steps, to_own}
use Rattle.partition.proofs.commands.commit_catalog.Goals as goal

pub returns-clause-all : goal.returns-clause-all
returns-clause-all g c = λ n i moment command es e planned is legal here.
    let S = g.R.Rules.protocol n in
    let p = planned.0 in
    stands S (g.met.R.Rules.lawful n) (g.met.R.CommandRules.commands n) command moment es e is legal g.met.R.Key.Ord.total (g.met.R.CellRules.ordered n) i
    c.args.cell.now c.carry_out_plan.new.self p planned.2
    (c.carry_out_plan.ensures p planned.1 (has_room S g.R.CommandRules.target g.R.CommandRules.numbers i c.args.cell.now command moment p planned.2 planned.3 planned.4)) here

pub returns-clause-own : goal.returns-clause-own
returns-clause-own g c = λ n i moment command es e planned is legal here.
    let S = g.R.Rules.protocol n in
    let law = g.met.R.Rules.lawful n in
    let p = planned.0 in
    to_own S law i c.carry_out_plan.new.self (e ∷ es) legal
    (stands S law (g.met.R.CommandRules.commands n) command moment es e is legal g.met.R.Key.Ord.total (g.met.R.CellRules.ordered n) i c.args.cell.now
    c.carry_out_plan.new.self p planned.2
    (c.carry_out_plan.ensures p planned.1 (has_room S g.R.CommandRules.target g.R.CommandRules.numbers i c.args.cell.now command moment p planned.2 planned.3 planned.4))
    (from_own S law i c.args.cell.now es legal.0 here))

pub returns-clause-in_step : goal.returns-clause-in_step
returns-clause-in_step g c = λ n i moment command es e planned is legal here.
    let S = g.R.Rules.protocol n in
    let p = planned.0 in
    steps S (g.met.R.Rules.lawful n) (g.met.R.CommandRules.commands n) command moment es e is legal i c.args.cell.now c.carry_out_plan.new.self p planned.2
    (c.carry_out_plan.ensures p planned.1 (has_room S g.R.CommandRules.target g.R.CommandRules.numbers i c.args.cell.now command moment p planned.2 planned.3 planned.4))
    g.R.CellRules.locals (g.met.R.CellRules.entries_lawful n) (g.met.R.CommandRules.entries_stay n) planned.5 here

pub returns-clause-own_in_step : goal.returns-clause-own_in_step
returns-clause-own_in_step g c = λ n i moment command es e planned is legal here.
    let S = g.R.Rules.protocol n in
    let law = g.met.R.Rules.lawful n in
    let p = planned.0 in
    steps S law (g.met.R.CommandRules.commands n) command moment es e is legal i c.args.cell.now c.carry_out_plan.new.self p planned.2
    (c.carry_out_plan.ensures p planned.1 (has_room S g.R.CommandRules.target g.R.CommandRules.numbers i c.args.cell.now command moment p planned.2 planned.3 planned.4))
    g.R.CellRules.locals (g.met.R.CellRules.entries_lawful n) (g.met.R.CommandRules.entries_stay n) planned.5
    (from_own S law i c.args.cell.now es legal.0 here)
