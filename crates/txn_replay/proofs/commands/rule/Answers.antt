use Rattle.std.proofs.Common.{refl}
use Rattle.txn_core.specs.declared.answer.Answer.{Answer}
use Rattle.txn_replay.proofs.Commanded.{carried, carried_held, denied, denied_held, leads_carried, leads_same, next_is, refused}
use Rattle.txn_replay.proofs.commands.rule.Goals as goal

pub returns-in-Refused-clause-tells : goal.returns-in-Refused-clause-tells
returns-in-Refused-clause-tells g c =
    let n = c.args.partitions in
    let S = g.R.Rules.protocol n in
    let L = g.R.CellRules.locals in
    refused S L c.args.cells.now c.args.moment c.args.command.now (g.met.R.Rules.lawful n) c.in_the_way-holder.result
    c.as_slice.result.now c.as_slice.ensures.value (λ es stand. c.in_the_way-holder.ensures n es c.requires.some stand)
    c.in_ok-plan.plan (c.in_ok-plan.ensures.plan n) c.in-Refused.told c.in-Refused.is

pub returns-in-Refused-clause-leads : goal.returns-in-Refused-clause-leads
returns-in-Refused-clause-leads g c =
    let n = c.args.partitions in
    leads_same (g.R.Rules.protocol n) g.R.CellRules.locals c.args.cells.now c.args.moment c.args.command.now (c.others_leave_it.ensures n)
    (Answer.Refused c.in-Refused.told) refl

pub returns-in-Some-clause-tells : goal.returns-in-Some-clause-tells
returns-in-Some-clause-tells g c =
    let n = c.args.partitions in
    let S = g.R.Rules.protocol n in
    let L = g.R.CellRules.locals in
    denied_held S L c.args.cells.now c.args.moment c.args.command.now (g.met.R.Rules.lawful n) c.in_the_way-holder.result
    c.as_slice.result.now c.as_slice.ensures.value (λ es stand. c.in_the_way-holder.ensures n es c.requires.some stand)
    c.in_ok-plan.plan (c.in_ok-plan.ensures.plan n) c.in-Denied.told c.in-Some.number c.in-Denied.is c.in-Some.is

pub returns-in-Some-clause-leads : goal.returns-in-Some-clause-leads
returns-in-Some-clause-leads g c =
    let n = c.args.partitions in
    leads_same (g.R.Rules.protocol n) g.R.CellRules.locals c.args.cells.now c.args.moment c.args.command.now (c.others_leave_it.ensures n)
    (Answer.Held c.in-Some.number) refl

pub returns-in-None-clause-tells : goal.returns-in-None-clause-tells
returns-in-None-clause-tells g c =
    let n = c.args.partitions in
    let S = g.R.Rules.protocol n in
    let L = g.R.CellRules.locals in
    denied S L c.args.cells.now c.args.moment c.args.command.now (g.met.R.Rules.lawful n) c.in_the_way-holder.result
    c.as_slice.result.now c.as_slice.ensures.value (λ es stand. c.in_the_way-holder.ensures n es c.requires.some stand)
    c.in_ok-plan.plan (c.in_ok-plan.ensures.plan n) c.in-Denied.told c.in-Denied.is c.in-None.is

pub returns-in-None-clause-leads : goal.returns-in-None-clause-leads
returns-in-None-clause-leads g c =
    let n = c.args.partitions in
    leads_same (g.R.Rules.protocol n) g.R.CellRules.locals c.args.cells.now c.args.moment c.args.command.now (c.others_leave_it.ensures n)
    (Answer.Refused c.in-Denied.told) refl

pub returns-in-Some-holder-clause-tells : goal.returns-in-Some-holder-clause-tells
returns-in-Some-holder-clause-tells g c =
    let n = c.args.partitions in
    let S = g.R.Rules.protocol n in
    let L = g.R.CellRules.locals in
    carried_held S L c.args.cells.now c.args.moment c.args.command.now (g.met.R.Rules.lawful n) c.in_the_way-holder.result
    c.as_slice.result.now c.as_slice.ensures.value (λ es stand. c.in_the_way-holder.ensures n es c.requires.some stand)
    c.in_ok-plan.plan (c.in_ok-plan.ensures.plan n) c.in-Carried.told c.in-Carried.catalog c.in-Some-holder.number c.in-Carried.is
    c.in-Some-holder.is

pub returns-in-Some-holder-clause-leads : goal.returns-in-Some-holder-clause-leads
returns-in-Some-holder-clause-leads g c =
    let n = c.args.partitions in
    leads_same (g.R.Rules.protocol n) g.R.CellRules.locals c.args.cells.now c.args.moment c.args.command.now (c.others_leave_it.ensures n)
    (Answer.Held c.in-Some-holder.number) refl

pub returns-in_ok-carry_out-in-None-holder-clause-tells : goal.returns-in_ok-carry_out-in-None-holder-clause-tells
returns-in_ok-carry_out-in-None-holder-clause-tells g c =
    let n = c.args.partitions in
    let S = g.R.Rules.protocol n in
    let L = g.R.CellRules.locals in
    carried S L c.args.cells.now c.args.moment c.args.command.now (g.met.R.Rules.lawful n) c.in_the_way-holder.result
    c.as_slice.result.now c.as_slice.ensures.value (λ es stand. c.in_the_way-holder.ensures n es c.requires.some stand)
    c.in_ok-plan.plan (c.in_ok-plan.ensures.plan n) c.in-Carried.told c.in-Carried.catalog c.in-Carried.is c.in-None-holder.is

pub returns-in_ok-carry_out-in-None-holder-clause-leads : goal.returns-in_ok-carry_out-in-None-holder-clause-leads
returns-in_ok-carry_out-in-None-holder-clause-leads g c =
    let n = c.args.partitions in
    let S = g.R.Rules.protocol n in
    let L = g.R.CellRules.locals in
    leads_carried S L c.args.cells.now c.args.moment c.args.command.now c.carry_out.new.cells c.in-Carried.told c.in-Carried.catalog
    (next_is S L c.args.cells.now c.args.moment c.args.command.now (g.met.R.Rules.lawful n) c.in_the_way-holder.result
    c.as_slice.result.now c.as_slice.ensures.value (λ es stand. c.in_the_way-holder.ensures n es c.requires.some stand)
    c.in_ok-plan.plan (c.in_ok-plan.ensures.plan n) c.in-Carried.told c.in-Carried.catalog c.in-Carried.is)
    c.in_ok-carry_out-in-None-holder.ensures.carried
