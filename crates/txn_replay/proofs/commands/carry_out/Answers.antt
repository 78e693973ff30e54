use Rattle.txn_replay.proofs.Commanded.{carries_all}
use Rattle.txn_replay.proofs.commands.carry_out.Goals as goal

pub returns-clause-carried : goal.returns-clause-carried
returns-clause-carried g c =
    let n = c.args.partitions in
    carries_all (g.R.Rules.protocol n) g.R.CellRules.locals c.args.cells.now c.args.moment c.args.command.now
    record { partitions = c.carry_out_each.new.cells; control = c.commit_catalog.new.self; catalog = c.in_ok-cells.field-0 } c.args.catalog
    c.in_ok-carry_out_each.ensures.carried (c.commit_catalog.ensures n c.args.moment) (c.in_ok-cells.ensures n)
