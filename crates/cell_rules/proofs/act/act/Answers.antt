use Rattle.std.proofs.Common.{rules}
use Rattle.std.specs.Option.{option_copied}
use Rattle.cell_rules.proofs.Acting.{acts}
use Rattle.cell_rules.proofs.act.act.Goals as goal

pub returns-in-Some : goal.returns-in-Some
returns-in-Some c =
    acts c.act_in.result c.args.catalog.now c.args.action.now c.statement.result.now (option_copied c.args.item) c.in-Some.table.now c.statement.ensures
    (search rules) c.act_in.ensures
