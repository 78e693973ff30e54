use Rattle.std.proofs.Common.{sym, subst}
use Rattle.table_rows.specs.Quiet.{NarrowsTo}
use Rattle.table_rows.proofs.Quiets.{ends_first}
use Rattle.table_rows.proofs.quiet.Quiet.up_to.Goals as goal

pub returns-in-None : goal.returns-in-None
returns-in-None c =
    subst (NarrowsTo c.args.number c.args.self) (sym c.ending.ensures) (ends_first c.args.number c.args.self c.in-None.is)
