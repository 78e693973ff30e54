use Rattle.std.proofs.Common.{sym, subst}
use Rattle.table_rows.specs.Quiet.{IsQuiet}
use Rattle.table_rows.proofs.Quiets.{made_quiet}
use Rattle.table_rows.proofs.table.TableRows.commit.Goals as goal

pub invariant_of-self : goal.invariant_of-self
invariant_of-self c =
    λ quiet is. subst (IsQuiet quiet) (sym c.commit.ensures) (made_quiet quiet c.self.inside.rows (c.self.invariant quiet is))
