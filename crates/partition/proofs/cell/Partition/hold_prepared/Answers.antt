use Rattle.std.proofs.Common.{refl, subst, sym}
use Rattle.partition.specs.Moves.{AreUnheld}
use Rattle.partition.proofs.Moved.{on_err_with}
use Rattle.partition.proofs.cell.Partition.hold_prepared.Goals as goal

pub returns-clause-refused : goal.returns-clause-refused
returns-clause-refused g c =
    on_err_with c.hold_with.result c.hold_with.ensures.refused
    (λ h un. (h (subst (λ es. AreUnheld g.N.Ord.cmp c.args.self.now.locals.tables c.args.table es) (sym c.entries_after-image.ensures) un), λ q. refl))
