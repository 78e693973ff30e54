use Rattle.std.proofs.Common.{sym}
use Rattle.cell_cases.proofs.cells.of_control.Goals as goal

pub step-requires : goal.step-requires
step-requires c = record { goes = λ n. sym (c.if-is_of_control.ensures n) }
