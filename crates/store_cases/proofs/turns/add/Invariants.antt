use Rattle.std.proofs.Common.{Some}
use Rattle.store_cases.proofs.turns.add.Given as goal

abbrev pub ghosts-commit : goal.ghosts-commit
ghosts-commit g a = record { entry = record { pass = a.pass.now.number; cell = Some a.turn.now.cell; moment = a.pass.now.moment; amount = a.amount.now } }
