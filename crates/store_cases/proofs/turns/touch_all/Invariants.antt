use Rattle.std.proofs.Common.{None}
use Rattle.store_cases.proofs.turns.touch_all.Given as goal

abbrev pub ghosts-commit_all : goal.ghosts-commit_all
ghosts-commit_all g a = record { entry = record { pass = a.pass.now.number; cell = None; moment = a.pass.now.moment; amount = 0 } }
