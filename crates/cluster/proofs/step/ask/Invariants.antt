use Rattle.std.proofs.Common.{Some}
use Rattle.cluster.specs.Events.{event_of}
use Rattle.cluster.proofs.step.ask.Given as goal

abbrev pub ghosts-count : goal.ghosts-count
ghosts-count g a = record { entry = event_of a.pass.now (Some a.turn.now.cell) a.asked.now.value a.answer.now }
