use Rattle.std.proofs.Common.{None}
use Rattle.txn_core.specs.declared.message.Message.{Message}
use Rattle.cluster.specs.Events.{event_of}
use Rattle.cluster.proofs.command_step.ask_all.Given as goal

abbrev pub ghosts-count_all : goal.ghosts-count_all
ghosts-count_all g a = record { entry = event_of a.pass.now None (Message.Command a.command.now) a.answer.now }
