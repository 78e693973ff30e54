use Rattle.std.proofs.Common.{subst}
use Rattle.turnstile.specs.Passes.{PassView}
use Rattle.cluster.specs.Steps.{partitions_of}
use Rattle.table_history.specs.Entries.{TableEvent}
use Rattle.table_load.specs.Sending.{SweepsAll}
use Rattle.table_load.proofs.session.Session.sweep.Goals as goal

pub returns-clause-ok : goal.returns-clause-ok
returns-clause-ok g c =
    subst (λ (p : PassView TableEvent). SweepsAll (partitions_of c.args.cells.now.caller) p c.sweep-swept.new.pass) c.self.view_is
    (record { count = c.in_ok-_ended._ended; sweeps = c.in_ok-_ended.ensures.ok })
