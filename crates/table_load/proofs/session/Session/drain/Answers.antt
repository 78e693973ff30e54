use Rattle.std.proofs.Common.{subst}
use Rattle.turnstile.specs.Passes.{PassView}
use Rattle.cluster.specs.Steps.{partitions_of}
use Rattle.table_history.specs.Entries.{TableEvent}
use Rattle.table_load.specs.Sending.{DrainsAll}
use Rattle.table_load.proofs.session.Session.drain.Goals as goal

pub returns-clause-ok : goal.returns-clause-ok
returns-clause-ok g c =
    subst (λ (p : PassView TableEvent). DrainsAll (partitions_of c.args.cells.now.caller) p c.drain-drained.new.pass) c.self.view_is
    (record { fed = c.in_ok-_fed._fed; drains = c.in_ok-_fed.ensures.ok; drained = c.in_ok-_fed.ensures.drained })
