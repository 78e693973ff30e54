-- What helpers do to the one history beside sessions.
use Rattle.std.specs.Prelude.{◌≡◌, List, []}
use Rattle.turnstile.specs.Histories.{Trail}
use Rattle.turnstile.specs.Passes.{PassView}
use Rattle.cluster.specs.Events.{pass_of}
use Rattle.table_history.specs.Entries.{TableEvent}
use Rattle.cell_asks.specs.Steps.{bound}

-- from p to q the pass added these own entries, none of which binds a request: no Write that was made, no Begin that drew a number, no
-- command that was carried out. Expired items may have been removed, and transactions ended. But for these entries, its moment and its
-- units the pass is as it was
pub record Upkeep (p q : PassView TableEvent) : Type 0 where
  pub own : List TableEvent
  pub trail : Trail pass_of p.number p.front own q.front
  pub nothing : bound own ≡ []
  pub same : q ≡ record p { moment = q.moment; used = q.used; front = q.front }
