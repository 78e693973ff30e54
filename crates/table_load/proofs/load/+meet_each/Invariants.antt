use Rattle.std.proofs.Common.{length}
use Rattle.table_load.proofs.load.+meet_each.Given as goal

abbrev pub decreases-meet_each : goal.decreases-meet_each
decreases-meet_each l = length l.clients.now
