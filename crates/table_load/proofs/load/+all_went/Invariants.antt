use Rattle.std.proofs.Common.{length}
use Rattle.table_load.proofs.load.+all_went.Given as goal

abbrev pub decreases-all_went : goal.decreases-all_went
decreases-all_went l = length l.clients.now
