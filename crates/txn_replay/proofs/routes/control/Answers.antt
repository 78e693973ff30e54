use Rattle.std.proofs.Common.{sym}
use Rattle.txn_replay.proofs.routes.control.Goals as goal

pub returns : goal.returns
returns g c = sym (g.met.R.Rules.numbered c.args.partitions)
