use Rattle.std.proofs.Common.{take, refl, arith}
use Rattle.txn_core.specs.Breaks.{of_sending}
use Rattle.txn_core.proofs.Breaking.{first_break, keeps_more, keeps_whole}
use Rattle.txn_core.proofs.replay.sending_check.Goals as goal

pub returns-in-Some : goal.returns-in-Some
returns-in-Some g c =
    first_break (g.R.Rules.protocol c.args.partitions) of_sending c.args.entries.now c.loop-place.place c.index-entries-place.result (omega arith) c.index-entries-place.is (take c.loop-place.place c.args.entries.now) refl c.loop-place.invariant c.in-Some.kind c.in-Some.ensures

pub loop-place-preserved : goal.loop-place-preserved
loop-place-preserved g c =
    keeps_more (g.R.Rules.protocol c.args.partitions) of_sending c.args.entries.now c.loop-place.place c.index-entries-place.result (omega arith) c.index-entries-place.is (take c.loop-place.place c.args.entries.now) refl c.loop-place.invariant c.in_default.ensures

pub returns : goal.returns
returns g c = keeps_whole (g.R.Rules.protocol c.args.partitions) of_sending c.args.entries.now c.loop-place.place (omega arith) (omega arith) c.loop-place.invariant
