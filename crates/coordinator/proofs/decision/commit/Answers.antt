use Rattle.std.proofs.Common.{◌-◌, reverse}
use Rattle.coordinator.proofs.Deciding.{commit_allowed}
use Rattle.coordinator.proofs.decision.commit.Goals as goal

pub decide-requires-clause-may : goal.decide-requires-clause-may
decide-requires-clause-may g c =
    commit_allowed (g.R.Rules.protocol (c.args.caller.now.id.slots - 1)) (reverse c.args.pass.now.front) c.args.driver.now c.args.pass.now.number
    c.new.result c.requires.driver c.requires.next
