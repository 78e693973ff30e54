use Rattle.std.proofs.Common.{◌-◌, reverse}
use Rattle.coordinator.proofs.Closing.{closes_committed, closes_gone, not_undecided}
use Rattle.coordinator.proofs.run.close.Goals as goal

pub returns-in-Committed-clause-ends : goal.returns-in-Committed-clause-ends
returns-in-Committed-clause-ends g c =
    closes_committed (g.R.Rules.protocol (c.args.caller.now.id.slots - 1)) c.args.pass.now c.args.driver c.requires.driver c.requires.end c.in-Committed.is

pub returns-in-Gone-clause-ends : goal.returns-in-Gone-clause-ends
returns-in-Gone-clause-ends g c = closes_gone (g.R.Rules.protocol (c.args.caller.now.id.slots - 1)) c.args.pass.now c.args.driver c.in-Gone.is

pub unreachable-requires : goal.unreachable-requires
unreachable-requires g c =
    not_undecided (g.R.Rules.protocol (c.args.caller.now.id.slots - 1)) (reverse c.args.pass.now.front) c.args.driver c.requires.driver c.requires.end
    c.in-Undecided.is
