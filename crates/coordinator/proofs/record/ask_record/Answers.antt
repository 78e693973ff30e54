use Rattle.std.proofs.Common.{◌-◌, Some, reverse}
use Rattle.coordinator.proofs.Recalled.{is_answered}
use Rattle.coordinator.proofs.record.ask_record.Goals as goal

pub unreachable-requires : goal.unreachable-requires
unreachable-requires g c =
    is_answered (g.R.Rules.protocol (c.args.caller.now.id.slots - 1)) (reverse c.args.pass.now.front) (reverse c.ask_ledger.new.pass.front)
    c.args.pass.now (Some (c.args.caller.now.id.slots - 1)) c.args.number c.in_ok-answer.answer c.in_ok-answer.ensures.later c.in_default.not-Known
    c.in_default.not-Unknown
