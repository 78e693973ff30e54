use Rattle.std.proofs.Common.{◌-◌}
use Rattle.recovery_manager.proofs.Expired.{is_list_of_keys, lists_keys}
use Rattle.recovery_manager.proofs.expiring.expired_keys.Goals as goal

pub unreachable-requires : goal.unreachable-requires
unreachable-requires g c =
    is_list_of_keys (g.R.Rules.protocol (c.args.caller.now.id.slots - 1)) c.args.pass.now c.ask.new.pass c.args.limit c.args.cell
    c.in_ok-answer.answer c.in_ok-answer.ensures.later c.in_default.not-ExpiredList

pub returns-clause-ok : goal.returns-clause-ok
returns-clause-ok g c =
    lists_keys (g.R.Rules.protocol (c.args.caller.now.id.slots - 1)) c.args.pass.now c.ask.new.pass c.args.limit c.args.cell
    c.in_ok-answer.answer c.in_ok-answer.ensures.later c.in-ExpiredList.keys c.in-ExpiredList.is c.in_ok-answer.ensures.ok
