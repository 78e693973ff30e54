use Rattle.std.proofs.Common.{◌-◌, Some, ap, sym, ◌∙◌}
use Rattle.recovery_manager.proofs.Expired.{expires_key}
use Rattle.recovery_manager.proofs.expiring.expire_one.Goals as goal

pub ask-requires-clause-sent : goal.ask-requires-clause-sent
ask-requires-clause-sent g c =
    let n = c.args.caller.now.id.slots - 1 in
    let cell = c.cell_of-cell.ensures.cell in
    ap Some (sym (cell ∙ ap ((g.R.Rules.protocol n).core.cell_of) (c.key_of.ensures n)))

pub returns-clause-ok : goal.returns-clause-ok
returns-clause-ok g c =
    let n = c.args.caller.now.id.slots - 1 in
    let S = g.R.Rules.protocol n in
    let cell = c.cell_of-cell in
    let here = cell.ensures.cell ∙ ap S.core.cell_of (c.key_of.ensures n) in
    expires_key S c.args.pass.now c.ask.new.pass cell.result c.args.key.now c.in_ok-action.action c.in_ok-answer.answer
    c.is_expired-removed.result (c.in_ok-action.ensures n) here c.is_expired-removed.ensures c.in_ok-answer.ensures.ok
