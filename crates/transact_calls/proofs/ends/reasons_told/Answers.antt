use Rattle.std.proofs.Common.{rules, ◌≡◌, ◌∙◌}
use Rattle.std.proofs.lemmas.Iterator.{YieldsList-from_slice, YieldsList-from_zip}
use Rattle.std.proofs.lemmas.Iterator.Consumers.{YieldsList-end}
use Rattle.transact_calls.proofs.Telling.{told_of_pairs}
use Rattle.transact_calls.proofs.ends.reasons_told.Goals as goal

pub returns : goal.returns
returns c =
    let l = c.loop-action in
    let actions = c.args.actions.now in
    let reasons = c.args.reasons.now in
    let left : c.into_iter-action-iterator.result.a.rest.now ≡ actions = search rules in
    let right : c.into_iter-action-iterator.result.b.rest.now ≡ reasons = search rules in
    let pairs = YieldsList-from_zip (YieldsList-from_slice actions left) (YieldsList-from_slice reasons right) in
    let all = YieldsList-end pairs l.yielded l.action-iterator l.yielded_by c.next.result c.next.new.self c.in-None.is c.next.ensures.steps in
    told_of_pairs c.from.result l.yielded actions reasons (c.from.ensures ∙ l.invariant) all.0
