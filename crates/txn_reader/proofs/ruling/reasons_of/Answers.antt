use Rattle.std.proofs.Common.{rules, ◌≡◌, ◌∙◌}
use Rattle.std.proofs.lemmas.Iterator.{YieldsList-from_slice, YieldsList-from_zip}
use Rattle.std.proofs.lemmas.Iterator.Consumers.{YieldsList-end}
use Rattle.txn_reader.proofs.Told.{reasons_told}
use Rattle.txn_reader.proofs.ruling.reasons_of.Goals as goal

pub returns : goal.returns
returns g c =
    let l = c.loop-one in
    let first = c.args.first.now in
    let second = c.args.second.now in
    let left : c.into_iter-one-iterator.result.a.rest.now ≡ first = search rules in
    let right : c.into_iter-one-iterator.result.b.rest.now ≡ second = search rules in
    let pairs = YieldsList-from_zip (YieldsList-from_slice first left) (YieldsList-from_slice second right) in
    let all = YieldsList-end pairs l.yielded l.one-iterator l.yielded_by c.next.result c.next.new.self c.in-None.is c.next.ensures.steps in
    reasons_told c.from.result l.yielded first second (c.from.ensures ∙ l.invariant) all.0
