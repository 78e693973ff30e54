use Rattle.std.proofs.Common.{arith, rules, ◌≡◌, ◌∷◌, [], ◌++◌, length, map, sym, ap, ◌∙◌}
use Rattle.std.specs.Vec.Iter.{into_iter_items, into_iter_len}
use Rattle.std.proofs.lemmas.List.{append-nil, map-append}
use Rattle.std.proofs.lemmas.Iterator.{YieldsList-from_slice, YieldsList-from_zip}
use Rattle.std.proofs.lemmas.Iterator.Adapters.{YieldsList-from_vec}
use Rattle.std.proofs.lemmas.Iterator.Consumers.{YieldsList-end}
use Rattle.batch_calls.specs.Singles.{action_alone}
use Rattle.batch_calls.proofs.Agreed.{lent_part}
use Rattle.batch_calls.proofs.Sent.{sent_more}
use Rattle.batch_calls.proofs.actions.push_actions.Goals as goal

pub loop-write-init : goal.loop-write-init
loop-write-init c = sym (append-nil c.args.actions.now)

pub loop-write-preserved : goal.loop-write-preserved
loop-write-preserved c =
    let l = c.loop-write in
    let name = c.args.asked.now.table in
    let old = c.args.actions.now in
    sent_more name old l.actions c.push.new.self (map lent_part l.yielded) c.in-Some.write.now c.in-Some.place c.in_ok-action_alone.field-0
    l.invariant c.in_ok-action_alone.ensures c.in_ok-push.ensures.ok
    ∙ ap (λ ps. old ++ map (λ both. action_alone name both.0 both.1) ps) (sym (map-append lent_part l.yielded ((c.in-Some.write, c.in-Some.place) ∷ [])))

pub returns : goal.returns
returns c =
    let l = c.loop-write in
    let writes = c.args.asked.now.writes in
    let places = c.args.places in
    let left : c.into_iter-write-iterator.result.a.rest.now ≡ writes = search rules in
    let right : into_iter_items c.into_iter-write-iterator.result.b ≡ places = search rules in
    let many : into_iter_len c.into_iter-write-iterator.result.b ≡ length places = grind arith in
    let pairs = YieldsList-from_zip (YieldsList-from_slice writes left) (YieldsList-from_vec places right many) in
    let all = YieldsList-end pairs l.yielded l.write-iterator l.yielded_by c.next.result c.next.new.self c.in-None.is c.next.ensures.steps in
    l.invariant ∙ ap (λ ps. c.args.actions.now ++ map (λ both. action_alone c.args.asked.now.table both.0 both.1) ps) all.0
