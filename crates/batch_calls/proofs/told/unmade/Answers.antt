use Rattle.std.proofs.Common.{arith, rules, ◌≡◌, ◌∷◌, [], length, map, sym, ap, ◌∙◌}
use Rattle.std.specs.Prelude.{filter_map}
use Rattle.std.specs.Vec.Iter.{into_iter_items, into_iter_len}
use Rattle.std.proofs.lemmas.List.{map-append}
use Rattle.std.proofs.lemmas.Iterator.{YieldsList-from_slice, YieldsList-from_zip}
use Rattle.std.proofs.lemmas.Iterator.Adapters.{YieldsList-from_vec}
use Rattle.std.proofs.lemmas.Iterator.Consumers.{YieldsList-end}
use Rattle.batch_calls.specs.Writes.{unless_made}
use Rattle.batch_calls.proofs.Agreed.{lent_part}
use Rattle.batch_calls.proofs.Telling.{unmade_more}
use Rattle.batch_calls.proofs.told.unmade.Goals as goal

pub loop-wrote-preserved : goal.loop-wrote-preserved
loop-wrote-preserved c =
    let l = c.loop-wrote in
    unmade_more (map lent_part l.yielded) l.left c.push_unmade.new.left c.in-Some.wrote.now c.in-Some.write l.invariant c.in_ok-push_unmade.ensures
    ∙ ap (filter_map unless_made) (sym (map-append lent_part l.yielded ((c.in-Some.wrote, c.in-Some.write) ∷ [])))

pub returns : goal.returns
returns c =
    let l = c.loop-wrote in
    let wrotes = c.args.wrotes.now in
    let writes = c.args.writes in
    let left : c.into_iter-wrote-iterator.result.a.rest.now ≡ wrotes = search rules in
    let right : into_iter_items c.into_iter-wrote-iterator.result.b ≡ writes = search rules in
    let many : into_iter_len c.into_iter-wrote-iterator.result.b ≡ length writes = grind arith in
    let pairs = YieldsList-from_zip (YieldsList-from_slice wrotes left) (YieldsList-from_vec writes right many) in
    let all = YieldsList-end pairs l.yielded l.wrote-iterator l.yielded_by c.next.result c.next.new.self c.in-None.is c.next.ensures.steps in
    l.invariant ∙ ap (filter_map unless_made) all.0
