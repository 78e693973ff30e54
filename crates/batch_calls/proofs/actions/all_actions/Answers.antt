use Rattle.std.proofs.Common.{arith, rules, ◌≡◌, ◌∷◌, [], ◌++◌, length, map, List, sym, ap, ◌∙◌}
use Rattle.std.specs.List.{flat_map}
use Rattle.std.specs.Vec.Iter.{into_iter_items, into_iter_len}
use Rattle.std.proofs.lemmas.List.{map-append, flat_map_more}
use Rattle.std.proofs.lemmas.Iterator.{YieldsList-from_slice, YieldsList-from_zip}
use Rattle.std.proofs.lemmas.Iterator.Adapters.{YieldsList-from_vec}
use Rattle.std.proofs.lemmas.Iterator.Consumers.{YieldsList-end}
use Rattle.table_request.specs.declared.batches.TableWrites.{TableWrites}
use Rattle.cell_model.specs.declared.key.CellKey.{CellKey}
use Rattle.cell_model.specs.Actions.{ItemAction}
use Rattle.batch_calls.specs.Steps.{actions_at}
use Rattle.batch_calls.proofs.Agreed.{lent_part}
use Rattle.batch_calls.proofs.actions.all_actions.Goals as goal

pub loop-asked-preserved : goal.loop-asked-preserved
loop-asked-preserved c =
    let l = c.loop-asked in
    let of : TableWrites × List CellKey → List ItemAction = λ both. actions_at both.0.table both.0.writes both.1 in
    let t = c.in-Some.asked.now in
    c.in_ok-push_actions.ensures ∙ ap (λ acts. acts ++ actions_at t.table t.writes c.in-Some.mine) l.invariant
    ∙ flat_map_more of [] (map lent_part l.yielded) (t, c.in-Some.mine)
    ∙ ap (flat_map of) (sym (map-append lent_part l.yielded ((c.in-Some.asked, c.in-Some.mine) ∷ [])))

pub returns : goal.returns
returns c =
    let l = c.loop-asked in
    let requests = c.args.requests.now in
    let places = c.args.places in
    let left : c.into_iter-asked-iterator.result.a.rest.now ≡ requests = search rules in
    let right : into_iter_items c.into_iter-asked-iterator.result.b ≡ places = search rules in
    let many : into_iter_len c.into_iter-asked-iterator.result.b ≡ length places = grind arith in
    let pairs = YieldsList-from_zip (YieldsList-from_slice requests left) (YieldsList-from_vec places right many) in
    let all = YieldsList-end pairs l.yielded l.asked-iterator l.yielded_by c.next.result c.next.new.self c.in-None.is c.next.ensures.steps in
    l.invariant ∙ ap (flat_map (λ both. actions_at both.0.table both.0.writes both.1)) all.0
