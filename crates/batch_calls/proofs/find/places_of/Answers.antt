use Rattle.std.proofs.Common.{arith, rules, ◌≡◌, ◌∷◌, [], length, map, sym, subst}
use Rattle.std.specs.List.{AllZip}
use Rattle.std.specs.Vec.Iter.{into_iter_items, into_iter_len}
use Rattle.std.proofs.lemmas.List.{map-append}
use Rattle.std.proofs.lemmas.Iterator.{YieldsList-from_slice, YieldsList-from_zip}
use Rattle.std.proofs.lemmas.Iterator.Adapters.{YieldsList-from_vec}
use Rattle.std.proofs.lemmas.Iterator.Consumers.{YieldsList-end}
use Rattle.batch_calls.proofs.Agreed.{IsPart, lent_part, place_more, places_are}
use Rattle.batch_calls.proofs.find.places_of.Goals as goal

pub loop-part-preserved : goal.loop-part-preserved
loop-part-preserved g c =
    let l = c.loop-part in
    let of = g.T.OnTable.table_of in
    let keys = g.T.OnTable.keys_of in
    let tables = c.args.tables.now.entries in
    subst (λ both. AllZip (IsPart of keys tables) both c.push_places.new.places) (sym (map-append lent_part l.yielded ((c.in-Some.part, c.in-Some.rows) ∷ [])))
    (place_more of keys tables (map lent_part l.yielded) l.places c.push_places.new.places c.in-Some.part.now c.in-Some.rows l.invariant c.in_ok-push_places.ensures)

pub returns : goal.returns
returns g c = λ rows.
    let l = c.loop-part in
    let parts = c.args.parts.now in
    let keys = c.args.keys in
    let left : c.into_iter-part-iterator.result.a.rest.now ≡ parts = search rules in
    let right : into_iter_items c.into_iter-part-iterator.result.b ≡ keys = search rules in
    let many : into_iter_len c.into_iter-part-iterator.result.b ≡ length keys = grind arith in
    let pairs = YieldsList-from_zip (YieldsList-from_slice parts left) (YieldsList-from_vec keys right many) in
    let all = YieldsList-end pairs l.yielded l.part-iterator l.yielded_by c.next.result c.next.new.self c.in-None.is c.next.ensures.steps in
    places_are g.T.OnTable.table_of g.T.OnTable.keys_of c.args.tables.now.entries parts keys (map lent_part l.yielded) l.places l.invariant all.0 rows
