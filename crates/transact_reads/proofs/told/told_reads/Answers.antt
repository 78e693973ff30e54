use Rattle.std.proofs.Common.{rules, ◌≡◌, List, subst}
use Rattle.std.proofs.lemmas.Iterator.{YieldsList-from_slice, YieldsList-from_zip}
use Rattle.std.proofs.lemmas.Iterator.Consumers.{YieldsList-end}
use Rattle.std.proofs.lemmas.Result.{IfOk-weaker}
use Rattle.transact_reads.specs.declared.told.ReadItem.{ReadItem}
use Rattle.transact_reads.specs.Told.{all_told}
use Rattle.transact_reads.proofs.Telling.{told_beside}
use Rattle.transact_reads.proofs.told.told_reads.Goals as goal

pub returns : goal.returns
returns c =
    let l = c.loop-read in
    let reads = c.args.reads.now in
    let items = c.args.items.now in
    let left : c.into_iter-read-iterator.result.a.rest.now ≡ reads = search rules in
    let right : c.into_iter-read-iterator.result.b.rest.now ≡ items = search rules in
    let pairs = YieldsList-from_zip (YieldsList-from_slice reads left) (YieldsList-from_slice items right) in
    let all = YieldsList-end pairs l.yielded l.read-iterator l.yielded_by c.next.result c.next.new.self c.in-None.is c.next.ensures.steps in
    IfOk-weaker c.tell.result _ _
    (λ reply told. told_beside l.yielded reads items all.0 c.args.capacity l.all.items reply l.invariant
    (subst (λ (xs : List ReadItem). reply ≡ all_told (λ (one : ReadItem). one.read.now) (λ (one : ReadItem). one.item.now) c.args.capacity xs) c.as_slice.ensures.value told))
    c.tell.ensures
