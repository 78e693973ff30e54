use Rattle.std.proofs.Common.{arith, length, ◌≡◌, [], sym, ◌∙◌, subst}
use Rattle.std.specs.Vec.Iter.{into_iter_items}
use Rattle.std.proofs.lemmas.List.{nil_from_length}
use Rattle.numbered_tables.specs.Tables.{table_in}
use Rattle.table_batches.proofs.Pushing.{Pushing, begun, one_change, one_fault, all_pushed}
use Rattle.table_batches.proofs.change.push_changes.Goals as goal

pub loop-write-init : goal.loop-write-init
loop-write-init c =
    let t = table_in c.args.table.now in
    subst (λ ws. Pushing t c.args.name.now c.args.writes c.args.changes.now c.args.changes.now ws)
    (sym (c.into_iter-write-iterator.ensures.into_iter_gives.0 ∙ c.from-write-items.ensures)) (begun t c.args.name.now c.args.writes c.args.changes.now)

pub loop-write-preserved : goal.loop-write-preserved
loop-write-preserved c =
    let l = c.loop-write in
    let t = table_in c.args.table.now in
    let write = c.in-Some.write in
    one_change t c.args.name.now c.args.writes c.args.changes.now l.changes c.push_change.new.changes write (into_iter_items l.write-iterator)
    (into_iter_items c.next.new.self) c.in-Ok.key c.in-Some.ensures.steps.0 (sym c.in-Ok.is ∙ c.in_ok-key.ensures) c.in_ok-push_change-in-Ok.ensures l.invariant

pub returns-in-Err : goal.returns-in-Err
returns-in-Err c =
    let l = c.loop-write in
    let t = table_in c.args.table.now in
    let write = c.in-Some.write in
    one_fault t c.args.name.now c.args.writes c.args.changes.now l.changes write (into_iter_items l.write-iterator)
    (into_iter_items c.next.new.self) c.in-Err.fault c.in-Some.ensures.steps.0 (sym c.in-Err.is ∙ c.in_ok-key.ensures) l.invariant

pub returns : goal.returns
returns c =
    let l = c.loop-write in
    let ended = c.in-None.ensures.steps.0 in
    let short : length (into_iter_items l.write-iterator) ≡ 0 = grind arith in
    let none : into_iter_items l.write-iterator ≡ [] = nil_from_length (into_iter_items l.write-iterator) short in
    all_pushed (table_in c.args.table.now) c.args.name.now c.args.writes c.args.changes.now l.changes (into_iter_items l.write-iterator)
    none l.invariant
