use Rattle.std.proofs.Common.{subst}
use Rattle.std.specs.Vec.Iter.{into_iter_items}
use Rattle.table_model.specs.Batches.{write_keys}
use Rattle.table_batches.specs.Answers.{tables_alone}
use Rattle.table_batches.specs.Writes.{changes_in}
use Rattle.table_batches.proofs.Refusals.{Asking, one_table, faulty}
use Rattle.table_batches.proofs.change.changes_of_all.Goals as goal

pub returns-in-Err : goal.returns-in-Err
returns-in-Err c =
    let l = c.loop-asked in
    let db = tables_alone c.args.tables.now.entries in
    let ts = c.args.requests in
    let t = c.in-Some.asked in
    let asked = rw c.in-Err.is at c.in_ok-repeats.ensures in
    faulty (write_keys db) (changes_in db) ts t (into_iter_items c.next.new.self) l.changes l.twice c.in-Err.fault asked
    (subst (λ us. Asking (write_keys db) (changes_in db) ts us l.changes l.twice) c.in-Some.ensures.steps.0 l.invariant)

pub loop-asked-preserved : goal.loop-asked-preserved
loop-asked-preserved c =
    let l = c.loop-asked in
    let db = tables_alone c.args.tables.now.entries in
    let ts = c.args.requests in
    let t = c.in-Some.asked in
    let asked = rw c.in-Ok.is at c.in_ok-repeats.ensures in
    one_table (write_keys db) (changes_in db) ts t (into_iter_items c.next.new.self) l.changes c.changes_of.new.changes l.twice c.in-Ok.repeats asked
    (subst (λ us. Asking (write_keys db) (changes_in db) ts us l.changes l.twice) c.in-Some.ensures.steps.0 l.invariant)
