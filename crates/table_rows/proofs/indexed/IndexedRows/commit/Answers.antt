use Rattle.std.specs.List.{AllZip}
use Rattle.std.proofs.Common.{subst, sym}
use Rattle.table_rows.specs.State.{IsKept, IsSettled}
use Rattle.table_rows.proofs.Kept.{written, zip_length, kept_committed}
use Rattle.table_rows.proofs.indexed.IndexedRows.commit.Goals as goal

pub invariant_of-self : goal.invariant_of-self
invariant_of-self c =
    let xs = c.self.inside.indexes in
    let ys = c.settle_all.new.indexes in
    let zip : AllZip IsSettled xs ys = subst (λ old. AllZip IsSettled old ys) c.as_mut_slice.ensures.value c.settle_all.ensures in
    subst (IsKept c.self.inside.schema c.make_all.new.slots c.make_all.new.pending) (sym (written ys xs (zip_length IsSettled xs ys zip)))
    (kept_committed c.self.inside.schema c.self.inside.slots c.make_all.new.slots c.self.inside.pending c.make_all.new.pending xs ys c.self.invariant
    zip c.make_all.ensures.rows c.make_all.ensures.slots c.make_all.ensures.pending)
