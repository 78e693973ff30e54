use Rattle.std.specs.List.{AllZip}
use Rattle.std.proofs.Common.{subst, sym}
use Rattle.table_rows.specs.State.{IsKept, IsUndone}
use Rattle.table_rows.proofs.Kept.{written, zip_length, kept_aborted}
use Rattle.table_rows.proofs.indexed.IndexedRows.abort.Goals as goal

pub invariant_of-self : goal.invariant_of-self
invariant_of-self c =
    let xs = c.self.inside.indexes in
    let ys = c.undo_all.new.indexes in
    let zip : AllZip IsUndone xs ys = subst (λ old. AllZip IsUndone old ys) c.as_mut_slice.ensures.value c.undo_all.ensures in
    subst (IsKept c.self.inside.schema c.release_all.new.slots c.release_all.new.pending) (sym (written ys xs (zip_length IsUndone xs ys zip)))
    (kept_aborted c.self.inside.schema c.self.inside.slots c.release_all.new.slots c.self.inside.pending c.release_all.new.pending xs ys c.self.invariant
    zip c.release_all.ensures.rows c.release_all.ensures.slots c.release_all.ensures.pending)
