use Rattle.std.specs.Prelude.{◌≡◌, false, true, [], ◌∷◌, ◌++◌, ◌||◌, is_some, length, take, drop}
use Rattle.std.specs.List.{AllZip, AllByRecursion}
use Rattle.std.proofs.Common.{subst, sym, ap, ◌∙◌}
use Rattle.row_keys.specs.Rows.{item_at}
use Rattle.table_rows.specs.declared.change.RowChange.{RowChange}
use Rattle.table_rows.specs.View.{TableView, is_pending}
use Rattle.table_rows.specs.Slots.{rows_of, has_slot}
use Rattle.table_rows.specs.Places.{IndexView}
use Rattle.table_rows.specs.State.{IsKept, IsFresh, IsHeld, step_in}
use Rattle.table_rows.proofs.Listed.{or_false}
use Rattle.table_rows.proofs.Kept.{written, zip_length, all_fresh, kept_prepared, kept_refused, by_result}
use Rattle.table_rows.proofs.indexed.IndexedRows.prepare.Goals as goal

pub prepare_in-requires : goal.prepare_in-requires
prepare_in-requires c =
    let t = c.self.inside in
    let change : RowChange = record { key = c.args.key; new = c.args.new } in
    let apart : is_pending t.pending c.args.key ≡ false =
    subst (λ (v : TableView). is_pending v.pending c.args.key ≡ false) (sym c.self.view_is) c.requires in
    record {
      filled = c.self.invariant.slots_in_step c.args.key ∙ ap (λ b. is_some (item_at (rows_of t.slots) c.args.key) || b) apart
          ∙ or_false (is_some (item_at (rows_of t.slots) c.args.key));
      fresh = subst (AllByRecursion (λ (index : IndexView). IsFresh (step_in t.schema (rows_of t.slots) change index) index)) (sym c.as_mut_slice.ensures.value)
          (all_fresh t.schema t.slots t.slots t.pending t.pending t.indexes t.indexes c.self.invariant change apart);
    }

pub invariant_of-self : goal.invariant_of-self
invariant_of-self c =
    let t = c.self.inside in
    let s = c.prepare_in.new in
    let change : RowChange = record { key = c.args.key; new = c.args.new } in
    let apart : is_pending t.pending c.args.key ≡ false =
    subst (λ (v : TableView). is_pending v.pending c.args.key ≡ false) (sym c.self.view_is) c.requires in
    by_result c.prepare_in.result
    (IsKept t.schema s.slots s.pending (take (length t.indexes) (s.indexes ++ drop (length s.indexes) t.indexes)))
    (has_slot s.slots c.args.key ≡ true) (s.pending ≡ t.pending ++ change ∷ [])
    (AllZip (λ (old : IndexView) (new : IndexView). IsHeld (step_in t.schema (rows_of t.slots) change old) old new) c.as_mut_slice.result.now s.indexes)
    (has_slot s.slots c.args.key ≡ has_slot t.slots c.args.key) (s.pending ≡ t.pending) (s.indexes ≡ c.as_mut_slice.result.now)
    c.prepare_in.ensures.slot c.prepare_in.ensures.pending c.prepare_in.ensures.indexes
    c.prepare_in.ensures.err_slot c.prepare_in.ensures.err_pending c.prepare_in.ensures.err_indexes
    (λ has more zip_lent.
    let zip : AllZip (λ (old : IndexView) (new : IndexView). IsHeld (step_in t.schema (rows_of t.slots) change old) old new) t.indexes s.indexes =
    subst (λ olds. AllZip (λ (old : IndexView) (new : IndexView). IsHeld (step_in t.schema (rows_of t.slots) change old) old new) olds s.indexes)
    c.as_mut_slice.ensures.value zip_lent in
    subst (IsKept t.schema s.slots s.pending) (sym (written s.indexes t.indexes (zip_length _ t.indexes s.indexes zip)))
    (kept_prepared t.schema t.slots s.slots t.pending s.pending t.indexes s.indexes c.self.invariant change apart
    c.prepare_in.ensures.rows c.prepare_in.ensures.others has more zip))
    (λ stays same back.
    let stayed : s.indexes ≡ t.indexes = back ∙ c.as_mut_slice.ensures.value in
    subst (IsKept t.schema s.slots s.pending) (sym (written s.indexes t.indexes (λ i. length (stayed i))))
    (kept_refused t.schema t.slots s.slots t.pending s.pending t.indexes s.indexes c.self.invariant change
    c.prepare_in.ensures.rows c.prepare_in.ensures.others stays same stayed))
