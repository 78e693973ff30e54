use Rattle.std.specs.List.Sorted.{IsStrictlySortedBy}
use Rattle.std.specs.Map.{keys_of}
use Rattle.std.proofs.Common.{rules, ◌≡◌, List, [], ◌∷◌, ◌++◌, ap, ◌∙◌, sym, subst}
use Rattle.row_keys.specs.Keys.{row_order}
use Rattle.row_keys.specs.Rows.{Rows}
use Rattle.table_rows.specs.declared.change.RowChange.{RowChange}
use Rattle.table_rows.specs.View.{committed}
use Rattle.table_rows.specs.Slots.{rows_of}
use Rattle.table_rows.specs.State.{AreDistinct, AreInStep}
use Rattle.table_rows.proofs.SlotLists.{with_sorted}
use Rattle.table_rows.proofs.Changes.{distinct_less, slot_there, made_in_step, committed_last}
use Rattle.table_rows.proofs.prepare.make_all.Goals as goal

pub make-requires : goal.make-requires
make-requires c =
    let popped : c.loop-change.pending ≡ c.pop.new.self ++ c.in-Some.change ∷ [] = search rules in
    slot_there c.in-Some.change c.loop-change.slots c.pop.new.self (subst (AreInStep c.loop-change.slots) popped c.loop-change.invariant.slots)

pub loop-change-preserved : goal.loop-change-preserved
loop-change-preserved c =
    let change : RowChange = c.in-Some.change in
    let rest : List RowChange = c.pop.new.self in
    let old = c.loop-change.slots in
    let popped : c.loop-change.pending ≡ rest ++ change ∷ [] = search rules in
    let distinct = distinct_less change rest (subst AreDistinct popped c.loop-change.invariant.distinct) in
    record {
      ordered = subst (λ (r : Rows). IsStrictlySortedBy row_order (keys_of r)) (sym c.make.ensures.rows)
          (with_sorted (rows_of old) change.key change.new c.loop-change.invariant.ordered);
      distinct = distinct.0;
      slots = made_in_step change old c.make.new.slots c.make.ensures.others rest distinct.1
          (subst (AreInStep old) popped c.loop-change.invariant.slots) c.loop-change.invariant.ordered c.make.ensures.rows c.make.ensures.slot;
      rows = ap (λ (r : Rows). committed r rest) c.make.ensures.rows
          ∙ sym (committed_last (rows_of old) rest change)
          ∙ ap (committed (rows_of old)) (sym popped)
          ∙ c.loop-change.invariant.rows;
    }
