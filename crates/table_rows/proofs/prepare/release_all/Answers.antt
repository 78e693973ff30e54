use Rattle.std.proofs.Common.{rules, ◌≡◌, List, [], ◌∷◌, ◌++◌, ◌∙◌, subst}
use Rattle.table_rows.specs.declared.change.RowChange.{RowChange}
use Rattle.table_rows.specs.State.{AreDistinct, AreInStep}
use Rattle.table_rows.proofs.Changes.{distinct_less, dropped_in_step}
use Rattle.table_rows.proofs.prepare.release_all.Goals as goal

pub loop-change-preserved : goal.loop-change-preserved
loop-change-preserved c =
    let change : RowChange = c.in-Some.change in
    let rest : List RowChange = c.pop.new.self in
    let old = c.loop-change.slots in
    let popped : c.loop-change.pending ≡ rest ++ change ∷ [] = search rules in
    let distinct = distinct_less change rest (subst AreDistinct popped c.loop-change.invariant.distinct) in
    record {
      distinct = distinct.0;
      slots = dropped_in_step change old c.release.new.self c.release.ensures.others rest distinct.1
          (subst (AreInStep old) popped c.loop-change.invariant.slots) c.release.ensures.rows c.release.ensures.slot;
      rows = c.release.ensures.rows ∙ c.loop-change.invariant.rows;
    }
