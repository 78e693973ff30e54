use Rattle.std.proofs.Common.{◌≡◌, [], ap, sym, subst, ◌∙◌}
use Rattle.std.specs.BTreeMap.Range.{entries_between}
use Rattle.std.specs.Range.Bound.{bound_map}
use Rattle.row_keys.specs.Keys.{row_order}
use Rattle.table_rows.specs.View.{TableView}
use Rattle.table_rows.specs.Slots.{rows_of, AllFilled}
use Rattle.table_rows.specs.State.{AreInStep}
use Rattle.table_rows.proofs.Listed.{rows_in_range}
use Rattle.table_rows.proofs.Looked.{filled_between}
use Rattle.table_rows.proofs.indexed.IndexedRows.rows.Goals as goal

pub new-requires : goal.new-requires
new-requires c =
    let low = bound_map (λ end. end.now) c.args.low in
    let high = bound_map (λ end. end.now) c.args.high in
    let t = c.self.inside in
    let empty : t.pending ≡ [] = ap (λ (v : TableView). v.pending) c.self.view_is ∙ c.requires in
    subst AllFilled (sym c.between.ensures.slots)
    (filled_between t.slots c.between.ensures.ordered (subst (AreInStep t.slots) empty c.self.invariant.slots_in_step) low high)

pub returns : goal.returns
returns c =
    let low = bound_map (λ end. end.now) c.args.low in
    let high = bound_map (λ end. end.now) c.args.high in
    c.new.ensures ∙ ap rows_of c.between.ensures.slots ∙ rows_in_range low high c.self.inside.slots
    ∙ ap (λ (t : TableView). entries_between row_order low high t.rows) c.self.view_is
