use Rattle.std.proofs.Common.{rules, ◌≡◌, [], Some, IfSome, slice_get, ap, sym, subst, ◌∙◌}
use Rattle.std.specs.BTreeMap.Range.{entries_between}
use Rattle.std.specs.Range.Bound.{bound_map}
use Rattle.row_keys.specs.Keys.{position_order}
use Rattle.row_keys.specs.Rows.{Entries, index_of, index_keys}
use Rattle.table_rows.specs.View.{TableView}
use Rattle.table_rows.specs.Slots.{rows_of}
use Rattle.table_rows.specs.Places.{IndexView}
use Rattle.table_rows.specs.Looked.{looked, AllThere}
use Rattle.table_rows.proofs.Looked.{all_there, rows_there}
use Rattle.table_rows.proofs.indexed.IndexedRows.index_rows.Goals as goal

pub new-requires : goal.new-requires
new-requires c =
    let low = bound_map (λ end. end.now) c.args.low in
    let high = bound_map (λ end. end.now) c.args.high in
    let t = c.self.inside in
    let x : IndexView = c.in-Some.index.now in
    let found : slice_get t.indexes c.args.index ≡ Some x = search rules in
    let empty : t.pending ≡ [] = ap (λ (v : TableView). v.pending) c.self.view_is ∙ c.requires in
    subst (AllThere (rows_of t.slots)) (sym c.between.ensures.places)
    (all_there t.schema t.slots t.pending t.indexes c.self.invariant empty c.args.index x found c.between.ensures.ordered low high)

pub returns-in-Some-clause-rows : goal.returns-in-Some-clause-rows
returns-in-Some-clause-rows c =
    let low = bound_map (λ end. end.now) c.args.low in
    let high = bound_map (λ end. end.now) c.args.high in
    let t = c.self.inside in
    let x : IndexView = c.in-Some.index.now in
    let found : slice_get t.indexes c.args.index ≡ Some x = search rules in
    let empty : t.pending ≡ [] = ap (λ (v : TableView). v.pending) c.self.view_is ∙ c.requires in
    subst (λ (v : TableView). IfSome (slice_get (index_keys v.schema) c.args.index) (λ keys. c.new.result
    ≡ entries_between position_order low high (index_of v.schema keys v.rows))) c.self.view_is
    (subst (λ (es : Entries). IfSome (slice_get (index_keys t.schema) c.args.index) (λ keys. es
    ≡ entries_between position_order low high (index_of t.schema keys (rows_of t.slots))))
    (sym (c.new.ensures ∙ ap (looked (rows_of t.slots)) c.between.ensures.places))
    (rows_there t.schema t.slots t.pending t.indexes c.self.invariant empty c.args.index x found c.between.ensures.ordered low high))
