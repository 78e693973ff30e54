use Rattle.std.proofs.Common.{◌≡◌, List, [], ap, sym, subst, ◌∙◌}
use Rattle.table_schema.specs.declared.schema.Schema.{Schema}
use Rattle.table_rows.specs.declared.change.RowChange.{RowChange}
use Rattle.table_rows.specs.View.{TableView}
use Rattle.table_rows.specs.Places.{IndexView}
use Rattle.table_rows.specs.State.{AreInStep, IsKept}
use Rattle.table_rows.proofs.Kept.{kept_over, kept_same}
use Rattle.table_rows.proofs.indexed.IndexedRows.change_schema.Goals as goal

pub invariant_of-self : goal.invariant_of-self
invariant_of-self c =
    let t = c.self.inside in
    let empty : t.pending ≡ [] = ap (λ (v : TableView). v.pending) c.self.view_is ∙ c.requires in
    subst (λ (s : Schema). IsKept s t.slots t.pending t.indexes) (sym c.replace.ensures.after)
    (subst (λ (p : List RowChange). IsKept c.args.schema t.slots p t.indexes) (sym empty)
    (kept_same t.schema c.args.schema t.slots t.indexes (subst (λ (p : List RowChange). IsKept t.schema t.slots p t.indexes) empty c.self.invariant)
    (c.have_same_indexes.ensures.definitions c.if-have_same_indexes.true) (c.have_same_indexes.ensures.keys c.if-have_same_indexes.true)))

pub invariant_of-self-2 : goal.invariant_of-self-2
invariant_of-self-2 c =
    let t = c.self.inside in
    let empty : t.pending ≡ [] = ap (λ (v : TableView). v.pending) c.self.view_is ∙ c.requires in
    subst (λ (s : Schema). IsKept s t.slots t.pending c.replace-2.new.dest) (sym c.replace-3.ensures.after)
    (subst (λ (xs : List IndexView). IsKept c.args.schema t.slots t.pending xs) (sym c.replace-2.ensures.after)
    (subst (λ (p : List RowChange). IsKept c.args.schema t.slots p c.in_ok-indexes.indexes) (sym empty)
    (kept_over c.args.schema t.slots c.in_ok-indexes.indexes c.self.invariant.ordered
    (subst (AreInStep t.slots) empty c.self.invariant.slots_in_step) c.in_ok-indexes.ensures)))
