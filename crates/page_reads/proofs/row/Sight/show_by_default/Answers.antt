use Rattle.std.proofs.Common.{◌∙◌, sym}
use Rattle.std.proofs.lemmas.Result.{IfOk-weaker}
use Rattle.attr_value.specs.Tree.{Attributes}
use Rattle.item_keys.specs.Row.{only}
use Rattle.table_model.specs.Pages.{as_global, default_view}
use Rattle.page_reads.specs.Filled.{item_of}
use Rattle.page_reads.specs.Sources.{source_in}
use Rattle.page_reads.proofs.Chosen.{row_names, kept_by_default}
use Rattle.page_reads.proofs.row.Sight.show_by_default.Goals as goal

pub returns-in_ok-only-in-Local : goal.returns-in_ok-only-in-Local
returns-in_ok-only-in-Local c =
    let sight = c.args.self.now in
    let schema = sight.schema.now in
    let index = c.in-Local.index.now in
    let seen : Attributes = item_of c.args.row in
    IfOk-weaker c.new.result _ _
    (λ item is.
    is
    ∙ c.in_ok-only-in-Local.ensures
    ∙ (λ i. only (λ name. row_names schema (as_global index) name i) (c.item.ensures i))
    ∙ kept_by_default schema index sight.page.now.select seen (sym c.if-not-asks_all.ensures)
    ∙ sym (λ i. default_view schema (source_in (c.in-Local.is i)) sight.page.now.select seen))
    c.new.ensures
