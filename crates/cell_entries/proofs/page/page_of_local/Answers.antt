use Rattle.std.proofs.Common.{◌≡◌, None, Some, sym, ap, ◌∙◌}
use Rattle.std.specs.Option.{option_copied}
use Rattle.std.proofs.lemmas.Result.{IfOk-weaker}
use Rattle.cell_model.specs.Catalogs.{numbered}
use Rattle.cell_model.specs.Pages.{rows_in}
use Rattle.cell_model.proofs.Lookups.{own_number}
use Rattle.cell_pages.specs.Asked.{part_of_rows}
use Rattle.cell_pages.specs.Walked.{shown_among}
use Rattle.cell_pages.proofs.Walks.{page_of_none}
use Rattle.cell_entries.proofs.page.page_of_local.Goals as goal

pub returns-in-Some : goal.returns-in-Some
returns-in-Some g c =
    let page = c.args.page.now in
    let tables = c.args.catalog.now.tables in
    let table = c.in-Some.table.now in
    let found : Some table ≡ numbered tables page.table = ap option_copied (sym c.in-Some.is) ∙ c.table_numbered.ensures in
    let there : numbered tables table.number ≡ Some table = ap (numbered tables) (own_number tables page.table table (sym found)) ∙ sym found in
    IfOk-weaker c.local_page.result _ _
    (λ answer is local are. is c.args.catalog.now there are
    ∙ (λ j. part_of_rows page (rows_in (found j) (sym local j) (shown_among g.W.Keeps.shown c.args.items.now.entries)))) c.local_page.ensures

pub returns-in-None : goal.returns-in-None
returns-in-None g c = λ local are.
    let page = c.args.page.now in
    let found : None ≡ numbered c.args.catalog.now.tables page.table = ap option_copied (sym c.in-None.is) ∙ c.table_numbered.ensures in
    c.no_row.ensures ∙ sym (page_of_none page)
    ∙ (λ j. part_of_rows page (rows_in (found j) page.source (shown_among g.W.Keeps.shown c.args.items.now.entries)))
