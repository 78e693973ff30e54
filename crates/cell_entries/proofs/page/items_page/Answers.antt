use Rattle.std.proofs.Common.{sym, ap, subst, ◌∙◌}
use Rattle.std.proofs.lemmas.Result.{IfOk-weaker}
use Rattle.cell_pages.specs.Asked.{part_in}
use Rattle.cell_pages.specs.Walked.{IsWalked, shown_among}
use Rattle.cell_entries.proofs.page.items_page.Goals as goal

pub returns-in-Table : goal.returns-in-Table
returns-in-Table g c =
    IfOk-weaker c.map_page.result _ _
    (λ answer is are. is (subst IsWalked (sym c.in-Table.is) tt)
    ∙ ap (λ table. part_in table (shown_among g.W.Keeps.shown c.args.items.now.entries) c.args.page.now) c.table_numbered.ensures) c.map_page.ensures

pub returns-in-Global : goal.returns-in-Global
returns-in-Global g c =
    IfOk-weaker c.map_page-in-Global.result _ _
    (λ answer is are. is (subst IsWalked (sym c.in-Global.is) tt)
    ∙ ap (λ table. part_in table (shown_among g.W.Keeps.shown c.args.items.now.entries) c.args.page.now) c.table_numbered-in-Global.ensures)
    c.map_page-in-Global.ensures

pub returns-in-Local : goal.returns-in-Local
returns-in-Local g c = IfOk-weaker c.page_of_local.result _ _ (λ answer is are. is c.in-Local.is are) c.page_of_local.ensures
