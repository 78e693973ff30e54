use Rattle.std.proofs.Common.{sym, ap, subst, ◌∙◌}
use Rattle.std.specs.Option.{option_copied}
use Rattle.std.proofs.lemmas.Result.{IfOk-weaker}
use Rattle.cell_pages.specs.Asked.{part_in}
use Rattle.cell_pages.specs.Walked.{IsWalked, shown_among}
use Rattle.cell_pages.proofs.Walks.{page_walked}
use Rattle.cell_pages.proofs.maps.map_page.Goals as goal

pub returns-in-Table : goal.returns-in-Table
returns-in-Table g c =
    let page = c.args.page.now in
    let es = c.args.cell.now.entries in
    IfOk-weaker c.walked.result _ _
    (λ answer is walks. is ∙ page_walked g.W.Keeps.shown page c.in-Some.table.now es walks
    ∙ ap (λ table. part_in (option_copied table) (shown_among g.W.Keeps.shown es) page) (sym c.in-Some.is)) c.walked.ensures

pub returns-in-Global : goal.returns-in-Global
returns-in-Global g c =
    let page = c.args.page.now in
    let es = c.args.cell.now.entries in
    IfOk-weaker c.walked-in-Global.result _ _
    (λ answer is walks. is ∙ page_walked g.W.Keeps.shown page c.in-Some.table.now es walks
    ∙ ap (λ table. part_in (option_copied table) (shown_among g.W.Keeps.shown es) page) (sym c.in-Some.is)) c.walked-in-Global.ensures

pub returns-in-Local : goal.returns-in-Local
returns-in-Local g c = λ walks. absurd (subst IsWalked c.in-Local.is walks)
