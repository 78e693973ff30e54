use Rattle.std.proofs.Common.{reverse, ap, ◌∙◌}
use Rattle.std.proofs.lemmas.Result.{IfOk-weaker}
use Rattle.cell_model.specs.Pages.{part_of}
use Rattle.cell_pages.specs.Asked.{left}
use Rattle.cell_pages.proofs.Takes.{met_forward, met_backward}
use Rattle.cell_pages.proofs.part.part_in_order.Goals as goal

pub returns-then-page : goal.returns-then-page
returns-then-page c =
    let page = c.args.page.now in
    IfOk-weaker c.part.result _ _
    (λ answer is es rows. is
    ∙ ap (λ more. part_of page.room (left page page.room more)) (c.in_ok-reversed.ensures ∙ ap reverse rows)
    ∙ ap (part_of page.room) (met_forward page es c.if-page.true)) c.part.ensures

pub returns : goal.returns
returns c =
    let page = c.args.page.now in
    IfOk-weaker c.part-2.result _ _
    (λ answer is es rows. is ∙ ap (λ more. part_of page.room (left page page.room more)) rows
    ∙ ap (part_of page.room) (met_backward page es c.if-page.false)) c.part-2.ensures
