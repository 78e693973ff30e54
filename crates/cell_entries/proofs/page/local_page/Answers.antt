use Rattle.std.specs.Prelude.{slice_get}
use Rattle.std.proofs.Common.{rules, ◌≡◌, true, false, is_some, ◌∙◌}
use Rattle.std.proofs.lemmas.Result.{IfOk-weaker}
use Rattle.cell_entries.proofs.Walks.{page_is, page_is_empty}
use Rattle.cell_entries.proofs.page.local_page.Goals as goal

pub returns-then-is_none : goal.returns-then-is_none
returns-then-is_none g c = λ catalog there are.
    let none : is_some (slice_get c.args.table.now.schema.locals c.args.place) ≡ false = search rules in
    c.no_row.ensures ∙ page_is_empty g.W.Keeps.shown c.args.table.now c.args.place c.args.items.now c.args.page.now none

pub returns : goal.returns
returns g c =
    let has : is_some (slice_get c.args.table.now.schema.locals c.args.place) ≡ true = search rules in
    IfOk-weaker c.walked.result _ _
    (λ answer is catalog there are. is
    ∙ page_is g.W.Keeps.shown c.args.table.now c.args.place c.args.items.now c.args.entries.now c.len.ensures.ordered c.len-2.ensures.ordered c.args.page.now
    has catalog there are)
    c.walked.ensures
