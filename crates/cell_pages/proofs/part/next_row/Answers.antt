use Rattle.std.proofs.Common.{◌≡◌, ◌++◌, List, option_to_list, Option, None, Some, IfSome, sym, ap, ◌∙◌, false}
use Rattle.cell_model.specs.declared.question.PageQuestion.{PageQuestion}
use Rattle.cell_model.specs.declared.question.PageRoom.{PageRoom}
use Rattle.cell_model.specs.declared.answer.PageRow.{PageRow}
use Rattle.cell_model.specs.Pages.{is_over}
use Rattle.cell_pages.specs.Asked.{left, left_with}
use Rattle.cell_pages.proofs.Takes.{none_left, last_first}
use Rattle.cell_pages.proofs.part.next_row.Goals as goal

pub returns-then-is_over-clause-none : goal.returns-then-is_over-clause-none
returns-then-is_over-clause-none c = none_left c.args.page.now c.args.room c.args.rest.now (sym c.if-is_over.ensures)

popped : (page : PageQuestion) (room : PageRoom) (old new : List PageRow) (o : Option PageRow) → is_over room ≡ false → old ≡ new ++ option_to_list o
    → IfSome o (λ row. left page room old ≡ left_with page room row new)
popped page room old new None going e = tt
popped page room old new (Some row) going e = ap (left page room) e ∙ last_first page room new row going

pub returns-clause-row : goal.returns-clause-row
returns-clause-row c = popped c.args.page.now c.args.room c.args.rest.now c.pop.new.self c.pop.result (sym c.if-is_over.ensures) c.pop.ensures.items
