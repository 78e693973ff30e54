use Rattle.std.proofs.Common.{◌≡◌, true, sym, subst}
use Rattle.cell_pages.specs.Walked.{is_from, is_up_to}
use Rattle.cell_pages.proofs.Walks.{surround_backward, surround_forward}
use Rattle.cell_pages.proofs.ends.ends_of.Goals as goal

pub returns-then-page : goal.returns-then-page
returns-then-page c =
    surround_forward c.args.page.now c.in_ok-low.field-0 c.in_ok-low.ensures c.if-page.true c.later.result
    (λ at low after. c.later.ensures at low (subst (λ end. is_from end at ≡ true) (sym c.in_ok-after.ensures) after))

pub returns : goal.returns
returns c =
    surround_backward c.args.page.now c.in_ok-low.field-0 c.in_ok-low.ensures c.if-page.false c.earlier.result
    (λ at high after. c.earlier.ensures at high (subst (λ end. is_up_to end at ≡ true) (sym c.in_ok-after.ensures) after))
