use Rattle.std.proofs.Common.{◌≡◌, true, false, is_eq, sym, ap, ◌∙◌}
use Rattle.path_entries.specs.Order.{key_order}
use Rattle.path_entries.proofs.Ranges.{elsewhere, first_here}
use Rattle.path_entries.proofs.group.behind.Goals as goal

pub returns-then-not-is_eq : goal.returns-then-not-is_eq
returns-then-not-is_eq g c =
    let steps = c.args.entry.now.steps.now in
    let other : is_eq (key_order c.args.key steps) ≡ false = ap is_eq (sym c.key_order.ensures) ∙ sym c.is_eq.ensures ∙ c.if-not-is_eq.true in
    sym (elsewhere c.args.key steps c.args.entry.now.value other)

pub returns : goal.returns
returns g c =
    let steps = c.args.entry.now.steps.now in
    let same : is_eq (key_order c.args.key steps) ≡ true = ap is_eq (sym c.key_order.ensures) ∙ sym c.is_eq.ensures ∙ c.if-not-is_eq.false in
    first_here c.args.key steps _ _ c.args.entry.now.value c.in_ok-rest.ensures.cases.0 same
