use Rattle.std.proofs.Common.{ap, ◌∙◌, subst, arith}
use Rattle.std.proofs.lemmas.List.{take_all}
use Rattle.recovery_manager.specs.Lists.{AreTheNumbers, numbers_in}
use Rattle.recovery_manager.proofs.listing.listed_numbers.Goals as goal

pub returns : goal.returns
returns g c =
    let all = take_all c.loop-item.item-index c.args.items.now (omega (arith, c.loop-item-test.false)) in
    subst (λ listed. AreTheNumbers listed c.put_in_order.new.numbers.items) (c.loop-item.invariant ∙ ap (numbers_in c.args.unfinished) all)
    c.put_in_order.ensures
