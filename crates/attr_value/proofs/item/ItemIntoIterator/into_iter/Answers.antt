use Rattle.std.proofs.Common.{ap, subst, ◌∙◌}
use Rattle.attr_value.specs.Tree.{AreInOrder}
use Rattle.attr_value.specs.View.{attributes_of}
use Rattle.attr_value.proofs.Views.{attributes_in_order}
use Rattle.attr_value.proofs.item.ItemIntoIterator.into_iter.Goals as goal

pub returns : goal.returns
returns c =
    let given = c.into_iter.ensures.into_iter_gives in
    record { into_iter_gives = (ap attributes_of given.0 ∙ c.into_attributes.ensures, subst AreInOrder c.into_attributes.ensures (attributes_in_order c.into_attributes.result.entries given.5)) }
