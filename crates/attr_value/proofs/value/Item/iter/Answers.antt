use Rattle.std.proofs.Common.{subst}
use Rattle.attr_value.specs.Tree.{AreInOrder}
use Rattle.attr_value.proofs.Views.{attributes_in_order}
use Rattle.attr_value.proofs.value.Item.iter.Goals as goal

pub returns-clause-in_order : goal.returns-clause-in_order
returns-clause-in_order c = subst AreInOrder c.self.view_is (attributes_in_order c.self.inside.attributes.entries c.iter.ensures.ordered)
