use Rattle.std.proofs.lemmas.Bool.Decides.{Decides-at}
use Rattle.attr_value.specs.EqualityLaws.{items_Decides}
use Rattle.cell_rules.proofs.equal.are_equal_items.Goals as goal

pub returns : goal.returns
returns c = Decides-at c.eq.result _ c.eq.ensures (items_Decides c.args.left.now c.args.right.now)
