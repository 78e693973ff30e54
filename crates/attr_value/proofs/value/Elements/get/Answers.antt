use Rattle.std.proofs.Common.{option_map, ap, ◌∙◌}
use Rattle.attr_value.specs.Paths.{element_at}
use Rattle.attr_value.specs.View.{tree_of}
use Rattle.attr_value.proofs.Views.{lent, element_at-get}
use Rattle.attr_value.proofs.value.Elements.get.Goals as goal

pub returns : goal.returns
returns c =
    lent c.get.result ∙ ap (option_map tree_of) c.get.ensures ∙ element_at-get c.self.inside.values c.args.place
    ∙ ap (element_at c.args.place) c.self.view_is
