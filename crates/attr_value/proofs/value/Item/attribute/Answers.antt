use Rattle.std.proofs.Common.{option_map, ap, ◌∙◌}
use Rattle.attr_value.specs.Paths.{value_at}
use Rattle.attr_value.specs.View.{tree_of}
use Rattle.attr_value.proofs.Views.{lent, value_at-lookup}
use Rattle.attr_value.proofs.value.Item.attribute.Goals as goal

pub returns : goal.returns
returns c =
    let name = c.args.name.now in
    lent c.get.result ∙ ap (option_map tree_of) c.get.ensures.value ∙ value_at-lookup name c.self.inside.attributes.entries ∙ ap (value_at name) c.self.view_is
