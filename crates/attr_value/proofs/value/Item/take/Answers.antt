use Rattle.std.proofs.Common.{[], option_map, ap, ◌∙◌}
use Rattle.attr_value.specs.Paths.{value_at, without_in, change}
use Rattle.attr_value.specs.View.{tree_of, attributes_of}
use Rattle.attr_value.proofs.Views.{value_at-lookup, change-remove_entry}
use Rattle.attr_value.proofs.value.Item.take.Goals as goal

pub returns-clause-taken : goal.returns-clause-taken
returns-clause-taken c =
    let name = c.args.name.now in
    ap (option_map tree_of) c.remove.ensures.value ∙ value_at-lookup name c.self.inside.attributes.entries ∙ ap (value_at name) c.self.view_is

pub returns-clause-rest : goal.returns-clause-rest
returns-clause-rest c =
    let name = c.args.name.now in
    ap attributes_of c.remove.ensures.entries ∙ change-remove_entry name c.self.inside.attributes.entries ∙ ap (change name (without_in [])) c.self.view_is
