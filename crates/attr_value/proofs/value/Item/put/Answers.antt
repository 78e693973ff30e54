use Rattle.std.proofs.Common.{ap, ◌∙◌}
use Rattle.attr_value.specs.Paths.{put}
use Rattle.attr_value.specs.View.{tree_of, attributes_of}
use Rattle.attr_value.proofs.Views.{attributes_of-insert_entry}
use Rattle.attr_value.proofs.value.Item.put.Goals as goal

pub returns-clause-ok : goal.returns-clause-ok
returns-clause-ok c =
    ap attributes_of c.in_ok-insert.ensures.entries ∙ attributes_of-insert_entry c.self.inside.attributes.entries c.args.name c.args.value
    ∙ ap (put c.args.name (tree_of c.args.value)) c.self.view_is
