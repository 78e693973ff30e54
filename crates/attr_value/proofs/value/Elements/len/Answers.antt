use Rattle.std.proofs.Common.{sym, ap, ◌∙◌}
use Rattle.attr_value.specs.Sizes.{count}
use Rattle.attr_value.proofs.Views.{count-length}
use Rattle.attr_value.proofs.value.Elements.len.Goals as goal

pub returns : goal.returns
returns c = c.len.ensures ∙ sym (count-length c.self.inside.values) ∙ ap count c.self.view_is
