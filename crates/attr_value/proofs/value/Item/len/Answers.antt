use Rattle.std.proofs.Common.{sym, ap, ◌∙◌}
use Rattle.attr_value.specs.Sizes.{attribute_count}
use Rattle.attr_value.proofs.SizeLaws.{attribute_count-length}
use Rattle.attr_value.proofs.value.Item.len.Goals as goal

pub returns : goal.returns
returns c = c.len.ensures.len ∙ sym (attribute_count-length c.self.inside.attributes.entries) ∙ ap attribute_count c.self.view_is
