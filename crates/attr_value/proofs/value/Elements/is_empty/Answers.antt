use Rattle.std.proofs.Common.{sym, ◌∙◌}
use Rattle.attr_value.proofs.Views.{no_values}
use Rattle.attr_value.proofs.value.Elements.is_empty.Goals as goal

pub returns : goal.returns
returns c =
    let none = no_values c.self.inside.values in
    (λ empty. sym c.self.view_is ∙ none.0 (c.is_empty.ensures.0 empty), λ empty. c.is_empty.ensures.1 (none.1 (c.self.view_is ∙ empty)))
