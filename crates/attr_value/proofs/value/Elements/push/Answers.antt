use Rattle.std.proofs.Common.{ap, ◌∙◌}
use Rattle.attr_value.specs.Paths.{appended}
use Rattle.attr_value.specs.View.{tree_of, trees_of}
use Rattle.attr_value.proofs.Views.{appended-push}
use Rattle.attr_value.proofs.value.Elements.push.Goals as goal

pub returns-clause-ok : goal.returns-clause-ok
returns-clause-ok c =
    ap trees_of c.in_ok-push.ensures.ok ∙ appended-push c.args.value c.self.inside.values ∙ ap (λ list. appended list (tree_of c.args.value)) c.self.view_is
