use Rattle.std.proofs.Common.{sym, ap, ◌∙◌}
use Rattle.attr_value.specs.Paths.{put_at}
use Rattle.attr_value.specs.View.{tree_of, trees_of}
use Rattle.attr_value.proofs.Views.{put_at-set, put_at-push}
use Rattle.attr_value.proofs.change.put_element.Goals as goal

pub returns-in-Some-clause-ok : goal.returns-in-Some-clause-ok
returns-in-Some-clause-ok c =
    put_at-set c.args.place c.args.value c.in-Some.kept.now c.list.inside.values (sym c.in-Some.ensures.value)
    ∙ ap (put_at c.args.place (tree_of c.args.value)) c.list.view_is

pub returns-clause-ok : goal.returns-clause-ok
returns-clause-ok c =
    ap trees_of c.in_ok-push.ensures.ok ∙ put_at-push c.args.place c.args.value c.list.inside.values (sym c.in_default.ensures.value)
    ∙ ap (put_at c.args.place (tree_of c.args.value)) c.list.view_is
