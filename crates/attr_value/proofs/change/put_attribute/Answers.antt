use Rattle.std.proofs.Common.{sym, ap, ◌∙◌}
use Rattle.std.proofs.lemmas.Result.{on_ok_weaker}
use Rattle.attr_value.specs.Paths.{put}
use Rattle.attr_value.specs.View.{tree_of, attributes_of}
use Rattle.attr_value.proofs.Views.{put-set_value}
use Rattle.attr_value.proofs.change.put_attribute.Goals as goal

pub returns-in-Some-clause-ok : goal.returns-in-Some-clause-ok
returns-in-Some-clause-ok c =
    ap attributes_of (c.get_mut.follows.holds c.args.value).0
    ∙ put-set_value c.args.name.now c.args.value c.in-Some.kept.now c.item.inside.attributes.entries c.get_mut.ensures.ordered (sym c.in-Some.ensures.value)
    ∙ ap (put c.args.name.now (tree_of c.args.value)) c.item.view_is

pub returns-clause-ok : goal.returns-clause-ok
returns-clause-ok c =
    let value = tree_of c.args.value in
    let m = c.get_mut.follows.lender-at-none in
    on_ok_weaker c.put.result (λ e. e ∙ ap (λ n. put n value (attributes_of m.entries)) c.in_ok-try_clone.ensures
    ∙ ap (λ k. put c.args.name.now value (attributes_of k.entries)) c.get_mut.follows.holds-at-none ∙ ap (put c.args.name.now value) c.item.view_is) c.put.ensures.ok
