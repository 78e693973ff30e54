use Rattle.std.proofs.Common.{[], ◌∷◌, ◌++◌, ap, ◌∙◌}
use Rattle.item_writes.specs.Joined.{joined}
use Rattle.attr_value.proofs.PartLaws.{onto_none}
use Rattle.update_eval.proofs.term.one_list.Goals as goal

pub returns : goal.returns
returns c =
    ap joined (c.in_ok-push.ensures.ok ∙ ap (λ lists. lists ++ c.args.list ∷ []) c.new-lists.ensures)
    ∙ onto_none c.args.list.now
