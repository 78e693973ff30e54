use Rattle.std.proofs.Common.{sym, ◌∙◌}
use Rattle.expr_parse.specs.Update.{update_tree}
use Rattle.update_eval.proofs.Touched.{by_kind}
use Rattle.update_eval.proofs.path.touches.Goals as goal

pub returns : goal.returns
returns c = c.some_begin.ensures ∙ sym (by_kind (update_tree c.args.tree.now) c.args.name.now)
