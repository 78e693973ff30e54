use Rattle.std.proofs.Common.{ap, ◌∙◌}
use Rattle.std.proofs.lemmas.Result.{IfOk-weaker}
use Rattle.item_keys.specs.Row.{only}
use Rattle.expr_parse.specs.Update.{update_tree}
use Rattle.table_items.specs.Touched.{has_name}
use Rattle.table_items.proofs.Named.{only_alike}
use Rattle.table_items.proofs.touched.only_touched.Goals as goal

pub returns : goal.returns
returns c =
    let item = c.args.item.now in
    let alike =
    ap (λ paths. only (has_name paths) item) c.deref.ensures.value
    ∙ only_alike _ c.in_ok-paths.paths.items (update_tree c.args.update.now) item c.in_ok-written.ensures c.in_ok-paths.ensures.same in
    IfOk-weaker c.only_named.result _ _ (λ touched is. is ∙ alike) c.only_named.ensures
