use Rattle.std.proofs.Common.{refl, sym, ◌∙◌}
use Rattle.std.proofs.lemmas.Result.{err_from_is_err_and}
use Rattle.serde_json.specs.View.{view}
use Rattle.request_parts.specs.declared.legacy.LegacyKind.TheVariants as kind
use Rattle.request_parts.specs.Legacy.{has_legacy}
use Rattle.api_request.specs.Items.{IsGetItem}
use Rattle.api_request.specs.Legacy.{Becomes, in_get}
use Rattle.api_request.proofs.Beside.{with_refused, with_both}
use Rattle.api_request.proofs.legacy.get_item.Goals as goal

pub returns-in_err-trees : goal.returns-in_err-trees
returns-in_err-trees c =
    let d = view c.args.json.now in
    let p = err_from_is_err_and c.from_residual.result c.from_residual.ensures.1 in
    rw (p.1, p.2)
    (with_refused (has_legacy kind.Read d) kind.Read (Becomes in_get) IsGetItem d (IsGetItem d) c.read_legacy-legacy.result c.get_item-2.result c.in_err-trees.field-0.0
    (sym c.has_legacy.ensures ∙ c.if-not-has_legacy.false)
    c.read_legacy-legacy.ensures c.get_item-2.ensures c.in_err-trees.ensures)

pub returns : goal.returns
returns c =
    let d = view c.args.json.now in
    with_both (has_legacy kind.Read d) kind.Read (Becomes in_get) IsGetItem d (IsGetItem d) c.read_legacy-legacy.result c.get_item-2.result
    (c.in_ok-trees.trees, c.in_ok-trees.bare) (in_get c.in_ok-trees.trees c.in_ok-trees.bare)
    (sym c.has_legacy.ensures ∙ c.if-not-has_legacy.false)
    c.read_legacy-legacy.ensures c.get_item-2.ensures c.in_ok-trees.ensures refl
