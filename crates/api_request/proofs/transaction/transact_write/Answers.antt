use Rattle.std.proofs.Common.{◌∙◌}
use Rattle.std.proofs.lemmas.Result.{err_from_is_err_and}
use Rattle.serde_json.specs.View.{view, items_view}
use Rattle.api_request.specs.Transactions.{used_if}
use Rattle.api_request.proofs.Totals.{write_refused, write_stated}
use Rattle.api_request.proofs.transaction.transact_write.Goals as goal

pub returns-in_err-actions : goal.returns-in_err-actions
returns-in_err-actions c =
    let p = err_from_is_err_and c.from_residual-in_err-actions.result c.from_residual-in_err-actions.ensures.1 in
    rw (p.1, p.2)
    (write_refused (view c.args.json.now) (items_view c.list_at.result.now) c.in_err-actions.field-0.0 c.list_at.ensures c.in_err-actions.ensures)

pub returns : goal.returns
returns c =
    write_stated (view c.args.json.now) (items_view c.list_at.result.now)
    (record { actions = c.in_ok-actions.actions; token = c.in_ok-token.token; consumed = c.in_ok-consumed.consumed })
    c.list_at.ensures c.in_ok-actions.ensures c.in_ok-token.ensures
    (c.in_ok-consumed.ensures ∙ (λ i. used_if (c.asks_capacity.ensures i) (c.as_slice.ensures i)))
