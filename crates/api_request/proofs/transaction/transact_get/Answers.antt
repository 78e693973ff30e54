use Rattle.std.proofs.lemmas.Result.{err_from_is_err_and}
use Rattle.serde_json.specs.View.{view, items_view}
use Rattle.api_request.proofs.Totals.{gets_refused, gets_stated}
use Rattle.api_request.proofs.transaction.transact_get.Goals as goal

pub returns-in_err-reads : goal.returns-in_err-reads
returns-in_err-reads c =
    let p = err_from_is_err_and c.from_residual.result c.from_residual.ensures.1 in
    rw (p.1, p.2)
    (gets_refused (view c.args.json.now) (items_view c.list_at.result.now) c.in_err-reads.field-0.0 c.list_at.ensures c.in_err-reads.ensures)

pub returns : goal.returns
returns c = (gets_stated (view c.args.json.now) (items_view c.list_at.result.now) c.in_ok-reads.reads c.list_at.ensures c.in_ok-reads.ensures, c.asks_capacity.ensures)
