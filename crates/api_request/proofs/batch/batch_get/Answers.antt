use Rattle.std.proofs.lemmas.Result.{err_from_is_err_and}
use Rattle.serde_json.specs.View.{view, members_view}
use Rattle.api_request.proofs.Told.{batch_refused, batch_stated, batch_empty}
use Rattle.api_request.proofs.batch.batch_get.Goals as goal

pub returns-in_err-tables-in-Some : goal.returns-in_err-tables-in-Some
returns-in_err-tables-in-Some c =
    let p = err_from_is_err_and c.from_residual.result c.from_residual.ensures.1 in
    rw (p.1, p.2)
    (batch_refused (view c.args.json.now) (members_view c.in-Some.members.now.entries) c.in_err-tables-in-Some.field-0.0 c.in-Some.ensures
    c.in_err-tables-in-Some.ensures)

pub returns-in_ok-tables-in-Some : goal.returns-in_ok-tables-in-Some
returns-in_ok-tables-in-Some c = (
  batch_stated (view c.args.json.now) (members_view c.in-Some.members.now.entries) c.in_ok-tables-in-Some.tables c.in-Some.ensures
      c.in_ok-tables-in-Some.ensures,
  c.asks_capacity.ensures,
)

pub returns-in-None : goal.returns-in-None
returns-in-None c = (batch_empty (view c.args.json.now) c.new.result c.in-None.ensures c.new.ensures, c.asks_capacity-in-None.ensures)
