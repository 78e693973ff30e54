use Rattle.serde_json.specs.View.{view}
use Rattle.api_request.specs.Transactions.{APut, AnUpdate, ADelete, ACheck}
use Rattle.api_request.proofs.Elements.{at_action}
use Rattle.api_request.proofs.action.TransactActionPart.read.Goals as goal

pub returns-in-Put : goal.returns-in-Put
returns-in-Put c =
    at_action (view c.args.json.now) (APut (view c.in-Put.put.now)) c.put_action.result c.in-Put.ensures c.put_action.ensures

pub returns-in-Update : goal.returns-in-Update
returns-in-Update c =
    at_action (view c.args.json.now) (AnUpdate (view c.in-Update.update.now)) c.update_action.result c.in-Update.ensures c.update_action.ensures

pub returns-in-Delete : goal.returns-in-Delete
returns-in-Delete c =
    at_action (view c.args.json.now) (ADelete (view c.in-Delete.delete.now)) c.delete_action.result c.in-Delete.ensures c.delete_action.ensures

pub returns-in-Check : goal.returns-in-Check
returns-in-Check c =
    at_action (view c.args.json.now) (ACheck (view c.in-Check.check.now)) c.check_action.result c.in-Check.ensures c.check_action.ensures
