use Rattle.serde_json.specs.View.{items_view}
use Rattle.api_request.proofs.Totals.{fitting_told}
use Rattle.api_request.proofs.transaction.read_actions.Goals as goal

pub returns-in-Ok : goal.returns-in-Ok
returns-in-Ok c = fitting_told (items_view c.args.items.now) c.in-Ok.actions c.fitting.result c.in-Ok.ensures c.fitting.ensures
