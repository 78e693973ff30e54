use Rattle.std.proofs.Common.{Some}
use Rattle.serde_json.specs.View.{view}
use Rattle.api_request.proofs.Messages.{body_told}
use Rattle.api_request.proofs.message.of_body.Goals as goal

pub returns-in-Ok : goal.returns-in-Ok
returns-in-Ok c = body_told c.args.operation c.args.body.now (Some (view c.in-Ok.json)) c.of_json.result c.in-Ok.ensures.ok c.of_json.ensures
