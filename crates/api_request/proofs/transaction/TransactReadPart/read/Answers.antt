use Rattle.std.proofs.Common.{ap, Option, unwrap_or}
use Rattle.serde_json.specs.Data.{Data}
use Rattle.serde_json.specs.View.{view}
use Rattle.api_request.proofs.Elements.{at_get}
use Rattle.api_request.proofs.transaction.TransactReadPart.read.Goals as goal

pub returns-in-Some : goal.returns-in-Some
returns-in-Some c =
    let d = view c.args.json.now in
    at_get d (view c.in-Some.get.now) c.get_read.result (ap (λ (x : Option Data). unwrap_or x d) c.in-Some.ensures) c.get_read.ensures

pub returns-in-None : goal.returns-in-None
returns-in-None c =
    let d = view c.args.json.now in
    at_get d d c.get_read-in-None.result (ap (λ (x : Option Data). unwrap_or x d) c.in-None.ensures) c.get_read-in-None.ensures
