use Rattle.std.proofs.lemmas.Result.{err_from_is_err_and}
use Rattle.serde_json.specs.View.{view}
use Rattle.api_request.specs.Pages.{scan_asks, StatesPage, StatesScan}
use Rattle.request_parts.proofs.Telling.{part_told}
use Rattle.api_request.proofs.page.scan.Goals as goal

pub returns-in_err-page : goal.returns-in_err-page
returns-in_err-page c =
    let d = view c.args.json.now in
    let p = err_from_is_err_and c.from_residual.result c.from_residual.ensures.1 in
    rw (p.1, p.2) (part_told (scan_asks d) (StatesPage d) (StatesScan d) c.in_err-page.field-0.0 c.in_err-page.ensures)

pub returns : goal.returns
returns c = (record { page = c.in_ok-page.ensures.0; segment = c.segment_of.ensures }, c.in_ok-page.ensures.1)
