use Rattle.std.proofs.Common.{drop}
use Rattle.serde_json.specs.View.{items_view}
use Rattle.request_parts.specs.Members.{each}
use Rattle.request_parts.specs.Asks.{EachStates}
use Rattle.api_request.proofs.Parts.{Along}
use Rattle.api_request.proofs.part.read_parts.Given as goal

-- as what is left goes, so goes the whole
abbrev pub invariant-loop-item : goal.invariant-loop-item
invariant-loop-item g l =
    let left = items_view (drop l.item-index l.items) in
    let all = items_view l.items in
    let asks = g.T.Part.asks in
    Along (EachStates g.T.Part.states left) (EachStates g.T.Part.states all) (each asks left) (each asks all) l.parts
