use Rattle.std.proofs.lemmas.Result.{err_from_is_err_and}
use Rattle.serde_json.specs.View.{view}
use Rattle.request_parts.proofs.Judging.{parts_refused, sound_parts}
use Rattle.request_parts.proofs.legacy.read_legacy.Goals as goal

pub returns-in_err-judged : goal.returns-in_err-judged
returns-in_err-judged c =
    let p = err_from_is_err_and c.from_residual-in_err-judged.result c.from_residual-in_err-judged.ensures.1 in
    rw (p.1, p.2)
    (parts_refused c.args.kind (view c.args.json.now) c.in_ok-parts.parts c.in_err-judged.field-0.0 c.in_ok-parts.ensures.parts c.in_err-judged.ensures)

pub returns : goal.returns
returns c = (c.in_ok-parts.parts, c.in_ok-parts.ensures.parts, c.in_ok-judged.ensures, c.in_ok-trees_of.ensures)

pub trees_of-requires-clause-faultless : goal.trees_of-requires-clause-faultless
trees_of-requires-clause-faultless c =
    sound_parts c.args.kind (view c.args.json.now) c.in_ok-parts.parts c.in_ok-judged.ensures
