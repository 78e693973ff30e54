use Rattle.std.proofs.Common.{Err, ap}
use Rattle.attr_json.specs.Sets.{set_of}
use Rattle.attr_json.proofs.Gathering.{set_is, repeat_is}
use Rattle.attr_json.proofs.set.ordered.Goals as goal

pub returns-in-Ok : goal.returns-in-Ok
returns-in-Ok g c =
    set_is g.met.T.Ord.total c.requires c.args.elements c.in-Ok.set (λ none. let e = c.in-Ok.ensures.empty.1 none in absurd (cc)) c.in-Ok.ensures.ok

pub returns-in-Err-Empty : goal.returns-in-Err-Empty
returns-in-Err-Empty g c = ap (set_of g.T.Ord.cmp) (c.in-Err-Empty.ensures.empty.0 (ap (λ e. Err e) c.in-Err-Empty.field-0-is))

pub returns-in-Err-Duplicate : goal.returns-in-Err-Duplicate
returns-in-Err-Duplicate g c = repeat_is g.met.T.Ord.total c.args.elements (c.in-Err-Duplicate.ensures.duplicate.0 (ap (λ e. Err e) c.in-Err-Duplicate.field-0-is))
