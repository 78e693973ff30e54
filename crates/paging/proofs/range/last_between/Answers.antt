use Rattle.std.proofs.Common.{sym, ap, ◌∙◌}
use Rattle.std.specs.Option.{option_map}
use Rattle.std.specs.Map.Iter.{deref_pair}
use Rattle.paging.proofs.Ends.{last_none, last_out, last_within}
use Rattle.paging.proofs.range.last_between.Goals as goal

pub returns-in_err-key : goal.returns-in_err-key
returns-in_err-key g c =
    ap (option_map deref_pair) c.from_residual.ensures
    ∙ last_none g.K.Ord.cmp _ _ c.args.map.now.entries (sym (c.range.ensures.between tt) ∙ c.in_err-key.ensures.steps.0)

pub returns-then-not-is_from : goal.returns-then-not-is_from
returns-then-not-is_from g c =
    last_out g.K.Ord.cmp _ _ c.args.map.now.entries g.met.K.Ord.total c.range.ensures.ordered (c.in_ok-key.key.now, c.in_ok-key.row.now) _
    (sym (c.range.ensures.between tt) ∙ c.in_ok-key.ensures.steps) (sym c.is_from.ensures ∙ c.if-not-is_from.true)

pub returns : goal.returns
returns g c =
    last_within g.K.Ord.cmp _ _ c.args.map.now.entries g.met.K.Ord.total c.range.ensures.ordered (c.in_ok-key.key.now, c.in_ok-key.row.now) _
    (sym (c.range.ensures.between tt) ∙ c.in_ok-key.ensures.steps) (sym c.is_from.ensures ∙ c.if-not-is_from.false)
