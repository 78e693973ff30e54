use Rattle.std.proofs.Common.{sym, ap, ◌∙◌}
use Rattle.std.specs.Option.{option_map}
use Rattle.std.specs.Map.Iter.{deref_pair}
use Rattle.paging.proofs.Ends.{first_none, first_past, first_within}
use Rattle.paging.proofs.range.first_between.Goals as goal

pub returns-in_err-key : goal.returns-in_err-key
returns-in_err-key g c =
    ap (option_map deref_pair) c.from_residual.ensures
    ∙ first_none g.K.Ord.cmp _ _ c.args.map.now.entries (sym (c.range.ensures.between tt) ∙ c.in_err-key.ensures.steps.0)

pub returns-then-is_past : goal.returns-then-is_past
returns-then-is_past g c =
    first_past g.K.Ord.cmp _ _ c.args.map.now.entries g.met.K.Ord.total c.range.ensures.ordered (c.in_ok-key.key.now, c.in_ok-key.row.now) _
    (sym (c.range.ensures.between tt) ∙ c.in_ok-key.ensures.steps) (sym c.is_past.ensures ∙ c.if-is_past.true)

pub returns : goal.returns
returns g c =
    first_within g.K.Ord.cmp _ _ c.args.map.now.entries g.met.K.Ord.total c.range.ensures.ordered (c.in_ok-key.key.now, c.in_ok-key.row.now) _
    (sym (c.range.ensures.between tt) ∙ c.in_ok-key.ensures.steps) (sym c.is_past.ensures ∙ c.if-is_past.false)
