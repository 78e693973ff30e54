use Rattle.std.proofs.Common.{ℤ, ap, ◌∙◌}
use Rattle.std.specs.Ordering.{int_cmp, is_lt}
use Rattle.row_keys.proofs.Seconds.{below_is}
use Rattle.row_keys.proofs.expiry.is_below.Goals as goal

pub returns : goal.returns
returns c =
    c.lt.ensures ∙ ap (λ (z : ℤ). is_lt (int_cmp c.args.number.now z)) c.from_u64.ensures ∙ below_is c.args.number.now c.args.second
