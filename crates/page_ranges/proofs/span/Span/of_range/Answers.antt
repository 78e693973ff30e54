use Rattle.std.proofs.Common.{◌∙◌}
use Rattle.row_keys.specs.Keys.{row_key}
use Rattle.page_ranges.proofs.Ranges.{is_between, between_ends}
use Rattle.page_ranges.proofs.span.Span.of_range.Goals as goal

pub returns : goal.returns
returns c = λ key.
    (λ i. is_between
    (record { place = c.in_ok-place.ensures.place i; partition = c.in_ok-try_clone.ensures i; sort = c.in_ok-low_point.ensures i })
    (record { place = c.in_ok-place.ensures.place i; partition = c.in_ok-try_clone-2.ensures i; sort = c.in_ok-high_point.ensures i })
    (row_key key))
    ∙ between_ends c.args.range.now key
