use Rattle.std.proofs.Common.{◌∙◌}
use Rattle.std.specs.BTreeMap.Range.{range_contains}
use Rattle.row_keys.specs.Keys.{position_order}
use Rattle.page_ranges.specs.Span.{low_end, high_end}
use Rattle.page_ranges.proofs.Ranges.{first_positions}
use Rattle.page_ranges.proofs.span.Span.positions.Goals as goal

pub returns : goal.returns
returns c = λ position.
    (λ i. range_contains position_order (low_end (c.in_ok-low.ensures i)) (high_end (c.in_ok-high.ensures i)) position)
    ∙ first_positions c.args.self.low c.args.self.high position
