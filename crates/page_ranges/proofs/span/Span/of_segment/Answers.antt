use Rattle.std.proofs.Common.{◌∙◌, Some}
use Rattle.page_ranges.specs.Least.{least_at}
use Rattle.page_ranges.specs.Span.{is_inside}
use Rattle.page_ranges.proofs.Ranges.{is_between, in_segment, in_last}
use Rattle.page_ranges.proofs.span.Span.of_segment.Goals as goal
use Rattle.page_ranges.proofs.span.Span.of_segment.Goals.{in-Some-first_behind+in_ok-least_at-in-Some-first_behind, in-None}

pub returns : goal.returns
returns c = λ key within. elim c.match-first_behind.branch [
  | in-Some-first_behind+in_ok-least_at-in-Some-first_behind w ↦
      (λ i. is_inside (record { low = Some (c.in_ok-least_at.ensures i); high = w.high-is i }) key)
      ∙ (λ i. is_between (least_at c.in-Some.first) (w.in_ok-least_at-in-Some-first_behind.ensures i) key)
      ∙ in_segment c.args.segment c.args.total c.in-Some.first w.in-Some-first_behind.next key (c.in-Some.ensures.some key.place)
      (w.in-Some-first_behind.ensures.some key.place)
  | in-None w ↦
      (λ i. is_inside (record { low = Some (c.in_ok-least_at.ensures i); high = w.high-is i }) key)
      ∙ in_last c.args.segment c.args.total c.in-Some.first key (c.in-Some.ensures.some key.place) (w.in-None.ensures.none key.place within)
]
