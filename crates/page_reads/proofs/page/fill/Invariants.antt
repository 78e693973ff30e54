use Rattle.std.proofs.Common.{◌≡◌, ◌+◌, ◌≤◌, false, length}
use Rattle.std.specs.Option.{option_copied}
use Rattle.paging.specs.Room.{has_stopped}
use Rattle.paging.specs.Rows.{rows_after}
use Rattle.page_reads.specs.Sources.{source_in}
use Rattle.page_reads.proofs.Filling.{Along}
use Rattle.page_reads.proofs.page.fill.Given as goal

-- how far the page is filled
abbrev pub invariant-loop-place : goal.invariant-loop-place
invariant-loop-place g l =
    let cmp = g.W.Place.Ord.cmp in
    let rows = rows_after cmp l.forward (option_copied l.fn.after) (g.W.Walk.listed l.rows) in
    let left = rows_after cmp l.forward (option_copied l.cursor) (g.W.Walk.listed l.rows) in
    record {
      along : Along l.sight.schema.now (source_in l.sight.source) l.sight.page.now rows left l.state l.filled;
      going : has_stopped l.state ≡ false;
      few : length rows ≤ length (g.W.Walk.listed l.rows);
      cost : l.steps ≡ l.fn.steps + l.filled.page.scanned;
    }

abbrev pub decreases-loop-place : goal.decreases-loop-place
decreases-loop-place g l = length (rows_after g.W.Place.Ord.cmp l.forward (option_copied l.cursor) (g.W.Walk.listed l.rows))
