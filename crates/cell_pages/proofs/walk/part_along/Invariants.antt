use Rattle.std.proofs.Common.{◌≡◌, ◌++◌, map, filter_map, length}
use Rattle.std.specs.BTreeMap.Range.{entries_between}
use Rattle.paging.specs.Rows.{in_direction}
use Rattle.cell_model.specs.Pages.{room_after, taken}
use Rattle.cell_pages.specs.Asked.{entry_of}
use Rattle.cell_pages.specs.Walked.{included}
use Rattle.cell_pages.proofs.walk.part_along.Given as goal

abbrev pub invariant-loop-key : goal.invariant-loop-key
invariant-loop-key g l =
    let row = g.R.EntryRows.picked l.entry_rows l.page in
    record {
      taken_so :
          taken l.page.room (filter_map row
          (in_direction l.page.forward (entries_between g.K.Ord.cmp (included l.ends.low) (included l.ends.high) l.map.entries)))
          ≡ map entry_of l.rows ++ taken l.room (filter_map row (in_direction l.page.forward l.range));
      room_so : l.room ≡ room_after l.page.room (map entry_of l.rows);
    }

abbrev pub decreases-loop-key : goal.decreases-loop-key
decreases-loop-key g l = length l.range
