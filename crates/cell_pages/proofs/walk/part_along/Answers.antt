use Rattle.std.proofs.Common.{filter_map}
use Rattle.std.specs.BTreeMap.Range.{entries_between}
use Rattle.paging.specs.Rows.{in_direction}
use Rattle.cell_model.specs.Pages.{taken}
use Rattle.cell_pages.specs.Walked.{included}
use Rattle.cell_pages.proofs.Takes.{ended}
use Rattle.cell_pages.proofs.Walks.{walk_ended}
use Rattle.cell_pages.proofs.walk.part_along.Goals as goal

pub returns : goal.returns
returns g c =
    let page = c.args.page.now in
    let ends = c.args.ends.now in
    let row = g.R.EntryRows.picked c.args.entry_rows.now page in
    ended page c.loop-key.room c.loop-key.rows
    (taken c.loop-key.room (filter_map row (in_direction page.forward c.loop-key.range))) c.is_over-stopped.result
    (taken page.room (filter_map row
    (in_direction page.forward (entries_between g.K.Ord.cmp (included ends.low) (included ends.high) c.args.map.now.entries))))
    c.loop-key.invariant.taken_so c.loop-key.invariant.room_so
    (walk_ended row page.forward c.loop-key.room c.loop-key.range c.in_default.ensures.none)
    c.is_over-stopped.ensures
