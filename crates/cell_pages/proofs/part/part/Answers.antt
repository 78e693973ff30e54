use Rattle.cell_pages.specs.Asked.{left}
use Rattle.cell_pages.proofs.Takes.{ended}
use Rattle.cell_pages.proofs.part.part.Goals as goal

pub returns : goal.returns
returns c =
    ended c.args.page.now c.loop-row.room c.loop-row.rows (left c.args.page.now c.loop-row.room c.loop-row.rest) c.is_over-stopped.result _ c.loop-row.invariant.taken c.loop-row.invariant.room
    c.in_default.ensures.none c.is_over-stopped.ensures
