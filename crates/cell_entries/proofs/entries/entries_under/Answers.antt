use Rattle.std.proofs.Common.{◌∙◌}
use Rattle.cell_entries.specs.LocalEntries.{entries_from}
use Rattle.cell_entries.proofs.Entered.{entered_all, entered_more}
use Rattle.cell_entries.proofs.entries.entries_under.Goals as goal

pub loop-place-preserved : goal.loop-place-preserved
loop-place-preserved c =
    let xs = c.as_slice-index-items.result.now in
    entered_more c.args.schema.now c.args.key.now c.args.item.now xs c.loop-place.place (entries_from c.args.schema.now xs 0 c.args.key.now c.args.item.now)
    c.loop-place.entries.items c.index-item.result c.add_entry.new.entries.items c.loop-place-test.true c.index-item.is c.loop-place.invariant c.in_ok-add_entry.ensures

pub returns : goal.returns
returns c =
    let xs = c.as_slice-index-items.result.now in
    entered_all c.args.schema.now c.args.key.now c.args.item.now xs c.loop-place.place (entries_from c.args.schema.now xs 0 c.args.key.now c.args.item.now)
    c.loop-place.entries.items c.loop-place-test.false c.loop-place.invariant
    ∙ (λ j. entries_from c.args.schema.now (c.as_slice-index-items.ensures j) 0 c.args.key.now c.args.item.now)
