use Rattle.std.proofs.Common.{◌+◌, arith}
use Rattle.page_reads.specs.Sources.{source_in}
use Rattle.page_calls.proofs.Telling.{none_told, told_count, told_more}
use Rattle.page_calls.proofs.told.filled.Goals as goal

pub loop-before-init : goal.loop-before-init
loop-before-init c =
    let sight = c.args.sight.now in
    let schema = sight.schema.now in
    let source = source_in sight.source in
    none_told schema source sight.page.now c.args.ended c.args.rows.now _ (c.nothing_filled-filled.ensures schema source)

pub add_seen-requires-clause-fewer : goal.add_seen-requires-clause-fewer
add_seen-requires-clause-fewer c =
    let sight = c.args.sight.now in
    told_count sight.schema.now (source_in sight.source) sight.page.now c.args.ended c.args.rows.now c.loop-before.before c.loop-before.filled c.loop-before.invariant

pub loop-before-preserved : goal.loop-before-preserved
loop-before-preserved c =
    let sight = c.args.sight.now in
    let place = c.loop-before.before in
    told_more sight.schema.now (source_in sight.source) sight.page.now c.args.ended c.args.rows.now place c.loop-before.filled c.loop-before.invariant (place + 1) (omega arith)
    c.index-rows-before.result c.loop-before-test.true c.index-rows-before.is c.is_full-is_full.result c.is_full-is_full.ensures c.add_seen.new.filled
    c.in_ok-add_seen.ensures.seen
