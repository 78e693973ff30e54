use Rattle.std.proofs.Common.{[], length, refl, ap, sym, ◌∙◌, arith}
use Rattle.std.specs.Option.{option_copied}
use Rattle.paging.specs.Rows.{rows_after}
use Rattle.paging.proofs.Ordered.{next_row, none_there, fewer_after}
use Rattle.page_reads.specs.declared.page.Filled.{Filled}
use Rattle.page_reads.specs.Sources.{source_in}
use Rattle.page_reads.proofs.Filling.{along_few, along_count, along_more, along_stop, along_end}
use Rattle.page_reads.proofs.page.fill.Goals as goal

pub loop-place-init : goal.loop-place-init
loop-place-init g c =
    let sight = c.args.sight.now in record {
      along = record {
        told = [];
        parts = refl;
        filling = λ place. record {
          room_is = c.start-state.ensures.room;
          page_is = c.nothing_filled-filled.ensures sight.schema.now (source_in sight.source);
        };
      };
      going = c.start-state.ensures.going;
      few = fewer_after g.W.Place.Ord.cmp c.args.forward (option_copied c.args.after) (g.W.Walk.listed c.args.rows.now);
      cost = omega (arith, ap (λ (f : Filled). f.page.scanned) (c.nothing_filled-filled.ensures sight.schema.now (source_in sight.source)));
    }

pub add_row-requires-clause-few : goal.add_row-requires-clause-few
add_row-requires-clause-few g c =
    let sight = c.args.sight.now in
    let left =
    next_row g.met.W.Place.Ord.total c.args.forward (option_copied c.loop-place.cursor) (g.W.Walk.listed c.args.rows.now)
    (c.in-Some.place.now, c.in-Some.item.now) c.in-Some.ensures.ordered c.in-Some.ensures.first in
    along_few sight.schema.now (source_in sight.source) sight.page.now c.loop-place.invariant.along (c.in-Some.place.now, c.in-Some.item.now) _ left
    (omega (arith, c.loop-place.invariant.few, c.in-Some.ensures.few))

pub add_row-requires-clause-fewer : goal.add_row-requires-clause-fewer
add_row-requires-clause-fewer g c =
    let sight = c.args.sight.now in
    along_count sight.schema.now (source_in sight.source) sight.page.now c.loop-place.invariant.along

pub returns-then-branch-clause-page : goal.returns-then-branch-clause-page
returns-then-branch-clause-page g c =
    let sight = c.args.sight.now in
    let left =
    next_row g.met.W.Place.Ord.total c.args.forward (option_copied c.loop-place.cursor) (g.W.Walk.listed c.args.rows.now)
    (c.in-Some.place.now, c.in-Some.item.now) c.in-Some.ensures.ordered c.in-Some.ensures.first in
    along_stop sight.schema.now (source_in sight.source) sight.page.now c.loop-place.invariant.along (c.in-Some.place.now, c.in-Some.item.now) _ left c.add_row.new.state c.add_row.new.filled
    c.in_ok-add_row.ensures.added c.loop-place.invariant.going (sym c.in_ok-add_row.ensures.full ∙ c.if-branch.true)

pub loop-place-smaller : goal.loop-place-smaller
loop-place-smaller g c =
    let left =
    next_row g.met.W.Place.Ord.total c.args.forward (option_copied c.loop-place.cursor) (g.W.Walk.listed c.args.rows.now)
    (c.in-Some.place.now, c.in-Some.item.now) c.in-Some.ensures.ordered c.in-Some.ensures.first in
    omega (arith, ap length left)

pub loop-place-preserved : goal.loop-place-preserved
loop-place-preserved g c =
    let sight = c.args.sight.now in
    let left =
    next_row g.met.W.Place.Ord.total c.args.forward (option_copied c.loop-place.cursor) (g.W.Walk.listed c.args.rows.now)
    (c.in-Some.place.now, c.in-Some.item.now) c.in-Some.ensures.ordered c.in-Some.ensures.first in record {
      along =
          along_more sight.schema.now (source_in sight.source) sight.page.now c.loop-place.invariant.along (c.in-Some.place.now, c.in-Some.item.now) _ left c.add_row.new.state
          c.add_row.new.filled c.in_ok-add_row.ensures.added;
      going = sym c.in_ok-add_row.ensures.full ∙ c.if-branch.false;
      few = c.loop-place.invariant.few;
      cost = omega (arith, c.loop-place.invariant.cost, c.in-Some.ensures.step, c.in_ok-add_row.ensures.scanned);
    }

pub returns-clause-page : goal.returns-clause-page
returns-clause-page g c =
    let sight = c.args.sight.now in
    let ended =
    none_there (rows_after g.W.Place.Ord.cmp c.args.forward (option_copied c.loop-place.cursor) (g.W.Walk.listed c.args.rows.now))
    c.in_default.ensures.first in
    along_end sight.schema.now (source_in sight.source) sight.page.now c.loop-place.invariant.along ended c.loop-place.invariant.going
