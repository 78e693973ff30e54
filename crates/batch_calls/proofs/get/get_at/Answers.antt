use Rattle.std.proofs.Common.{subst}
use Rattle.cell_asks.proofs.Trails.{none_asked, told_gives_up, no_memory, same_error}
use Rattle.batch_calls.specs.Steps.{GotOrGone}
use Rattle.batch_calls.proofs.KeysRead.{read_told, read_stops}
use Rattle.batch_calls.proofs.get.get_at.Goals as goal

pub returns-in_err-places-clause-err : goal.returns-in_err-places-clause-err
returns-in_err-places-clause-err g c =
    no_memory c.from_residual.result _ c.from_residual.ensures.1 (none_asked (g.C.Asks.count c.args.cells.now) (g.C.Asks.seen c.args.pass.now))

pub returns-in_err-items-clause-err : goal.returns-in_err-items-clause-err
returns-in_err-items-clause-err g c =
    same_error c.from_residual-in_err-items.result _ c.in_err-items.field-0.0 c.from_residual-in_err-items.ensures.1 c.in_err-items.ensures.err

pub returns-in_err-items-clause-told : goal.returns-in_err-items-clause-told
returns-in_err-items-clause-told g c =
    told_gives_up (g.C.Asks.count c.args.cells.now) (g.C.Asks.seen c.args.pass.now) c.in_err-items.field-0.0 _ c.in_err-items.ensures.err c.args.looks.now c.requires.told

pub returns-in_err-tried-clause-err : goal.returns-in_err-tried-clause-err
returns-in_err-tried-clause-err g c =
    no_memory c.from_residual-in_err-tried.result _ c.from_residual-in_err-tried.ensures.1
    (read_stops (g.C.Asks.count c.args.cells.now) (g.C.Asks.seen c.args.pass.now) _ c.in_ok-items.items _ c.in_ok-items.ensures.ok)

pub returns-in_err-tried-clause-told : goal.returns-in_err-tried-clause-told
returns-in_err-tried-clause-told g c =
    c.tried.ensures.told _
    (read_told (g.C.Asks.count c.args.cells.now) (g.C.Asks.seen c.args.pass.now) _ c.in_ok-items.items _ c.in_ok-items.ensures.ok c.args.looks.now c.requires.told)

pub returns-clause-ok : goal.returns-clause-ok
returns-clause-ok g c = record {
  items = c.in_ok-items.items;
  got =
      subst (λ places. GotOrGone (g.C.Asks.count c.args.cells.now) (g.C.Asks.seen c.args.pass.now) places c.in_ok-items.items (g.C.Asks.seen c.get_all.new.pass)) c.in_ok-places.ensures
      c.in_ok-items.ensures.ok;
  is = c.in_ok-tried.ensures.tried;
}

pub returns-clause-told : goal.returns-clause-told
returns-clause-told g c =
    c.tried.ensures.told _
    (read_told (g.C.Asks.count c.args.cells.now) (g.C.Asks.seen c.args.pass.now) _ c.in_ok-items.items _ c.in_ok-items.ensures.ok c.args.looks.now c.requires.told)
