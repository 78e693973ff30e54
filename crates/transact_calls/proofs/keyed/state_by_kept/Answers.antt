use Rattle.std.proofs.Common.{subst}
use Rattle.transact_calls.specs.Stated.{IsKeyed}
use Rattle.transact_calls.proofs.States.{finds_kept}
use Rattle.transact_calls.proofs.keyed.state_by_kept.Goals as goal

pub returns-in-Ok-clause-ok : goal.returns-in-Ok-clause-ok
returns-in-Ok-clause-ok g c =
    let entries = c.args.tables.now.entries in
    finds_kept (g.C.Asks.count c.args.cells.now) (g.C.Asks.seen c.args.pass.now) c.args.actions entries c.requires.known c.in-Ok.actions
    (subst (IsKeyed entries c.args.actions) c.in-Ok.is c.in_ok-actions.ensures)
