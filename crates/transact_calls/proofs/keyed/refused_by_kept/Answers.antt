use Rattle.std.proofs.Common.{subst}
use Rattle.cell_asks.proofs.Trails.{told_gives_up}
use Rattle.transact_calls.specs.Known.{Confirms}
use Rattle.transact_calls.proofs.Looking.{told_looked}
use Rattle.transact_calls.proofs.States.{refused_kept}
use Rattle.transact_calls.proofs.keyed.refused_by_kept.Goals as goal

pub returns-in-Ok-true-clause-ok : goal.returns-in-Ok-true-clause-ok
returns-in-Ok-true-clause-ok g c = λ asked none is.
    let n = g.C.Asks.count c.args.cells.now in
    let p = g.C.Asks.seen c.args.pass.now in
    let q = g.C.Asks.seen c.confirm.new.pass in
    let entries = c.args.tables.now.entries in
    refused_kept n p asked entries none c.args.why is q (subst (λ b. Confirms n p entries b q) c.in-Ok-true.field-0-test c.in-Ok-true.ensures.ok)

pub returns-in-Ok-true-clause-told : goal.returns-in-Ok-true-clause-told
returns-in-Ok-true-clause-told g c =
    let n = g.C.Asks.count c.args.cells.now in
    let p = g.C.Asks.seen c.args.pass.now in
    let q = g.C.Asks.seen c.confirm.new.pass in
    let entries = c.args.tables.now.entries in
    let confirmed = subst (λ b. Confirms n p entries b q) c.in-Ok-true.field-0-test c.in-Ok-true.ensures.ok in
    told_looked n p confirmed.told q confirmed.looks c.args.looks.now c.requires.told

pub returns-in-Err-clause-told : goal.returns-in-Err-clause-told
returns-in-Err-clause-told g c =
    told_gives_up (g.C.Asks.count c.args.cells.now) (g.C.Asks.seen c.args.pass.now) c.in-Err.error (g.C.Asks.seen c.confirm.new.pass) c.in-Err.ensures.err
    c.args.looks.now c.requires.told
