use Rattle.cell_asks.proofs.Trails.{told_gives_up}
use Rattle.page_calls.specs.Steps.{asked_of}
use Rattle.page_calls.proofs.Tries.{told_read}
use Rattle.page_calls.proofs.calls.read_kept.Goals as goal

pub returns-in_err-read_table-in-Some-clause-told : goal.returns-in_err-read_table-in-Some-clause-told
returns-in_err-read_table-in-Some-clause-told g c =
    told_gives_up (g.C.Asks.count c.args.cells.now) (g.C.Asks.seen c.args.pass.now) c.in_err-read_table-in-Some.field-0.0 _ c.in_err-read_table-in-Some.ensures.err c.args.looks.now
    c.requires.told

pub returns-in_ok-read_table-in-Some-clause-told : goal.returns-in_ok-read_table-in-Some-clause-told
returns-in_ok-read_table-in-Some-clause-told g c =
    told_read (g.C.Asks.count c.args.cells.now) (g.C.Asks.seen c.args.pass.now) (asked_of c.args.asked) c.in-Some.look.now c.in_ok-read_table-in-Some.field-0
    (g.C.Asks.seen c.read_table.new.pass) c.in_ok-read_table-in-Some.ensures.ok c.args.looks.now c.requires.told
