use Rattle.table_calls.proofs.Asked.{describes}
use Rattle.table_calls.proofs.describe.describe_table.Goals as goal

pub returns-clause-ok : goal.returns-clause-ok
returns-clause-ok g c =
    describes (g.C.Asks.count c.args.cells.now) (g.C.Asks.seen c.args.pass.now) (g.C.Asks.seen c.look.new.pass) c.args.request c.in_ok-name.name
    c.in_ok-told.told c.described.result c.in_ok-name.ensures c.in_ok-told.ensures.ok c.described.ensures
