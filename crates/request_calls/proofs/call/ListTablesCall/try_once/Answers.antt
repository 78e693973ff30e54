use Rattle.table_request.specs.declared.request.Request.TheVariants as request
use Rattle.cell_asks.specs.declared.tried.Tried.{Tried}
use Rattle.request_calls.proofs.Trying.{told_tries, told_stops}
use Rattle.request_calls.proofs.call.ListTablesCall.try_once.Goals as goal

pub returns-in-Ok-clause-told : goal.returns-in-Ok-clause-told
returns-in-Ok-clause-told g c = told_tries _ _ (request.ListTables c.args.self) (Tried.Reply c.in-Ok.reply) _ c.in-Ok.ensures.ok c.args.looks.now c.requires.told

pub returns-in-Err-clause-told : goal.returns-in-Err-clause-told
returns-in-Err-clause-told g c = told_stops _ _ (request.ListTables c.args.self) c.in-Err.why _ c.in-Err.ensures.err c.args.looks.now c.requires.told
