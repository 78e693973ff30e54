use Rattle.http_session.specs.declared.end.SessionEnd.TheVariants.{NoMemory}
use Rattle.table_model.specs.Database.{empty_database}
use Rattle.ddb_server.proofs.Unserved.{unserved_known}
use Rattle.ddb_server.proofs.program.serve_stream.Goals as goal

pub returns-in_default-clause-session : goal.returns-in_default-clause-session
returns-in_default-clause-session g c = (NoMemory, empty_database, c.session_status.ensures, unserved_known _ _ _)

pub returns-in_default-make-clause-session : goal.returns-in_default-make-clause-session
returns-in_default-make-clause-session g c = (NoMemory, empty_database, c.session_status-in_default-make.ensures, unserved_known _ _ _)

pub returns-clause-session : goal.returns-clause-session
returns-clause-session g c = (
  c.serve_session-end.result,
  c.serve_session-end.new.state,
  c.session_status-2.ensures,
  rw c.in-Ok.ensures at c.serve_session-end.ensures.served,
)
