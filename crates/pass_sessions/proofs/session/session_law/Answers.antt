use Rattle.pass_sessions.proofs.SessionLemmas.{sessions_add}
use Rattle.pass_sessions.proofs.session.session_law.Goals as goal

pub returns : goal.returns
returns g c = sessions_add g.K.SessionKind.by g.K.SessionKind.right
