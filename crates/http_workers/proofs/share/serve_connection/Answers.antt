use Rattle.http_workers.proofs.Connections.{one_served}
use Rattle.http_workers.proofs.share.serve_connection.Goals as goal

pub returns-clause-served : goal.returns-clause-served
returns-clause-served g c =
    one_served _ _ _ _ _ _ _ _ _ _ c.serve_session.result c.serve_session.ensures.served c.hang_up.ensures.hung
