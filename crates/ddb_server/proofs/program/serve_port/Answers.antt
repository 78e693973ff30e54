use denote.Param.Send.{sendable}
use Rattle.std.specs.List.{AllZip}
use Rattle.std.proofs.Common.{List, sym, subst, map, inl, ◌∙◌, ◌+◌}
use Rattle.std.proofs.Crossing as owners
use Rattle.http_workers.specs.Crews.{ServesAll}
use Rattle.turnstile.specs.Passes.{PassView}
use Rattle.cluster.specs.Events.{pass_of}
use Rattle.pass_sessions.specs.PassWays.{pass_ways}
use Rattle.table_history.specs.Entries.{TableEvent}
use Rattle.cell_service.specs.Right.{Right}
use Rattle.cell_helpers.specs.Passes.{pass_in}
use Rattle.cell_helpers.specs.Upkeep.{Upkeep}
use Rattle.cell_helpers.proofs.Crossings.{helper_send}
use Rattle.cell_service.proofs.Crossings.{session_send, service_sync}
use Rattle.ddb_server.proofs.Serving.{some_pass, helped, helped_rest, same_connections}
use Rattle.ddb_server.proofs.Statuses.{rose_later, zero_is_done}
use Rattle.ddb_server.proofs.program.serve_port.Goals as goal

pub serve_all-end-requires-send-V-State : goal.serve_all-end-requires-send-V-State
serve_all-end-requires-send-V-State g c κs within = search (session_send, owners.crosses, sendable) depth 60 fits 20000

pub serve_all-end-requires-send-V-Helper : goal.serve_all-end-requires-send-V-Helper
serve_all-end-requires-send-V-Helper g c κs within = search (helper_send, owners.crosses, sendable) depth 60 fits 20000

pub serve_all-end-requires-sync-V : goal.serve_all-end-requires-sync-V
serve_all-end-requires-sync-V g c κs within = search (service_sync, owners.crosses, sendable) depth 60 fits 20000

pub meet_all-requires-clause-helpers : goal.meet_all-requires-clause-helpers
meet_all-requires-clause-helpers g c =
    rw c.as_mut_slice-2.ensures.value
    (helped_rest c.in-Ok.service c.serve_all-end.result c.in-Ok.helpers c.serve_all-end.new.helpers c.serve_all-end.ensures.helped c.in-Ok.ensures.helpers)

pub returns-clause-served : goal.returns-clause-served
returns-clause-served g c = inl (
  c.serve_all-end.result,
  c.serve_status.ensures,
  record {
    cells = c.in-Ok.service;
    count = c.in-Ok.ensures.cells;
    passes = c.serve_all-end.new.states;
    served =
        subst (λ (l : List (PassView TableEvent)). ServesAll (pass_ways pass_of Right) c.serve_all-end.result (g.C.Clock.coming c.args.clock.now)
        (g.L.Listener.connections c.args.listener.now) (g.L.Listener.connections c.serve_all-end.new.listener) l c.serve_all-end.new.states)
        c.in-Ok.ensures.sessions
        (subst (λ l. ServesAll (pass_ways pass_of Right) c.serve_all-end.result (g.C.Clock.coming c.args.clock.now)
        l (g.L.Listener.connections c.serve_all-end.new.listener) c.in-Ok.sessions c.serve_all-end.new.states)
        (same_connections _ _ c.bind.ensures.connections) c.serve_all-end.ensures.served);
    beside = map pass_in c.serve_all-end.new.helpers;
    helped = subst (λ l. AllZip Upkeep l (map pass_in c.serve_all-end.new.helpers)) c.in-Ok.ensures.beside
        (helped c.serve_all-end.result c.in-Ok.helpers c.serve_all-end.new.helpers c.serve_all-end.ensures.helped);
    met = c.meet_all.new.sessions;
    met_beside = map pass_in c.meet_all.new.helpers;
    seen = rw c.as_mut_slice.ensures.value at c.meet_all.ensures.sessions;
    seen_beside = rw c.as_mut_slice-2.ensures.value at c.meet_all.ensures.helpers;
    history = rw c.in-Ok.ensures.cells at c.meet_all.ensures.met;
  },
)

pub returns-clause-done : goal.returns-clause-done
returns-clause-done g c zero =
    rose_later (g.L.Listener.ends c.args.listener.now) (g.L.Listener.ends c.bind.new.self)
    (g.L.Listener.ends c.serve_all-end.new.listener) c.bind.ensures.ends
    (c.serve_all-end.ensures.done (zero_is_done c.serve_all-end.result (sym c.serve_status.ensures ∙ zero))
    (some_pass c.in-Ok.sessions c.in-Ok.service (c.args.workers + 2) c.args.workers c.requires.workers.0 c.in-Ok.ensures.sessions))
