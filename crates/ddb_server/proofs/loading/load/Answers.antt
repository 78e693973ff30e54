use Rattle.std.proofs.Common.{inl, refl, sym, ◌∙◌, ◌+◌}
use Rattle.ddb_server.proofs.Clients.{last_rests, others_rest, clients_rest, some_client}
use Rattle.ddb_server.proofs.loading.load.Goals as goal

pub load_all-end-requires-clause-bank : goal.load_all-end-requires-clause-bank
load_all-end-requires-clause-bank g c κs within =
    rw c.new-bank.ensures (last_rests c.in-Ok.cells.cluster c.in-Ok.passes c.pop.new.self c.in-Some.pass c.in-Some.ensures.items c.in-Ok.ensures.rest)

pub load_all-end-requires-clause-clients : goal.load_all-end-requires-clause-clients
load_all-end-requires-clause-clients g c κs within =
    rw c.as_mut_slice.ensures.value
    (clients_rest c.in-Ok.cells.cluster c.pop.new.self c.in-Ok-make_clients.clients c.in-Ok-make_clients.ensures
    (others_rest c.in-Ok.cells.cluster c.in-Ok.passes c.pop.new.self c.in-Some.pass c.in-Some.ensures.items c.in-Ok.ensures.rest))

pub load_all-end-requires-clause-some : goal.load_all-end-requires-clause-some
load_all-end-requires-clause-some g c κs within =
    rw c.as_mut_slice.ensures.value
    (some_client c.in-Ok.cells.cluster c.args.clients (c.args.clients + 1) refl c.in-Ok.passes c.pop.new.self c.in-Some.pass c.in-Ok-make_clients.clients c.requires.clients.0
    c.in-Ok.ensures.passes c.in-Some.ensures.items c.in-Ok-make_clients.ensures)

pub returns-in-Done-clause-loads : goal.returns-in-Done-clause-loads
returns-in-Done-clause-loads g c = inl (
  c.in-Done.summary,
  record {
    cells = c.in-Ok.cells.cluster;
    of_all = c.in-Ok.ensures.cells.0;
    passes = c.pop.new.self;
    bank = c.in-Some.pass;
    first = sym c.in-Some.ensures.items ∙ c.in-Ok.ensures.passes;
    begun = c.in-Ok-make_clients.clients;
    are = c.in-Ok-make_clients.ensures;
    seen = c.load_all-end.new.bank;
    left = c.load_all-end.new.clients;
    loaded = rw (c.in-Done.is, c.as_mut_slice.ensures.value, c.new-bank.ensures, c.in-Ok.ensures.cells.0) at c.load_all-end.ensures.done;
  },
  c.tell.ensures.tells,
)
