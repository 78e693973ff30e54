use Rattle.table_load.proofs.load.load.Goals as goal

pub returns-clause-ok : goal.returns-clause-ok
returns-clause-ok g c = record {
  opened = c.open.new.bank;
  sent = c.open.new.clients;
  opens = c.in_ok-open.ensures.ok;
  closed = c.close.new.bank;
  closes = rw c.caller-caller.ensures at c.in_ok-summary.ensures.ok;
  meets = c.meet_each.ensures.bank;
  clients_meet = c.meet_each.ensures.clients;
  seen = c.meet_each.ensures.seen;
  legal = c.facts.ensures.legal;
}
