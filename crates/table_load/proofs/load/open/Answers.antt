use Rattle.table_load.proofs.load.open.Goals as goal

pub returns-clause-ok : goal.returns-clause-ok
returns-clause-ok g c = record {
  made = c.set_up.new.self;
  makes = rw c.caller-caller.ensures at c.in_ok-set_up.ensures.ok;
  met = c.meet_each.new.bank;
  begun = c.meet_each.new.clients;
  meets = c.meet_each.ensures.bank;
  clients_meet = c.meet_each.ensures.clients;
  sent = c.first_round.new.clients;
  send = c.in_ok-first_round.ensures.ok;
  meets_again = c.meet_each-2.ensures.bank;
  clients_meet_again = c.meet_each-2.ensures.clients;
}
