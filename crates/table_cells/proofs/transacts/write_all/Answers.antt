use Rattle.table_cells.proofs.transacts.write_all.Goals as goal

pub returns-clause-end : goal.returns-clause-end
returns-clause-end g c =
    record { adds = c.transact_write.ensures.own; turns = c.transact_write.ensures.writes; twice = c.transact_write.ensures.twice }
