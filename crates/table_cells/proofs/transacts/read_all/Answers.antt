use Rattle.table_cells.proofs.transacts.read_all.Goals as goal

pub returns-clause-end : goal.returns-clause-end
returns-clause-end g c = record { adds = c.transact_get.ensures.end; point = c.transact_get.ensures.point }
