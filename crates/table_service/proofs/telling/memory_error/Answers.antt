use Rattle.table_service.proofs.telling.memory_error.Goals as goal

pub returns : goal.returns
returns c = λ i. (c.status.ensures i, c.memory_error_body.ensures i)
