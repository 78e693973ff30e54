use Rattle.table_service.proofs.telling.budget_error.Goals as goal

pub returns : goal.returns
returns c = λ i. (c.status.ensures i, c.budget_error_body.ensures i)
