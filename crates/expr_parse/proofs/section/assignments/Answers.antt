use Rattle.std.proofs.lemmas.Result.{err_from_is_err_and}
use Rattle.expr_words.specs.Parses.{assigned}
use Rattle.expr_parse.proofs.Sections.{first_set_stops}
use Rattle.expr_parse.proofs.section.assignments.Goals as goal

pub returns-in_err-rest-clause-goes : goal.returns-in_err-rest-clause-goes
returns-in_err-rest-clause-goes c =
    let p = err_from_is_err_and c.from_residual.result c.from_residual.ensures.1 in
    rw (p.1, p.2)
    (first_set_stops c.args.words.now c.args.levels c.new-sets.result (assigned c.assignment.new.sets) c.in_err-rest.field-0.0 c.new-sets.ensures c.in_err-rest.ensures.goes)
