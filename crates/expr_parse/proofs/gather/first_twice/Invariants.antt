use Rattle.std.proofs.Common.{drop}
use Rattle.expr_parse.proofs.Twice.{HasMet}
use Rattle.expr_parse.proofs.gather.first_twice.Given as goal

abbrev pub invariant-loop-section : goal.invariant-loop-section
invariant-loop-section l = HasMet l.met (drop l.section-index l.sections) l.sections
