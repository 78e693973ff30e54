use Rattle.table_schema.proofs.Pairs.{goes_on, found}
use Rattle.table_schema.proofs.definition.have_distinct_names.Goals as goal

pub returns-then-contain_name : goal.returns-then-contain_name
returns-then-contain_name c = (
  λ e. absurd (cc),
  λ distinct.
      absurd
      (found (λ d. d.name) c.in-Some.first.now c.in-Some.others.now c.loop-first.rest.now _ c.in-Some.ensures.cases.0 (c.contain_name.ensures.0 c.if-contain_name.true)
      c.loop-first.invariant distinct),
)

pub loop-first-preserved : goal.loop-first-preserved
loop-first-preserved c =
    goes_on (λ d. d.name) c.in-Some.first.now c.in-Some.others.now c.loop-first.rest.now _ c.in-Some.ensures.cases.0
    (λ any. let known = c.contain_name.ensures.1 any in absurd (cc)) c.loop-first.invariant
