use Rattle.table_schema.specs.Indexes.{shown, rest_of}
use Rattle.table_schema.proofs.Pairs.{goes_on, found}
use Rattle.table_schema.proofs.indexes.Indexes.have_distinct_names.Goals as goal

pub returns-then-contain_name : goal.returns-then-contain_name
returns-then-contain_name c = (
  λ e. absurd (cc),
  λ distinct.
      absurd
      (found (λ i. i.name) (shown c.in-Some.index) (rest_of c.next.new.self) (rest_of c.loop-index.self) _ c.in-Some.ensures.steps (c.contain_name.ensures.0 c.if-contain_name.true)
      c.loop-index.invariant.2 distinct),
)

pub loop-index-preserved : goal.loop-index-preserved
loop-index-preserved c = (
  tt,
  tt,
  goes_on (λ i. i.name) (shown c.in-Some.index) (rest_of c.next.new.self) (rest_of c.loop-index.self) _ c.in-Some.ensures.steps
      (λ any. let known = c.contain_name.ensures.1 any in absurd (cc)) c.loop-index.invariant.2,
)
