use Rattle.std.proofs.Common.{true≢false, refl, sym, ◌∙◌, arith}
use Rattle.expr_parse.proofs.Ordered.{neighbours_found, neighbours_next, neighbours_none}
use Rattle.expr_parse.proofs.overlap.neighbours_overlap.Goals as goal

pub returns-then-alike : goal.returns-then-alike
returns-then-alike c = (
  (λ t. neighbours_found c.args.paths.now c.loop-place.place c.index-paths-place.result c.index-paths-place-in-loop-place.result (omega arith)
      c.loop-place-test.true c.index-paths-place.is c.index-paths-place-in-loop-place.is (c.alike.ensures.0 c.if-alike.true)),
  (λ n. refl),
)

pub loop-place-preserved : goal.loop-place-preserved
loop-place-preserved c =
    neighbours_next c.args.paths.now c.loop-place.place c.index-paths-place.result c.index-paths-place-in-loop-place.result (omega arith)
    c.loop-place-test.true c.index-paths-place.is c.index-paths-place-in-loop-place.is
    (λ overlap. true≢false (sym (c.alike.ensures.1 overlap) ∙ c.if-alike.false)) c.loop-place.invariant

pub returns : goal.returns
returns c = ((λ t. absurd (true≢false (sym t))), (λ n. absurd (neighbours_none c.args.paths.now c.loop-place.place (omega arith) c.loop-place.invariant n)))
