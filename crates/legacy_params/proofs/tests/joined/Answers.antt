use Rattle.std.proofs.Common.{◌≡◌, ◌∙◌, List, length, arith, sym, subst, option_map}
use Rattle.std.specs.Vec.Iter.{into_iter_items}
use Rattle.std.proofs.lemmas.List.{nil_from_length}
use Rattle.std.proofs.Common.{None}
use Rattle.expr_words.specs.Trees.{tree}
use Rattle.legacy_params.specs.declared.part.LegacyTest.{LegacyTest}
use Rattle.legacy_params.proofs.Steps.{Joining, at_first, one_test, all_tests}
use Rattle.legacy_params.proofs.tests.joined.Goals as goal

pub loop-test-init : goal.loop-test-init
loop-test-init c =
    subst (λ (ts : List LegacyTest). Joining c.args.any c.args.before c.args.tests None c.args.before ts)
    (sym (c.into_iter-test-iterator.ensures.into_iter_gives.0 ∙ c.from-test-items.ensures)) (at_first c.args.any c.args.before c.args.tests)

pub loop-test-preserved : goal.loop-test-preserved
loop-test-preserved c =
    let l = c.loop-test in
    one_test c.args.any c.args.before c.args.tests (option_map tree l.tree) l.values c.part.new.values c.in-Some.test (into_iter_items l.test-iterator)
    (into_iter_items c.next.new.self) (tree c.in_ok-part.part) (tree c.in_ok-joined_to.field-0) c.in-Some.ensures.steps.0 c.in_ok-part.ensures.part
    c.in_ok-part.ensures.values c.in_ok-joined_to.ensures l.invariant

pub returns : goal.returns
returns c =
    let l = c.loop-test in
    let ended = c.in-None.ensures.steps.0 in
    let short : length (into_iter_items l.test-iterator) ≡ 0 = grind arith in
    let all = all_tests c.args.any c.args.before c.args.tests (option_map tree l.tree) l.values (into_iter_items l.test-iterator)
    (nil_from_length (into_iter_items l.test-iterator) short) l.invariant in record { tree = all.0; values = all.1 }
