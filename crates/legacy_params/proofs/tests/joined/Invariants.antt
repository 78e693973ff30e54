use Rattle.std.proofs.Common.{option_map}
use Rattle.std.specs.Vec.Iter.{into_iter_items}
use Rattle.expr_words.specs.Trees.{tree}
use Rattle.legacy_params.proofs.Steps.{Joining}
use Rattle.legacy_params.proofs.tests.joined.Given as goal

abbrev pub invariant-loop-test : goal.invariant-loop-test
invariant-loop-test l = Joining l.any l.fn.before l.fn.tests (option_map tree l.tree) l.values (into_iter_items l.test-iterator)
