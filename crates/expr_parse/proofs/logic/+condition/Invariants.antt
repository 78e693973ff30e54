use Rattle.std.proofs.Common.{◌≡◌, ◌+◌, ◌*◌, ◌<◌, ◌∷◌, length, List}
use Rattle.expr_words.specs.Trees.{tree}
use Rattle.expr_words.specs.Words.{meanings}
use Rattle.expr_words.specs.Machine.{reads, Owed, Kept, Whole, ACondition, AConjunction, MoreAnd, MoreOr}
use Rattle.expr_parse.proofs.logic.+condition.Given as goal

abbrev pub decreases-part : goal.decreases-part
decreases-part l = 6 * l.levels

abbrev pub decreases-negation : goal.decreases-negation
decreases-negation l = 6 * l.levels + 5

abbrev pub decreases-and_part : goal.decreases-and_part
decreases-and_part l = 6 * l.levels + 1

abbrev pub decreases-conjunction : goal.decreases-conjunction
decreases-conjunction l = 6 * l.levels + 2

abbrev pub decreases-or_part : goal.decreases-or_part
decreases-or_part l = 6 * l.levels + 3

abbrev pub decreases-disjunction : goal.decreases-disjunction
decreases-disjunction l = 6 * l.levels + 4

abbrev pub decreases-group : goal.decreases-group
decreases-group l = 6 * l.levels + 5

abbrev pub invariant-conjunction-loop-rest : goal.invariant-conjunction-loop-rest
invariant-conjunction-loop-rest l = record {
  reading : (os : List Owed) (ks : List Kept) → reads (meanings l.words) (AConjunction l.levels ∷ os) ks ≡ reads (meanings l.rest) (MoreAnd l.levels ∷ os) (Whole (tree l.left) ∷ ks);
  shorter : length l.rest < length l.words;
}

abbrev pub decreases-conjunction-loop-rest : goal.decreases-conjunction-loop-rest
decreases-conjunction-loop-rest l = length l.rest

abbrev pub invariant-disjunction-loop-rest : goal.invariant-disjunction-loop-rest
invariant-disjunction-loop-rest l = record {
  reading : (os : List Owed) (ks : List Kept) → reads (meanings l.words) (ACondition l.levels ∷ os) ks ≡ reads (meanings l.rest) (MoreOr l.levels ∷ os) (Whole (tree l.left) ∷ ks);
  shorter : length l.rest < length l.words;
}

abbrev pub decreases-disjunction-loop-rest : goal.decreases-disjunction-loop-rest
decreases-disjunction-loop-rest l = length l.rest
