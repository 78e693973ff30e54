use Rattle.std.proofs.Common.{◌≡◌, ◌<◌, ◌∷◌, length, List}
use Rattle.expr_words.specs.Words.{meanings}
use Rattle.expr_words.specs.Machine.{reads, Owed, Kept, Sides, AnOperand, MoreChoices, Do, FirstChoice}
use Rattle.expr_parse.proofs.choice.choices.Given as goal

abbrev pub invariant-loop-after : goal.invariant-loop-after
invariant-loop-after l = record {
  reading : (os : List Owed) (ks : List Kept) → reads (meanings l.words) (AnOperand l.levels ∷ Do FirstChoice ∷ MoreChoices l.levels 99 ∷ os) ks ≡ reads (meanings l.rest) (MoreChoices l.levels l.left ∷ os) (Sides l.choices ∷ ks);
  shorter : length l.rest < length l.words;
}

abbrev pub decreases-loop-after : goal.decreases-loop-after
decreases-loop-after l = length l.rest
