use Rattle.std.proofs.Common.{◌≡◌, ◌<◌, ◌∷◌, ◌++◌, [], length, List}
use Rattle.expr_words.specs.Words.{meanings}
use Rattle.expr_words.specs.Machine.{reads, Owed, Kept, Paired, MorePairs, a_pair}
use Rattle.expr_parse.proofs.section.pairs.Given as goal

abbrev pub invariant-loop-rest : goal.invariant-loop-rest
invariant-loop-rest l = record {
  reading : (os : List Owed) (ks : List Kept) → reads (meanings l.words) (a_pair ++ os) (Paired [] ∷ ks) ≡ reads (meanings l.rest) (MorePairs ∷ os) (Paired l.pairs ∷ ks);
  shorter : length l.rest < length l.words;
}

abbrev pub decreases-loop-rest : goal.decreases-loop-rest
decreases-loop-rest l = length l.rest
