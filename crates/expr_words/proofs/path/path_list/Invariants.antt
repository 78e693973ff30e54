use Rattle.std.proofs.Common.{◌≡◌, ◌<◌, ◌∷◌, length, List}
use Rattle.expr_words.specs.Words.{meanings}
use Rattle.expr_words.specs.Machine.{reads, Owed, Kept, Listed, APath, MorePaths, Do, FirstPath}
use Rattle.expr_words.proofs.path.path_list.Given as goal

abbrev pub invariant-loop-rest : goal.invariant-loop-rest
invariant-loop-rest l = record {
  reading : (os : List Owed) (ks : List Kept) → reads (meanings l.words) (APath ∷ Do FirstPath ∷ MorePaths ∷ os) ks ≡ reads (meanings l.rest) (MorePaths ∷ os) (Listed l.paths ∷ ks);
  shorter : length l.rest < length l.words;
}

abbrev pub decreases-loop-rest : goal.decreases-loop-rest
decreases-loop-rest l = length l.rest
