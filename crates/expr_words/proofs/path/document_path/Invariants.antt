use Rattle.std.proofs.Common.{◌≡◌, ◌<◌, ◌∷◌, length, List}
use Rattle.expr_words.specs.Words.{meanings}
use Rattle.expr_words.specs.Machine.{reads, Owed, Kept, Steps, APath, MoreSteps}
use Rattle.expr_words.proofs.path.document_path.Given as goal

abbrev pub invariant-loop-steps : goal.invariant-loop-steps
invariant-loop-steps l = record {
  reading : (os : List Owed) (ks : List Kept) → reads (meanings l.words) (APath ∷ os) ks ≡ reads (meanings l.rest) (MoreSteps ∷ os) (Steps l.steps ∷ ks);
  shorter : length l.rest < length l.words;
}

abbrev pub decreases-loop-steps : goal.decreases-loop-steps
decreases-loop-steps l = length l.rest
