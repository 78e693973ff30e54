use Rattle.std.proofs.Common.{◌≡◌, ◌<◌, ◌∷◌, ◌++◌, [], length, List}
use Rattle.expr_words.specs.Words.{meanings}
use Rattle.expr_words.specs.Parses.{assigned}
use Rattle.expr_words.specs.Machine.{reads, Owed, Kept, Assigned, MoreSets, a_set}
use Rattle.expr_parse.proofs.section.assignments.Given as goal

abbrev pub invariant-loop-rest : goal.invariant-loop-rest
invariant-loop-rest l = record {
  reading : (os : List Owed) (ks : List Kept) → reads (meanings l.words) (a_set l.levels ++ os) (Assigned [] ∷ ks) ≡ reads (meanings l.rest) (MoreSets l.levels ∷ os) (assigned l.sets ∷ ks);
  shorter : length l.rest < length l.words;
}

abbrev pub decreases-loop-rest : goal.decreases-loop-rest
decreases-loop-rest l = length l.rest
