use Rattle.std.proofs.Common.{◌≡◌, ◌∷◌, ◌++◌, length, List}
use Rattle.expr_words.specs.Words.{meanings}
use Rattle.expr_words.specs.Parses.{sectioned}
use Rattle.expr_words.specs.Machine.{reads, Owed, Kept, MoreSections, an_update}
use Rattle.expr_parse.proofs.section.sections.Given as goal

abbrev pub invariant-clauses : goal.invariant-clauses
invariant-clauses l = (os : List Owed) (ks : List Kept) → reads (meanings l.words) (an_update l.levels ++ os) ks ≡ reads (meanings l.rest) (MoreSections l.levels ∷ os) (sectioned l.sections ∷ ks)

abbrev pub decreases-clauses : goal.decreases-clauses
decreases-clauses l = length l.rest
