-- Words that are an update.
use Rattle.std.specs.Prelude.{◌≡◌, ℕ, List, [], None}
use Rattle.expr_words.specs.Trees.{SectionTree}
use Rattle.expr_words.specs.Words.{Word}
use Rattle.expr_words.specs.Grammar.{IsUpdate}
use Rattle.expr_parse.specs.UpdateTree.{UpdateTree, update_of, first_twice}

-- the words are clauses, no two of a kind, which come to the update
pub record SpellsUpdate (levels : ℕ) (words : List Word) (u : UpdateTree) : Type 0 where
  pub clauses : List SectionTree
  pub sentence : IsUpdate levels words clauses
  pub once : first_twice [] clauses ≡ None
  pub update : update_of clauses ≡ u
