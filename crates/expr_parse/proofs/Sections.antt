-- What is added to a list is added to its trees.
use Rattle.std.proofs.Common.{◌≡◌, ℕ, List, [], ◌∷◌, ◌++◌, Err, map, refl, ap, subst}
use Rattle.expr_lexer.specs.declared.token.TokenKind.TheVariants as sign
use Rattle.expr_words.specs.declared.stop.Stop.{Stop}
use Rattle.expr_words.specs.declared.stop.Stop.TheVariants as stop
use Rattle.expr_words.specs.declared.word.Word as code
use Rattle.expr_words.specs.declared.tree.SetTo.{SetTo}
use Rattle.expr_words.specs.declared.tree.Section.{Section}
use Rattle.expr_words.specs.Trees.{set_tree, section_tree}
use Rattle.expr_words.specs.Words.{meanings}
use Rattle.expr_words.specs.Parses.{Parses, Extends, assigned}
use Rattle.expr_words.specs.Machine.{Kept, Assigned, APath, ASum, MoreSets, ASign, Do, NextSet, a_set, reads}
use Rattle.expr_words.proofs.Steps.{do_it, section_next, section_last}

pushed : {X Y : Type 0} (f : X → Y) (xs : List X) (x : X) → map f (xs ++ x ∷ []) ≡ map f xs ++ f x ∷ []
pushed f [] x = refl
pushed f (y ∷ ys) x = ap (λ l. f y ∷ l) (pushed f ys x)

pub set_pushed : (xs : List SetTo) (x : SetTo) → map set_tree (xs ++ x ∷ []) ≡ map set_tree xs ++ set_tree x ∷ []
set_pushed = pushed set_tree

pub section_pushed : (xs : List Section) (x : Section) → map section_tree (xs ++ x ∷ []) ≡ map section_tree xs ++ section_tree x ∷ []
section_pushed = pushed section_tree

-- the steps over an assignment, and over a clause
pub ruleset set_steps = (do_it, set_pushed)

pub ruleset section_steps = (do_it, section_pushed, section_next, section_last)

-- where the first assignment stops, a SET does
pub first_set_stops : (ws : List code.Word) (k : ℕ) (none : List SetTo) (new : Kept) (end : Stop) → none ≡ []
    → Extends (APath ∷ ASign sign.Equal ∷ ASum k ∷ Do NextSet ∷ []) (assigned none) new ws (Err end)
    → Parses assigned (a_set k) (Assigned [] ∷ []) ws (Err end)
first_set_stops ws k none new (stop.Syntax left) e goes = λ os ks.
    let StopsThere : List SetTo → Type 0 = λ sets. reads (meanings ws) (a_set k ++ os) (assigned sets ∷ ks) ≡ Err left in
    subst StopsThere e (goes (MoreSets k ∷ os) ks)
first_set_stops ws k none new stop.NoMemory e goes = tt
