-- What the terms of an update are on the old item.
use Rattle.std.specs.Prelude.{ℕ, List, slice_get, Option, Some, None, option_map, Ok, Err}
use Rattle.attr_value.specs.Tree.{Tree, list, Trees, Attributes}
use Rattle.attr_value.specs.Paths.{found}
use Rattle.attr_value.specs.View.{tree_of}
use Rattle.attr_value.specs.declared.value.Value.{Value}
use Rattle.expr_words.specs.Trees.{TermTree, Located, OfValue, OrElse, Appended}
use Rattle.attr_value.specs.Parts.{onto}
use Rattle.update_eval.specs.Answers.{Answer, after}
use Rattle.update_eval.specs.declared.fault.EvalFault.TheVariants.{MissingOperand, OperandType}

-- the value of this place among those that are given
abbrev pub given : List Value → ℕ → Option Tree
given values place = option_map tree_of (slice_get values place)

-- what has to be there
abbrev pub there : Option Tree → Answer Tree
there None = Err MissingOperand
there (Some t) = Ok t

-- what is there, and else the other
abbrev pub there_or : Option Tree → Answer Tree → Answer Tree
there_or None other = other
there_or (Some t) other = Ok t

abbrev pub elements_in : Tree → Answer Trees
elements_in (list elements) = Ok elements
elements_in _ = Err OperandType

-- two lists, one behind the other
abbrev pub lists_joined : Tree → Tree → Answer Tree
lists_joined front back = after (elements_in front) (λ ts. after (elements_in back) (λ us. Ok (list (onto ts us))))

abbrev pub term_of : List Value → Attributes → TermTree → Answer Tree
term_of values old (Located path) = there (found path.steps old)
term_of values old (OfValue place) = there (given values place)
term_of values old (OrElse path other) = there_or (found path.steps old) (term_of values old other)
term_of values old (Appended front back) =
    after (term_of values old front) (λ f. after (term_of values old back) (λ b. lists_joined f b))
