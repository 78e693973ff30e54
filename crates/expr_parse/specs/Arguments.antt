-- What is owed where a function has two arguments, and of the choices of an IN.
use Rattle.std.specs.Prelude.{ℕ, List, ◌∷◌}
use Rattle.expr_lexer.specs.declared.token.TokenKind.TheVariants as sign
use Rattle.expr_words.specs.Machine.{Owed, AnOperand, ATerm, ASign, Do, FirstChoice, MakeChoice, MoreChoices}

-- two operands in parentheses, and then the rest
abbrev pub operands_then : ℕ → List Owed → List Owed
operands_then levels rest =
    ASign sign.OpenParenthesis ∷ AnOperand levels ∷ ASign sign.Comma ∷ AnOperand levels ∷ ASign sign.CloseParenthesis ∷ rest

-- two terms in parentheses, and then the rest
abbrev pub terms_then : ℕ → List Owed → List Owed
terms_then levels rest =
    ASign sign.OpenParenthesis ∷ ATerm levels ∷ ASign sign.Comma ∷ ATerm levels ∷ ASign sign.CloseParenthesis ∷ rest

-- the choices of an IN, of which there are at most a hundred, and then the rest
abbrev pub choices_then : ℕ → List Owed → List Owed
choices_then levels rest = AnOperand levels ∷ Do FirstChoice ∷ MoreChoices levels 99 ∷ rest

-- their end, and then the rest
abbrev pub choices_end_then : List Owed → List Owed
choices_end_then rest = ASign sign.CloseParenthesis ∷ Do MakeChoice ∷ rest
