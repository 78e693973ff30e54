-- Where tokens stand in a text.
use Rattle.std.specs.Prelude.{ℕ, ◌<◌, ◌≤◌, List, [], ◌∷◌, length, slice_range}
use Rattle.std.specs.Str.{IsCharBoundary}
use Rattle.expr_lexer.specs.declared.token.Token.{Token}

-- the bytes of a token
abbrev pub word_of : List ℕ → Token → List ℕ
word_of text token = slice_range text token.from token.to

-- the token has a byte or more, and can be cut out of the text
pub record IsPart (text : List ℕ) (token : Token) : Type 0 where
  pub some : token.from < token.to
  pub within : token.to ≤ length text
  pub begins : IsCharBoundary text token.from
  pub ends : IsCharBoundary text token.to

-- from this place on the tokens follow one another in the text
abbrev pub Follow : ℕ → List ℕ → List Token → Type 0
Follow place text [] = Unit {0}
Follow place text (token ∷ tokens) = (place ≤ token.from) × IsPart text token × Follow token.to text tokens
