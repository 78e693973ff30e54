-- That a token is the longest one.
use Rattle.std.specs.Prelude.{ℕ, ◌<◌, ◌≤◌, List, length, slice_range}
use Rattle.expr_lexer.specs.declared.token.TokenKind.{TokenKind}
use Rattle.expr_lexer.specs.declared.token.Token.{Token}
use Rattle.expr_lexer.specs.Spelling.{Spells}

-- no bytes from the token's place to behind its end are a token of any kind
abbrev pub IsLongest : List ℕ → Token → Type 0
IsLongest text token =
    (kind : TokenKind) (end : ℕ) → token.to < end → end ≤ length text → ¬ (Spells kind (slice_range text token.from end))
