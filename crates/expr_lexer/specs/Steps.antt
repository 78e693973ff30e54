-- What one step over the front of some bytes says of their tokens.
use Rattle.std.specs.Prelude.{◌≡◌, ℕ, ◌+◌, ◌<◌, List, false, [], ◌∷◌, length, Result, Ok, Err}
use Rattle.expr_lexer.specs.declared.token.Token.{Token}
use Rattle.expr_lexer.specs.declared.lexer.Front.{Front}
use Rattle.expr_lexer.specs.declared.lexer.Front.TheVariants.{End, Blank, Found, Bad}
use Rattle.expr_lexer.specs.Character.{is_blank}
use Rattle.expr_lexer.specs.Lexes.{with_front, Lexes}

-- a byte that is no blank is at the front
pub record BeginsToken (bytes : List ℕ) : Type 0 where
  pub byte : ℕ
  pub rest : List ℕ
  pub bytes_are : bytes ≡ byte ∷ rest
  pub no_blank : is_blank byte ≡ false

-- how the bytes read, by how the rest behind the step reads
abbrev pub Steps : ℕ → List ℕ → Front → Type 0
Steps place bytes End = Lexes place bytes (Ok [])
Steps place bytes (Blank rest) =
    (reading : Result (List Token) ℕ) → Lexes (place + 1) rest.now reading → Lexes place bytes reading
Steps place bytes (Found token rest) =
    (reading : Result (List Token) ℕ) → Lexes token.to rest.now reading → Lexes place bytes (with_front token reading)
Steps place bytes (Bad fault) = Lexes place bytes (Err fault)

-- a step goes on in the text, and what is left ends where the bytes end
abbrev pub GoesOn : ℕ → List ℕ → Front → Type 0
GoesOn place bytes End = Unit {0}
GoesOn place bytes (Blank rest) = length bytes ≡ 1 + length rest.now
GoesOn place bytes (Found token rest) =
    (token.from ≡ place) × (place < token.to) × (token.to + length rest.now ≡ place + length bytes)
GoesOn place bytes (Bad fault) = Unit {0}
