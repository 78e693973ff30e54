-- The tokens of a text, or the place of its first fault.
use Rattle.std.specs.Prelude.{◌≡◌, ℕ, ◌+◌, true, false, List, [], ◌∷◌, drop, Some, None, Result, Ok, Err}
use Rattle.expr_lexer.specs.declared.lexer.Lexeme.{Lexeme}
use Rattle.expr_lexer.specs.declared.token.Token.{Token}
use Rattle.expr_lexer.specs.declared.token.LexEnd.{LexEnd}
use Rattle.expr_lexer.specs.declared.token.LexEnd.TheVariants.{BadCharacter, NoMemory}
use Rattle.expr_lexer.specs.Character.{is_blank}
use Rattle.expr_lexer.specs.Lexeme.{front_lexeme, most_digits, is_too_long}

-- a token before the others, where there is no fault
abbrev pub with_front : Token → Result (List Token) ℕ → Result (List Token) ℕ
with_front token (Ok tokens) = Ok (token ∷ tokens)
with_front token (Err place) = Err place

-- the token that was found at a place
abbrev pub token_at : ℕ → Lexeme → Token
token_at place found = record { kind = found.kind; from = place; to = place + found.size }

-- the bytes from this place of a text on read as these tokens, or have their first fault at that place
pub data Lexes : ℕ → List ℕ → Result (List Token) ℕ → Type 0 where
  ends : {place : ℕ} → Lexes place [] (Ok [])
  blank : {place byte : ℕ} {rest : List ℕ} {reading : Result (List Token) ℕ}
      → is_blank byte ≡ true → Lexes (place + 1) rest reading → Lexes place (byte ∷ rest) reading
  token : {place byte : ℕ} {rest : List ℕ} {found : Lexeme} {reading : Result (List Token) ℕ}
      → is_blank byte ≡ false → front_lexeme (byte ∷ rest) ≡ Some found → is_too_long found ≡ false
      → Lexes (place + found.size) (drop found.size (byte ∷ rest)) reading
      → Lexes place (byte ∷ rest) (with_front (token_at place found) reading)
  no_token : {place byte : ℕ} {rest : List ℕ}
      → is_blank byte ≡ false → front_lexeme (byte ∷ rest) ≡ None → Lexes place (byte ∷ rest) (Err place)
  long_index : {place byte : ℕ} {rest : List ℕ} {found : Lexeme}
      → is_blank byte ≡ false → front_lexeme (byte ∷ rest) ≡ Some found → is_too_long found ≡ true
      → Lexes place (byte ∷ rest) (Err (place + most_digits))

-- an answer is what the text reads as; refused memory says nothing of the text
abbrev pub IsLexed : List ℕ → Result (List Token) LexEnd → Type 0
IsLexed text (Ok tokens) = Lexes 0 text (Ok tokens)
IsLexed text (Err (BadCharacter place)) = Lexes 0 text (Err place)
IsLexed text (Err NoMemory) = Unit {0}

-- no text has two readings
abbrev pub HasOneReading : Type 0
HasOneReading =
    (text : List ℕ) (reading another : Result (List Token) ℕ)
    → Lexes 0 text reading → Lexes 0 text another → reading ≡ another
