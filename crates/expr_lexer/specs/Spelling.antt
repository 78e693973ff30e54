-- How the tokens of each kind are spelled.
use Rattle.std.specs.Prelude.{◌≡◌, ◌≢◌, ℕ, ◌≤◌, true, List, [], ◌∷◌, length, codes}
use Rattle.std.specs.List.{AllPass}
use Rattle.std.specs.Char.{is_ascii_digit}
use Rattle.expr_lexer.specs.declared.token.TokenKind.{TokenKind}
use Rattle.expr_lexer.specs.declared.token.TokenKind.TheVariants.{NamePlaceholder, ValuePlaceholder, Index, Equal, Unequal, Less, AtMost, More, AtLeast, OpenParenthesis, CloseParenthesis, OpenBracket, CloseBracket, Comma, Dot, Plus, Minus}
use Rattle.expr_lexer.specs.declared.token.Token.{Token}
use Rattle.expr_lexer.specs.Character.{is_letter, is_word_byte}
use Rattle.expr_lexer.specs.Lexeme.{word_kind, most_digits}
use Rattle.expr_lexer.specs.Spans.{word_of}

-- a letter or '_', then letters, digits and '_'
abbrev pub IsWord : List ℕ → Type 0
IsWord [] = ⊥
IsWord (byte ∷ rest) = (is_letter byte ≡ true) × AllPass is_word_byte rest

-- this sign, then a letter, a digit or '_', or more of them
abbrev pub IsPlaceholder : ℕ → List ℕ → Type 0
IsPlaceholder sign [] = ⊥
IsPlaceholder sign (byte ∷ word) = (byte ≡ sign) × (word ≢ []) × AllPass is_word_byte word

-- 1 to 9 digits
pub record IsIndex (word : List ℕ) : Type 0 where
  pub some : 1 ≤ length word
  pub few : length word ≤ most_digits
  pub digits : AllPass is_ascii_digit word

-- the word is a token of this kind: an index, a placeholder, a sign, or else a name or a keyword
abbrev pub Spells : TokenKind → List ℕ → Type 0
Spells Index word = IsIndex word
Spells NamePlaceholder word = IsPlaceholder 35 word
Spells ValuePlaceholder word = IsPlaceholder 58 word
Spells Equal word = word ≡ codes "="
Spells Unequal word = word ≡ codes "<>"
Spells Less word = word ≡ codes "<"
Spells AtMost word = word ≡ codes "<="
Spells More word = word ≡ codes ">"
Spells AtLeast word = word ≡ codes ">="
Spells OpenParenthesis word = word ≡ codes "("
Spells CloseParenthesis word = word ≡ codes ")"
Spells OpenBracket word = word ≡ codes "["
Spells CloseBracket word = word ≡ codes "]"
Spells Comma word = word ≡ codes ","
Spells Dot word = word ≡ codes "."
Spells Plus word = word ≡ codes "+"
Spells Minus word = word ≡ codes "-"
Spells kind word = IsWord word × (word_kind word ≡ kind)

-- the token's bytes are a word of its kind
abbrev pub IsSpelled : List ℕ → Token → Type 0
IsSpelled text token = Spells token.kind (word_of text token)
