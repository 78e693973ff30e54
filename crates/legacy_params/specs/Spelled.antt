-- Bytes that are an expression's words.
use Rattle.std.specs.Prelude.{◌≡◌, ℕ, List, None, Ok}
use Rattle.expr_lexer.specs.declared.token.Token.{Token}
use Rattle.expr_lexer.specs.Lexes.{Lexes}
use Rattle.expr_words.specs.declared.given.Given.{Given}
use Rattle.expr_words.specs.Words.{Word, words, undefined}

-- the bytes are tokens, which stand for these words; all placeholders among them are given
pub record IsSpelled (given : Given) (text : List ℕ) (ws : List Word) : Type 0 where
  pub tokens : List Token
  pub are_tokens : Lexes 0 text (Ok tokens)
  pub all_given : undefined given text tokens ≡ None
  pub meant : words given text tokens ≡ ws
