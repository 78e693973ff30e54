-- How the part of a condition begins.
use Rattle.std.specs.Prelude.{◌≡◌, ◌<◌, length, false, List, ◌∷◌}
use Rattle.expr_lexer.specs.declared.token.TokenKind.TheVariants as sign
use Rattle.expr_words.specs.declared.word.Word as code
use Rattle.expr_words.specs.Words.{Word, Sign, meanings}
use Rattle.expr_words.specs.Fronts.{is_deeper}
use Rattle.expr_parse.specs.declared.logic.Opening.{Opening}
use Rattle.expr_parse.specs.declared.logic.Opening.TheVariants as opening

-- what is behind the NOT or the opening parenthesis that is first; or there is none
abbrev pub IsOpening : List Word → Opening → Type 0
IsOpening ts (opening.Negation rest) = ts ≡ Sign sign.Not ∷ meanings rest.now
IsOpening ts (opening.Group rest) = ts ≡ Sign sign.OpenParenthesis ∷ meanings rest.now
IsOpening ts opening.Flat = is_deeper ts ≡ false

-- what is left is less than these words
abbrev pub IsLess : List code.Word → Opening → Type 0
IsLess ws (opening.Negation rest) = length rest.now < length ws
IsLess ws (opening.Group rest) = length rest.now < length ws
IsLess ws opening.Flat = Unit {0}
