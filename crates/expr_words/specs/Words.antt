-- The words of an expression: its tokens, with what their bytes mean.
use Rattle.std.specs.Prelude.{ℕ, List, [], ◌∷◌, Option, None, Some, option_map, unwrap_or}
use Rattle.expr_lexer.specs.declared.token.Token.{Token}
use Rattle.std.specs.Option.{option_or}
use Rattle.std.specs.Str.Parse.{digits_value}
use Rattle.expr_lexer.specs.Spans.{word_of}
use Rattle.expr_lexer.specs.declared.token.TokenKind.{TokenKind}
use Rattle.expr_lexer.specs.declared.token.TokenKind.TheVariants as kind
use Rattle.expr_words.specs.declared.given.Given.{Given}
use Rattle.expr_words.specs.Given.{name_place, value_place, name_at}
use Rattle.expr_words.specs.declared.parse_end.ParseEnd.{ParseEnd}
use Rattle.expr_words.specs.declared.parse_end.ParseEnd.TheVariants.{UndefinedName, UndefinedValue}
use Rattle.expr_words.specs.declared.meaning.Missing.{Missing}
use Rattle.expr_words.specs.declared.meaning.Missing.TheVariants as absent
use Rattle.expr_words.specs.declared.word.Word as code
use Rattle.expr_words.specs.declared.word.Word.TheVariants as shown

pub data Word : Type 0 where
  -- a name as it is written
  Bare : List ℕ → Word
  -- a placeholder of a name: the name that it stands for
  Placed : List ℕ → Word
  -- a placeholder of a value: the value's place
  Held : ℕ → Word
  -- the number of an index
  Number : ℕ → Word
  -- a keyword or a sign
  Sign : TokenKind → Word
  -- what no text has: it stands in the grammar where a limit bars the way
  Barred : Word

-- What is not given stands for the empty name and the first value: it makes no difference to whether and where a
-- text is at fault, and no such text has a tree.
abbrev pub meaning : Given → TokenKind → List ℕ → Word
meaning given kind.Name bytes = Bare bytes
meaning given kind.NamePlaceholder bytes = Placed (unwrap_or (option_map (name_at given) (name_place given bytes)) [])
meaning given kind.ValuePlaceholder bytes = Held (unwrap_or (value_place given bytes) 0)
meaning given kind.Index bytes = Number (digits_value 10 bytes)
meaning given kind bytes = Sign kind

-- the word of a token
abbrev pub word : Given → List ℕ → Token → Word
word given text token = meaning given token.kind (word_of text token)

-- the words of a text
abbrev pub words : Given → List ℕ → List Token → List Word
words given text [] = []
words given text (token ∷ tokens) = word given text token ∷ words given text tokens

-- a fault, where there is no place
abbrev pub unless_placed : Option ℕ → ParseEnd → Option ParseEnd
unless_placed None fault = Some fault
unless_placed (Some place) fault = None

-- the fault of a token by itself: a placeholder that is not given
abbrev pub missing : Given → TokenKind → List ℕ → Option ParseEnd
missing given kind.NamePlaceholder bytes = unless_placed (name_place given bytes) (UndefinedName bytes)
missing given kind.ValuePlaceholder bytes = unless_placed (value_place given bytes) (UndefinedValue bytes)
missing given kind bytes = None

-- the first placeholder that is not given, in the order of the text
abbrev pub undefined : Given → List ℕ → List Token → Option ParseEnd
undefined given text [] = None
undefined given text (token ∷ tokens) = option_or (missing given token.kind (word_of text token)) (undefined given text tokens)

-- the fault of a placeholder that the code found not to be given
abbrev pub fault_of : Missing → ParseEnd
fault_of (absent.Name placeholder) = UndefinedName placeholder.now
fault_of (absent.Value placeholder) = UndefinedValue placeholder.now

-- the word that one of the code's stands for
abbrev pub meant : code.Word → Word
meant (shown.Bare name) = Bare name.now
meant (shown.Placed name) = Placed name.now
meant (shown.Held value) = Held value
meant (shown.Number index) = Number index
meant (shown.Sign sign) = Sign sign

abbrev pub meanings : List code.Word → List Word
meanings [] = []
meanings (w ∷ ws) = meant w ∷ meanings ws
