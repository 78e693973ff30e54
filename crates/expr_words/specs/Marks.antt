-- Which placeholders were used.
use Rattle.std.specs.Prelude.{◌≡◌, ◌++◌, ℕ, Bool, true, false, not, replicate, List, length, Option, Some, None, slice_get, position, option_to_list, [], ◌∷◌, option_map, nat_eq, ◌||◌}
use Rattle.std.specs.List.{list_any}
use Rattle.expr_lexer.specs.declared.token.Token.{Token}
use Rattle.expr_lexer.specs.declared.token.TokenKind.{TokenKind}
use Rattle.expr_lexer.specs.declared.token.TokenKind.TheVariants as kind
use Rattle.expr_words.specs.declared.given.Given.{Given}
use Rattle.expr_words.specs.declared.given.Used.{Used}
use Rattle.expr_lexer.specs.Spans.{word_of}
use Rattle.expr_words.specs.Given.{name_place, value_place}
use Rattle.expr_lexer.specs.Lexes.{Lexes}
use Rattle.std.specs.Prelude.{Ok}

-- made for this given: a mark for each of its names and each of its values
pub record IsMadeFor (given : Given) (used : Used) : Type 0 where
  pub of_names : length used.names.items ≡ length given.names
  pub of_values : length used.values.items ≡ length given.value_names

-- nothing is marked
pub record IsUnmarked (used : Used) : Type 0 where
  pub names : used.names.items ≡ replicate (length used.names.items) false
  pub values : used.values.items ≡ replicate (length used.values.items) false

-- the place that a token names among the names, and among the values
abbrev pub name_used : Given → TokenKind → List ℕ → Option ℕ
name_used given kind.NamePlaceholder bytes = name_place given bytes
name_used given kind bytes = None

abbrev pub value_used : Given → TokenKind → List ℕ → Option ℕ
value_used given kind.ValuePlaceholder bytes = value_place given bytes
value_used given kind bytes = None

abbrev pub names_used : Given → List ℕ → List Token → List ℕ
names_used given text [] = []
names_used given text (token ∷ tokens) = option_to_list (name_used given token.kind (word_of text token)) ++ names_used given text tokens

abbrev pub values_used : Given → List ℕ → List Token → List ℕ
values_used given text [] = []
values_used given text (token ∷ tokens) = option_to_list (value_used given token.kind (word_of text token)) ++ values_used given text tokens

-- each mark is what it was, and is set where its place is among these
abbrev pub Marks : List ℕ → List Bool → List Bool → Type 0
Marks places old new = (k : ℕ) → slice_get new k ≡ option_map (λ was. was || list_any (nat_eq k) places) (slice_get old k)

-- what was marked stays so
abbrev pub Stays : List Bool → List Bool → Type 0
Stays old new = (k : ℕ) → slice_get old k ≡ Some true → slice_get new k ≡ Some true

pub record KeepsMarks (old new : Used) : Type 0 where
  pub names : Stays old.names.items new.names.items
  pub values : Stays old.values.items new.values.items

-- the placeholders among these tokens are marked besides those that were
pub record MarksAll (given : Given) (text : List ℕ) (tokens : List Token) (old new : Used) : Type 0 where
  pub names : Marks (names_used given text tokens) old.names.items new.names.items
  pub values : Marks (values_used given text tokens) old.values.items new.values.items

-- the placeholders of the text are marked besides those that were
pub record IsMarked (given : Given) (text : List ℕ) (old new : Used) : Type 0 where
  pub tokens : List Token
  pub are_tokens : Lexes 0 text (Ok tokens)
  pub marks : MarksAll given text tokens old new

-- the place of the first without a mark, of the names and then the values
abbrev pub first_unused : Used → Option ℕ
first_unused used = position not (used.names.items ++ used.values.items)
