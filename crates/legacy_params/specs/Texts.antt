-- The expressions that took the place of legacy parameters, as words of the grammar. A name is a placeholder for it, a value one for its place.
use Rattle.std.specs.Prelude.{ℕ, ◌+◌, List, [], ◌∷◌, ◌++◌, length, map, Bool, true, false, codes, if◌then◌else◌}
use Rattle.std.specs.List.{range_with_len}
use Rattle.std.specs.Option.{option_to_list, is_some}
use Rattle.expr_lexer.specs.declared.token.TokenKind.{TokenKind}
use Rattle.expr_lexer.specs.declared.token.TokenKind.TheVariants as sign
use Rattle.expr_words.specs.declared.parse_end.Clause.{Clause}
use Rattle.expr_words.specs.declared.parse_end.Clause.TheVariants as clause
use Rattle.expr_words.specs.declared.tree.Comparison.{Comparison}
use Rattle.expr_words.specs.declared.tree.Comparison.TheVariants as comparison
use Rattle.expr_words.specs.Words.{Word, Bare, Placed, Held, Sign}
use Rattle.expr_parse.specs.UpdateTree.{same_clause}
use Rattle.legacy_params.specs.declared.part.LegacyTest.{LegacyTest}
use Rattle.legacy_params.specs.declared.part.LegacyChange.{LegacyChange}
use Rattle.legacy_params.specs.declared.operator.Operator.{Operator}
use Rattle.legacy_params.specs.declared.operator.Operator.TheVariants.{Compare, Exists, Absent, Contains, NotContains, BeginsWith, Among, Between}
use Rattle.legacy_params.specs.declared.operator.Action.{Action}
use Rattle.legacy_params.specs.declared.operator.Action.TheVariants.{Put, Add, Delete}
use Rattle.legacy_params.specs.Tests.{values_of, asked}
use Rattle.legacy_params.specs.Changes.{done}

-- further words, each behind the sign
abbrev pub further : TokenKind → List (List Word) → List Word
further kind [] = []
further kind (words ∷ more) = Sign kind ∷ (words ++ further kind more)

-- words with the sign between them
abbrev pub between : TokenKind → List (List Word) → List Word
between kind [] = []
between kind (words ∷ more) = words ++ further kind more

-- ---- tests

abbrev pub sign_of : Comparison → TokenKind
sign_of comparison.Equal = sign.Equal
sign_of comparison.Unequal = sign.Unequal
sign_of comparison.Less = sign.Less
sign_of comparison.AtMost = sign.AtMost
sign_of comparison.More = sign.More
sign_of comparison.AtLeast = sign.AtLeast

-- name(inner)
abbrev pub call : List ℕ → List Word → List Word
call name inner = Bare name ∷ Sign sign.OpenParenthesis ∷ (inner ++ Sign sign.CloseParenthesis ∷ [])

-- #n, :v
abbrev pub name_and_value : List ℕ → ℕ → List Word
name_and_value name place = Placed name ∷ Sign sign.Comma ∷ Held place ∷ []

-- :v, :w and so on, each by itself
abbrev pub values_from : ℕ → ℕ → List (List Word)
values_from first count = map (λ place. Held place ∷ []) (range_with_len first count)

-- what an operator says of a name, with so many values from a place on
abbrev pub asked_text : Operator → List ℕ → ℕ → ℕ → List Word
asked_text (Compare op) name first count = Placed name ∷ Sign (sign_of op) ∷ Held first ∷ []
asked_text Exists name first count = call (codes "attribute_exists") (Placed name ∷ [])
asked_text Absent name first count = call (codes "attribute_not_exists") (Placed name ∷ [])
asked_text Contains name first count = call (codes "contains") (name_and_value name first)
asked_text NotContains name first count = Sign sign.Not ∷ call (codes "contains") (name_and_value name first)
asked_text BeginsWith name first count = call (codes "begins_with") (name_and_value name first)
asked_text Among name first count =
    Placed name ∷ Sign sign.In ∷ Sign sign.OpenParenthesis ∷ (between sign.Comma (values_from first count) ++ Sign sign.CloseParenthesis ∷ [])
asked_text Between name first count = Placed name ∷ Sign sign.Between ∷ Held first ∷ Sign sign.And ∷ Held (first + 1) ∷ []

-- what a test says
abbrev pub test_text : ℕ → LegacyTest → List Word
test_text first t = asked_text (asked t) t.name first (length (values_of t))

abbrev pub test_texts : ℕ → List LegacyTest → List (List Word)
test_texts first [] = []
test_texts first (t ∷ ts) = test_text first t ∷ test_texts (first + length (values_of t)) ts

-- what stands between two tests
abbrev pub joint : Bool → TokenKind
joint true = sign.Or
joint false = sign.And

-- what all tests say
abbrev pub condition_text : Bool → ℕ → List LegacyTest → List Word
condition_text any first ts = between (joint any) (test_texts first ts)

-- ---- changes

-- the clause that an action stands in: a DELETE with a value is one of elements
abbrev pub clause_of : Action → Bool → Clause
clause_of Put has_value = clause.Set
clause_of Add has_value = clause.Add
clause_of Delete false = clause.Remove
clause_of Delete true = clause.Delete

-- what a clause says of a name, with the value of a place
abbrev pub done_text : Clause → List ℕ → ℕ → List Word
done_text clause.Set name place = Placed name ∷ Sign sign.Equal ∷ Held place ∷ []
done_text clause.Remove name place = Placed name ∷ []
done_text clause.Add name place = Placed name ∷ Held place ∷ []
done_text clause.Delete name place = Placed name ∷ Held place ∷ []

abbrev pub clause_at : LegacyChange → Clause
clause_at c = clause_of (done c) (is_some c.value)

-- what the changes of a clause say
abbrev pub change_texts : Clause → ℕ → List LegacyChange → List (List Word)
change_texts kind first [] = []
change_texts kind first (c ∷ cs) =
    (if same_clause (clause_at c) kind then done_text kind c.name first ∷ [] else [])
    ++ change_texts kind (first + length (option_to_list c.value)) cs

abbrev pub keyword : Clause → TokenKind
keyword clause.Set = sign.Set
keyword clause.Remove = sign.Remove
keyword clause.Add = sign.Add
keyword clause.Delete = sign.Delete

-- a clause, if it says something
abbrev pub clause_text : Clause → List (List Word) → List Word
clause_text kind [] = []
clause_text kind (words ∷ more) = Sign (keyword kind) ∷ between sign.Comma (words ∷ more)

abbrev pub clause_of_changes : Clause → ℕ → List LegacyChange → List Word
clause_of_changes kind first cs = clause_text kind (change_texts kind first cs)

-- what all changes say
abbrev pub update_text : ℕ → List LegacyChange → List Word
update_text first cs =
    clause_of_changes clause.Set first cs ++ (clause_of_changes clause.Remove first cs
    ++ (clause_of_changes clause.Add first cs ++ clause_of_changes clause.Delete first cs))

-- ---- names

-- what all names say
abbrev pub paths_text : List (List ℕ) → List Word
paths_text names = between sign.Comma (map (λ name. Placed name ∷ []) names)
