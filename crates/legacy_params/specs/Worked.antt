-- One example in bytes of each legacy form: the expression that took its place, with `#n` for the name a.b, is spelled by these bytes.
use Rattle.std.specs.Prelude.{ℕ, zero, suc, List, [], ◌∷◌, Bool, true, false, Option, None, Some, codes, refl, replicate}
use Prim.Native.String.{String}
use Rattle.attr_value.specs.declared.value.Value.{Value}
use Rattle.attr_value.specs.declared.value.Value.TheVariants.{Null}
use Rattle.expr_lexer.specs.declared.token.Token.{Token}
use Rattle.expr_lexer.specs.declared.token.TokenKind.{TokenKind}
use Rattle.expr_lexer.specs.declared.token.TokenKind.TheVariants as sign
use Rattle.expr_lexer.specs.Lexeme as lexeme
use Rattle.expr_lexer.specs.Lexes.{ends, blank, token}
use Rattle.expr_words.specs.declared.given.Given.{Given}
use Rattle.legacy_params.specs.declared.part.LegacyTest.{LegacyTest}
use Rattle.legacy_params.specs.declared.part.LegacyChange.{LegacyChange}
use Rattle.legacy_params.specs.Spelled.{IsSpelled}
use Rattle.legacy_params.specs.Texts.{condition_text, update_text, paths_text}

-- `#n`, `#m`, `:v` and `:w`
abbrev pub given : Given
given = record {
  names = record { placeholder = codes "#n"; name = codes "a.b" } ∷ record { placeholder = codes "#m"; name = codes "c" } ∷ [];
  value_names = codes ":v" ∷ codes ":w" ∷ [];
}

abbrev at : TokenKind → ℕ → ℕ → Token
at kind from to = record { kind = kind; from = from; to = to }

abbrev nulls : ℕ → List Value
nulls n = replicate n Null

-- a test of a.b with an operator and so many values
abbrev pub test : String → ℕ → LegacyTest
test operator n = record { name = codes "a.b"; operator = codes operator; value = None; values = nulls n; exists = None }

-- one without an operator
abbrev pub expected : Option Value → Option Bool → LegacyTest
expected value exists = record { name = codes "a.b"; operator = []; value = value; values = []; exists = exists }

abbrev value_if : ℕ → Option Value
value_if zero = None
value_if (suc n) = Some Null

-- a change of a.b, with a value or without one
abbrev pub change : String → ℕ → LegacyChange
change action n = record { name = codes "a.b"; action = codes action; value = value_if n }

pub eq : IsSpelled given (codes "#n = :v") (condition_text false 0 (test "EQ" 1 ∷ []))
unfolding lexeme.sign
eq = record {
  tokens = at sign.NamePlaceholder 0 2 ∷ at sign.Equal 3 4 ∷ at sign.ValuePlaceholder 5 7 ∷ [];
  are_tokens = token refl refl refl (blank refl (token refl refl refl (blank refl (token refl refl refl ends))));
  all_given = refl;
  meant = refl;
}

pub ne : IsSpelled given (codes "#n <> :v") (condition_text false 0 (test "NE" 1 ∷ []))
unfolding lexeme.sign
ne = record {
  tokens = at sign.NamePlaceholder 0 2 ∷ at sign.Unequal 3 5 ∷ at sign.ValuePlaceholder 6 8 ∷ [];
  are_tokens = token refl refl refl (blank refl (token refl refl refl (blank refl (token refl refl refl ends))));
  all_given = refl;
  meant = refl;
}

pub lt : IsSpelled given (codes "#n < :v") (condition_text false 0 (test "LT" 1 ∷ []))
unfolding lexeme.sign
lt = record {
  tokens = at sign.NamePlaceholder 0 2 ∷ at sign.Less 3 4 ∷ at sign.ValuePlaceholder 5 7 ∷ [];
  are_tokens = token refl refl refl (blank refl (token refl refl refl (blank refl (token refl refl refl ends))));
  all_given = refl;
  meant = refl;
}

pub le : IsSpelled given (codes "#n <= :v") (condition_text false 0 (test "LE" 1 ∷ []))
unfolding lexeme.sign
le = record {
  tokens = at sign.NamePlaceholder 0 2 ∷ at sign.AtMost 3 5 ∷ at sign.ValuePlaceholder 6 8 ∷ [];
  are_tokens = token refl refl refl (blank refl (token refl refl refl (blank refl (token refl refl refl ends))));
  all_given = refl;
  meant = refl;
}

pub gt : IsSpelled given (codes "#n > :v") (condition_text false 0 (test "GT" 1 ∷ []))
unfolding lexeme.sign
gt = record {
  tokens = at sign.NamePlaceholder 0 2 ∷ at sign.More 3 4 ∷ at sign.ValuePlaceholder 5 7 ∷ [];
  are_tokens = token refl refl refl (blank refl (token refl refl refl (blank refl (token refl refl refl ends))));
  all_given = refl;
  meant = refl;
}

pub ge : IsSpelled given (codes "#n >= :v") (condition_text false 0 (test "GE" 1 ∷ []))
unfolding lexeme.sign
ge = record {
  tokens = at sign.NamePlaceholder 0 2 ∷ at sign.AtLeast 3 5 ∷ at sign.ValuePlaceholder 6 8 ∷ [];
  are_tokens = token refl refl refl (blank refl (token refl refl refl (blank refl (token refl refl refl ends))));
  all_given = refl;
  meant = refl;
}

pub value_alone : IsSpelled given (codes "#n = :v") (condition_text false 0 (expected (Some Null) None ∷ []))
unfolding lexeme.sign
value_alone = record {
  tokens = at sign.NamePlaceholder 0 2 ∷ at sign.Equal 3 4 ∷ at sign.ValuePlaceholder 5 7 ∷ [];
  are_tokens = token refl refl refl (blank refl (token refl refl refl (blank refl (token refl refl refl ends))));
  all_given = refl;
  meant = refl;
}

pub value_that_exists : IsSpelled given (codes "#n = :v") (condition_text false 0 (expected (Some Null) (Some true) ∷ []))
unfolding lexeme.sign
value_that_exists = record {
  tokens = at sign.NamePlaceholder 0 2 ∷ at sign.Equal 3 4 ∷ at sign.ValuePlaceholder 5 7 ∷ [];
  are_tokens = token refl refl refl (blank refl (token refl refl refl (blank refl (token refl refl refl ends))));
  all_given = refl;
  meant = refl;
}

pub not_null : IsSpelled given (codes "attribute_exists(#n)") (condition_text false 0 (test "NOT_NULL" 0 ∷ []))
unfolding lexeme.sign
not_null = record {
  tokens = at sign.Name 0 16 ∷ at sign.OpenParenthesis 16 17 ∷ at sign.NamePlaceholder 17 19 ∷ at sign.CloseParenthesis 19 20 ∷ [];
  are_tokens = token refl refl refl (token refl refl refl (token refl refl refl (token refl refl refl ends)));
  all_given = refl;
  meant = refl;
}

pub null : IsSpelled given (codes "attribute_not_exists(#n)") (condition_text false 0 (test "NULL" 0 ∷ []))
unfolding lexeme.sign
null = record {
  tokens = at sign.Name 0 20 ∷ at sign.OpenParenthesis 20 21 ∷ at sign.NamePlaceholder 21 23 ∷ at sign.CloseParenthesis 23 24 ∷ [];
  are_tokens = token refl refl refl (token refl refl refl (token refl refl refl (token refl refl refl ends)));
  all_given = refl;
  meant = refl;
}

pub exists_false : IsSpelled given (codes "attribute_not_exists(#n)") (condition_text false 0 (expected None (Some false) ∷ []))
unfolding lexeme.sign
exists_false = record {
  tokens = at sign.Name 0 20 ∷ at sign.OpenParenthesis 20 21 ∷ at sign.NamePlaceholder 21 23 ∷ at sign.CloseParenthesis 23 24 ∷ [];
  are_tokens = token refl refl refl (token refl refl refl (token refl refl refl (token refl refl refl ends)));
  all_given = refl;
  meant = refl;
}

pub contains : IsSpelled given (codes "contains(#n, :v)") (condition_text false 0 (test "CONTAINS" 1 ∷ []))
unfolding lexeme.sign
contains = record {
  tokens =
      at sign.Name 0 8 ∷ at sign.OpenParenthesis 8 9 ∷ at sign.NamePlaceholder 9 11 ∷ at sign.Comma 11 12 ∷
      at sign.ValuePlaceholder 13 15 ∷ at sign.CloseParenthesis 15 16 ∷ [];
  are_tokens =
      token refl refl refl (token refl refl refl (token refl refl refl (token refl refl refl (blank refl (token refl refl refl
      (token refl refl refl ends))))));
  all_given = refl;
  meant = refl;
}

pub not_contains : IsSpelled given (codes "NOT contains(#n, :v)") (condition_text false 0 (test "NOT_CONTAINS" 1 ∷ []))
unfolding lexeme.sign
not_contains = record {
  tokens =
      at sign.Not 0 3 ∷ at sign.Name 4 12 ∷ at sign.OpenParenthesis 12 13 ∷ at sign.NamePlaceholder 13 15 ∷ at sign.Comma 15 16 ∷
      at sign.ValuePlaceholder 17 19 ∷ at sign.CloseParenthesis 19 20 ∷ [];
  are_tokens =
      token refl refl refl (blank refl (token refl refl refl (token refl refl refl (token refl refl refl (token refl refl refl
      (blank refl (token refl refl refl (token refl refl refl ends))))))));
  all_given = refl;
  meant = refl;
}

pub begins_with : IsSpelled given (codes "begins_with(#n, :v)") (condition_text false 0 (test "BEGINS_WITH" 1 ∷ []))
unfolding lexeme.sign
begins_with = record {
  tokens =
      at sign.Name 0 11 ∷ at sign.OpenParenthesis 11 12 ∷ at sign.NamePlaceholder 12 14 ∷ at sign.Comma 14 15 ∷
      at sign.ValuePlaceholder 16 18 ∷ at sign.CloseParenthesis 18 19 ∷ [];
  are_tokens =
      token refl refl refl (token refl refl refl (token refl refl refl (token refl refl refl (blank refl (token refl refl refl
      (token refl refl refl ends))))));
  all_given = refl;
  meant = refl;
}

pub in_one : IsSpelled given (codes "#n IN (:v)") (condition_text false 0 (test "IN" 1 ∷ []))
unfolding lexeme.sign
in_one = record {
  tokens =
      at sign.NamePlaceholder 0 2 ∷ at sign.In 3 5 ∷ at sign.OpenParenthesis 6 7 ∷ at sign.ValuePlaceholder 7 9 ∷
      at sign.CloseParenthesis 9 10 ∷ [];
  are_tokens =
      token refl refl refl (blank refl (token refl refl refl (blank refl (token refl refl refl (token refl refl refl
      (token refl refl refl ends))))));
  all_given = refl;
  meant = refl;
}

pub in_two : IsSpelled given (codes "#n IN (:v, :w)") (condition_text false 0 (test "IN" 2 ∷ []))
unfolding lexeme.sign
in_two = record {
  tokens =
      at sign.NamePlaceholder 0 2 ∷ at sign.In 3 5 ∷ at sign.OpenParenthesis 6 7 ∷ at sign.ValuePlaceholder 7 9 ∷ at sign.Comma 9 10 ∷
      at sign.ValuePlaceholder 11 13 ∷ at sign.CloseParenthesis 13 14 ∷ [];
  are_tokens =
      token refl refl refl (blank refl (token refl refl refl (blank refl (token refl refl refl (token refl refl refl
      (token refl refl refl (blank refl (token refl refl refl (token refl refl refl ends)))))))));
  all_given = refl;
  meant = refl;
}

pub between_two : IsSpelled given (codes "#n BETWEEN :v AND :w") (condition_text false 0 (test "BETWEEN" 2 ∷ []))
unfolding lexeme.sign
between_two = record {
  tokens =
      at sign.NamePlaceholder 0 2 ∷ at sign.Between 3 10 ∷ at sign.ValuePlaceholder 11 13 ∷ at sign.And 14 17 ∷
      at sign.ValuePlaceholder 18 20 ∷ [];
  are_tokens =
      token refl refl refl (blank refl (token refl refl refl (blank refl (token refl refl refl (blank refl (token refl refl refl
      (blank refl (token refl refl refl ends))))))));
  all_given = refl;
  meant = refl;
}

pub all_of : IsSpelled given (codes "#n = :v AND #n > :w") (condition_text false 0 (test "EQ" 1 ∷ test "GT" 1 ∷ []))
unfolding lexeme.sign
all_of = record {
  tokens =
      at sign.NamePlaceholder 0 2 ∷ at sign.Equal 3 4 ∷ at sign.ValuePlaceholder 5 7 ∷ at sign.And 8 11 ∷
      at sign.NamePlaceholder 12 14 ∷ at sign.More 15 16 ∷ at sign.ValuePlaceholder 17 19 ∷ [];
  are_tokens =
      token refl refl refl (blank refl (token refl refl refl (blank refl (token refl refl refl (blank refl (token refl refl refl
      (blank refl (token refl refl refl (blank refl (token refl refl refl (blank refl (token refl refl refl ends))))))))))));
  all_given = refl;
  meant = refl;
}

pub any_of : IsSpelled given (codes "#n = :v OR #n > :w") (condition_text true 0 (test "EQ" 1 ∷ test "GT" 1 ∷ []))
unfolding lexeme.sign
any_of = record {
  tokens =
      at sign.NamePlaceholder 0 2 ∷ at sign.Equal 3 4 ∷ at sign.ValuePlaceholder 5 7 ∷ at sign.Or 8 10 ∷ at sign.NamePlaceholder 11 13 ∷
      at sign.More 14 15 ∷ at sign.ValuePlaceholder 16 18 ∷ [];
  are_tokens =
      token refl refl refl (blank refl (token refl refl refl (blank refl (token refl refl refl (blank refl (token refl refl refl
      (blank refl (token refl refl refl (blank refl (token refl refl refl (blank refl (token refl refl refl ends))))))))))));
  all_given = refl;
  meant = refl;
}

pub put : IsSpelled given (codes "SET #n = :v") (update_text 0 (change "PUT" 1 ∷ []))
unfolding lexeme.sign
put = record {
  tokens = at sign.Set 0 3 ∷ at sign.NamePlaceholder 4 6 ∷ at sign.Equal 7 8 ∷ at sign.ValuePlaceholder 9 11 ∷ [];
  are_tokens =
      token refl refl refl (blank refl (token refl refl refl (blank refl (token refl refl refl (blank refl (token refl refl refl
      ends))))));
  all_given = refl;
  meant = refl;
}

pub put_by_default : IsSpelled given (codes "SET #n = :v") (update_text 0 (change "" 1 ∷ []))
unfolding lexeme.sign
put_by_default = record {
  tokens = at sign.Set 0 3 ∷ at sign.NamePlaceholder 4 6 ∷ at sign.Equal 7 8 ∷ at sign.ValuePlaceholder 9 11 ∷ [];
  are_tokens =
      token refl refl refl (blank refl (token refl refl refl (blank refl (token refl refl refl (blank refl (token refl refl refl
      ends))))));
  all_given = refl;
  meant = refl;
}

pub add : IsSpelled given (codes "ADD #n :v") (update_text 0 (change "ADD" 1 ∷ []))
unfolding lexeme.sign
add = record {
  tokens = at sign.Add 0 3 ∷ at sign.NamePlaceholder 4 6 ∷ at sign.ValuePlaceholder 7 9 ∷ [];
  are_tokens = token refl refl refl (blank refl (token refl refl refl (blank refl (token refl refl refl ends))));
  all_given = refl;
  meant = refl;
}

pub delete : IsSpelled given (codes "REMOVE #n") (update_text 0 (change "DELETE" 0 ∷ []))
unfolding lexeme.sign
delete = record {
  tokens = at sign.Remove 0 6 ∷ at sign.NamePlaceholder 7 9 ∷ [];
  are_tokens = token refl refl refl (blank refl (token refl refl refl ends));
  all_given = refl;
  meant = refl;
}

pub delete_elements : IsSpelled given (codes "DELETE #n :v") (update_text 0 (change "DELETE" 1 ∷ []))
unfolding lexeme.sign
delete_elements = record {
  tokens = at sign.Delete 0 6 ∷ at sign.NamePlaceholder 7 9 ∷ at sign.ValuePlaceholder 10 12 ∷ [];
  are_tokens = token refl refl refl (blank refl (token refl refl refl (blank refl (token refl refl refl ends))));
  all_given = refl;
  meant = refl;
}

pub names : IsSpelled given (codes "#n, #m") (paths_text (codes "a.b" ∷ codes "c" ∷ []))
unfolding lexeme.sign
names = record {
  tokens = at sign.NamePlaceholder 0 2 ∷ at sign.Comma 2 3 ∷ at sign.NamePlaceholder 4 6 ∷ [];
  are_tokens = token refl refl refl (token refl refl refl (blank refl (token refl refl refl ends)));
  all_given = refl;
  meant = refl;
}
