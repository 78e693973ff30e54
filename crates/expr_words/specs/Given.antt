-- What placeholders stand for.
use Rattle.std.specs.Prelude.{ℕ, List, [], Option, option_map, unwrap_or, position, bytes_eq, slice_get}
use Rattle.expr_words.specs.declared.given.Given.{Given}

-- the place of the first name that is given with this placeholder
abbrev pub name_place : Given → List ℕ → Option ℕ
name_place given placeholder = position (λ pair. bytes_eq pair.placeholder placeholder) given.names

-- the place of the first value that is given with this placeholder
abbrev pub value_place : Given → List ℕ → Option ℕ
value_place given placeholder = position (λ name. bytes_eq name placeholder) given.value_names

-- the name at a place of those given
abbrev pub name_at : Given → ℕ → List ℕ
name_at given place = unwrap_or (option_map (λ pair. pair.name) (slice_get given.names place)) []
