-- How texts and the names of maps are spelled.
use Rattle.std.specs.Prelude.{ℕ, Bool, true, false, ◌&&◌, ◌||◌, ◌==◌, nat_le, List, [], ◌∷◌, length}
use Rattle.std.specs.Char.{is_ascii_alphanumeric}
use Rattle.std.specs.Str.{chars}
use Rattle.api_form.specs.declared.spelling.Spelling.{Spelling}
use Rattle.api_form.specs.declared.spelling.Spelling.TheVariants as spelling

abbrev pub is_between : ℕ → ℕ → ℕ → Bool
is_between least most n = nat_le least n && nat_le n most

abbrev pub list_all : (ℕ → Bool) → List ℕ → Bool
list_all test [] = true
list_all test (x ∷ xs) = test x && list_all test xs

-- a letter, a digit or '_'
abbrev pub is_word_byte : ℕ → Bool
is_word_byte byte = is_ascii_alphanumeric byte || (byte == 95)

-- a letter, a digit, '_', '.' or '-'
abbrev pub is_name_byte : ℕ → Bool
is_name_byte byte = is_word_byte byte || ((byte == 46) || (byte == 45))

abbrev pub is_table_name : List ℕ → Bool
is_table_name text = is_between 3 255 (length text) && list_all is_name_byte text

-- a sign and then a word
abbrev pub is_placeholder : ℕ → List ℕ → Bool
is_placeholder sign [] = false
is_placeholder sign (first ∷ word) = (first == sign) && (nat_le 1 (length word) && list_all is_word_byte word)

-- whether a text is spelled in this way; 35 is '#', and 58 is ':'
abbrev pub is_spelled : Spelling → List ℕ → Bool
is_spelled spelling.Any text = true
is_spelled spelling.Filled text = nat_le 1 (length text)
is_spelled spelling.TableName text = is_table_name text
is_spelled spelling.AttributeName text = is_between 1 255 (length text)
is_spelled spelling.NamePlaceholder text = is_placeholder 35 text
is_spelled spelling.ValuePlaceholder text = is_placeholder 58 text
is_spelled spelling.Token text = is_between 1 36 (length (chars text))
