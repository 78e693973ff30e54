-- The bytes that tokens are made of.
use Rattle.std.specs.Prelude.{ℕ, Bool, ◌||◌, ◌==◌}
use Rattle.std.specs.Char.{is_ascii_alphabetic, is_ascii_alphanumeric}

-- a space, a tab, a carriage return or a line feed: what may stand between tokens
abbrev pub is_blank : ℕ → Bool
is_blank byte = (byte == 32) || ((byte == 9) || ((byte == 13) || (byte == 10)))

-- a letter or '_': what begins a name
abbrev pub is_letter : ℕ → Bool
is_letter byte = is_ascii_alphabetic byte || (byte == 95)

-- a letter, a digit or '_': what goes on in a name
abbrev pub is_word_byte : ℕ → Bool
is_word_byte byte = is_ascii_alphanumeric byte || (byte == 95)
