-- The options: their names, ranges and defaults, and the number that a value says.
use Rattle.std.specs.Prelude.{ℕ, ◌&&◌, Bool, List, Option, Some, None, length, codes, nat_le, if◌then◌else◌, option_and_then}
use Rattle.std.specs.List.{list_all}
use Rattle.std.specs.Char.{is_ascii_digit}
use Rattle.std.specs.Str.Parse.{digits_value}
use Rattle.command_words.specs.declared.setting.Setting.{Setting}
use Rattle.command_words.specs.declared.setting.Setting.TheVariants.{Port, Partitions, Workers, Start, Clients, Count}

abbrev pub Text : Type 0
Text = List ℕ

-- an option's name, without hyphens
abbrev pub name_of : Setting → Text
name_of Port = codes "port"
name_of Partitions = codes "partitions"
name_of Workers = codes "workers"
name_of Start = codes "start"
name_of Clients = codes "clients"
name_of Count = codes "count"

-- the least value that may be given
abbrev pub least_of : Setting → ℕ
least_of Port = 1
least_of Partitions = 1
least_of Workers = 1
least_of Start = 0
least_of Clients = 1
least_of Count = 0

-- the greatest
abbrev pub most_of : Setting → ℕ
most_of Port = 65535
most_of Partitions = 64
most_of Workers = 62
most_of Start = 9999999
most_of Clients = 16
most_of Count = 100000

-- the value where none is given
abbrev pub default_of : Setting → ℕ
default_of Port = 8000
default_of Partitions = 16
default_of Workers = 8
default_of Start = 1
default_of Clients = 4
default_of Count = 1000

-- 1 to 7 decimal digits
abbrev pub is_number : Text → Bool
is_number text = nat_le 1 (length text) && (nat_le (length text) 7 && list_all is_ascii_digit text)

-- the number that a value says
abbrev pub number_of : Text → Option ℕ
number_of text = if is_number text then Some (digits_value 10 text) else None

-- a number within the range of a setting
abbrev pub in_range : Setting → ℕ → Option ℕ
in_range setting number =
    if nat_le (least_of setting) number && nat_le number (most_of setting) then Some number else None

-- what is set by a value, or by none; None where the value is no number in the range
abbrev pub setting_value : Setting → Option Text → Option ℕ
setting_value setting None = Some (default_of setting)
setting_value setting (Some text) = option_and_then (in_range setting) (number_of text)
