-- What the words of a command line state.
use Rattle.std.specs.Prelude.{◌≡◌, ◌&&◌, Bool, true, not, List, [], ◌∷◌, ◌++◌, Option, Some, find, option_map, if◌then◌else◌}
use Rattle.std.specs.List.{list_all, list_any}
use Rattle.std.specs.Str.{bytes_eq}
use Rattle.command_words.specs.Settings.{Text, name_of}
use Rattle.command_words.specs.Modes.{word_of, settings_of, command_from}
use Rattle.command_words.specs.declared.mode.Mode.{Mode}
use Rattle.command_words.specs.declared.setting.Setting.{Setting}
use Rattle.command_words.specs.declared.words.Command.{Command}

-- an option as it is given: what it sets, its value, and whether both stand in one word
pub record Given : Type 0 where
  pub setting : Setting
  pub value : Text
  pub in_one_word : Bool

-- a name behind two hyphens (45)
abbrev pub hyphened : Text → Text
hyphened name = 45 ∷ 45 ∷ name

-- `--name=value` (61 is `=`), or `--name value`
abbrev pub option_words : Given → List Text
option_words given =
    if given.in_one_word then (hyphened (name_of given.setting) ++ 61 ∷ given.value) ∷ []
    else hyphened (name_of given.setting) ∷ given.value ∷ []

-- the words of options, one after another
abbrev pub options_words : List Given → List Text
options_words [] = []
options_words (given ∷ rest) = option_words given ++ options_words rest

-- one of the options has this name
abbrev pub has_option : Text → List Given → Bool
has_option name = list_any (λ given. bytes_eq (name_of given.setting) name)

-- none is among those before it
abbrev pub are_new : List Given → List Given → Bool
are_new before [] = true
are_new before (given ∷ rest) =
    not (has_option (name_of given.setting) before) && are_new (before ++ given ∷ []) rest

-- the command takes the option
abbrev pub takes_option : Mode → Given → Bool
takes_option mode given =
    list_any (λ setting. bytes_eq (name_of setting) (name_of given.setting)) (settings_of mode)

-- the value that is given for a setting
abbrev pub given_text : List Given → Setting → Option Text
given_text options setting = option_map (λ given. given.value)
    (find (λ given. bytes_eq (name_of given.setting) (name_of setting)) options)

-- the words are those of a command and of options that it takes, none of them twice, which set what the command holds
pub record States (words : List Text) (command : Command) : Type 0 where
  pub mode : Mode
  pub options : List Given
  pub words_are : words ≡ word_of mode ∷ options_words options
  pub taken : list_all (takes_option mode) options ≡ true
  pub once : are_new [] options ≡ true
  pub command_is : command_from mode (given_text options) ≡ Some command

-- they state no other command
abbrev pub StatesNoOther : List Text → Command → Type 0
StatesNoOther words command = (other : Command) → States words other → other ≡ command

-- they state none
abbrev pub StatesNone : List Text → Type 0
StatesNone words = (command : Command) → States words command → ⊥
