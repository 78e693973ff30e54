-- What the words state is what `clap` found in them, both ways.
use Rattle.std.proofs.Common.{◌≡◌, ◌∙◌, List, [], map, Option, Some, Result, Ok, Err, false, sym, ap}
use Rattle.std.specs.Result.{IfOk, result_ok}
use Rattle.std.proofs.lemmas.Option.{none-some, same_Some}
use Rattle.clap.specs.Words.{Row, first_of}
use Rattle.clap.specs.Simple.{subcommand_of}
use Rattle.clap.specs.Faults.{fault_of}
use Rattle.command_words.specs.Application.{application_app}
use Rattle.command_words.specs.Settings.{Text, name_of, setting_value}
use Rattle.command_words.specs.Modes.{command_of, word_of}
use Rattle.command_words.specs.States.{Given, States, given_text}
use Rattle.command_words.specs.declared.mode.Mode.{Mode}
use Rattle.command_words.specs.declared.words.Command.{Command}
use Rattle.command_words.specs.declared.words.WordsEnd.{WordsEnd}
use Rattle.command_words.proofs.Rules.{first_of-found, found_row}
use Rattle.command_words.proofs.Walks.{has_bare}
use Rattle.command_words.proofs.Values.{none_bare, plain_values}
use Rattle.command_words.proofs.Program.{passing, taken_words}

-- the command is read off what was found
abbrev pub IsRead : Option (Text × List Row) → Option Command → Type 0
IsRead found read = (mode : Mode) (rows : List Row) → found ≡ Some (word_of mode, rows)
    → read ≡ command_of mode (λ setting. setting_value setting (first_of (name_of setting) rows))

read_as_given : (mode : Mode) (options : List Given)
    → command_of mode (λ setting. setting_value setting (first_of (name_of setting) (map found_row options)))
    ≡ command_of mode (λ setting. setting_value setting (given_text options setting))
read_as_given mode options = λ i. command_of mode (λ setting. setting_value setting (first_of-found options setting i))

pub states_none_bare : (words : List Text) (command : Command) → States words command → has_bare words ≡ false
states_none_bare words command s =
    ap has_bare s.words_are ∙ none_bare s.mode s.options (plain_values s.mode s.options command s.command_is s.once s.taken)

pub states_no_fault : (words : List Text) (command : Command) → States words command → fault_of application_app words ≡ []
states_no_fault words command s =
    ap (fault_of application_app) s.words_are
    ∙ (passing s.mode s.options s.taken s.once (plain_values s.mode s.options command s.command_is s.once s.taken)).0

-- a command that the words state is read
pub reads : (words : List Text) (read : Option Command) → IsRead (subcommand_of application_app words) read → (command : Command) → States words command → read ≡ Some command
reads words read is_read command s =
    let found = (passing s.mode s.options s.taken s.once (plain_values s.mode s.options command s.command_is s.once s.taken)).1 in
    is_read s.mode _ (ap (subcommand_of application_app) s.words_are ∙ found) ∙ read_as_given s.mode s.options ∙ s.command_is

-- and what is read is stated
pub stated : (words : List Text) (read : Option Command) → IsRead (subcommand_of application_app words) read → has_bare words ≡ false
    → fault_of application_app words ≡ [] → (command : Command) → read ≡ Some command → States words command
stated words read is_read bare none command e =
    let t = taken_words words bare none in
    record {
      mode = t.mode;
      options = t.options;
      words_are = t.words_are;
      taken = t.taken;
      once = t.once;
      command_is = sym (read_as_given t.mode t.options) ∙ sym (is_read t.mode _ t.rows_are) ∙ e;
    }

-- the same of a result
pub stated_result : (words : List Text) (read : Option Command) (r : Result Command WordsEnd) → read ≡ result_ok r → IsRead (subcommand_of application_app words) read
    → has_bare words ≡ false → fault_of application_app words ≡ [] → IfOk r (States words)
stated_result words read (Ok command) e is_read bare none = stated words read is_read bare none command e
stated_result words read (Err why) e is_read bare none = tt

pub only_result : (words : List Text) (read : Option Command) (r : Result Command WordsEnd) → read ≡ result_ok r → IsRead (subcommand_of application_app words) read
    → IfOk r (λ command. (other : Command) → States words other → other ≡ command)
only_result words read (Ok command) e is_read = λ other s. same_Some _ _ (sym (reads words read is_read other s) ∙ e)
only_result words read (Err why) e is_read = tt

pub refused_result : (words : List Text) (read : Option Command) (r : Result Command WordsEnd) (why : WordsEnd) → read ≡ result_ok r → IsRead (subcommand_of application_app words) read
    → r ≡ Err why → (command : Command) → States words command → ⊥
refused_result words read r why e is_read is command s =
    none-some command (sym (e ∙ ap result_ok is) ∙ reads words read is_read command s)
