-- The commands: their words, the options that each takes, and what they hold.
use Rattle.std.specs.Prelude.{ℕ, List, [], ◌∷◌, Option, codes, option_and_then, option_map}
use Rattle.command_words.specs.Settings.{Text, setting_value}
use Rattle.command_words.specs.declared.mode.Mode.{Mode}
use Rattle.command_words.specs.declared.mode.Mode.TheVariants as mode
use Rattle.command_words.specs.declared.setting.Setting.{Setting}
use Rattle.command_words.specs.declared.setting.Setting.TheVariants.{Port, Partitions, Workers, Start, Clients, Count}
use Rattle.command_words.specs.declared.words.Command.{Command}
use Rattle.command_words.specs.declared.words.Command.TheVariants as command

-- the word of a command
abbrev pub word_of : Mode → Text
word_of mode.Stdio = codes "stdio"
word_of mode.Serve = codes "serve"
word_of mode.Load = codes "load"

-- the options that a command takes
abbrev pub settings_of : Mode → List Setting
settings_of mode.Stdio = Partitions ∷ []
settings_of mode.Serve = Port ∷ Partitions ∷ Workers ∷ []
settings_of mode.Load = Start ∷ Clients ∷ Count ∷ Partitions ∷ []

-- the command, from what is set; None where something is out of its range
abbrev pub command_of : Mode → (Setting → Option ℕ) → Option Command
command_of mode.Stdio value = option_map command.Stdio (value Partitions)
command_of mode.Serve value =
    option_and_then (λ port. option_and_then (λ partitions. option_map (λ workers.
    command.Serve port partitions workers) (value Workers)) (value Partitions)) (value Port)
command_of mode.Load value =
    option_and_then (λ start. option_and_then (λ clients. option_and_then (λ count. option_map (λ partitions.
    command.Load start clients count partitions) (value Partitions)) (value Count)) (value Clients)) (value Start)

-- the command, from the values that were given
abbrev pub command_from : Mode → (Setting → Option Text) → Option Command
command_from mode given = command_of mode (λ setting. setting_value setting (given setting))
