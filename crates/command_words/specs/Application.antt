-- The commands and their options, as `clap` sees them.
use Rattle.std.specs.Prelude.{true, false, List, [], ◌∷◌, map, Some, codes}
use Rattle.clap.specs.Words.{App, Rule, Shape, new_rule}
use Rattle.clap.specs.Simple.{new_shape}
use Rattle.command_words.specs.Settings.{Text, name_of}
use Rattle.command_words.specs.Modes.{word_of, settings_of}
use Rattle.command_words.specs.declared.mode.Mode.{Mode}
use Rattle.command_words.specs.declared.mode.Mode.TheVariants.{Stdio, Serve, Load}
use Rattle.command_words.specs.declared.setting.Setting.{Setting}

abbrev pub setting_rule : Setting → Rule
setting_rule setting = record (new_rule (name_of setting)) { long = Some (name_of setting) }

-- a command with options
abbrev pub shape_with : Text → List Setting → Shape
shape_with word settings = record (new_shape word) { rules = map setting_rule settings }

abbrev pub app_with : Text → List Setting → App
app_with word settings = record { top = shape_with word settings; subs = [] }

abbrev pub mode_shape : Mode → Shape
mode_shape mode = shape_with (word_of mode) (settings_of mode)

abbrev pub program_shape : Shape
program_shape = record (new_shape (codes "ddb_server")) {
  is_leaf = false;
  no_binary_name = true;
  disable_help_flag = true;
  disable_help_subcommand = true;
  disable_version_flag = true;
  subcommand_required = true;
}

abbrev pub application_app : App
application_app = record {
  top = program_shape;
  subs = mode_shape Stdio ∷ mode_shape Serve ∷ mode_shape Load ∷ [];
}
