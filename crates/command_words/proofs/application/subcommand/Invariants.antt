use Rattle.std.proofs.Common.{◌≡◌, false, take}
use Rattle.clap.specs.Words.{app_of}
use Rattle.clap.specs.declared.builder.Command.TheViews.{out-Command as fields_of}
use Rattle.command_words.specs.Application.{app_with}
use Rattle.command_words.specs.Modes.{word_of}
use Rattle.command_words.proofs.application.subcommand.Given as goal

abbrev pub invariant-loop-setting : goal.invariant-loop-setting
invariant-loop-setting l =
    (app_of l.command ≡ app_with (word_of l.fn.mode) (take l.setting-index l.setting-items))
    × ((fields_of l.command).has_globals ≡ false)
