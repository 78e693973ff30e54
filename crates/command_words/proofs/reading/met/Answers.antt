use Rattle.std.proofs.Common.{◌≡◌, ◌∙◌, List, Some, None, Option, refl, sym, ap}
use Rattle.std.specs.Prelude.{option_map, Box}
use Rattle.std.proofs.lemmas.Option.{same_Some}
use Rattle.clap.specs.Words.{Row, Text, found_of, first_of, first_value, rows_of, subcommand_rows, subcommand_rows_of}
use Rattle.clap.specs.Matches.{subcommand_name_of}
use Rattle.clap.specs.declared.parser.matches.ArgMatches.{ArgMatches}
use Rattle.clap.specs.declared.parser.matches.ArgMatches.TheViews.{out-ArgMatches, out-SubCommand}
use Rattle.clap.specs.declared.parser.matches.SubCommand.{SubCommand}
use Rattle.clap.proofs.WalkLemmas.{first_value-rows}
use Rattle.std.specs.Box.{box_value}
use Rattle.command_words.specs.Settings.{name_of, setting_value}
use Rattle.command_words.specs.Modes.{command_of, word_of}
use Rattle.command_words.specs.declared.setting.Setting.{Setting}
use Rattle.command_words.proofs.reading.met.Goals as goal

name_with_rows : (m : ArgMatches) → subcommand_name_of m ≡ option_map (λ (p : Text × List Row). p.0) (subcommand_rows_of m)
name_with_rows m = of (out-ArgMatches m).subcommand
  where
    of : {Z : Type 0} (o : Option (Box SubCommand Z))
        → option_map (λ b. (out-SubCommand (box_value b)).name.now) o ≡ option_map (λ (p : Text × List Row). p.0) (subcommand_rows o)
    of None = refl
    of (Some b) = refl

pub returns : goal.returns
returns c mode rows met =
    let word_is : c.in_ok-word.word.now ≡ word_of mode =
    same_Some _ _ (c.in_ok-word.ensures.name ∙ name_with_rows c.args.matches.now ∙ ap (option_map (λ (p : Text × List Row). p.0)) met) in
    let rows_are : rows_of (found_of c.in_ok-word.options.now) ≡ rows = same_Some _ _ (c.in_ok-word.ensures.rows ∙ ap (option_map (λ (p : Text × List Row). p.1)) met) in
    let mode_is : c.in_ok-named.field-0 ≡ mode = same_Some _ _ (sym c.in_ok-named.was ∙ c.named.ensures mode word_is) in
    let text : (setting : Setting) → first_value (found_of c.in_ok-word.options.now) (name_of setting) ≡ first_of (name_of setting) rows =
    λ setting. first_value-rows (found_of c.in_ok-word.options.now) (name_of setting) ∙ ap (first_of (name_of setting)) rows_are in
    c.held.ensures ∙ (λ i. command_of (mode_is i) (λ setting. setting_value setting (text setting i)))
