use Rattle.std.proofs.Common.{rules, ◌≡◌, ◌∙◌, ap₂, [], true}
use Rattle.std.proofs.lemmas.Result.{IfOk-weaker}
use Rattle.clap.specs.Words.{App, app_of, with_subcommand}
use Rattle.command_words.specs.Application.{mode_shape, program_shape}
use Rattle.command_words.specs.declared.mode.Mode.TheVariants.{Stdio, Serve}
use Rattle.command_words.proofs.application.application.Goals as goal

abbrev alone : App
alone = record { top = record program_shape { is_leaf = true }; subs = [] }

pub returns : goal.returns
returns c =
    let program_is : app_of c.disable_version_flag-program.result ≡ alone = search rules in
    let one : app_of c.in_ok-program.program ≡ with_subcommand alone (mode_shape Stdio) =
    c.in_ok-program.ensures.shape c.in_ok-subcommand.ensures.local ∙ ap₂ with_subcommand program_is c.in_ok-subcommand.ensures.shape in
    let two : app_of c.in_ok-program-2.program ≡ with_subcommand (with_subcommand alone (mode_shape Stdio)) (mode_shape Serve) =
    c.in_ok-program-2.ensures.shape c.in_ok-subcommand-2.ensures.local ∙ ap₂ with_subcommand one c.in_ok-subcommand-2.ensures.shape in
    IfOk-weaker c.subcommand-6.result _ _
    (λ r h. h.shape c.in_ok-subcommand-3.ensures.local ∙ ap₂ with_subcommand two c.in_ok-subcommand-3.ensures.shape)
    c.subcommand-6.ensures
