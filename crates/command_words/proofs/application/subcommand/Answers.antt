use Rattle.std.proofs.Common.{◌≡◌, ◌∙◌, ◌+◌, ◌<◌, ◌||◌, ℕ, List, [], ◌∷◌, ◌++◌, map, take, length, ap, ap₂, sym}
use Rattle.std.proofs.lemmas.List.{map-append, take_more}
use Rattle.std.specs.List.{slice_index_or}
use Rattle.clap.specs.Words.{App, Rule, with_rule}
use Rattle.command_words.specs.Application.{app_with, setting_rule, shape_with}
use Rattle.command_words.specs.Settings.{Text}
use Rattle.command_words.specs.declared.setting.Setting.{Setting}
use Rattle.command_words.specs.declared.setting.Setting.TheVariants.{Port}
use Rattle.command_words.proofs.application.subcommand.Goals as goal

-- one option more
grown : (word : Text) (xs : List Setting) (i : ℕ) (d : Setting) → i < length xs
    → with_rule (app_with word (take i xs)) (setting_rule (slice_index_or xs i d)) ≡ app_with word (take (i + 1) xs)
grown word xs i d below =
    let more : map setting_rule (take (i + 1) xs) ≡ map setting_rule (take i xs) ++ setting_rule (slice_index_or xs i d) ∷ [] =
    ap (map setting_rule) (take_more xs i d below) ∙ map-append setting_rule (take i xs) (slice_index_or xs i d ∷ []) in
    let of : List Rule → App = λ rules. record { top = record (shape_with word []) { rules = rules }; subs = [] } in
    ap of (sym more)

pub loop-setting-preserved : goal.loop-setting-preserved
loop-setting-preserved c =
    let kept = c.loop-setting.invariant in
    let added = c.in_ok-command.ensures in
    let options = c.settings-setting-items.result.now in (
      added.shape c.option.ensures.local ∙ ap₂ with_rule kept.0 c.option.ensures.rule ∙ grown _ options c.loop-setting.setting-index Port c.loop-setting-test.true,
      added.globals ∙ ap₂ (λ a b. a || b) kept.1 c.option.ensures.local,
    )
