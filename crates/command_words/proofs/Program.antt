-- The whole command line as `clap` walks it: a command's word, and then that command's options.
use Rattle.std.proofs.Common.{◌≡◌, ◌∙◌, ◌&&◌, ◌||◌, ◌⊎◌, Bool, true, false, not, cond, List, [], ◌∷◌, ◌++◌, map, Option, Some, None, refl, sym, ap, ap₂, subst, inl, inr, is_some, codes}
use Rattle.std.specs.Prelude.{fold}
use Rattle.std.specs.List.{list_all, list_any}
use Rattle.std.specs.Str.{bytes_eq}
use Rattle.clap.specs.Kinds.{Kinds, or_else}
use Rattle.clap.specs.Walk.{Held, Step, idle, long_or_other, subcommand_met, Row, Rule, Walk, finished, has_row, nothing_held, settled, walk, walk_from, walked, with_default}
use Rattle.clap.specs.Simple.{App, Shape, built, entered, is_simple, names_of, subcommand_of}
use Rattle.std.proofs.lemmas.List.{append-nil, append_assoc}
use Rattle.clap.specs.Takes.{is_given}
use Rattle.clap.specs.Lexer.{long_of, short_of}
use Rattle.clap.specs.declared.error.ErrorKind.{ErrorKind}
use Rattle.clap.specs.declared.error.ErrorKind.TheVariants as kind
use Rattle.clap.specs.Faults.{check_fault, entered_fault, flag_word_fault, step_fault, default_fault, defaults_fault, fault_of, is_simple_and_free, level_fault, settle_fault, turn_fault, walk_fault}
use Rattle.command_words.specs.Application.{application_app, program_shape}
use Rattle.command_words.specs.Settings.{Text, name_of}
use Rattle.command_words.specs.Modes.{settings_of, word_of}
use Rattle.command_words.specs.States.{Given, are_new, options_words, takes_option}
use Rattle.command_words.specs.declared.mode.Mode.{Mode}
use Rattle.command_words.specs.declared.mode.Mode.TheVariants.{Stdio, Serve, Load}
use Rattle.command_words.specs.declared.setting.Setting.{Setting}
use Rattle.command_words.proofs.Rules.{built_rule, built_rules, built_shape, found_row}
use Rattle.command_words.proofs.Walks.{ArePlain, Passes, bare, before, both_none, complete, has_bare, neither, rows_after, short_cases, sound}
use Rattle.command_words.proofs.Spelling.{same_text}

pub simple : is_simple application_app ≡ true
simple = refl

pub simple_and_free : is_simple_and_free application_app ≡ true
simple_and_free = refl

abbrev top : Shape
top = record program_shape { is_built = true }

abbrev mode_built : Mode → Shape
mode_built mode = built_shape (word_of mode) (settings_of mode)

abbrev ready : App
ready = record { top = top; subs = mode_built Stdio ∷ mode_built Serve ∷ mode_built Load ∷ [] }

is_ready : built application_app ≡ ready
is_ready = refl

-- ---- behind the command's word

same_rows : (rows : List Row) (name : Text) → with_default rows (built_rule name) ≡ rows
same_rows rows name = by_test (has_row name rows)
  where
    by_test : (b : Bool) → cond b rows rows ≡ rows
    by_test true = refl
    by_test false = refl

no_default : (rows : List Row) (name : Text) → default_fault rows (built_rule name) ≡ []
no_default rows name = by_test (has_row name rows)
  where
    by_test : (b : Bool) → cond {A = Kinds} (b || true) [] [] ≡ []
    by_test true = refl
    by_test false = refl

no_defaults : (rows : List Row) (settings : List Setting) → defaults_fault rows (built_rules settings) ≡ []
unfolding defaults_fault
no_defaults rows [] = refl
no_defaults rows (setting ∷ rest) =
    let now : List Row = with_default rows (built_rule (name_of setting)) in
    ap (λ k. or_else k (defaults_fault now (built_rules rest))) (no_default rows (name_of setting)) ∙ no_defaults now rest

all_rows : (rows : List Row) (settings : List Setting) → fold with_default rows (built_rules settings) ≡ rows
all_rows rows [] = refl
all_rows rows (setting ∷ rest) = ap (λ now. fold with_default now (built_rules rest)) (same_rows rows (name_of setting)) ∙ all_rows rows rest

none_required : (rows : List Row) (settings : List Setting) → list_any (λ (a : Rule). a.required && not (is_given a.id rows)) (built_rules settings) ≡ false
none_required rows [] = refl
none_required rows (setting ∷ rest) = none_required rows rest

module _ (settings : List Setting) (word : Text) where
  abbrev level : List Text → Kinds
  level words = level_fault (built_shape word settings) [] nothing_held words false []

  level_is : (words : List Text) → level words ≡ or_else (walk_fault (built_shape word settings) [] (before [] None) words) (or_else (settle_fault (built_rules settings) false (walk (built_rules settings) [] nothing_held words).held) [])
  level_is words =
      let end : Held = (walk (built_rules settings) [] nothing_held words).held in
      ap₂ (λ (defaults : Kinds) (b : Bool). or_else (walk_fault (built_shape word settings) [] (before [] None) words)
      (or_else (settle_fault (built_rules settings) false end) (or_else defaults (cond b (kind.MissingRequiredArgument ∷ []) []))))
      (no_defaults (settled (built_rules settings) end).rows settings) (none_required (finished (built_rules settings) end) settings)

  passes_level : (words : List Text) → Passes settings word (before [] None) words → level words ≡ []
  passes_level words passes = level_is words ∙ ap₂ (λ (a b : Kinds). or_else a (or_else b [])) passes.0 passes.1

  level_passes : (words : List Text) → level words ≡ [] → Passes settings word (before [] None) words
  level_passes words none =
      let end : Held = (walk (built_rules settings) [] nothing_held words).held in
      let parts = both_none (walk_fault (built_shape word settings) [] (before [] None) words) (or_else (settle_fault (built_rules settings) false end) []) (sym (level_is words) ∙ none) in
      (parts.0, (both_none (settle_fault (built_rules settings) false end) [] parts.1).0)

-- ---- the command's word

abbrev stopped : Text → List Text → Walk
stopped name seen = record (walk_from nothing_held) { stopped = Some (name, seen) }

walks_on : (name : Text) (seen words : List Text) → fold (walked [] (names_of ready)) (stopped name seen) words ≡ stopped name (seen ++ words)
unfolding walked
walks_on name seen [] = ap (stopped name) (sym (append-nil seen))
walks_on name seen (w ∷ words) = walks_on name (seen ++ w ∷ []) words ∙ ap (stopped name) (append_assoc seen (w ∷ []) words)

passes_on : (name : Text) (seen words : List Text) → walk_fault top (names_of ready) (stopped name seen) words ≡ []
unfolding walked walk_fault
passes_on name seen [] = refl
passes_on name seen (w ∷ words) = passes_on name (seen ++ w ∷ []) words

first_stops : (mode : Mode) → walked [] (names_of ready) (walk_from nothing_held) (word_of mode) ≡ stopped (word_of mode) []
unfolding walked
first_stops Stdio = refl
first_stops Serve = refl
first_stops Load = refl

word_stops : (mode : Mode) (words : List Text) → walk [] (names_of ready) nothing_held (word_of mode ∷ words) ≡ stopped (word_of mode) words
word_stops mode words = ap (λ from. fold (walked [] (names_of ready)) from words) (first_stops mode) ∙ walks_on (word_of mode) [] words

word_passes : (mode : Mode) (words : List Text) → walk_fault top (names_of ready) (walk_from nothing_held) (word_of mode ∷ words) ≡ []
unfolding walked walk_fault
word_passes Stdio words = passes_on (word_of Stdio) [] words
word_passes Serve words = passes_on (word_of Serve) [] words
word_passes Load words = passes_on (word_of Load) [] words

-- the fault of a walk, by what it came to
abbrev by_walk : Kinds → Walk → Kinds
by_walk faults w = or_else faults (or_else (entered_fault ready w.stopped) (or_else (settle_fault [] false w.held)
    (or_else (defaults_fault (settled [] w.held).rows []) (check_fault top (finished [] w.held) (is_some (entered ready w.stopped))))))

fault_is : (words : List Text) → fault_of application_app words ≡ by_walk (walk_fault top (names_of ready) (walk_from nothing_held) words) (walk [] (names_of ready) nothing_held words)
fault_is words = refl

stop_fault : (mode : Mode) (words : List Text) → by_walk [] (stopped (word_of mode) words) ≡ or_else (level (settings_of mode) (word_of mode) words) []
unfolding defaults_fault
stop_fault Stdio words = refl
stop_fault Serve words = refl
stop_fault Load words = refl

fault_behind : (mode : Mode) (words : List Text) → fault_of application_app (word_of mode ∷ words) ≡ or_else (level (settings_of mode) (word_of mode) words) []
fault_behind mode words = ap₂ by_walk (word_passes mode words) (word_stops mode words) ∙ stop_fault mode words

entered_is : (mode : Mode) (words : List Text) → entered ready (Some (word_of mode, words))
    ≡ Some (word_of mode, finished (built_rules (settings_of mode)) (walk (built_rules (settings_of mode)) [] nothing_held words).held)
entered_is Stdio words = refl
entered_is Serve words = refl
entered_is Load words = refl

rows_behind : (mode : Mode) (words : List Text) → subcommand_of application_app (word_of mode ∷ words) ≡ Some (word_of mode, rows_after (settings_of mode) (word_of mode) (before [] None) words)
rows_behind mode words =
    ap (λ (w : Walk). entered ready w.stopped) (word_stops mode words) ∙ entered_is mode words
    ∙ ap (λ (rows : List Row). Some (word_of mode, rows)) (all_rows _ (settings_of mode))

-- ---- words that are no command's

first_cases : (w : Text) → ((mode : Mode) × (w ≡ word_of mode)) ⊎ (subcommand_met (names_of ready) idle w ≡ None)
first_cases w = by_tests (bytes_eq (codes "stdio") w) (bytes_eq (codes "serve") w) (bytes_eq (codes "load") w) refl refl refl
  where
    by_tests : (a b c : Bool) → bytes_eq (codes "stdio") w ≡ a → bytes_eq (codes "serve") w ≡ b → bytes_eq (codes "load") w ≡ c
        → ((mode : Mode) × (w ≡ word_of mode)) ⊎ (subcommand_met (names_of ready) idle w ≡ None)
    by_tests true b c is_a is_b is_c = inl (Stdio, sym (same_text _ _ is_a))
    by_tests false true c is_a is_b is_c = inl (Serve, sym (same_text _ _ is_b))
    by_tests false false true is_a is_b is_c = inl (Load, sym (same_text _ _ is_c))
    by_tests false false false is_a is_b is_c = inr (rw (is_a, is_b, is_c) refl)

abbrev fault_first : Option (Text × Option Text) → Text → Kinds
fault_first read w = or_else (flag_word_fault [] false read w nothing_held)
    (step_fault top 1 (long_or_other [] idle w read nothing_held).0 (long_or_other [] idle w read nothing_held).1)

no_first : (read : Option (Text × Option Text)) (w : Text) → fault_first read w ≡ [] → ⊥
no_first None w none =
    let parts = both_none (flag_word_fault [] false None w nothing_held)
    (step_fault top 1 (long_or_other [] idle w None nothing_held).0 (long_or_other [] idle w None nothing_held).1) none in
    elim (short_cases [] [] [] None idle w (short_of w)) [
      | inl fault ↦ cc
      | inr met ↦ let e = subst (λ (m : Held × Step). step_fault top 1 m.0 m.1 ≡ []) met.1 parts.1 in cc
    ]
no_first (Some (n, v)) w none = cc

unknown_first : (w : Text) (words : List Text) → subcommand_met (names_of ready) idle w ≡ None → bytes_eq w bare ≡ false
    → walk_fault top (names_of ready) (walk_from nothing_held) (w ∷ words) ≡ [] → ⊥
unfolding walk_fault
unknown_first w words unmet other none =
    let parts = both_none (turn_fault top (names_of ready) (walk_from nothing_held) w) _ none in
    let turn : turn_fault top (names_of ready) (walk_from nothing_held) w ≡ fault_first (long_of w) w = rw (unmet, other) refl in
    no_first (long_of w) w (sym turn ∙ parts.0)

-- ---- both ways

-- words that `clap` takes are a command's word and its options, which are what it found
pub record Taken (words : List Text) : Type 0 where
  pub mode : Mode
  pub options : List Given
  pub words_are : words ≡ word_of mode ∷ options_words options
  pub taken : list_all (takes_option mode) options ≡ true
  pub once : are_new [] options ≡ true
  pub rows_are : subcommand_of application_app words ≡ Some (word_of mode, map found_row options)

taken_behind : (mode : Mode) (words : List Text) → has_bare words ≡ false → fault_of application_app (word_of mode ∷ words) ≡ [] → Taken (word_of mode ∷ words)
taken_behind mode words others none =
    let settings = settings_of mode in
    let level_none = both_none (level settings (word_of mode) words) [] (sym (fault_behind mode words) ∙ none) in
    let found = (sound settings (word_of mode) words).0 [] None [] (λ free. refl) others (level_passes settings (word_of mode) words level_none.0) in
    record {
      mode = mode;
      options = found.options;
      words_are = ap (λ rest. word_of mode ∷ rest) found.words_are;
      taken = found.taken;
      once = found.once;
      rows_are = rows_behind mode words ∙ ap (λ (rows : List Row). Some (word_of mode, rows)) found.rows_are;
    }

filled : (k : ErrorKind) (ks : Kinds) → k ∷ ks ≡ [] → ⊥
filled k ks none = cc

no_words : fault_of application_app [] ≡ kind.MissingSubcommand ∷ []
unfolding walk_fault defaults_fault
no_words = refl

pub taken_words : (words : List Text) → has_bare words ≡ false → fault_of application_app words ≡ [] → Taken words
unfolding walk_fault
taken_words [] others none = absurd (filled kind.MissingSubcommand [] (sym no_words ∙ none))
taken_words (w ∷ words) others none =
    let apart = neither (bytes_eq w (45 ∷ 45 ∷ [])) (has_bare words) others in
    elim (first_cases w) [
      | inl known ↦ subst Taken (ap (λ x. x ∷ words) (sym known.1))
          (taken_behind known.0 words apart.1 (ap (λ x. fault_of application_app (x ∷ words)) (sym known.1) ∙ none))
      | inr unmet ↦ absurd (unknown_first w words unmet apart.0 (both_none (walk_fault top (names_of ready) (walk_from nothing_held) (w ∷ words)) _ none).0)
    ]

-- a command's word and options that it takes are found
pub passing : (mode : Mode) (options : List Given) → list_all (takes_option mode) options ≡ true → are_new [] options ≡ true → ArePlain options
    → (fault_of application_app (word_of mode ∷ options_words options) ≡ [])
    × (subcommand_of application_app (word_of mode ∷ options_words options) ≡ Some (word_of mode, map found_row options))
passing mode options taken once values =
    let words : List Text = options_words options in
    let passes = complete (settings_of mode) (word_of mode) options [] None [] refl refl taken once values in (
      fault_behind mode words ∙ ap (λ (k : Kinds). or_else k []) (passes_level (settings_of mode) (word_of mode) words passes.0),
      rows_behind mode words ∙ ap (λ (rows : List Row). Some (word_of mode, rows)) passes.1,
    )
