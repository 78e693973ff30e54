-- What `clap` finds in the words behind a command: the options that they give, or a fault.
use Rattle.std.proofs.Common.{◌≡◌, ◌∙◌, ◌&&◌, ◌||◌, ◌⊎◌, ℕ, Bool, true, false, not, cond, List, [], ◌∷◌, ◌++◌, map, Option, Some, None, refl, sym, ap, ap₂, subst, inl, inr, length, append_assoc}
use Rattle.std.specs.Prelude.{fold, slice_get}
use Rattle.std.specs.List.{list_all, list_any}
use Rattle.std.specs.Option.{option_map_or}
use Rattle.std.specs.Str.{bytes_eq, chars}
use Rattle.std.proofs.lemmas.Option.{none-some, same_Some}
use Rattle.std.proofs.lemmas.List.{append-nil, map-append}
use Rattle.clap.specs.Lexer.{long_of, short_of}
use Rattle.clap.specs.Kinds.{Kinds, or_else}
use Rattle.clap.specs.Walk.{after_step, long_met, Held, Outcome, Row, Rule, Step, Waiting, Walk, after_flag, bundle_step, next, plain, arg_by_long, bundle_met, has_row, idle, long_or_other, option, plain_word, short_or_plain, settled, settled_rows, used, walk_from, walked, used_by_id}
use Rattle.clap.specs.Simple.{Shape}
use Rattle.clap.specs.Faults.{bundle_step_fault, long_fault, flag_word_fault, step_fault, flags_fault, settle_fault, turn_fault, use_fault, walk_fault}
use Rattle.clap.specs.declared.error.ErrorKind.TheVariants as kind
use Rattle.command_words.specs.Settings.{Text, name_of}
use Rattle.command_words.specs.States.{Given, has_option, are_new, hyphened, options_words}
use Rattle.command_words.specs.declared.setting.Setting.{Setting}
use Rattle.command_words.proofs.Spelling.{is_itself, long_spelled, joined_read, apart_read, joined_is_other, apart_is_other}
use Rattle.command_words.proofs.Rules.{built_rule, built_rules, built_shape, found_row, has_row-found, id_found, is_name, long_found, long_missed, named, no_index, no_short, used-new}

abbrev pub bare : Text
bare = 45 ∷ 45 ∷ []

-- the matches so far, and the option whose value they wait for
abbrev pub at : List Row → Option (Text × List Text) → Held
at rows pending = record { rows = rows; pending = pending; skip = 0 }

-- before an option, and behind a name that stands alone
abbrev pub before : List Row → Option (Text × List Text) → Walk
before rows pending = walk_from (at rows pending)

abbrev pub behind : Text → List Row → Walk
behind name rows = record (before rows (Some (name, []))) { waiting = option name }

-- ---- faults

pub both_none : (a b : Kinds) → or_else a b ≡ [] → (a ≡ []) × (b ≡ [])
both_none [] b none = (refl, none)
both_none (k ∷ ks) b none = absurd (cc)

none_else : (a : Kinds) → or_else a [] ≡ [] → a ≡ []
none_else a none = (both_none a [] none).0

pub neither : (a b : Bool) → (a || b) ≡ false → (a ≡ false) × (b ≡ false)
neither true b none = absurd (cc)
neither false b none = (refl, none)

-- one of the words is `--`
abbrev pub has_bare : List Text → Bool
has_bare = list_any (λ w. bytes_eq w bare)

-- a use with one value is at fault where the option was used before
pub is_new : (rows : List Row) (name value : Text) → use_fault false (built_rule name) (value ∷ []) rows ≡ [] → has_row name rows ≡ false
is_new rows name value none = by_test (has_row name rows) none
  where
    by_test : (b : Bool) → or_else (cond (b && true) (kind.ArgumentConflict ∷ []) []) [] ≡ [] → b ≡ false
    by_test true none = absurd (cc)
    by_test false none = refl

pub no_fault : (rows : List Row) (name value : Text) → has_row name rows ≡ false → use_fault false (built_rule name) (value ∷ []) rows ≡ []
no_fault rows name value new = rw new refl

-- a value that is read as it stands
pub record IsPlainText (value : Text) : Type 0 where
  pub long : long_of value ≡ None
  pub short : short_of value ≡ None
  pub other : bytes_eq value bare ≡ false

abbrev pub ArePlain : List Given → Type 0
ArePlain [] = Unit {0}
ArePlain (given ∷ rest) = IsPlainText given.value × ArePlain rest

module _ (settings : List Setting) (word : Text) where
  abbrev pub rules : List Rule
  rules = built_rules settings

  abbrev pub shape : Shape
  shape = built_shape word settings

  -- an option waits for its value
  pub waits_in_vain : (rows : List Row) (name : Text) → is_name settings name ≡ true → settle_fault rules false (at rows (Some (name, []))) ≡ kind.InvalidValue ∷ []
  waits_in_vain rows name is = rw (id_found settings name is) refl

  pub settles : (rows : List Row) (name value : Text) → is_name settings name ≡ true
      → settle_fault rules false (at rows (Some (name, value ∷ []))) ≡ use_fault false (built_rule name) (value ∷ []) rows
  settles rows name value is = rw (id_found settings name is) refl

  pub settled_is : (rows : List Row) (name value : Text) → is_name settings name ≡ true
      → settled_rows rules (Some (name, value ∷ [])) rows ≡ used (built_rule name) (value ∷ []) rows
  settled_is rows name value is = ap (λ a. used_by_id a (value ∷ []) rows) (id_found settings name is)

  module _ (rows : List Row) (pending : Option (Text × List Text)) (waiting : Waiting) (w : Text) where
    abbrev pub here : Held
    here = at rows pending

    -- a word that is no long option is at fault, or is taken as it stands
    abbrev pub IsPlain : Kinds → Held × Step → Type 0
    IsPlain fault met = (fault ≡ kind.UnknownArgument ∷ []) ⊎ ((fault ≡ []) × (met ≡ plain_word rules waiting w here))

    letter_cases : (flags : Text) (faults : Text → ℕ → Held → Kinds) (reads : Text → ℕ → Outcome → Held → Held × Outcome) (letter : Option ℕ)
        → IsPlain (bundle_step_fault rules false letter flags 0 here faults)
        (after_flag rules waiting w (bundle_step rules letter flags 0 plain here reads).0 (bundle_step rules letter flags 0 plain here reads).1)
    letter_cases flags faults reads None = inr (refl, refl)
    letter_cases flags faults reads (Some x) = inl (rw (no_short settings x) refl)

    pub short_cases : (read : Option Text)
        → IsPlain (option_map_or (λ flags. flags_fault rules false (length flags) flags 0 here) read []) (short_or_plain rules waiting w read here)
    unfolding flags_fault bundle_met
    short_cases None = inr (refl, refl)
    short_cases (Some []) = inr (refl, refl)
    short_cases (Some (x ∷ xs)) = letter_cases (x ∷ xs) _ _ (slice_get (chars (x ∷ xs)) 0)

  -- what a word comes to, by what it looks like
  abbrev met_by : Waiting → Option (Text × Option Text) → Text → Held → Held × Step
  met_by waiting read w h = long_or_other rules waiting w read h

  abbrev fault_by : Waiting → Option (Text × Option Text) → Text → Held → Kinds
  fault_by waiting read w h = or_else (flag_word_fault rules false read w h) (step_fault shape 1 (met_by waiting read w h).0 (met_by waiting read w h).1)

  record Joined (rows : List Row) (pending : Option (Text × List Text)) (w : Text) (met : Held × Step) : Type 0 where
    setting : Setting
    value : Text
    spelled : w ≡ hyphened (name_of setting) ++ 61 ∷ value
    known : is_name settings (name_of setting) ≡ true
    free : settle_fault rules false (at rows pending) ≡ []
    new : has_row (name_of setting) (settled_rows rules pending rows) ≡ false
    met_is : met ≡ (at (used (built_rule (name_of setting)) (value ∷ []) (settled_rows rules pending rows)) None, next idle)

  record Apart (rows : List Row) (pending : Option (Text × List Text)) (w : Text) (met : Held × Step) : Type 0 where
    setting : Setting
    spelled : w ≡ hyphened (name_of setting)
    known : is_name settings (name_of setting) ≡ true
    free : settle_fault rules false (at rows pending) ≡ []
    met_is : met ≡ (at (settled_rows rules pending rows) (Some (name_of setting, [])), next (option (name_of setting)))

  -- a word that is no option is a stray one
  stray : (h : Held) (w : Text) → step_fault shape 1 (plain_word rules idle w h).0 (plain_word rules idle w h).1 ≡ [] → ⊥
  stray h w none = let e = rw (no_index settings 1) at none in cc

  abbrev met_long : Waiting → Option Rule → Option Text → Text → Text → Held → Held × Step
  met_long waiting found v n w h = after_flag rules waiting w (long_met rules found v h).0 (long_met rules found v h).1

  abbrev fault_long : Waiting → Option Rule → Option Text → Text → Text → Held → Kinds
  fault_long waiting found v n w h = or_else (long_fault rules false found v h) (step_fault shape 1 (met_long waiting found v n w h).0 (met_long waiting found v n w h).1)

  long_first : (rows : List Row) (pending : Option (Text × List Text)) (w : Text) (v : Option Text) (setting : Setting) → is_name settings (name_of setting) ≡ true
      → ((v ≡ None) × (w ≡ hyphened (name_of setting))) ⊎ ((text : Text) × (v ≡ Some text) × (w ≡ hyphened (name_of setting) ++ 61 ∷ text))
      → fault_long idle (Some (built_rule (name_of setting))) v (name_of setting) w (at rows pending) ≡ []
      → Joined rows pending w (met_long idle (Some (built_rule (name_of setting))) v (name_of setting) w (at rows pending))
      ⊎ Apart rows pending w (met_long idle (Some (built_rule (name_of setting))) v (name_of setting) w (at rows pending))
  long_first rows pending w None setting known (inl e) none =
      inr (record { setting = setting; spelled = e.1; known = known; free = none_else _ none; met_is = refl })
  long_first rows pending w None setting known (inr e) none = absurd (none-some e.0 e.1)
  long_first rows pending w (Some x) setting known (inl e) none = absurd (none-some x (sym e.0))
  long_first rows pending w (Some x) setting known (inr e) none =
      let parts = both_none (settle_fault rules false (at rows pending)) _ (none_else _ none) in
      inl (record {
        setting = setting;
        value = x;
        spelled = e.2 ∙ ap (λ t. hyphened (name_of setting) ++ 61 ∷ t) (sym (same_Some x e.0 e.1));
        known = known;
        free = parts.0;
        new = is_new _ (name_of setting) x parts.1;
        met_is = refl;
      })

  unknown : (waiting : Waiting) (v : Option Text) (n w : Text) (h : Held) → is_name settings n ≡ false → fault_long waiting (arg_by_long rules n) v n w h ≡ [] → ⊥
  unknown waiting v n w h is none = let e = rw (long_missed settings n is) at none in cc

  first_word : (rows : List Row) (pending : Option (Text × List Text)) (w : Text) (read : Option (Text × Option Text)) → long_of w ≡ read
      → fault_by idle read w (at rows pending) ≡ [] → Joined rows pending w (met_by idle read w (at rows pending)) ⊎ Apart rows pending w (met_by idle read w (at rows pending))
  first_word rows pending w None is none =
      let parts = both_none (flag_word_fault rules false None w (at rows pending)) (step_fault shape 1 (met_by idle None w (at rows pending)).0 (met_by idle None w (at rows pending)).1) none in
      elim (short_cases rows pending idle w (short_of w)) [
        | inl fault ↦ absurd (cc)
        | inr met ↦ absurd (stray (at rows pending) w (subst (λ (m : Held × Step). step_fault shape 1 m.0 m.1 ≡ []) met.1 parts.1))
      ]
  first_word rows pending w (Some (n, v)) is none = by_test (is_name settings n) refl
    where
      Result : Option Rule → Type 0
      Result found = Joined rows pending w (met_long idle found v n w (at rows pending)) ⊎ Apart rows pending w (met_long idle found v n w (at rows pending))

      by_name : (setting : Setting) (m : Text) → m ≡ name_of setting → is_name settings m ≡ true → long_of w ≡ Some (m, v)
          → fault_long idle (Some (built_rule m)) v m w (at rows pending) ≡ []
          → Joined rows pending w (met_long idle (Some (built_rule m)) v m w (at rows pending)) ⊎ Apart rows pending w (met_long idle (Some (built_rule m)) v m w (at rows pending))
      by_name setting m same known read none =
          let Claim : Text → Type 0 = λ name. is_name settings name ≡ true → long_of w ≡ Some (name, v)
          → fault_long idle (Some (built_rule name)) v name w (at rows pending) ≡ []
          → Joined rows pending w (met_long idle (Some (built_rule name)) v name w (at rows pending)) ⊎ Apart rows pending w (met_long idle (Some (built_rule name)) v name w (at rows pending)) in
          let claim : Claim (name_of setting) = λ here spelled faults. long_first rows pending w v setting here (long_spelled w (name_of setting) v spelled) faults in
          subst Claim (sym same) claim known read none

      by_test : (b : Bool) → is_name settings n ≡ b → Result (arg_by_long rules n)
      by_test true known =
          let it = named settings n known in
          let found : arg_by_long rules n ≡ Some (built_rule n) = long_found settings n known in
          let faults = subst (λ (f : Option Rule). fault_long idle f v n w (at rows pending) ≡ []) found none in
          subst Result (sym found) (by_name it.0 n it.1 known is faults)
      by_test false known = absurd (unknown idle v n w (at rows pending) known none)

  -- behind a name
  taken_as_value : (rows : List Row) (name w : Text) → is_name settings name ≡ true
      → plain_word rules (option name) w (at rows (Some (name, []))) ≡ (at rows (Some (name, w ∷ [])), next idle)
  taken_as_value rows name w known = rw (id_found settings name known, is_itself name) refl

  second_word : (rows : List Row) (name w : Text) → is_name settings name ≡ true → (read : Option (Text × Option Text))
      → fault_by (option name) read w (at rows (Some (name, []))) ≡ [] → met_by (option name) read w (at rows (Some (name, []))) ≡ (at rows (Some (name, w ∷ [])), next idle)
  second_word rows name w known None none =
      let h : Held = at rows (Some (name, [])) in
      let parts = both_none (flag_word_fault rules false None w h) (step_fault shape 1 (met_by (option name) None w h).0 (met_by (option name) None w h).1) none in
      elim (short_cases rows (Some (name, [])) (option name) w (short_of w)) [
        | inl fault ↦ absurd (cc)
        | inr met ↦ met.1 ∙ taken_as_value rows name w known
      ]
  second_word rows name w known (Some (n, v)) none = absurd (by_test (is_name settings n) refl)
    where
      in_vain : (u : Option Text) → fault_long (option name) (Some (built_rule n)) u n w (at rows (Some (name, []))) ≡ [] → ⊥
      in_vain None faults = let e = rw (waits_in_vain rows name known) at faults in cc
      in_vain (Some x) faults = let e = rw (waits_in_vain rows name known) at faults in cc

      by_test : (b : Bool) → is_name settings n ≡ b → ⊥
      by_test true is = in_vain v (subst (λ (found : Option Rule). fault_long (option name) found v n w (at rows (Some (name, []))) ≡ []) (long_found settings n is) none)
      by_test false is = unknown (option name) v n w (at rows (Some (name, []))) is none

  -- ---- all words

  abbrev pub Passes : Walk → List Text → Type 0
  Passes from words = (walk_fault shape [] from words ≡ []) × (settle_fault rules false (fold (walked rules []) from words).held ≡ [])

  abbrev pub rows_after : Walk → List Text → List Row
  rows_after from words = (settled rules (fold (walked rules []) from words).held).rows

  one_step : (from : Walk) (w : Text) (words : List Text) → Passes from (w ∷ words) → (turn_fault shape [] from w ≡ []) × Passes (walked rules [] from w) words
  unfolding walk_fault
  one_step from w words passes = let parts = both_none (turn_fault shape [] from w) _ passes.0 in (parts.0, (parts.1, passes.1))

  -- the options that words give, after those before, from where they begin
  pub record Found (rows : List Row) (pending : Option (Text × List Text)) (earlier : List Given) (words : List Text) : Type 0 where
    pub options : List Given
    pub words_are : words ≡ options_words options
    pub taken : list_all (λ given. is_name settings (name_of given.setting)) options ≡ true
    pub once : are_new earlier options ≡ true
    pub free : settle_fault rules false (at rows pending) ≡ []
    pub rows_are : rows_after (before rows pending) words ≡ map found_row (earlier ++ options)

  turn_before : (rows : List Row) (pending : Option (Text × List Text)) (w : Text) → bytes_eq w bare ≡ false → turn_fault shape [] (before rows pending) w ≡ fault_by idle (long_of w) w (at rows pending)
  turn_before rows pending w other = rw other refl

  turn_behind : (rows : List Row) (name w : Text) → bytes_eq w bare ≡ false → turn_fault shape [] (behind name rows) w ≡ fault_by (option name) (long_of w) w (at rows (Some (name, [])))
  turn_behind rows name w other = rw other refl

  walk_before : (rows : List Row) (pending : Option (Text × List Text)) (w : Text) → bytes_eq w bare ≡ false
      → walked rules [] (before rows pending) w ≡ after_step rules w (before rows pending) (met_by idle (long_of w) w (at rows pending)).0 (met_by idle (long_of w) w (at rows pending)).1
  unfolding walked
  walk_before rows pending w other = rw other refl

  walk_behind : (rows : List Row) (name w : Text) → bytes_eq w bare ≡ false
      → walked rules [] (behind name rows) w ≡ after_step rules w (behind name rows) (met_by (option name) (long_of w) w (at rows (Some (name, [])))).0 (met_by (option name) (long_of w) w (at rows (Some (name, [])))).1
  unfolding walked
  walk_behind rows name w other = rw other refl

  -- what stands first is an option, and the options behind it are new beside it
  pub record Value (rows : List Row) (setting : Setting) (earlier : List Given) (words : List Text) : Type 0 where
    pub value : Text
    pub options : List Given
    pub words_are : words ≡ value ∷ options_words options
    pub taken : list_all (λ given. is_name settings (name_of given.setting)) options ≡ true
    pub once : are_new earlier (record { setting = setting; value = value; in_one_word = false } ∷ options) ≡ true
    pub rows_are : rows_after (behind (name_of setting) rows) words
        ≡ map found_row (earlier ++ record { setting = setting; value = value; in_one_word = false } ∷ options)

  abbrev pub BeforeOption : List Text → Type 0
  BeforeOption words = (rows : List Row) (pending : Option (Text × List Text)) (earlier : List Given)
      → (settle_fault rules false (at rows pending) ≡ [] → settled_rows rules pending rows ≡ map found_row earlier)
      → has_bare words ≡ false → Passes (before rows pending) words → Found rows pending earlier words

  abbrev pub BehindName : List Text → Type 0
  BehindName words = (rows : List Row) (setting : Setting) (earlier : List Given) → is_name settings (name_of setting) ≡ true
      → rows ≡ map found_row earlier → has_bare words ≡ false → Passes (behind (name_of setting) rows) words → Value rows setting earlier words

  one_more : (given : Given) (rows : List Row) (earlier : List Given) → rows ≡ map found_row earlier → has_row (name_of given.setting) rows ≡ false
      → used (built_rule (name_of given.setting)) (given.value ∷ []) rows ≡ map found_row (earlier ++ given ∷ [])
  one_more given rows earlier same new =
      used-new given rows new ∙ ap (λ xs. xs ++ found_row given ∷ []) same ∙ sym (map-append found_row earlier (given ∷ []))

  still_new : (given : Given) (rows : List Row) (earlier options : List Given) → rows ≡ map found_row earlier → has_row (name_of given.setting) rows ≡ false
      → are_new (earlier ++ given ∷ []) options ≡ true → are_new earlier (given ∷ options) ≡ true
  still_new given rows earlier options same new once =
      let none : has_option (name_of given.setting) earlier ≡ false =
      sym (has_row-found (name_of given.setting) earlier) ∙ ap (has_row (name_of given.setting)) (sym same) ∙ new in
      rw none once

  regrouped : (given : Given) (earlier options : List Given) → map found_row ((earlier ++ given ∷ []) ++ options) ≡ map found_row (earlier ++ given ∷ options)
  regrouped given earlier options = ap (map found_row) (append_assoc earlier (given ∷ []) options)

  found_joined : (w : Text) (words : List Text) (rows : List Row) (pending : Option (Text × List Text)) (earlier : List Given) → BeforeOption words
      → (settle_fault rules false (at rows pending) ≡ [] → settled_rows rules pending rows ≡ map found_row earlier)
      → bytes_eq w bare ≡ false → has_bare words ≡ false → Passes (walked rules [] (before rows pending) w) words
      → Joined rows pending w (met_by idle (long_of w) w (at rows pending)) → Found rows pending earlier (w ∷ words)
  found_joined w words rows pending earlier below same other bare passes j =
      let given : Given = record { setting = j.setting; value = j.value; in_one_word = true } in
      let settled_same = same j.free in
      let after : List Row = used (built_rule (name_of j.setting)) (j.value ∷ []) (settled_rows rules pending rows) in
      let onward : walked rules [] (before rows pending) w ≡ before after None =
      walk_before rows pending w other ∙ ap (λ (m : Held × Step). after_step rules w (before rows pending) m.0 m.1) j.met_is in
      let f = below after None (earlier ++ given ∷ []) (λ free. one_more given _ earlier settled_same j.new) bare (subst (λ from. Passes from words) onward passes) in
      record {
        options = given ∷ f.options;
        words_are = ap₂ (λ x xs. x ∷ xs) j.spelled f.words_are;
        taken = rw j.known f.taken;
        once = still_new given _ earlier f.options settled_same j.new f.once;
        free = j.free;
        rows_are = ap (λ from. rows_after from words) onward ∙ f.rows_are ∙ regrouped given earlier f.options;
      }

  found_apart : (w : Text) (words : List Text) (rows : List Row) (pending : Option (Text × List Text)) (earlier : List Given) → BehindName words
      → (settle_fault rules false (at rows pending) ≡ [] → settled_rows rules pending rows ≡ map found_row earlier)
      → bytes_eq w bare ≡ false → has_bare words ≡ false → Passes (walked rules [] (before rows pending) w) words
      → Apart rows pending w (met_by idle (long_of w) w (at rows pending)) → Found rows pending earlier (w ∷ words)
  found_apart w words rows pending earlier below same other bare passes a =
      let onward : walked rules [] (before rows pending) w ≡ behind (name_of a.setting) (settled_rows rules pending rows) =
      walk_before rows pending w other ∙ ap (λ (m : Held × Step). after_step rules w (before rows pending) m.0 m.1) a.met_is in
      let v = below (settled_rows rules pending rows) a.setting earlier a.known (same a.free) bare (subst (λ from. Passes from words) onward passes) in
      record {
        options = record { setting = a.setting; value = v.value; in_one_word = false } ∷ v.options;
        words_are = ap₂ (λ x xs. x ∷ xs) a.spelled v.words_are;
        taken = rw a.known v.taken;
        once = v.once;
        free = a.free;
        rows_are = ap (λ from. rows_after from words) onward ∙ v.rows_are;
      }

  value_found : (w : Text) (words : List Text) → BeforeOption words → BehindName (w ∷ words)
  value_found w words below rows setting earlier known same none passes =
      let apart = neither (bytes_eq w bare) (has_bare words) none in
      let step = one_step (behind (name_of setting) rows) w words passes in
      let name : Text = name_of setting in
      let given : Given = record { setting = setting; value = w; in_one_word = false } in
      let met = second_word rows name w known (long_of w) (sym (turn_behind rows name w apart.0) ∙ step.0) in
      let onward : walked rules [] (behind name rows) w ≡ before rows (Some (name, w ∷ [])) =
      walk_behind rows name w apart.0 ∙ ap (λ (m : Held × Step). after_step rules w (behind name rows) m.0 m.1) met in
      let is_first : settle_fault rules false (at rows (Some (name, w ∷ []))) ≡ [] → has_row name rows ≡ false =
      λ free. is_new rows name w (sym (settles rows name w known) ∙ free) in
      let f = below rows (Some (name, w ∷ [])) (earlier ++ given ∷ []) (λ free. settled_is rows name w known ∙ one_more given rows earlier same (is_first free)) apart.1
      (subst (λ from. Passes from words) onward step.1) in
      record {
        value = w;
        options = f.options;
        words_are = ap (λ xs. w ∷ xs) f.words_are;
        taken = f.taken;
        once = still_new given rows earlier f.options same (is_first f.free) f.once;
        rows_are = ap (λ from. rows_after from words) onward ∙ f.rows_are ∙ regrouped given earlier f.options;
      }

  option_found : (w : Text) (words : List Text) → BeforeOption words → BehindName words → BeforeOption (w ∷ words)
  option_found w words below behind rows pending earlier same none passes =
      let apart = neither (bytes_eq w bare) (has_bare words) none in
      let step = one_step (before rows pending) w words passes in
      elim (first_word rows pending w (long_of w) refl (sym (turn_before rows pending w apart.0) ∙ step.0)) [
        | inl j ↦ found_joined w words rows pending earlier below same apart.0 apart.1 step.1 j
        | inr a ↦ found_apart w words rows pending earlier behind same apart.0 apart.1 step.1 a
      ]

  -- where the words pass, they are those of options, and these are what is found
  pub sound : (words : List Text) → BeforeOption words × BehindName words
  sound [] = (
    λ rows pending earlier same none passes. record {
      options = [];
      words_are = refl;
      taken = refl;
      once = refl;
      free = passes.1;
      rows_are = same passes.1 ∙ ap (map found_row) (sym (append-nil earlier));
    },
    λ rows setting earlier known same none passes. let vain = waits_in_vain rows (name_of setting) known in absurd (cc),
  )
  sound (w ∷ words) = let below = sound words in (option_found w words below.0 below.1, value_found w words below.0)

  -- ---- options that are given pass

  step_back : (from : Walk) (w : Text) (words : List Text) → turn_fault shape [] from w ≡ [] → Passes (walked rules [] from w) words → Passes from (w ∷ words)
  unfolding walk_fault
  step_back from w words none passes = (ap (λ k. or_else k (walk_fault shape [] (walked rules [] from w) words)) none ∙ passes.0, passes.1)

  abbrev PassesTo : Walk → List Text → List Given → Type 0
  PassesTo from words all = Passes from words × (rows_after from words ≡ map found_row all)

  abbrev Completes : List Given → Type 0
  Completes options = (rows : List Row) (pending : Option (Text × List Text)) (earlier : List Given) → settle_fault rules false (at rows pending) ≡ []
      → settled_rows rules pending rows ≡ map found_row earlier → list_all (λ given. is_name settings (name_of given.setting)) options ≡ true
      → are_new earlier options ≡ true → ArePlain options → PassesTo (before rows pending) (options_words options) (earlier ++ options)

  new_row : (given : Given) (rows : List Row) (earlier : List Given) → rows ≡ map found_row earlier → has_option (name_of given.setting) earlier ≡ false → has_row (name_of given.setting) rows ≡ false
  new_row given rows earlier same none = ap (has_row (name_of given.setting)) same ∙ has_row-found (name_of given.setting) earlier ∙ none

  joined_passes : (given : Given) (rest : List Given) (rows : List Row) (pending : Option (Text × List Text)) (earlier : List Given) → Completes rest
      → settle_fault rules false (at rows pending) ≡ [] → settled_rows rules pending rows ≡ map found_row earlier → is_name settings (name_of given.setting) ≡ true
      → has_option (name_of given.setting) earlier ≡ false → list_all (λ other. is_name settings (name_of other.setting)) rest ≡ true
      → are_new (earlier ++ given ∷ []) rest ≡ true → ArePlain rest
      → PassesTo (before rows pending) ((hyphened (name_of given.setting) ++ 61 ∷ given.value) ∷ options_words rest) (earlier ++ given ∷ rest)
  joined_passes given rest rows pending earlier below free same known none taken once plain_rest =
      let name : Text = name_of given.setting in
      let w : Text = hyphened name ++ 61 ∷ given.value in
      let h : Held = at rows pending in
      let now : List Row = settled_rows rules pending rows in
      let after : List Row = used (built_rule name) (given.value ∷ []) now in
      let new = new_row given now earlier same none in
      let other = joined_is_other given.setting given.value in
      let read : long_of w ≡ Some (name, Some given.value) = joined_read given.setting given.value in
      let found : arg_by_long rules name ≡ Some (built_rule name) = long_found settings name known in
      let fault : fault_by idle (long_of w) w h ≡ [] =
      ap (λ (r : Option (Text × Option Text)). fault_by idle r w h) read
      ∙ ap (λ (f : Option Rule). fault_long idle f (Some given.value) name w h) found
      ∙ ap₂ (λ (a b : Kinds). or_else (or_else a b) []) free (no_fault now name given.value new) in
      let met : met_by idle (long_of w) w h ≡ (at after None, next idle) =
      ap (λ (r : Option (Text × Option Text)). met_by idle r w h) read ∙ ap (λ (f : Option Rule). met_long idle f (Some given.value) name w h) found in
      let onward : walked rules [] (before rows pending) w ≡ before after None =
      walk_before rows pending w other ∙ ap (λ (m : Held × Step). after_step rules w (before rows pending) m.0 m.1) met in
      let on = below after None (earlier ++ given ∷ []) refl (one_more given now earlier same new) taken once plain_rest in (
        step_back (before rows pending) w (options_words rest) (turn_before rows pending w other ∙ fault) (subst (λ from. Passes from (options_words rest)) (sym onward) on.0),
        ap (λ from. rows_after from (options_words rest)) onward ∙ on.1 ∙ regrouped given earlier rest,
      )

  apart_passes : (given : Given) (rest : List Given) (rows : List Row) (pending : Option (Text × List Text)) (earlier : List Given) → Completes rest
      → settle_fault rules false (at rows pending) ≡ [] → settled_rows rules pending rows ≡ map found_row earlier → is_name settings (name_of given.setting) ≡ true
      → has_option (name_of given.setting) earlier ≡ false → list_all (λ other. is_name settings (name_of other.setting)) rest ≡ true
      → are_new (earlier ++ given ∷ []) rest ≡ true → IsPlainText given.value → ArePlain rest
      → PassesTo (before rows pending) (hyphened (name_of given.setting) ∷ given.value ∷ options_words rest) (earlier ++ given ∷ rest)
  apart_passes given rest rows pending earlier below free same known none taken once plain_value plain_rest =
      let name : Text = name_of given.setting in
      let w : Text = hyphened name in
      let v : Text = given.value in
      let h : Held = at rows pending in
      let now : List Row = settled_rows rules pending rows in
      let waits_here : Held = at now (Some (name, [])) in
      let new = new_row given now earlier same none in
      let other = apart_is_other given.setting in
      let read : long_of w ≡ Some (name, None) = apart_read given.setting in
      let found : arg_by_long rules name ≡ Some (built_rule name) = long_found settings name known in
      let fault : fault_by idle (long_of w) w h ≡ [] =
      ap (λ (r : Option (Text × Option Text)). fault_by idle r w h) read
      ∙ ap (λ (f : Option Rule). fault_long idle f None name w h) found
      ∙ ap (λ (a : Kinds). or_else a []) free in
      let met : met_by idle (long_of w) w h ≡ (waits_here, next (option name)) =
      ap (λ (r : Option (Text × Option Text)). met_by idle r w h) read ∙ ap (λ (f : Option Rule). met_long idle f None name w h) found in
      let onward : walked rules [] (before rows pending) w ≡ behind name now =
      walk_before rows pending w other ∙ ap (λ (m : Held × Step). after_step rules w (before rows pending) m.0 m.1) met in
      let value_met : met_by (option name) (long_of v) v waits_here ≡ (at now (Some (name, v ∷ [])), next idle) =
      ap (λ (r : Option (Text × Option Text)). met_by (option name) r v waits_here) plain_value.long
      ∙ ap (λ (r : Option Text). short_or_plain rules (option name) v r waits_here) plain_value.short
      ∙ taken_as_value now name v known in
      let value_fault : fault_by (option name) (long_of v) v waits_here ≡ [] =
      ap₂ (λ (a : Kinds) (m : Held × Step). or_else a (step_fault shape 1 m.0 m.1))
      (ap (λ (r : Option (Text × Option Text)). flag_word_fault rules false r v waits_here) plain_value.long
      ∙ ap (λ (r : Option Text). option_map_or (λ flags. flags_fault rules false (length flags) flags 0 waits_here) r []) plain_value.short)
      value_met in
      let value_onward : walked rules [] (behind name now) v ≡ before now (Some (name, v ∷ [])) =
      walk_behind now name v plain_value.other ∙ ap (λ (m : Held × Step). after_step rules v (behind name now) m.0 m.1) value_met in
      let on = below now (Some (name, v ∷ [])) (earlier ++ given ∷ []) (settles now name v known ∙ no_fault now name v new)
      (settled_is now name v known ∙ one_more given now earlier same new) taken once plain_rest in
      let behind_passes : Passes (behind name now) (v ∷ options_words rest) =
      step_back (behind name now) v (options_words rest) (turn_behind now name v plain_value.other ∙ value_fault) (subst (λ from. Passes from (options_words rest)) (sym value_onward) on.0) in (
        step_back (before rows pending) w (v ∷ options_words rest) (turn_before rows pending w other ∙ fault) (subst (λ from. Passes from (v ∷ options_words rest)) (sym onward) behind_passes),
        ap (λ from. rows_after from (v ∷ options_words rest)) onward ∙ ap (λ from. rows_after from (options_words rest)) value_onward ∙ on.1 ∙ regrouped given earlier rest,
      )

  both_true : (a b : Bool) → (a && b) ≡ true → (a ≡ true) × (b ≡ true)
  both_true true b is = (refl, is)
  both_true false b is = absurd (cc)

  is_not : (a : Bool) → not a ≡ true → a ≡ false
  is_not true is = absurd (cc)
  is_not false is = refl

  -- options that the command takes, none of them twice, pass and are found
  pub complete : (options : List Given) → Completes options
  unfolding walk_fault
  complete [] rows pending earlier free same taken once values = ((refl, free), same ∙ ap (map found_row) (sym (append-nil earlier)))
  complete (given ∷ rest) rows pending earlier free same taken once values =
      let takes = both_true (is_name settings (name_of given.setting)) _ taken in
      let new = both_true (not (has_option (name_of given.setting) earlier)) _ once in
      let none = is_not _ new.0 in
      let Claim : List Text → Type 0 = λ words. PassesTo (before rows pending) words (earlier ++ given ∷ rest) in
      let joined : Claim ((hyphened (name_of given.setting) ++ 61 ∷ given.value) ∷ options_words rest) =
      joined_passes given rest rows pending earlier (complete rest) free same takes.0 none takes.1 new.1 values.1 in
      let apart : Claim (hyphened (name_of given.setting) ∷ given.value ∷ options_words rest) =
      apart_passes given rest rows pending earlier (complete rest) free same takes.0 none takes.1 new.1 values.0 values.1 in
      by_form given.in_one_word given rest Claim joined apart
    where
      by_form : (b : Bool) (given : Given) (rest : List Given) (Claim : List Text → Type 0) → Claim ((hyphened (name_of given.setting) ++ 61 ∷ given.value) ∷ options_words rest)
          → Claim (hyphened (name_of given.setting) ∷ given.value ∷ options_words rest)
          → Claim (cond b ((hyphened (name_of given.setting) ++ 61 ∷ given.value) ∷ []) (hyphened (name_of given.setting) ∷ given.value ∷ []) ++ options_words rest)
      by_form true given rest Claim joined apart = joined
      by_form false given rest Claim joined apart = apart
