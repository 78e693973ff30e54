-- The options of a command as `clap` looks them up, once it has built the command.
use Rattle.std.proofs.Common.{◌≡◌, ◌∙◌, ◌||◌, ℕ, Bool, true, false, cond, List, [], ◌∷◌, ◌++◌, map, Option, Some, None, refl, sym, ap}
use Rattle.std.specs.Prelude.{find, option_map, option_and_then, slice_get}
use Rattle.std.specs.List.{list_any}
use Rattle.std.specs.Str.{bytes_eq}
use Rattle.std.proofs.lemmas.List.{append-nil}
use Rattle.clap.proofs.WalkLemmas.{find-map}
use Rattle.clap.specs.Walk.{Row, Rule, arg_by_id, arg_by_index, arg_by_long, arg_by_short, at_row, first_of, has_row, more_values, used, with_values, without}
use Rattle.clap.specs.Simple.{Shape, new_rule, new_shape}
use Rattle.clap.specs.declared.builder.ArgAction.TheVariants.{Set}
use Rattle.clap.specs.declared.builder.value_parser.ValueParser.TheVariants as vp
use Rattle.clap.specs.declared.builder.value_parser.Reading.TheVariants.{AsWritten}
use Rattle.clap.specs.declared.parser.matches.ValueSource.TheVariants.{CommandLine}
use Rattle.command_words.specs.Settings.{Text, name_of}
use Rattle.command_words.specs.States.{Given, has_option, given_text}
use Rattle.command_words.specs.declared.setting.Setting.{Setting}
use Rattle.command_words.proofs.Spelling.{same_text}

abbrev pub built_rule : Text → Rule
built_rule name = record (new_rule name) {
  long = Some name;
  action = Some Set;
  range = Some (record { start_inclusive = 1; end_inclusive = 1 });
  parser = Some vp.String;
}

abbrev pub built_rules : List Setting → List Rule
built_rules settings = map (λ setting. built_rule (name_of setting)) settings

abbrev pub built_shape : Text → List Setting → Shape
built_shape word settings = record (new_shape word) {
  rules = built_rules settings;
  no_binary_name = true;
  disable_help_flag = true;
  disable_help_subcommand = true;
  disable_version_flag = true;
  is_built = true;
}

-- one of the settings has this name
abbrev pub is_name : List Setting → Text → Bool
is_name settings name = list_any (λ setting. bytes_eq (name_of setting) name) settings

module _ (p : Rule → Bool) (name : Text) (by_name : (other : Text) → p (built_rule other) ≡ bytes_eq other name) where
  found_by : (settings : List Setting) → is_name settings name ≡ true → find p (built_rules settings) ≡ Some (built_rule name)
  found_by [] is = absurd (cc)
  found_by (setting ∷ rest) is = by_test (bytes_eq (name_of setting) name) refl is (found_by rest)
    where
      by_test : (b : Bool) → bytes_eq (name_of setting) name ≡ b → (b || is_name rest name) ≡ true
          → (is_name rest name ≡ true → find p (built_rules rest) ≡ Some (built_rule name)) → find p (built_rules (setting ∷ rest)) ≡ Some (built_rule name)
      by_test true same is next = rw (by_name (name_of setting), same) (ap (λ n. Some (built_rule n)) (same_text _ _ same))
      by_test false same is next = rw (by_name (name_of setting), same) (next is)

  missed_by : (settings : List Setting) → is_name settings name ≡ false → find p (built_rules settings) ≡ None
  missed_by [] is = refl
  missed_by (setting ∷ rest) is = by_test (bytes_eq (name_of setting) name) refl is (missed_by rest)
    where
      by_test : (b : Bool) → bytes_eq (name_of setting) name ≡ b → (b || is_name rest name) ≡ false
          → (is_name rest name ≡ false → find p (built_rules rest) ≡ None) → find p (built_rules (setting ∷ rest)) ≡ None
      by_test true same is next = absurd (cc)
      by_test false same is next = rw (by_name (name_of setting), same) (next is)

or_false : (b : Bool) → (b || false) ≡ b
or_false true = refl
or_false false = refl

pub long_found : (settings : List Setting) (name : Text) → is_name settings name ≡ true → arg_by_long (built_rules settings) name ≡ Some (built_rule name)
long_found settings name = found_by _ name (λ other. or_false (bytes_eq other name)) settings

pub long_missed : (settings : List Setting) (name : Text) → is_name settings name ≡ false → arg_by_long (built_rules settings) name ≡ None
long_missed settings name = missed_by _ name (λ other. or_false (bytes_eq other name)) settings

pub id_found : (settings : List Setting) (name : Text) → is_name settings name ≡ true → arg_by_id (built_rules settings) name ≡ Some (built_rule name)
id_found settings name = found_by _ name (λ other. refl) settings

pub no_short : (settings : List Setting) (letter : ℕ) → arg_by_short (built_rules settings) letter ≡ None
no_short [] letter = refl
no_short (setting ∷ rest) letter = no_short rest letter

pub no_index : (settings : List Setting) (place : ℕ) → arg_by_index (built_rules settings) place ≡ None
no_index [] place = refl
no_index (setting ∷ rest) place = no_index rest place

-- a name is that of one of the settings
pub named : (settings : List Setting) (name : Text) → is_name settings name ≡ true → (setting : Setting) × (name ≡ name_of setting)
named [] name is = absurd (cc)
named (setting ∷ rest) name is = by_test (bytes_eq (name_of setting) name) refl is (named rest name)
  where
    by_test : (b : Bool) → bytes_eq (name_of setting) name ≡ b → (b || is_name rest name) ≡ true
        → (is_name rest name ≡ true → (other : Setting) × (name ≡ name_of other)) → (other : Setting) × (name ≡ name_of other)
    by_test true same is next = (setting, sym (same_text _ _ same))
    by_test false same is next = next is

-- ---- what was found for options

abbrev pub found_row : Given → Row
found_row given = record {
  id = name_of given.setting;
  values = given.value ∷ [];
  count = None;
  source = Some CommandLine;
  reading = AsWritten;
}

pub has_row-found : (name : Text) (options : List Given) → has_row name (map found_row options) ≡ has_option name options
has_row-found name [] = refl
has_row-found name (given ∷ rest) = ap (λ b. bytes_eq (name_of given.setting) name || b) (has_row-found name rest)

pub first_of-found : (options : List Given) (setting : Setting) → first_of (name_of setting) (map found_row options) ≡ given_text options setting
first_of-found options setting =
    ap (option_and_then (λ (r : Row). slice_get r.values 0)) (sym (find-map (λ (r : Row). bytes_eq r.id (name_of setting)) found_row options))
    ∙ of (find (λ given. bytes_eq (name_of given.setting) (name_of setting)) options)
  where
    of : (o : Option Given) → option_and_then (λ (r : Row). slice_get r.values 0) (option_map found_row o) ≡ option_map (λ given. given.value) o
    of None = refl
    of (Some given) = refl

at_row-new : (name : Text) (change : Row → List Row) (missing rows : List Row) → has_row name rows ≡ false → at_row name change missing rows ≡ rows ++ missing
at_row-new name change missing [] new = refl
at_row-new name change missing (row ∷ rest) new = by_test (bytes_eq row.id name) new (at_row-new name change missing rest)
  where
    by_test : (b : Bool) → (b || has_row name rest) ≡ false → (has_row name rest ≡ false → at_row name change missing rest ≡ rest ++ missing)
        → cond b (change row ++ rest) (row ∷ at_row name change missing rest) ≡ row ∷ (rest ++ missing)
    by_test true new next = absurd (cc)
    by_test false new next = ap (λ rows. row ∷ rows) (next new)

-- a first use adds a row
pub used-new : (given : Given) (rows : List Row) → has_row (name_of given.setting) rows ≡ false
    → used (built_rule (name_of given.setting)) (given.value ∷ []) rows ≡ rows ++ found_row given ∷ []
used-new given rows new =
    let name = name_of given.setting in
    let same : without name rows ≡ rows = at_row-new name (λ _. []) [] rows new ∙ append-nil rows in
    ap (with_values name AsWritten CommandLine (given.value ∷ [])) same ∙ at_row-new name (more_values CommandLine (given.value ∷ [])) _ rows new
