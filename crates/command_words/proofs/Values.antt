-- Words that state a command have values that are numbers, and none of them is `--`.
use Rattle.std.proofs.Common.{◌≡◌, ◌∙◌, ◌&&◌, ◌||◌, ◌==◌, ℕ, Bool, true, false, not, cond, List, [], ◌∷◌, ◌++◌, Option, Some, None, refl, sym, ap, ap₂, arith, append_assoc}
use Rattle.std.specs.Prelude.{find, option_map, option_and_then}
use Rattle.std.specs.List.{list_all, list_any}
use Rattle.std.specs.Str.{bytes_eq}
use Rattle.std.specs.Str.Parse.{digits_value}
use Rattle.std.proofs.lemmas.Option.{none-some}
use Rattle.std.proofs.lemmas.Grind.{common_steps}
use Rattle.command_words.specs.Settings.{Text, is_number, name_of, number_of, in_range, setting_value}
use Rattle.command_words.specs.Modes.{command_of, settings_of, word_of}
use Rattle.command_words.specs.States.{Given, are_new, given_text, has_option, hyphened, options_words, takes_option}
use Rattle.command_words.specs.declared.mode.Mode.{Mode}
use Rattle.command_words.specs.declared.mode.Mode.TheVariants as mode
use Rattle.command_words.specs.declared.words.Command.TheVariants as command
use Rattle.command_words.specs.declared.setting.Setting.{Setting}
use Rattle.command_words.specs.declared.setting.Setting.TheVariants.{Port, Partitions, Workers, Start, Clients, Count}
use Rattle.command_words.specs.declared.words.Command.{Command}
use Rattle.command_words.proofs.Spelling.{apart_is_other, inside, is_itself, joined_is_other}
use Rattle.command_words.proofs.Rules.{is_name}
use Rattle.command_words.proofs.Walks.{ArePlain, IsPlainText, has_bare}

-- a number is read as it stands
digit_plain : (d : ℕ) (ds : Text) → (d == 45) ≡ false → IsPlainText (d ∷ ds)
digit_plain d ds no_minus = record { long = rw no_minus refl; short = rw no_minus refl; other = rw no_minus refl }

pub number_plain : (value : Text) → is_number value ≡ true → IsPlainText value
number_plain [] is = absurd (cc)
number_plain (d ∷ ds) is = digit_plain d ds (grind (arith, common_steps))

held : {A B : Type 0} (f : A → B) (o : Option A) (y : B) → option_map f o ≡ Some y → (x : A) × (o ≡ Some x)
held f None y e = absurd (none-some y e)
held f (Some x) y e = (x, refl)

-- what some command holds is set
abbrev IsSet : Option ℕ → Type 0
IsSet o = (n : ℕ) × (o ≡ Some n)

serve_set : (value : Setting → Option ℕ) (done : Command) → command_of mode.Serve value ≡ Some done → IsSet (value Port) × IsSet (value Partitions) × IsSet (value Workers)
serve_set value done e =
    let port = inside (λ (port : ℕ). option_and_then (λ partitions. option_map (λ workers. command.Serve port partitions workers) (value Workers)) (value Partitions)) (value Port) done e in
    let partitions = inside (λ (partitions : ℕ). option_map (λ workers. command.Serve port.0 partitions workers) (value Workers)) (value Partitions) done port.2 in
    ((port.0, port.1), (partitions.0, partitions.1), held (λ (workers : ℕ). command.Serve port.0 partitions.0 workers) (value Workers) done partitions.2)

load_set : (value : Setting → Option ℕ) (done : Command) → command_of mode.Load value ≡ Some done → IsSet (value Start) × IsSet (value Clients) × IsSet (value Count) × IsSet (value Partitions)
load_set value done e =
    let start = inside (λ (start : ℕ). option_and_then (λ clients. option_and_then (λ count. option_map (λ partitions. command.Load start clients count partitions)
    (value Partitions)) (value Count)) (value Clients)) (value Start) done e in
    let clients = inside (λ (clients : ℕ). option_and_then (λ count. option_map (λ partitions. command.Load start.0 clients count partitions)
    (value Partitions)) (value Count)) (value Clients) done start.2 in
    let count = inside (λ (count : ℕ). option_map (λ partitions. command.Load start.0 clients.0 count partitions) (value Partitions)) (value Count) done clients.2 in (
      (start.0, start.1),
      (clients.0, clients.1),
      (count.0, count.1),
      held (λ (partitions : ℕ). command.Load start.0 clients.0 count.0 partitions) (value Partitions) done count.2,
    )

is_set : (m : Mode) (value : Setting → Option ℕ) (done : Command) → command_of m value ≡ Some done
    → (setting : Setting) → is_name (settings_of m) (name_of setting) ≡ true → IsSet (value setting)
is_set mode.Stdio value done e Partitions is = held command.Stdio (value Partitions) done e
is_set mode.Stdio value done e _ is = absurd (cc)
is_set mode.Serve value done e Port is = (serve_set value done e).0
is_set mode.Serve value done e Partitions is = (serve_set value done e).1
is_set mode.Serve value done e Workers is = (serve_set value done e).2
is_set mode.Serve value done e _ is = absurd (cc)
is_set mode.Load value done e Start is = (load_set value done e).0
is_set mode.Load value done e Clients is = (load_set value done e).1
is_set mode.Load value done e Count is = (load_set value done e).2
is_set mode.Load value done e Partitions is = (load_set value done e).3
is_set mode.Load value done e _ is = absurd (cc)

-- a value that sets something is a number
number_given : (setting : Setting) (text : Text) (n : ℕ) → setting_value setting (Some text) ≡ Some n → is_number text ≡ true
number_given setting text n e =
    let given = inside (in_range setting) (number_of text) n e in
    by_test (digits_value 10 text) given.0 (is_number text) given.1
  where
    by_test : (m n : ℕ) (b : Bool) → cond b (Some m) None ≡ Some n → b ≡ true
    by_test m n true e = refl
    by_test m n false e = absurd (cc)

find_past : {X : Type 0} (p : X → Bool) (xs ys : List X) → list_any p xs ≡ false → find p (xs ++ ys) ≡ find p ys
find_past p [] ys none = refl
find_past p (x ∷ xs) ys none = by_test (p x) none (find_past p xs ys)
  where
    by_test : (b : Bool) → (b || list_any p xs) ≡ false → (list_any p xs ≡ false → find p (xs ++ ys) ≡ find p ys) → cond b (Some x) (find p (xs ++ ys)) ≡ find p ys
    by_test true none next = absurd (cc)
    by_test false none next = next none

both_true : (a b : Bool) → (a && b) ≡ true → (a ≡ true) × (b ≡ true)
both_true true b is = (refl, is)
both_true false b is = absurd (cc)

is_not : (a : Bool) → not a ≡ true → a ≡ false
is_not true is = absurd (cc)
is_not false is = refl

-- the first option of a name is the only one
own_value : (earlier : List Given) (given : Given) (rest : List Given) → has_option (name_of given.setting) earlier ≡ false
    → given_text (earlier ++ given ∷ rest) given.setting ≡ Some given.value
own_value earlier given rest none =
    ap (option_map (λ (g : Given). g.value)) (find_past (λ (g : Given). bytes_eq (name_of g.setting) (name_of given.setting)) earlier (given ∷ rest) none)
    ∙ rw (is_itself (name_of given.setting)) refl

plain_from : (m : Mode) (whole : List Given) (done : Command) → command_of m (λ setting. setting_value setting (given_text whole setting)) ≡ Some done
    → (earlier options : List Given) → whole ≡ earlier ++ options → are_new earlier options ≡ true → list_all (takes_option m) options ≡ true → ArePlain options
plain_from m whole done e earlier [] same once taken = tt
plain_from m whole done e earlier (given ∷ rest) same once taken =
    let new = both_true (not (has_option (name_of given.setting) earlier)) _ once in
    let takes = both_true (takes_option m given) _ taken in
    let set = is_set m _ done e given.setting takes.0 in
    let text : given_text whole given.setting ≡ Some given.value =
    ap (λ options. given_text options given.setting) same ∙ own_value earlier given rest (is_not _ new.0) in
    let number = number_given given.setting given.value set.0 (ap (setting_value given.setting) (sym text) ∙ set.1) in
    (number_plain given.value number, plain_from m whole done e (earlier ++ given ∷ []) rest (same ∙ sym (append_assoc earlier (given ∷ []) rest)) new.1 takes.1)

pub plain_values : (m : Mode) (options : List Given) (done : Command) → command_of m (λ setting. setting_value setting (given_text options setting)) ≡ Some done
    → are_new [] options ≡ true → list_all (takes_option m) options ≡ true → ArePlain options
plain_values m options done e once taken = plain_from m options done e [] options refl once taken

both_false : (a b : Bool) → a ≡ false → b ≡ false → (a || b) ≡ false
both_false a b no_a no_b = ap₂ (λ x y. x || y) no_a no_b

options_bare : (options : List Given) → ArePlain options → has_bare (options_words options) ≡ false
options_bare [] plain_all = refl
options_bare (given ∷ rest) plain_all = by_form given.in_one_word given rest plain_all.0 (options_bare rest plain_all.1)
  where
    by_form : (b : Bool) (given : Given) (rest : List Given) → IsPlainText given.value → has_bare (options_words rest) ≡ false
        → has_bare (cond b ((hyphened (name_of given.setting) ++ 61 ∷ given.value) ∷ []) (hyphened (name_of given.setting) ∷ given.value ∷ []) ++ options_words rest) ≡ false
    by_form true given rest value none = both_false _ _ (joined_is_other given.setting given.value) none
    by_form false given rest value none = both_false _ _ (apart_is_other given.setting) (both_false _ _ value.other none)

pub none_bare : (m : Mode) (options : List Given) → ArePlain options → has_bare (word_of m ∷ options_words options) ≡ false
none_bare mode.Stdio options values = options_bare options values
none_bare mode.Serve options values = options_bare options values
none_bare mode.Load options values = options_bare options values
