use Rattle.std.proofs.Common.{◌≡◌, ◌∙◌, ◌⊎◌, Bool, String, Global, List, [], true, false, true≢false, sym, ap, subst, map, string_bytes, codes, ⊎_elim}
use Rattle.std.specs.List.{list_any}
use Rattle.std.specs.Str.{bytes_eq}
use Rattle.clap.specs.Words.{App, HasMatchesOf, IsAmong, HasKind, fault_of, is_simple, is_simple_and_free, kind_of, subcommand_of, subcommand_rows_of}
use Rattle.clap.proofs.WalkLemmas.{list_any-map}
use Rattle.clap.specs.Kinds.{Kinds}
use Rattle.clap.specs.declared.error.Error.{Error}
use Rattle.clap.specs.declared.parser.matches.ArgMatches.{ArgMatches}
use Rattle.clap.specs.declared.error.ErrorKind.TheVariants.{OutOfMemory}
use Rattle.command_words.specs.Application.{application_app}
use Rattle.command_words.specs.Settings.{Text}
use Rattle.command_words.specs.declared.words.WordsEnd.TheVariants.{Refused}
use Rattle.command_words.proofs.Walks.{has_bare}
use Rattle.command_words.proofs.Program.{simple, simple_and_free}
use Rattle.command_words.proofs.Meaning.{only_result, refused_result, stated_result, states_no_fault, states_none_bare}
use Rattle.command_words.proofs.reading.command.Goals as goal

pub returns-then-has_bare_hyphens-clause-refused : goal.returns-then-has_bare_hyphens-clause-refused
returns-then-has_bare_hyphens-clause-refused c refused command states =
    let words : List Text = map string_bytes c.args.words.now in
    let bare : true ≡ has_bare words = sym c.if-has_bare_hyphens.true ∙ c.has_bare_hyphens.ensures ∙ list_any-map (λ (word : Text). bytes_eq word (codes "--")) string_bytes c.args.words.now in
    true≢false (bare ∙ states_none_bare words command states)

-- what was found in the words, of the commands as they were told
found_in : (app : App) (words : List Text) (m : ArgMatches) → app ≡ application_app → HasMatchesOf app words m → subcommand_rows_of m ≡ subcommand_of application_app words
found_in app words m same matches = (matches (ap is_simple same ∙ simple)).1 ∙ ap (λ (a : App). subcommand_of a words) same

no_fault_in : (app : App) (words : List Text) → app ≡ application_app → (is_simple_and_free app ≡ true → fault_of app words ≡ []) → fault_of application_app words ≡ []
no_fault_in app words same none = ap (λ (a : App). fault_of a words) (sym same) ∙ none (ap is_simple_and_free same ∙ simple_and_free)

-- an error that is no want of memory is a fault
fault_in : (app : App) (words : List Text) (e : Error) → app ≡ application_app → (is_simple_and_free app ≡ true → HasKind (fault_of app words) e)
    → (kind_of e ≡ OutOfMemory) ⊎ IsAmong (kind_of e) (fault_of application_app words)
fault_in app words e same has = subst (λ (kinds : Kinds). HasKind kinds e) (ap (λ (a : App). fault_of a words) same) (has (ap is_simple_and_free same ∙ simple_and_free))

none_bare : (texts : List (String Global)) (found : Bool) → found ≡ list_any (λ word. bytes_eq (string_bytes word) (codes "--")) texts → found ≡ false → has_bare (map string_bytes texts) ≡ false
none_bare texts found is none = sym (list_any-map (λ (word : Text). bytes_eq word (codes "--")) string_bytes texts) ∙ sym is ∙ none

pub returns-in-Ok-clause-stated : goal.returns-in-Ok-clause-stated
returns-in-Ok-clause-stated c =
    let words : List Text = map string_bytes c.args.words.now in
    let found = found_in _ words c.in-Ok.matches c.in_ok-application.ensures c.in-Ok.ensures.matches in
    stated_result words c.met.result c.ok_or.result c.ok_or.ensures.ok_part (λ mode rows e. c.met.ensures mode rows (found ∙ e))
    (none_bare c.args.words.now _ c.has_bare_hyphens.ensures c.if-has_bare_hyphens.false) (no_fault_in _ words c.in_ok-application.ensures c.in-Ok.ensures.kinds)

pub returns-in-Ok-clause-no_other : goal.returns-in-Ok-clause-no_other
returns-in-Ok-clause-no_other c =
    let words : List Text = map string_bytes c.args.words.now in
    let found = found_in _ words c.in-Ok.matches c.in_ok-application.ensures c.in-Ok.ensures.matches in
    only_result words c.met.result c.ok_or.result c.ok_or.ensures.ok_part (λ mode rows e. c.met.ensures mode rows (found ∙ e))

pub returns-in-Ok-clause-refused : goal.returns-in-Ok-clause-refused
returns-in-Ok-clause-refused c =
    let words : List Text = map string_bytes c.args.words.now in
    let found = found_in _ words c.in-Ok.matches c.in_ok-application.ensures c.in-Ok.ensures.matches in
    refused_result words c.met.result c.ok_or.result Refused c.ok_or.ensures.ok_part (λ mode rows e. c.met.ensures mode rows (found ∙ e))

pub returns-in-Err-clause-refused : goal.returns-in-Err-clause-refused
returns-in-Err-clause-refused c refused command states =
    let words : List Text = map string_bytes c.args.words.now in
    let none = states_no_fault words command states in
    let why = fault_in _ words c.in-Err.error c.in_ok-application.ensures c.in-Err.ensures.kinds in
    ⊎_elim (λ memory. let e = c.end_of.ensures.1 memory in cc)
    (λ among. subst (λ (kinds : Kinds). IsAmong (kind_of c.in-Err.error) kinds) none among) why
