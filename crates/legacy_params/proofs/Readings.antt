-- What bytes read as that spell the texts of legacy parameters.
use Rattle.std.proofs.Common.{◌≡◌, ◌≢◌, ◌≤◌, ◌+◌, ℕ, List, [], ◌∷◌, length, map, Bool, true, false, Option, None, Some, option_map, Ok, refl, sym, ap, subst, arith, AllPairs}
use Rattle.std.specs.Option.{option_to_list, is_some}
use Rattle.base_types.specs.declared.path.DocPath.{DocPath}
use Rattle.expr_words.specs.declared.given.Given.{Given}
use Rattle.expr_words.specs.declared.parse_end.Clause.{Clause}
use Rattle.expr_words.specs.declared.parse_end.ParseEnd.{ParseEnd}
use Rattle.expr_words.specs.declared.parse_end.ParseEnd.TheVariants.{ClauseTwice}
use Rattle.expr_words.specs.Trees.{Tree}
use Rattle.expr_words.specs.Words.{Word}
use Rattle.expr_words.specs.Grammar.{IsCondition, ArePaths, IsUpdate, most_levels}
use Rattle.expr_parse.specs.Overlaps.{HaveOverlap}
use Rattle.expr_parse.specs.UpdateTree.{UpdateTree, operators}
use Rattle.expr_parse.specs.Reading.{most_bytes, Reads, lexed, spelled, fit, NoFault, PathsFault, TwiceFault, ClausesFault, ReadsCondition, ReadsPaths, ReadsUpdate, UpdateFault}
use Rattle.legacy_params.specs.declared.part.LegacyTest.{LegacyTest}
use Rattle.legacy_params.specs.declared.part.LegacyChange.{LegacyChange}
use Rattle.legacy_params.specs.declared.operator.Action.{Action}
use Rattle.legacy_params.specs.declared.operator.Action.TheVariants.{Put, Add, Delete}
use Rattle.legacy_params.specs.Changes.{done}
use Rattle.legacy_params.specs.Faults.{faults_of}
use Rattle.legacy_params.specs.Spelled.{IsSpelled}
use Rattle.legacy_params.specs.Sentences.{SpellsUpdate}
use Rattle.legacy_params.specs.Texts.{condition_text, update_text, paths_text}
use Rattle.legacy_params.specs.Trees.{path_to, condition_of, done_at, followed, changed, update_of}
use Rattle.legacy_params.proofs.Sentences.{condition_says, update_says, paths_say}
use Rattle.legacy_params.proofs.Apart.{changes_apart}

-- what spells a sentence reads as its tree, if that has no fault of its own
reads_it : {T : Type 0} (Spells : List Word → T → Type 0) (Early Late : T → Option ParseEnd → Type 0) (given : Given) (text : List ℕ) (ws : List Word) (t : T)
    → IsSpelled given text ws → length text ≤ most_bytes → Spells ws t → Early t None → Late t None → Reads Spells Early Late given text (Ok t)
reads_it Spells Early Late given text ws t is short says early late =
    lexed short is.are_tokens
    (spelled (subst (λ (us : List Word). Spells us t) (sym is.meant) says) (fit early is.all_given late))

pub condition_reads : (given : Given) (text : List ℕ) (any for_keys : Bool) (first : ℕ) (x : LegacyTest) (xs : List LegacyTest) (t : Tree)
    → IsSpelled given text (condition_text any first (x ∷ xs)) → length text ≤ most_bytes → faults_of for_keys (x ∷ xs) ≡ None
    → condition_of any first (x ∷ xs) ≡ Some t → ReadsCondition given text (Ok t)
condition_reads given text any for_keys first x xs t is short clear made =
    reads_it (IsCondition most_levels) NoFault NoFault given text (condition_text any first (x ∷ xs)) t is short
    (condition_says most_levels first any for_keys x xs t (omega arith) clear made) refl refl

-- values alone have no operators
none_behind : (a : Action) (b : Bool) (path : DocPath) (place : ℕ) (v : UpdateTree) → operators v ≡ 0 → operators (followed (done_at a path place b) v) ≡ 0
none_behind Put b path place v is = is
none_behind Add b path place v is = is
none_behind Delete false path place v is = is
none_behind Delete true path place v is = is

no_operators : (first : ℕ) (cs : List LegacyChange) → operators (changed first cs) ≡ 0
no_operators first [] = refl
no_operators first (c ∷ cs) =
    none_behind (done c) (is_some c.value) (path_to c.name) first (changed (first + length (option_to_list c.value)) cs)
    (no_operators (first + length (option_to_list c.value)) cs)

pub update_reads : (given : Given) (text : List ℕ) (c : LegacyChange) (cs : List LegacyChange) (u : UpdateTree)
    → AllPairs (λ one other. one.name ≢ other.name) (c ∷ cs) → IsSpelled given text (update_text 0 (c ∷ cs)) → length text ≤ most_bytes
    → update_of 0 (c ∷ cs) ≡ Some u → ReadsUpdate given text (Ok u)
update_reads given text c cs u pairs is short made =
    let v : UpdateTree = changed 0 (c ∷ cs) in
    let says : SpellsUpdate most_levels (update_text 0 (c ∷ cs)) v = update_says most_levels 0 c cs v refl in
    let few : operators v ≤ 300 = omega (arith, no_operators 0 (c ∷ cs)) in
    let apart : UpdateFault v None = (few, changes_apart (c ∷ cs) v pairs refl) in
    let same : v ≡ u = cc in
    subst (λ (w : UpdateTree). ReadsUpdate given text (Ok w)) same (
      says.clauses,
      reads_it (IsUpdate most_levels) TwiceFault ClausesFault given text (update_text 0 (c ∷ cs)) says.clauses is short says.sentence
          (ap (option_map (λ (x : Clause). ClauseTwice x)) (sym says.once))
          (subst (λ (w : UpdateTree). UpdateFault w None) (sym says.update) apart),
      says.update,
    )

pub paths_read : (given : Given) (text name : List ℕ) (names : List (List ℕ)) → (HaveOverlap (map path_to (name ∷ names)) → ⊥)
    → IsSpelled given text (paths_text (name ∷ names)) → length text ≤ most_bytes → ReadsPaths given text (Ok (map path_to (name ∷ names)))
paths_read given text name names apart is short =
    reads_it ArePaths NoFault PathsFault given text (paths_text (name ∷ names)) (map path_to (name ∷ names)) is short (paths_say name names) refl apart
