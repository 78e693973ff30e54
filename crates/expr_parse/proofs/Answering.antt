-- From what the steps of a call answer to what the call says of the text.
use Rattle.std.proofs.Common.{◌≡◌, ℕ, List, [], ◌∷◌, option_map, map, Option, None, Some, Result, Ok, Err, IfOk, IfErr, refl, sym, ◌∙◌, ap, subst, inl, inr}
use Rattle.expr_lexer.specs.declared.token.Token.{Token}
use Rattle.expr_words.specs.declared.given.Given.{Given}
use Rattle.expr_words.specs.declared.parse_end.ParseEnd.{ParseEnd}
use Rattle.expr_words.specs.declared.parse_end.ParseEnd.TheVariants.{Syntax, TooLong, Overlap, NoMemory}
use Rattle.expr_words.specs.declared.stop.Stop.{Stop}
use Rattle.expr_words.specs.declared.stop.Stop.TheVariants as stop
use Rattle.expr_words.specs.Words.{Word, words, undefined, fault_of}
use Rattle.expr_parse.specs.Reading.{IsVerdict, not_given, late, fit, Reads, ReadsTokens, ReadsCondition, ReadsPaths, ReadsUpdate, AsUpdate, IsSentence, NoFault, PathsFault, TwiceFault, UpdateFault, ClausesFault, no_sentence, spelled, too_long, no_token, IsTold, IsTreeOr}
use Rattle.expr_parse.specs.Judged.{IsTokens, IsFaultOr, IsGivenOr, AreFit, ReadsWhole, end_of, IsAnswer}
use Rattle.expr_words.specs.Faults.{IsFault}
use Rattle.expr_words.specs.Trees.{tree, SectionTree, section_tree}
use Rattle.expr_words.specs.Grammar.{IsCondition, ArePaths, IsUpdate, most_levels}
use Rattle.expr_words.specs.Machine.{Whole, Listed, an_update, ACondition, APath, Do, FirstPath, MorePaths}
use Rattle.expr_words.specs.Parses.{sectioned}
use Rattle.expr_words.specs.declared.tree.Condition.{Condition}
use Rattle.expr_words.specs.declared.tree.Section.{Section}
use Rattle.expr_words.specs.declared.meaning.Missing.{Missing}
use Rattle.base_types.specs.declared.path.DocPath.{DocPath}
use Rattle.expr_parse.specs.declared.tree.Update.{Update}
use Rattle.expr_parse.specs.UpdateTree.{UpdateTree, update_of}
use Rattle.expr_parse.specs.Update.{update_tree, IsBounded}
use Rattle.expr_parse.proofs.Along.{condition_is, condition_fault, paths_are, paths_fault, update_is, update_fault}

-- what the parser answers for all words of a text
abbrev pub IsJudged : {C T : Type 0} → (C → T) → (List Word → T → Type 0) → List Word → Result C Stop → Type 0
IsJudged tree_of Spells ts (Ok c) = Spells ts (tree_of c)
IsJudged tree_of Spells ts (Err (stop.Syntax left)) = IsFault (IsSentence Spells) ts left
IsJudged tree_of Spells ts (Err stop.NoMemory) = Unit {0}

-- a condition is read exactly where the words are one
pub condition_judged : (ts : List Word) (answer : Result Condition Stop)
    → ReadsWhole (λ c. Whole (tree c)) (ACondition most_levels ∷ []) ts answer → IsJudged tree (IsCondition most_levels) ts answer
condition_judged ts (Ok c) reading = condition_is most_levels ts (tree c) reading
condition_judged ts (Err (stop.Syntax left)) reading = condition_fault most_levels ts left reading
condition_judged ts (Err stop.NoMemory) reading = tt

-- paths are read exactly where the words are such
pub paths_judged : (ts : List Word) (answer : Result (List DocPath) Stop)
    → ReadsWhole Listed (APath ∷ Do FirstPath ∷ MorePaths ∷ []) ts answer → IsJudged (λ paths. paths) ArePaths ts answer
paths_judged ts (Ok paths) reading = paths_are ts paths reading
paths_judged ts (Err (stop.Syntax left)) reading = paths_fault ts left reading
paths_judged ts (Err stop.NoMemory) reading = tt

-- clauses are read exactly where the words are such
pub clauses_judged : (ts : List Word) (answer : Result (List Section) Stop)
    → ReadsWhole sectioned (an_update most_levels) ts answer → IsJudged (map section_tree) (IsUpdate most_levels) ts answer
clauses_judged ts (Ok sections) reading = update_is most_levels ts (map section_tree sections) reading
clauses_judged ts (Err (stop.Syntax left)) reading = update_fault most_levels ts left reading
clauses_judged ts (Err stop.NoMemory) reading = tt

-- where the parser stops the text is at fault
pub told_stop : {C T : Type 0} (tree_of : C → T) (Spells : List Word → T → Type 0) (Early Late : T → Option ParseEnd → Type 0)
    (given : Given) (text : List ℕ) (tokens : List Token) (s : Stop)
    → IsJudged tree_of Spells (words given text tokens) (Err s) → IsTold (ReadsTokens Spells Early Late given text tokens) (end_of text tokens s)
told_stop tree_of Spells Early Late given text tokens (stop.Syntax left) fault = no_sentence fault
told_stop tree_of Spells Early Late given text tokens stop.NoMemory fault = tt

pub told_stop_update : (given : Given) (text : List ℕ) (tokens : List Token) (s : Stop)
    → IsJudged (map section_tree) (IsUpdate most_levels) (words given text tokens) (Err s)
    → IsTold (AsUpdate (ReadsTokens (IsUpdate most_levels) TwiceFault ClausesFault given text tokens)) (end_of text tokens s)
told_stop_update given text tokens (stop.Syntax left) fault = no_sentence fault
told_stop_update given text tokens stop.NoMemory fault = tt

-- a placeholder that is missing is the fault, if there is no early one
pub missing_verdict : {T : Type 0} (Early Late : T → Option ParseEnd → Type 0) (t : T) (missing : Missing) (fault : ParseEnd)
    → Early t None → IsFaultOr (fault_of missing) fault → IsTold (IsVerdict Early Late (Some (fault_of missing)) t) fault
missing_verdict Early Late t missing NoMemory none told = tt
missing_verdict Early Late t missing fault none (inl same) = not_given none (ap (λ f. Some f) (sym same))
missing_verdict Early Late t missing fault none (inr free) = cc

-- a tree that has no fault of its own, if no placeholder is missing
pub given_verdict : {C T : Type 0} (tree_of : C → T) (Early Late : T → Option ParseEnd → Type 0) (whole : C) (gone : Option Missing) (answer : Result C ParseEnd)
    → Early (tree_of whole) None → Late (tree_of whole) None → IsGivenOr whole gone answer
    → IsAnswer tree_of (IsVerdict Early Late (option_map fault_of gone) (tree_of whole)) answer
given_verdict {C = C} tree_of Early Late whole None (Ok c) none sound same =
    let P : C → Type 0 = λ x. IsVerdict Early Late None (tree_of whole) (Ok (tree_of x)) in subst P (sym same) (fit none refl sound)
given_verdict tree_of Early Late whole None (Err fault) none sound never = absurd never
given_verdict tree_of Early Late whole (Some missing) (Ok c) none sound never = absurd never
given_verdict tree_of Early Late whole (Some missing) (Err fault) none sound told = missing_verdict Early Late (tree_of whole) missing fault none told

-- paths that may overlap, if no placeholder is missing
pub fit_verdict : (whole : List DocPath) (gone : Option Missing) (answer : Result (List DocPath) ParseEnd) → AreFit whole gone answer
    → IsAnswer (λ paths. paths) (IsVerdict NoFault PathsFault (option_map fault_of gone) whole) answer
fit_verdict whole None (Ok paths) (same, apart) =
    let P : List DocPath → Type 0 = λ x. IsVerdict NoFault PathsFault None whole (Ok x) in subst P (sym same) (fit refl refl apart)
fit_verdict whole None (Err Overlap) overlap = late refl refl overlap
fit_verdict whole None (Err NoMemory) free = tt
fit_verdict whole None (Err fault) never = absurd never
fit_verdict whole (Some missing) (Ok paths) never = absurd never
fit_verdict whole (Some missing) (Err fault) told = missing_verdict NoFault PathsFault whole missing fault refl told

-- an answer by one relation is one by another that follows from it
pub answer_along : {C T : Type 0} (tree_of : C → T) (R S : Result T ParseEnd → Type 0) → ((r : Result T ParseEnd) → R r → S r) → (answer : Result C ParseEnd)
    → IsAnswer tree_of R answer → IsAnswer tree_of S answer
answer_along tree_of R S along (Ok c) reading = along (Ok (tree_of c)) reading
answer_along tree_of R S along (Err NoMemory) reading = tt
answer_along tree_of R S along (Err fault) reading = along (Err fault) reading

pub as_update_along : (R S : Result (List SectionTree) ParseEnd → Type 0) → ((r : Result (List SectionTree) ParseEnd) → R r → S r)
    → (r : Result UpdateTree ParseEnd) → AsUpdate R r → AsUpdate S r
as_update_along R S along (Ok u) (cs, reading, is) = (cs, along (Ok cs) reading, is)
as_update_along R S along (Err fault) reading = along (Err fault) reading

-- the verdict on a tree is what the tokens that spell it read as
pub spelled_along : {T : Type 0} (Spells : List Word → T → Type 0) (Early Late : T → Option ParseEnd → Type 0)
    (given : Given) (text : List ℕ) (tokens : List Token) (t : T) (missing : Option Missing)
    → Spells (words given text tokens) t → undefined given text tokens ≡ option_map fault_of missing
    → (r : Result T ParseEnd) → IsVerdict Early Late (option_map fault_of missing) t r → ReadsTokens Spells Early Late given text tokens r
spelled_along Spells Early Late given text tokens t missing s missing_is r v = spelled s (subst (λ m. IsVerdict Early Late m t r) (sym missing_is) v)

-- what is told of clauses is told of the update
told_update : (R : Result (List SectionTree) ParseEnd → Type 0) (fault : ParseEnd) → IsTold R fault → IsTold (AsUpdate R) fault
told_update R NoMemory told = tt
told_update R fault told = told

pub missing_update : (whole : List Section) (gone : Option Missing) (fault : ParseEnd) → TwiceFault (map section_tree whole) None
    → IsGivenOr whole gone (Err fault) → IsTold (AsUpdate (IsVerdict TwiceFault ClausesFault (option_map fault_of gone) (map section_tree whole))) fault
missing_update whole None fault once never = absurd never
missing_update whole (Some missing) fault once told =
    told_update (IsVerdict TwiceFault ClausesFault (Some (fault_of missing)) (map section_tree whole)) fault
    (missing_verdict TwiceFault ClausesFault (map section_tree whole) missing fault once told)

-- what is answered of an update whose clauses stand once and whose placeholders are given
pub bounded_update : (cs : List SectionTree) (u : UpdateTree) (missing : Option ParseEnd) (answer : Result Update ParseEnd) → TwiceFault cs None → missing ≡ None
    → u ≡ update_of cs → IsBounded u answer → IsAnswer update_tree (AsUpdate (IsVerdict TwiceFault ClausesFault missing cs)) answer
bounded_update cs u missing (Ok x) once gone is (same, sound) =
    (cs, fit once gone (subst (λ v. UpdateFault v None) is sound), sym is ∙ sym same)
bounded_update cs u missing (Err NoMemory) once gone is free = tt
bounded_update cs u missing (Err fault) once gone is at_fault = late once gone (subst (λ v. UpdateFault v (Some fault)) is at_fault)

-- which clauses are handed on, and that none is missing
pub all_given : (whole handed : List Section) (gone : Option Missing) → IsGivenOr whole gone (Ok handed) → (handed ≡ whole) × (option_map fault_of gone ≡ None)
all_given whole handed None same = (same, refl)
all_given whole handed (Some missing) never = absurd never

-- what is told for want of tokens is the text's fault
told_tokens : {T : Type 0} (Spells : List Word → T → Type 0) (Early Late : T → Option ParseEnd → Type 0) (given : Given) (text : List ℕ)
    (fault : ParseEnd) → IsTokens text (Err fault) → IsTold (Reads Spells Early Late given text) fault
told_tokens Spells Early Late given text TooLong long = too_long long
told_tokens Spells Early Late given text (Syntax place) (room, lexes) = no_token room lexes
told_tokens Spells Early Late given text NoMemory free = tt
told_tokens Spells Early Late given text fault never = absurd never

-- an answer is the tree
pub answered_tree : {C T : Type 0} (tree_of : C → T) (R : Result T ParseEnd → Type 0) (answer : Result C ParseEnd)
    → IsAnswer tree_of R answer → IfOk answer (λ c. R (Ok (tree_of c)))
answered_tree tree_of R (Ok c) reading = reading
answered_tree tree_of R (Err fault) reading = tt

-- an answer is the fault
pub answered_fault : {C T : Type 0} (tree_of : C → T) (R : Result T ParseEnd → Type 0) (answer : Result C ParseEnd)
    → IsAnswer tree_of R answer → IfErr answer (λ fault. IsTold R fault)
answered_fault tree_of R (Ok c) reading = tt
answered_fault tree_of R (Err fault) reading = reading

-- that a tree is read
abbrev told : {T : Type 0} → T → Result T ParseEnd
told t = Ok t

-- where a text reads as a tree, that is the answer, or memory is refused
pub answered_sentence : {C T : Type 0} (tree_of : C → T) (R : Result T ParseEnd → Type 0)
    → ((r s : Result T ParseEnd) → R r → R s → r ≡ s) → (answer : Result C ParseEnd) → IsAnswer tree_of R answer
    → (t : T) → R (Ok t) → IsTreeOr tree_of t answer
answered_sentence tree_of R one (Ok c) reading t s = let e : told (tree_of c) ≡ told t = one _ _ reading s in cc
answered_sentence tree_of R one (Err NoMemory) reading t s = refl
answered_sentence tree_of R one (Err fault) reading t s = let e = one _ _ reading s in cc

-- for a condition
pub condition_told : (given : Given) (text : List ℕ) (fault : ParseEnd) → IsTokens text (Err fault) → IsAnswer tree (ReadsCondition given text) (Err fault)
condition_told given text fault told = told_tokens (IsCondition most_levels) NoFault NoFault given text fault told

-- for paths
pub paths_told : (given : Given) (text : List ℕ) (fault : ParseEnd) → IsTokens text (Err fault)
    → IsAnswer {C = List DocPath} (λ paths. paths) (ReadsPaths given text) (Err fault)
paths_told given text fault told = told_tokens ArePaths NoFault PathsFault given text fault told

-- for an update
pub update_told : (given : Given) (text : List ℕ) (fault : ParseEnd) → IsTokens text (Err fault)
    → IsAnswer {C = Update} update_tree (ReadsUpdate given text) (Err fault)
update_told given text TooLong long = too_long long
update_told given text (Syntax place) (room, lexes) = no_token room lexes
update_told given text NoMemory free = tt
update_told given text fault never = absurd never
