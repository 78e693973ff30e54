-- Single steps of the machine.
use Rattle.std.proofs.Common.{arith, ◌≡◌, ◌≤◌, ℕ, zero, suc, true, false, List, [], ◌∷◌, length, Result, Ok, Err, refl, ap, ◌∙◌}
use Rattle.expr_words.specs.declared.word.Word as code
use Rattle.expr_words.specs.Words.{Word, Bare, Placed, Held, Sign, meanings}
use Rattle.expr_words.specs.Machine.{Owed, Kept, Effect, Do, apply, named, reads, Goes, APath, AField, MoreSteps, Steps, Sides, AnOperand, NamedOperand, NamedPart, ATerm, NamedTerm, ASum, MoreSum, ASection, MoreSections, ASign, APart, AConjunction, ACondition, MoreAnd, MoreOr, ARest, MoreChoices, AValue, ABar, MakePath, MakeTerm, MakeOrElse, MakeAppended, MakeSize, MakeChoice, MakeKindTest, OfPath, OfSides}
use Rattle.expr_words.specs.Trees.{Presence, Absence, FrontTest, PartTest}
use Rattle.expr_words.specs.declared.word.Word.TheVariants as shown
use Rattle.expr_lexer.specs.declared.token.TokenKind.TheVariants as sign
use Rattle.expr_words.specs.declared.function.Function.TheVariants as function
use Rattle.expr_words.specs.declared.stop.Stop.{Stop}
use Rattle.expr_words.specs.declared.stop.Stop.TheVariants as stop
use Rattle.expr_words.specs.Functions.{function_of}
use Rattle.expr_words.specs.Fronts.{begins_section, opens, calls, has_comma, is_held, is_deeper}
use Rattle.expr_words.specs.declared.tree.Operand.{Operand}

-- there are as many meanings as words
pub length_meanings : (ws : List code.Word) → length (meanings ws) ≡ length ws
length_meanings [] = refl
length_meanings (w ∷ ws) = ap (λ n. suc n) (length_meanings ws)

-- an effect takes no word
pub do_it : (ts : List Word) (effect : Effect) (os : List Owed) (ks : List Kept) → reads ts (Do effect ∷ os) ks ≡ reads ts os (apply effect ks)
do_it [] effect os ks = refl
do_it (t ∷ ts) effect os ks = refl

-- a path is a step by name and further steps
pub path_starts : (ts : List Word) (os : List Owed) (ks : List Kept) → reads ts (APath ∷ os) ks ≡ reads ts (AField ∷ MoreSteps ∷ os) (Steps [] ∷ ks)
path_starts [] os ks = refl
path_starts (Bare name ∷ ts) os ks = refl
path_starts (Placed name ∷ ts) os ks = refl
path_starts (t ∷ ts) os ks = refl

-- behind the choices that are read, and before no comma, there is the closing parenthesis
pub choices_end : (ts : List Word) (k left : ℕ) (ys : List Operand) (os : List Owed) (ks : List Kept) → has_comma ts ≡ false
    → reads ts (MoreChoices k left ∷ os) (Sides ys ∷ ks) ≡ reads ts (ASign sign.CloseParenthesis ∷ Do MakeChoice ∷ os) (Sides ys ∷ ks)
choices_end [] k zero ys os ks e = refl
choices_end [] k (suc left) ys os ks e = refl
choices_end (Sign sign.Comma ∷ ts) k left ys os ks e = cc
choices_end (t ∷ ts) k zero ys os ks e = refl
choices_end (t ∷ ts) k (suc left) ys os ks e = refl

-- a path, where no function is called and no value stands
pub operand_path : (ts : List Word) (k : ℕ) (os : List Owed) (ks : List Kept) → calls ts ≡ false → is_held ts ≡ false
    → reads ts (AnOperand k ∷ os) ks ≡ reads ts (APath ∷ Do MakePath ∷ os) ks
operand_path [] k os ks c h = refl
operand_path (Bare name ∷ []) k os ks c h = refl
operand_path (Bare name ∷ Sign sign.OpenParenthesis ∷ ts) k os ks c h = cc
operand_path (Bare name ∷ t ∷ ts) k os ks c h = refl
operand_path (Held value ∷ ts) k os ks c h = cc
operand_path (t ∷ ts) k os ks c h = refl

-- a part that begins with no NOT, no parenthesis and no function begins with an operand
pub part_operand : (ts : List Word) (k : ℕ) (os : List Owed) (ks : List Kept) → calls ts ≡ false → is_deeper ts ≡ false
    → reads ts (APart k ∷ os) ks ≡ reads ts (AnOperand k ∷ ARest k ∷ os) ks
part_operand [] k os ks c d = refl
part_operand (Bare name ∷ []) k os ks c d = refl
part_operand (Bare name ∷ Sign sign.OpenParenthesis ∷ ts) k os ks c d = cc
part_operand (Bare name ∷ t ∷ ts) zero os ks c d = refl
part_operand (Bare name ∷ t ∷ ts) (suc k) os ks c d = refl
part_operand (Sign sign.Not ∷ ts) k os ks c d = cc
part_operand (Sign sign.OpenParenthesis ∷ ts) k os ks c d = cc
part_operand (t ∷ ts) zero os ks c d = refl
part_operand (t ∷ ts) (suc k) os ks c d = refl

-- size before a parenthesis, where a level is left
pub size_call : (ts : List Word) (j : ℕ) (name : List ℕ) (os : List Owed) (ks : List Kept) → opens ts ≡ true → function_of name ≡ function.Size
    → reads ts (NamedOperand (suc j) name ∷ os) ks ≡ reads ts (ASign sign.OpenParenthesis ∷ APath ∷ ASign sign.CloseParenthesis ∷ Do MakeSize ∷ os) ks
size_call [] j name os ks o f = cc
size_call (Sign sign.OpenParenthesis ∷ ts) j name os ks o f = rw f
size_call (t ∷ ts) j name os ks o f = cc

-- size before a parenthesis, as the first of a part, where a level is left
pub call_size : (ts : List Word) (j : ℕ) (name : List ℕ) (os : List Owed) (ks : List Kept) → opens ts ≡ true → function_of name ≡ function.Size
    → reads ts (NamedPart (suc j) name ∷ os) ks ≡ reads ts (ASign sign.OpenParenthesis ∷ APath ∷ ASign sign.CloseParenthesis ∷ Do MakeSize ∷ ARest (suc j) ∷ os) ks
call_size [] j name os ks o f = cc
call_size (Sign sign.OpenParenthesis ∷ ts) j name os ks o f = rw f
call_size (t ∷ ts) j name os ks o f = cc

-- attribute_exists before a parenthesis, as the first of a part, where a level is left
pub call_exists : (ts : List Word) (j : ℕ) (name : List ℕ) (os : List Owed) (ks : List Kept) → opens ts ≡ true → function_of name ≡ function.Exists
    → reads ts (NamedPart (suc j) name ∷ os) ks ≡ reads ts (ASign sign.OpenParenthesis ∷ APath ∷ ASign sign.CloseParenthesis ∷ Do (OfPath Presence) ∷ os) ks
call_exists [] j name os ks o f = cc
call_exists (Sign sign.OpenParenthesis ∷ ts) j name os ks o f = rw f
call_exists (t ∷ ts) j name os ks o f = cc

-- attribute_not_exists before a parenthesis, as the first of a part, where a level is left
pub call_not_exists : (ts : List Word) (j : ℕ) (name : List ℕ) (os : List Owed) (ks : List Kept) → opens ts ≡ true → function_of name ≡ function.NotExists
    → reads ts (NamedPart (suc j) name ∷ os) ks ≡ reads ts (ASign sign.OpenParenthesis ∷ APath ∷ ASign sign.CloseParenthesis ∷ Do (OfPath Absence) ∷ os) ks
call_not_exists [] j name os ks o f = cc
call_not_exists (Sign sign.OpenParenthesis ∷ ts) j name os ks o f = rw f
call_not_exists (t ∷ ts) j name os ks o f = cc

-- attribute_type before a parenthesis, as the first of a part, where a level is left
pub call_has_type : (ts : List Word) (j : ℕ) (name : List ℕ) (os : List Owed) (ks : List Kept) → opens ts ≡ true → function_of name ≡ function.HasType
    → reads ts (NamedPart (suc j) name ∷ os) ks ≡ reads ts (ASign sign.OpenParenthesis ∷ APath ∷ ASign sign.Comma ∷ AValue ∷ ASign sign.CloseParenthesis ∷ Do MakeKindTest ∷ os) ks
call_has_type [] j name os ks o f = cc
call_has_type (Sign sign.OpenParenthesis ∷ ts) j name os ks o f = rw f
call_has_type (t ∷ ts) j name os ks o f = cc

-- begins_with before a parenthesis, as the first of a part, where a level is left
pub call_begins_with : (ts : List Word) (j : ℕ) (name : List ℕ) (os : List Owed) (ks : List Kept) → opens ts ≡ true → function_of name ≡ function.BeginsWith
    → reads ts (NamedPart (suc j) name ∷ os) ks ≡ reads ts (ASign sign.OpenParenthesis ∷ AnOperand j ∷ ASign sign.Comma ∷ AnOperand j ∷ ASign sign.CloseParenthesis ∷ Do (OfSides FrontTest) ∷ os) ks
call_begins_with [] j name os ks o f = cc
call_begins_with (Sign sign.OpenParenthesis ∷ ts) j name os ks o f = rw f
call_begins_with (t ∷ ts) j name os ks o f = cc

-- contains before a parenthesis, as the first of a part, where a level is left
pub call_contains : (ts : List Word) (j : ℕ) (name : List ℕ) (os : List Owed) (ks : List Kept) → opens ts ≡ true → function_of name ≡ function.Contains
    → reads ts (NamedPart (suc j) name ∷ os) ks ≡ reads ts (ASign sign.OpenParenthesis ∷ AnOperand j ∷ ASign sign.Comma ∷ AnOperand j ∷ ASign sign.CloseParenthesis ∷ Do (OfSides PartTest) ∷ os) ks
call_contains [] j name os ks o f = cc
call_contains (Sign sign.OpenParenthesis ∷ ts) j name os ks o f = rw f
call_contains (t ∷ ts) j name os ks o f = cc

-- a function before a parenthesis, as the first of a part
pub ruleset known_calls = (call_size, call_exists, call_not_exists, call_has_type, call_begins_with, call_contains)

-- no word of a text is the one that a bar asks for
pub barred : (ws : List code.Word) (os : List Owed) (ks : List Kept) → reads (meanings ws) (ABar ∷ os) ks ≡ Err (length (meanings ws))
barred [] os ks = refl
barred (shown.Bare name ∷ ws) os ks = refl
barred (shown.Placed name ∷ ws) os ks = refl
barred (shown.Held value ∷ ws) os ks = refl
barred (shown.Number index ∷ ws) os ks = refl
barred (shown.Sign sign ∷ ws) os ks = refl

-- what is read alike is answered alike
pub goes_along : {X : Type 0} (before other : List Owed → List Kept → Result (List Kept) ℕ) (keep : X → List Kept → List Kept) (rest : X → List Word) (answer : Result X Stop)
    → ((os : List Owed) (ks : List Kept) → before os ks ≡ other os ks) → Goes other keep rest answer → Goes before keep rest answer
goes_along before other keep rest (Ok x) same goes = λ os ks. same os ks ∙ goes os ks
goes_along before other keep rest (Err (stop.Syntax left)) same goes = λ os ks. same os ks ∙ goes os ks
goes_along before other keep rest (Err stop.NoMemory) same goes = tt

-- a conjunction is a part and further parts
pub conjunction_starts : (ts : List Word) (k : ℕ) (os : List Owed) (ks : List Kept) → reads ts (AConjunction k ∷ os) ks ≡ reads ts (APart k ∷ MoreAnd k ∷ os) ks
conjunction_starts [] k os ks = refl
conjunction_starts (Sign sign.Not ∷ ts) zero os ks = refl
conjunction_starts (Sign sign.Not ∷ ts) (suc k) os ks = refl
conjunction_starts (t ∷ ts) zero os ks = refl
conjunction_starts (t ∷ ts) (suc k) os ks = refl

-- a condition is a conjunction and further conjunctions
pub condition_starts : (ts : List Word) (k : ℕ) (os : List Owed) (ks : List Kept) → reads ts (ACondition k ∷ os) ks ≡ reads ts (AConjunction k ∷ MoreOr k ∷ os) ks
condition_starts [] k os ks = refl
condition_starts (Sign sign.Not ∷ ts) zero os ks = refl
condition_starts (Sign sign.Not ∷ ts) (suc k) os ks = refl
condition_starts (t ∷ ts) zero os ks = refl
condition_starts (t ∷ ts) (suc k) os ks = refl

-- where no function is called it makes no difference how many levels are left
pub plain_level : (ts : List Word) (k : ℕ) (os : List Owed) (ks : List Kept) → calls ts ≡ false
    → reads ts (AnOperand k ∷ os) ks ≡ reads ts (AnOperand 0 ∷ os) ks
plain_level [] k os ks c = refl
plain_level (Bare name ∷ []) k os ks c = refl
plain_level (Bare name ∷ Sign sign.OpenParenthesis ∷ ts) k os ks c = cc
plain_level (Bare name ∷ t ∷ ts) k os ks c = refl
plain_level (t ∷ ts) k os ks c = refl

-- a word where nothing is owed is one too many
pub none_owed : (ws : List code.Word) (ks : List Kept) → 1 ≤ length ws → reads (meanings ws) [] ks ≡ Err (length (meanings ws))
none_owed [] ks some = absurd (omega arith)
none_owed (w ∷ ws) ks some = refl

-- the steps over the choices of an IN
pub ruleset choice_steps = (do_it, barred, choices_end)

-- a name that is no function's begins a path
pub named_operand : (k : ℕ) (name : List ℕ) (ts : List Word) (os : List Owed) (ks : List Kept) → opens ts ≡ false
    → reads ts (NamedOperand k name ∷ os) ks ≡ reads ts (MoreSteps ∷ Do MakePath ∷ os) (Steps (named name) ∷ ks)
named_operand k name [] os ks e = refl
named_operand k name (Sign sign.OpenParenthesis ∷ ts) os ks e = cc
named_operand k name (t ∷ ts) os ks e = refl

pub named_part : (k : ℕ) (name : List ℕ) (ts : List Word) (os : List Owed) (ks : List Kept) → opens ts ≡ false
    → reads ts (NamedPart k name ∷ os) ks ≡ reads ts (MoreSteps ∷ Do MakePath ∷ ARest k ∷ os) (Steps (named name) ∷ ks)
named_part k name [] os ks e = refl
named_part k name (Sign sign.OpenParenthesis ∷ ts) os ks e = cc
named_part k name (t ∷ ts) os ks e = refl

pub named_term : (k : ℕ) (name : List ℕ) (ts : List Word) (os : List Owed) (ks : List Kept) → opens ts ≡ false
    → reads ts (NamedTerm k name ∷ os) ks ≡ reads ts (MoreSteps ∷ Do MakeTerm ∷ os) (Steps (named name) ∷ ks)
named_term k name [] os ks e = refl
named_term k name (Sign sign.OpenParenthesis ∷ ts) os ks e = cc
named_term k name (t ∷ ts) os ks e = refl

-- a sum is a term and what stands behind it
pub sum_starts : (ts : List Word) (k : ℕ) (os : List Owed) (ks : List Kept) → reads ts (ASum k ∷ os) ks ≡ reads ts (ATerm k ∷ MoreSum k ∷ os) ks
sum_starts [] k os ks = refl
sum_starts (Bare name ∷ ts) k os ks = refl
sum_starts (t ∷ ts) k os ks = refl

-- a term that is a path, where no function is called and no value stands
pub term_path : (ts : List Word) (k : ℕ) (os : List Owed) (ks : List Kept) → calls ts ≡ false → is_held ts ≡ false
    → reads ts (ATerm k ∷ os) ks ≡ reads ts (APath ∷ Do MakeTerm ∷ os) ks
term_path [] k os ks c h = refl
term_path (Bare name ∷ []) k os ks c h = refl
term_path (Bare name ∷ Sign sign.OpenParenthesis ∷ ts) k os ks c h = cc
term_path (Bare name ∷ t ∷ ts) k os ks c h = refl
term_path (Held value ∷ ts) k os ks c h = cc
term_path (t ∷ ts) k os ks c h = refl

-- where no function is called it makes no difference how many levels are left
pub plain_term_level : (ts : List Word) (k : ℕ) (os : List Owed) (ks : List Kept) → calls ts ≡ false
    → reads ts (ATerm k ∷ os) ks ≡ reads ts (ATerm 0 ∷ os) ks
plain_term_level [] k os ks c = refl
plain_term_level (Bare name ∷ []) k os ks c = refl
plain_term_level (Bare name ∷ Sign sign.OpenParenthesis ∷ ts) k os ks c = cc
plain_term_level (Bare name ∷ t ∷ ts) k os ks c = refl
plain_term_level (t ∷ ts) k os ks c = refl

-- if_not_exists before a parenthesis, where a level is left
pub call_if_not_exists : (ts : List Word) (j : ℕ) (name : List ℕ) (os : List Owed) (ks : List Kept) → opens ts ≡ true → function_of name ≡ function.IfNotExists
    → reads ts (NamedTerm (suc j) name ∷ os) ks
    ≡ reads ts (ASign sign.OpenParenthesis ∷ APath ∷ ASign sign.Comma ∷ ATerm j ∷ ASign sign.CloseParenthesis ∷ Do MakeOrElse ∷ os) ks
call_if_not_exists [] j name os ks o f = cc
call_if_not_exists (Sign sign.OpenParenthesis ∷ ts) j name os ks o f = rw f
call_if_not_exists (t ∷ ts) j name os ks o f = cc

-- list_append before a parenthesis, where a level is left
pub call_list_append : (ts : List Word) (j : ℕ) (name : List ℕ) (os : List Owed) (ks : List Kept) → opens ts ≡ true → function_of name ≡ function.ListAppend
    → reads ts (NamedTerm (suc j) name ∷ os) ks
    ≡ reads ts (ASign sign.OpenParenthesis ∷ ATerm j ∷ ASign sign.Comma ∷ ATerm j ∷ ASign sign.CloseParenthesis ∷ Do MakeAppended ∷ os) ks
call_list_append [] j name os ks o f = cc
call_list_append (Sign sign.OpenParenthesis ∷ ts) j name os ks o f = rw f
call_list_append (t ∷ ts) j name os ks o f = cc

-- a function before a parenthesis, as a term
pub ruleset known_term_calls = (call_if_not_exists, call_list_append)

-- before the keyword of a clause there is a clause more, and before other words none
pub section_next : (ts : List Word) (k : ℕ) (os : List Owed) (ks : List Kept) → begins_section ts ≡ true
    → reads ts (MoreSections k ∷ os) ks ≡ reads ts (ASection k ∷ MoreSections k ∷ os) ks
section_next [] k os ks e = cc
section_next (Sign sign.Set ∷ ts) k os ks e = refl
section_next (Sign sign.Remove ∷ ts) k os ks e = refl
section_next (Sign sign.Add ∷ ts) k os ks e = refl
section_next (Sign sign.Delete ∷ ts) k os ks e = refl
section_next (t ∷ ts) k os ks e = cc

pub section_last : (ts : List Word) (k : ℕ) (os : List Owed) (ks : List Kept) → begins_section ts ≡ false
    → reads ts (MoreSections k ∷ os) ks ≡ reads ts os ks
section_last [] k os ks e = refl
section_last (Sign sign.Set ∷ ts) k os ks e = cc
section_last (Sign sign.Remove ∷ ts) k os ks e = cc
section_last (Sign sign.Add ∷ ts) k os ks e = cc
section_last (Sign sign.Delete ∷ ts) k os ks e = cc
section_last (t ∷ ts) k os ks e = refl
