-- What a text reads as: a tree, or its first fault in the stated order.
use Rattle.std.specs.Prelude.{◌≡◌, ◌<◌, ◌≤◌, ◌-◌, ℕ, List, [], length, Option, None, Some, Result, Ok, Err, option_map, unwrap_or, slice_get}
use Rattle.base_types.specs.declared.path.DocPath.{DocPath}
use Rattle.expr_lexer.specs.declared.token.Token.{Token}
use Rattle.expr_words.specs.declared.given.Given.{Given}
use Rattle.expr_words.specs.declared.parse_end.ParseEnd.{ParseEnd}
use Rattle.expr_words.specs.declared.parse_end.ParseEnd.TheVariants.{Syntax, TooLong, ClauseTwice, TooManyOperators, NoMemory}
use Rattle.expr_words.specs.declared.parse_end.ParseEnd.TheVariants as parse_end
use Rattle.expr_words.specs.Trees.{Tree, SectionTree}
use Rattle.expr_words.specs.Words.{Word, words, undefined}
use Rattle.expr_words.specs.Grammar.{IsCondition, ArePaths, IsUpdate, most_levels}
use Rattle.expr_words.specs.Faults.{IsFault}
use Rattle.expr_parse.specs.Overlaps.{HaveOverlap}
use Rattle.expr_parse.specs.UpdateTree.{UpdateTree, update_of, first_twice, operators, most_operators, written}
use Rattle.expr_lexer.specs.Lexes.{Lexes}

-- the most bytes of a text
abbrev pub most_bytes : ℕ
most_bytes = 4096

-- the place in the text where so many tokens are left: the start of the first of them, or the text's length
abbrev pub place_of : List ℕ → List Token → ℕ → ℕ
place_of text tokens left = unwrap_or (option_map (λ token. token.from) (slice_get tokens (length tokens - left))) (length text)

-- the words spell some tree
abbrev pub IsSentence : {T : Type 0} → (List Word → T → Type 0) → List Word → Type 0
IsSentence {T} Spells ts = (t : T) × Spells ts t

-- What is judged of a tree: its early fault, then the first placeholder that is missing, then its late fault, or it is fit.
pub data IsVerdict {T : Type 0} (Early Late : T → Option ParseEnd → Type 0) (missing : Option ParseEnd) (t : T) : Result T ParseEnd → Type 0 where
  early : {fault : ParseEnd} → Early t (Some fault) → IsVerdict Early Late missing t (Err fault)
  not_given : {fault : ParseEnd} → Early t None → missing ≡ Some fault → IsVerdict Early Late missing t (Err fault)
  late : {fault : ParseEnd} → Early t None → missing ≡ None → Late t (Some fault) → IsVerdict Early Late missing t (Err fault)
  fit : Early t None → missing ≡ None → Late t None → IsVerdict Early Late missing t (Ok t)

-- What a text's tokens read as. Spells says which words are a sentence for which tree.
pub data ReadsTokens {T : Type 0} (Spells : List Word → T → Type 0) (Early Late : T → Option ParseEnd → Type 0) (given : Given)
    (text : List ℕ) (tokens : List Token) : Result T ParseEnd → Type 0 where
  no_sentence : {left : ℕ} → IsFault (IsSentence Spells) (words given text tokens) left
      → ReadsTokens Spells Early Late given text tokens (Err (Syntax (place_of text tokens left)))
  spelled : {t : T} {verdict : Result T ParseEnd} → Spells (words given text tokens) t
      → IsVerdict Early Late (undefined given text tokens) t verdict → ReadsTokens Spells Early Late given text tokens verdict

-- What a text reads as.
pub data Reads {T : Type 0} (Spells : List Word → T → Type 0) (Early Late : T → Option ParseEnd → Type 0) (given : Given) (text : List ℕ)
    : Result T ParseEnd → Type 0 where
  too_long : most_bytes < length text → Reads Spells Early Late given text (Err TooLong)
  no_token : {place : ℕ} → length text ≤ most_bytes → Lexes 0 text (Err place)
      → Reads Spells Early Late given text (Err (Syntax place))
  lexed : {tokens : List Token} {reading : Result T ParseEnd} → length text ≤ most_bytes → Lexes 0 text (Ok tokens)
      → ReadsTokens Spells Early Late given text tokens reading → Reads Spells Early Late given text reading

-- a tree has no fault of its own
abbrev pub NoFault : {T : Type 0} → T → Option ParseEnd → Type 0
NoFault t fault = fault ≡ None

abbrev pub ReadsCondition : Given → List ℕ → Result Tree ParseEnd → Type 0
ReadsCondition = Reads (IsCondition most_levels) NoFault NoFault

abbrev pub PathsFault : List DocPath → Option ParseEnd → Type 0
PathsFault paths None = ¬ HaveOverlap paths
PathsFault paths (Some parse_end.Overlap) = HaveOverlap paths
PathsFault paths (Some fault) = ⊥

abbrev pub ReadsPaths : Given → List ℕ → Result (List DocPath) ParseEnd → Type 0
ReadsPaths = Reads ArePaths NoFault PathsFault

-- the first clause of an update that stands twice
abbrev pub TwiceFault : List SectionTree → Option ParseEnd → Type 0
TwiceFault cs fault = fault ≡ option_map (λ clause. ClauseTwice clause) (first_twice [] cs)

-- too many operators, or else overlap of what is written
abbrev pub UpdateFault : UpdateTree → Option ParseEnd → Type 0
UpdateFault u None = (operators u ≤ most_operators) × (¬ HaveOverlap (written u))
UpdateFault u (Some TooManyOperators) = most_operators < operators u
UpdateFault u (Some parse_end.Overlap) = (operators u ≤ most_operators) × HaveOverlap (written u)
UpdateFault u (Some fault) = ⊥

abbrev pub ClausesFault : List SectionTree → Option ParseEnd → Type 0
ClausesFault cs = UpdateFault (update_of cs)

abbrev pub ReadsClauses : Given → List ℕ → Result (List SectionTree) ParseEnd → Type 0
ReadsClauses = Reads (IsUpdate most_levels) TwiceFault ClausesFault

-- what a reading of clauses is as one of an update
abbrev pub AsUpdate : (Result (List SectionTree) ParseEnd → Type 0) → Result UpdateTree ParseEnd → Type 0
AsUpdate R (Ok u) = (cs : List SectionTree) × R (Ok cs) × (update_of cs ≡ u)
AsUpdate R (Err fault) = R (Err fault)

abbrev pub ReadsUpdate : Given → List ℕ → Result UpdateTree ParseEnd → Type 0
ReadsUpdate given text = AsUpdate (ReadsClauses given text)

-- a fault that is told is the text's; refused memory says nothing of the text
abbrev pub IsTold : {T : Type 0} → (Result T ParseEnd → Type 0) → ParseEnd → Type 0
IsTold R NoMemory = Unit {0}
IsTold R fault = R (Err fault)

-- an answer where the text reads as this tree: the tree, or refused memory
abbrev pub IsTreeOr : {C T : Type 0} → (C → T) → T → Result C ParseEnd → Type 0
IsTreeOr tree_of t (Ok c) = tree_of c ≡ t
IsTreeOr tree_of t (Err fault) = fault ≡ NoMemory
