-- What the steps of a call answer: over all words, over the tokens of a text, over the text.
use Rattle.std.specs.Prelude.{◌≡◌, ◌<◌, ◌≤◌, ◌⊎◌, ℕ, List, [], ◌∷◌, length, All, Option, None, Some, Result, Ok, Err}
use Rattle.base_types.specs.declared.path.DocPath.{DocPath}
use Rattle.expr_lexer.specs.declared.token.Token.{Token}
use Rattle.expr_lexer.specs.Lexes.{Lexes}
use Rattle.expr_lexer.specs.Spans.{IsPart}
use Rattle.expr_lexer.specs.Spelling.{IsSpelled}
use Rattle.expr_words.specs.declared.parse_end.ParseEnd.{ParseEnd}
use Rattle.expr_words.specs.declared.parse_end.ParseEnd.TheVariants.{Syntax, TooLong, Overlap, NoMemory}
use Rattle.expr_words.specs.declared.stop.Stop.{Stop}
use Rattle.expr_words.specs.declared.stop.Stop.TheVariants as stop
use Rattle.expr_words.specs.declared.meaning.Missing.{Missing}
use Rattle.expr_words.specs.Words.{Word, fault_of}
use Rattle.expr_words.specs.Machine.{Kept, Owed, reads}
use Rattle.expr_parse.specs.Reading.{IsTold, place_of, most_bytes}
use Rattle.expr_parse.specs.Overlaps.{HaveOverlap}

-- nothing may follow: the whole, if these words are none
abbrev pub Ends : {C : Type 0} → C → List Word → Result C Stop → Type 0
Ends whole ts (Ok c) = (c ≡ whole) × ((ks : List Kept) → reads ts [] ks ≡ Ok ks)
Ends whole ts (Err (stop.Syntax left)) = (ks : List Kept) → reads ts [] ks ≡ Err left
Ends whole ts (Err stop.NoMemory) = Unit {0}

-- what is owed is read from all of these words, and one is kept; or the reading stops there
abbrev pub ReadsWhole : {C : Type 0} → (C → Kept) → List Owed → List Word → Result C Stop → Type 0
ReadsWhole kept os ts (Ok c) = reads ts os [] ≡ Ok (kept c ∷ [])
ReadsWhole kept os ts (Err (stop.Syntax left)) = reads ts os [] ≡ Err left
ReadsWhole kept os ts (Err stop.NoMemory) = Unit {0}

-- what a stop of the parser is for a text with these tokens
abbrev pub end_of : List ℕ → List Token → Stop → ParseEnd
end_of text tokens (stop.Syntax left) = Syntax (place_of text tokens left)
end_of text tokens stop.NoMemory = NoMemory

-- the tokens of a text that is not too long
pub record AreTokens (text : List ℕ) (tokens : List Token) : Type 0 where
  pub room : length text ≤ most_bytes
  pub lexes : Lexes 0 text (Ok tokens)
  pub parts : All (IsPart text) tokens
  pub spelled : All (IsSpelled text) tokens

-- the tokens of a text, or the fault that they leave no room for
abbrev pub IsTokens : List ℕ → Result (List Token) ParseEnd → Type 0
IsTokens text (Ok tokens) = AreTokens text tokens
IsTokens text (Err TooLong) = most_bytes < length text
IsTokens text (Err (Syntax place)) = (length text ≤ most_bytes) × Lexes 0 text (Err place)
IsTokens text (Err NoMemory) = Unit {0}
IsTokens text (Err fault) = ⊥

-- this fault, or refused memory
abbrev pub IsFaultOr : ParseEnd → ParseEnd → Type 0
IsFaultOr fault told = (told ≡ fault) ⊎ (told ≡ NoMemory)

-- the whole, if no placeholder is missing; else the fault of the first that is
abbrev pub IsGivenOr : {C : Type 0} → C → Option Missing → Result C ParseEnd → Type 0
IsGivenOr whole None (Ok c) = c ≡ whole
IsGivenOr whole None (Err fault) = ⊥
IsGivenOr whole (Some missing) (Ok c) = ⊥
IsGivenOr whole (Some missing) (Err fault) = IsFaultOr (fault_of missing) fault

-- the paths, if no placeholder is missing and none of them overlap
abbrev pub AreFit : List DocPath → Option Missing → Result (List DocPath) ParseEnd → Type 0
AreFit whole None (Ok paths) = (paths ≡ whole) × (¬ HaveOverlap whole)
AreFit whole None (Err Overlap) = HaveOverlap whole
AreFit whole None (Err NoMemory) = Unit {0}
AreFit whole None (Err fault) = ⊥
AreFit whole (Some missing) (Ok paths) = ⊥
AreFit whole (Some missing) (Err fault) = IsFaultOr (fault_of missing) fault

-- an answer tells what is read: the tree, or the fault
abbrev pub IsAnswer : {C T : Type 0} → (C → T) → (Result T ParseEnd → Type 0) → Result C ParseEnd → Type 0
IsAnswer tree_of R (Ok c) = R (Ok (tree_of c))
IsAnswer tree_of R (Err fault) = IsTold R fault
