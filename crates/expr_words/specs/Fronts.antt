-- What stands at the front of words, and what the parser's steps over it answer.
use Rattle.std.specs.Prelude.{◌≡◌, ◌<◌, ℕ, length, Bool, true, false, List, ◌∷◌, Option, Some, None, Result, Ok, Err}
use Rattle.base_types.specs.declared.path.Step.{Step}
use Rattle.expr_words.specs.declared.stop.Stop.{Stop}
use Rattle.expr_words.specs.declared.stop.Stop.TheVariants as stop
use Rattle.expr_words.specs.Words.{Word, Bare, Held, Sign}
use Rattle.expr_lexer.specs.declared.token.TokenKind.TheVariants as sign
use Rattle.expr_words.specs.Machine.{Owed, Kept, Steps, MoreSteps, ARest, AnOperand, Do, OfSides, reads}
use Rattle.expr_words.specs.Trees.{Compared}
use Rattle.expr_words.specs.declared.tree.Comparison.{Comparison}

-- an opening parenthesis is first
abbrev pub opens : List Word → Bool
opens (Sign sign.OpenParenthesis ∷ ts) = true
opens ts = false

-- a name before an opening parenthesis is first
abbrev pub calls : List Word → Bool
calls (Bare name ∷ ts) = opens ts
calls ts = false

-- a comma is first
abbrev pub has_comma : List Word → Bool
has_comma (Sign sign.Comma ∷ ts) = true
has_comma ts = false

-- a placeholder of a value is first
abbrev pub is_held : List Word → Bool
is_held (Held value ∷ ts) = true
is_held ts = false

-- NOT or an opening parenthesis is first
abbrev pub is_deeper : List Word → Bool
is_deeper (Sign sign.Not ∷ ts) = true
is_deeper (Sign sign.OpenParenthesis ∷ ts) = true
is_deeper ts = false

-- the sign of a comparison is first
abbrev pub compares : List Word → Bool
compares (Sign sign.Equal ∷ ts) = true
compares (Sign sign.Unequal ∷ ts) = true
compares (Sign sign.Less ∷ ts) = true
compares (Sign sign.AtMost ∷ ts) = true
compares (Sign sign.More ∷ ts) = true
compares (Sign sign.AtLeast ∷ ts) = true
compares ts = false

-- the keyword of a clause of an update is first
abbrev pub begins_section : List Word → Bool
begins_section (Sign sign.Set ∷ ts) = true
begins_section (Sign sign.Remove ∷ ts) = true
begins_section (Sign sign.Add ∷ ts) = true
begins_section (Sign sign.Delete ∷ ts) = true
begins_section ts = false

-- the comparison that is first, and what is behind it; or there is none
abbrev pub IsComparing : {X : Type 0} → (X → Comparison) → (X → List Word) → List Word → Option X → Type 0
IsComparing op rest ts None = compares ts ≡ false
IsComparing op rest ts (Some x) = (k : ℕ) (os : List Owed) (ks : List Kept)
    → reads ts (ARest k ∷ os) ks ≡ reads (rest x) (AnOperand k ∷ Do (OfSides (Compared (op x))) ∷ os) ks

-- the name that is called, and what is behind it; or there is none
abbrev pub IsCall : {X : Type 0} → (X → List ℕ) → (X → List Word) → List Word → Option X → Type 0
IsCall name rest ts None = calls ts ≡ false
IsCall name rest ts (Some x) = (ts ≡ Bare (name x) ∷ rest x) × (opens (rest x) ≡ true)

-- the value that is first, and what is behind it; or there is none
abbrev pub IsValue : {X : Type 0} → (X → ℕ) → (X → List Word) → List Word → Option X → Type 0
IsValue place rest ts None = is_held ts ≡ false
IsValue place rest ts (Some x) = ts ≡ Held (place x) ∷ rest x

-- what is behind the comma that is first; or there is none
abbrev pub IsBehindComma : {X : Type 0} → (X → List Word) → List Word → Option X → Type 0
IsBehindComma rest ts None = has_comma ts ≡ false
IsBehindComma rest ts (Some x) = ts ≡ Sign sign.Comma ∷ rest x

-- a step more is read and the rest goes on, or no step follows; where it stops, the whole reading stops there
abbrev pub StepsOn : {X : Type 0} → (X → List Word) → List Word → List Step → List Step → Result (Option X) Stop → Type 0
StepsOn rest ts old new (Ok (Some x)) = (os : List Owed) (ks : List Kept) → reads ts (MoreSteps ∷ os) (Steps old ∷ ks) ≡ reads (rest x) (MoreSteps ∷ os) (Steps new ∷ ks)
StepsOn rest ts old new (Ok None) = (os : List Owed) (ks : List Kept) → reads ts (MoreSteps ∷ os) (Steps old ∷ ks) ≡ reads ts os (Steps new ∷ ks)
StepsOn rest ts old new (Err (stop.Syntax left)) = (os : List Owed) (ks : List Kept) → reads ts (MoreSteps ∷ os) (Steps old ∷ ks) ≡ Err left
StepsOn rest ts old new (Err stop.NoMemory) = Unit {0}
