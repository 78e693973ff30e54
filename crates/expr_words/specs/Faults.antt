-- Where a text stops being the beginning of a sentence. S says which words are a sentence.
use Rattle.std.specs.Prelude.{◌≡◌, ℕ, List, [], ◌∷◌, ◌++◌, length}
use Rattle.expr_words.specs.Words.{Word}

-- some sentence begins so
pub record IsBeginning (S : List Word → Type 0) (front : List Word) : Type 0 where
  pub more : List Word
  pub is_sentence : S (front ++ more)

-- no sentence goes on with the next word; at the end, what was read is no sentence
abbrev pub Stops : (List Word → Type 0) → List Word → List Word → Type 0
Stops S front [] = ¬ S front
Stops S front (t ∷ ts) = ¬ IsBeginning S (front ++ t ∷ [])

-- the fault stands where `left` words are left: what is before them begins a sentence, and not with one word more
pub record IsFault (S : List Word → Type 0) (ts : List Word) (left : ℕ) : Type 0 where
  pub front : List Word
  pub back : List Word
  pub whole : ts ≡ front ++ back
  pub left_is : length back ≡ left
  pub begins : IsBeginning S front
  pub stops : Stops S front back
