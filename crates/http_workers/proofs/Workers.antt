-- Workers in order: what they have, and the shares that they are given and bring back.
use Rattle.std.proofs.Common.{◌≡◌, ◌⊎◌, ◌<◌, ◌≤◌, ℕ, List, [], ◌∷◌, ◌++◌, map, Option, None, Some, refl, sym, ap, ◌∙◌, subst, inl, inr, arith, append_assoc}
use Rattle.std.proofs.lemmas.List.{map_push}
use Rattle.ddb_outside.specs.Causes.{Rose}
use Rattle.ddb_outside.specs.Listeners.{Connections, KeepsConnections, Shares, Absorbs, HasLent}
use Rattle.http_workers.specs.Steps.{MakesShares, HasLentAll, IsCounted}

-- what is kept is the same
same : (old new : Option Connections) → KeepsConnections old new → new ≡ old
same None new keeps = keeps
same (Some c) new keeps = keeps

-- one share more was made
pub made_more : {L : Type 0} (connections : L → Option Connections) (old now new : Option Connections) (ls : List L) (l : L)
    → MakesShares connections old now ls → Shares now new (connections l) → MakesShares connections old new (ls ++ l ∷ [])
made_more connections old now new [] l made shares =
    (new, subst (λ c. Shares c new (connections l)) made shares, refl)
made_more connections old now new (k ∷ ls) l made shares =
    (made.0, made.1, made_more connections made.0 now new ls l made.2 shares)

pub made_kept : {L : Type 0} (connections : L → Option Connections) (old now new : Option Connections) (ls : List L)
    → MakesShares connections old now ls → KeepsConnections now new → MakesShares connections old new ls
made_kept connections old now new ls made keeps = subst (λ c. MakesShares connections old c ls) (sym (same now new keeps)) made

-- the first of the shares may come back, and then the others
pub lent_first : (now : Option Connections) (share : Option Connections) (shares : List (Option Connections))
    → HasLentAll now (share ∷ shares) → HasLent now share
lent_first None share shares lent = tt
lent_first (Some c) None shares lent = tt
lent_first (Some c) (Some s) shares lent = lent.0

pub lent_others : (now new share : Option Connections) (shares : List (Option Connections))
    → HasLentAll now (share ∷ shares) → Absorbs now new share → HasLentAll new shares
lent_others None new share shares lent absorbs = subst (λ c. HasLentAll c shares) (sym absorbs) tt
lent_others (Some c) new None shares lent absorbs = absurd lent
lent_others (Some c) new (Some s) shares lent absorbs = subst (λ d. HasLentAll d shares) (sym absorbs) lent.1

-- what a share counted is handed on as it comes back
pub counted_on : {L : Type 0} (count : L → ℕ) (first now new : ℕ) (l : L) (ls : List L) → first ≤ now → now ≤ new
    → (0 < count l → Rose now new) → Rose first now ⊎ IsCounted count (l ∷ ls) → Rose first new ⊎ IsCounted count ls
counted_on count first now new l ls before after hand (inl rose) = inl (omega arith)
counted_on count first now new l ls before after hand (inr (inl here)) = let rose : Rose now new = hand here in inl (omega arith)
counted_on count first now new l ls before after hand (inr (inr later)) = inr later

-- an item more, in a list that is made of another's
pub mapped_on : {A B : Type 0} (f : A → B) (made new : List A) (one : A) (left rest all : List B) → new ≡ made ++ one ∷ []
    → left ≡ f one ∷ rest → map f made ++ left ≡ all → map f new ++ rest ≡ all
mapped_on f made new one left rest all pushed taken before =
    ap (λ l. map f l ++ rest) pushed
    ∙ (ap (λ l. l ++ rest) (map_push f made one)
    ∙ (append_assoc (map f made) (f one ∷ []) rest ∙ (ap (λ l. map f made ++ l) (sym taken) ∙ before)))
