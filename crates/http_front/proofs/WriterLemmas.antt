-- Phrases and digits.
use Rattle.std.proofs.Common.{◌≡◌, ℕ, ◌≤◌, List, take, refl, sym, subst, Option, Some, inl, inr, replicate, codes}
use Rattle.std.proofs.lemmas.List.{take-replicate}
use Rattle.http.specs.StatusCode.{reason_phrase}
use Rattle.http_front.specs.Replies.{IsAnswered, phrase_of}

-- the phrases are those of the Rust crate
abbrev HasPhrase : ℕ → Type 0
HasPhrase status = reason_phrase status ≡ Some (phrase_of status)

pub phrase_is : (status : ℕ) → IsAnswered status → reason_phrase status ≡ Some (phrase_of status)
unfolding phrase_of
phrase_is status (inl is) = subst HasPhrase (sym is) refl
phrase_is status (inr (inl is)) = subst HasPhrase (sym is) refl
phrase_is status (inr (inr (inl is))) = subst HasPhrase (sym is) refl
phrase_is status (inr (inr (inr (inl is)))) = subst HasPhrase (sym is) refl
phrase_is status (inr (inr (inr (inr (inl is))))) = subst HasPhrase (sym is) refl
phrase_is status (inr (inr (inr (inr (inr (inl is)))))) = subst HasPhrase (sym is) refl
phrase_is status (inr (inr (inr (inr (inr (inr is)))))) = subst HasPhrase (sym is) refl

-- so many of 32 zeros
pub take-zeros : (n : ℕ) → n ≤ 32 → take n (codes "00000000000000000000000000000000") ≡ replicate n 48
take-zeros n bound = take-replicate n 32 48 bound

pub some_same : (a b : List ℕ) (r : Option (List ℕ)) → Some a ≡ r → r ≡ Some b → a ≡ b
some_same a b r is is' = cc
