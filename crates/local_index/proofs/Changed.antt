-- What changes of one entry after another make of each.
use Rattle.std.proofs.Common.{◌≡◌, ℕ, ◌+◌, ◌<◌, Bool, true, false, not, ◌&&◌, ◌||◌, List, ◌∷◌, length, drop, get_or, Option, if◌then◌else◌, refl, ap, sym, ◌∙◌, suc, drop-cons, arith}
use Rattle.std.specs.Cmp.{IsTotalOrder}
use Rattle.std.specs.BTreeMap.{BTreeMap, get, is_at}
use Rattle.std.specs.declared.cmp.Ordering.{Ordering}
use Rattle.local_index.specs.declared.claim.Claim.{Claim}
use Rattle.local_index.specs.Entries.{changed, is_among, Places}
use Rattle.local_index.proofs.Alike.{among_alike, claim_alike}

-- what is among the others is left alone, whatever else it is among
left_alone : {X : Type 0} (more others : Bool) (x y : X) → others ≡ true
    → (if more && not others then x else y) ≡ (if true && not others then x else y)
left_alone true true x y e = refl
left_alone false true x y e = refl
left_alone more false x y e = absurd (cc)

-- what is not, is changed, and changed again it is the same
changed_once : {X : Type 0} (more others : Bool) (change : X → X) → ((x : X) → change (change x) ≡ change x) → (x : X) → others ≡ false
    → (if more && not others then change (change x) else change x) ≡ (if true && not others then change x else x)
changed_once true false change again x e = again x
changed_once false false change again x e = refl
changed_once more true change again x e = absurd (cc)

-- from one place on a list is what stands there, and the rest
pub left_from : {X : Type 0} (xs : List X) (n : ℕ) (x : X) → n < length xs → x ≡ get_or xs n x → drop n xs ≡ x ∷ drop (n + 1) xs
left_from xs n x within is =
    let next : suc n ≡ n + 1 = omega arith in
    drop-cons xs n x within ∙ (λ i. sym is i ∷ drop (next i) xs)

module _ {E : Type 0} {cmp : E → E → Ordering} (total : IsTotalOrder cmp) where
  module _ (others : List E) (change : Option Claim → Option Claim) where
    -- one that is among the others is passed by
    pub passed :
        (first : E) (rest : List E) → is_among cmp others first ≡ true → (q : E) (c : Option Claim)
        → changed cmp rest others change q c ≡ changed cmp (first ∷ rest) others change q c
    passed first rest skipped q c =
        elim (is_at (cmp first) q) as
        (λ b. is_at (cmp first) q ≡ b → changed cmp rest others change q c
        ≡ (if (b || is_among cmp rest q) && not (is_among cmp others q) then change c else c)) [
          | true ↦ λ at. left_alone (is_among cmp rest q) (is_among cmp others q) (change c) c (sym (among_alike total first q at others) ∙ skipped)
          | false ↦ λ at. refl
        ] refl

    -- one that is not is changed, and then the rest
    pub one_more :
        ((c : Option Claim) → change (change c) ≡ change c) → (m n : BTreeMap E Claim) (first : E) (rest : List E)
        → is_among cmp others first ≡ false → Places cmp m n first (change (get cmp m first)) → (q : E)
        → changed cmp rest others change q (get cmp n q) ≡ changed cmp (first ∷ rest) others change q (get cmp m q)
    one_more again m n first rest free places q =
        elim (is_at (cmp first) q) as
        (λ b. is_at (cmp first) q ≡ b → get cmp n q ≡ (if b then change (get cmp m first) else get cmp m q)
        → changed cmp rest others change q (get cmp n q)
        ≡ (if (b || is_among cmp rest q) && not (is_among cmp others q) then change (get cmp m q) else get cmp m q)) [
          | true ↦ λ at is.
              ap (changed cmp rest others change q) (is ∙ ap change (claim_alike total first q at m))
              ∙ changed_once (is_among cmp rest q) (is_among cmp others q) change again (get cmp m q) (sym (among_alike total first q at others) ∙ free)
          | false ↦ λ at is. ap (changed cmp rest others change q) is
        ] refl (places q)
