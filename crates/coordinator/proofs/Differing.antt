-- Actions whose items were looked for among those before.
use Rattle.std.proofs.Common.{◌≡◌, Bool, true, false, not, ◌||◌, ◌&&◌, cond, List, [], ◌∷◌, refl, sym, ap, ◌∙◌}
use Rattle.std.specs.Borrow.{Bor}
use Rattle.std.specs.BTreeMap.{is_at}
use Rattle.std.specs.List.{list_any}
use Rattle.std.specs.Ordering.{is_eq}
use Rattle.std.specs.declared.cmp.Ordering.{Ordering}
use Rattle.txn_core.specs.Protocol.{Protocol}
use Rattle.txn_core.specs.Replay.{are_apart}
use Rattle.txn_core.specs.Service.{Service, IsServiceLawful}

-- the key is among those that are lent
abbrev pub is_seen : {K : Type 0} → (K → K → Ordering) → List (Bor K) → K → Bool
is_seen cmp keys k = list_any (λ s. is_at (cmp k) s.now) keys

-- one more is lent
pub lent_more :
    {K : Type 0} (cmp : K → K → Ordering) (keys more : List (Bor K)) (key q : K)
    → is_seen cmp more q ≡ cond (is_at (cmp key) q) true (is_seen cmp keys q) → is_seen cmp more q ≡ (is_at (cmp key) q || is_seen cmp keys q)
lent_more cmp keys more key q is = is ∙ either (is_at (cmp key) q) (is_seen cmp keys q)
  where
    either : (a b : Bool) → cond a true b ≡ (a || b)
    either true b = refl
    either false b = refl

-- keys are compared as the rules compare them, so equal ones are of one item
pub same_is :
    {K V A F C D Q B : Type 0} (S : Service K V A F C D Q B) (cmp : K → K → Ordering) → IsServiceLawful S → ((x y : K) → S.index.cmp x y ≡ cmp x y)
    → (k q : K) → is_at (cmp k) q ≡ S.core.same k q
same_is S cmp law ordered k q = sym (law.index.feed.one k q ∙ ap is_eq (ordered k q))

module _ {K V A F C D : Type 0} (P : Protocol K V A F C D) where
  -- none of these actions is on an item that was seen, and no two are on one
  abbrev pub all_new : (K → Bool) → List A → Bool
  all_new seen xs = not (list_any (λ x. seen (P.key_of x)) xs) && are_apart P xs

  none_seen : (seen : K → Bool) (xs : List A) → ((k : K) → seen k ≡ false) → list_any (λ x. seen (P.key_of x)) xs ≡ false
  none_seen seen [] none = refl
  none_seen seen (x ∷ xs) none = λ j. none (P.key_of x) j || none_seen seen xs none j

  -- at first
  pub at_first : (seen : K → Bool) (xs : List A) → ((k : K) → seen k ≡ false) → all_new seen xs ≡ are_apart P xs
  at_first seen xs none = ap (λ b. not b && are_apart P xs) (none_seen seen xs none)

  either_any :
      (p q new : K → Bool) (xs : List A) → ((k : K) → new k ≡ (p k || q k))
      → list_any (λ x. new (P.key_of x)) xs ≡ (list_any (λ x. p (P.key_of x)) xs || list_any (λ x. q (P.key_of x)) xs)
  either_any p q new [] h = refl
  either_any p q new (x ∷ xs) h =
      (λ j. h (P.key_of x) j || either_any p q new xs h j)
      ∙ mixed (p (P.key_of x)) (q (P.key_of x)) (list_any (λ y. p (P.key_of y)) xs) (list_any (λ y. q (P.key_of y)) xs)
    where
      mixed : (a b c d : Bool) → ((a || b) || (c || d)) ≡ ((a || c) || (b || d))
      mixed true b c d = refl
      mixed false true true d = refl
      mixed false true false d = refl
      mixed false false c d = refl

  -- one on an item that was seen
  pub one_found :
      (seen : K → Bool) (x : A) (rest others : List A) (whole : Bool) → rest ≡ x ∷ others → seen (P.key_of x) ≡ true → all_new seen rest ≡ whole
      → false ≡ whole
  one_found seen x rest others whole is h before =
      (λ j. not (sym h j || list_any (λ y. seen (P.key_of y)) others) && are_apart P (x ∷ others)) ∙ (ap (all_new seen) (sym is) ∙ before)

  -- one that was not, and is seen from now on
  pub one_more :
      (seen now : K → Bool) (x : A) (rest others : List A) (whole : Bool) → rest ≡ x ∷ others → seen (P.key_of x) ≡ false
      → ((q : K) → now q ≡ (P.same (P.key_of x) q || seen q)) → all_new seen rest ≡ whole → all_new now others ≡ whole
  one_more seen now x rest others whole is h more before =
      ap (λ b. not b && are_apart P others) (either_any (P.same (P.key_of x)) seen now others more)
      ∙ turned (list_any (λ y. P.same (P.key_of x) (P.key_of y)) others) (list_any (λ y. seen (P.key_of y)) others) (are_apart P others)
      ∙ (λ j. not (sym h j || list_any (λ y. seen (P.key_of y)) others) && are_apart P (x ∷ others)) ∙ (ap (all_new seen) (sym is) ∙ before)
    where
      turned : (a b c : Bool) → (not (a || b) && c) ≡ (not b && (not a && c))
      turned true true c = refl
      turned true false c = refl
      turned false b c = refl
