-- Names listed one after the other, up to a limit.
use Rattle.std.proofs.Common.{◌≡◌, ◌≤◌, ◌<◌, ◌+◌, ◌-◌, ℕ, suc, slice_get, Bool, true, false, cond, List, [], ◌∷◌, ◌++◌, length, take, filter, Option, None, refl, sym, ap, ◌∙◌, subst, arith, append_assoc, length-append}
use Rattle.std.specs.Prelude.{nat_lt}
use Rattle.std.proofs.lemmas.Bool.{cond-true, cond-false, le-leb, leb-true}
use Rattle.std.proofs.lemmas.List.{append-nil, take_all}
use Rattle.std.proofs.Math.Seq.{take-append_seam}
use Rattle.table_model.specs.declared.reply.TableNames.{TableNames}
use Rattle.table_model.specs.Catalog.{is_after, listed, last_name}

abbrev pub Name : Type 0
Name = List ℕ

-- a name that passes goes behind those that were taken, another is left out
pub passes : (p : Name → Bool) (names : List Name) (name : Name) (rest : List Name) → p name ≡ true
    → names ++ filter p (name ∷ rest) ≡ (names ++ name ∷ []) ++ filter p rest
passes p names name rest h =
    ap (λ (xs : List Name). names ++ xs) (cond-true (p name) (name ∷ filter p rest) (filter p rest) h) ∙ sym (append_assoc names (name ∷ []) (filter p rest))

pub fails : (p : Name → Bool) (names : List Name) (name : Name) (rest : List Name) → p name ≡ false
    → names ++ filter p (name ∷ rest) ≡ names ++ filter p rest
fails p names name rest h = ap (λ (xs : List Name). names ++ xs) (cond-false (p name) (name ∷ filter p rest) (filter p rest) h)

told : ℕ → List Name → TableNames
told limit xs = record { names = take limit xs; last = cond (nat_lt limit (length xs)) (last_name (take limit xs)) None }

not_more : (limit n : ℕ) → n ≤ limit → nat_lt limit n ≡ false
not_more limit n h = go (nat_lt limit n) refl
  where
    go : (b : Bool) → nat_lt limit n ≡ b → b ≡ false
    go true e = absurd (omega (leb-true (suc limit) n e, h, arith))
    go false e = refl

-- the last name is the one at the last place
pub last_at : (names : List Name) → last_name names ≡ slice_get names (length names - 1)
last_at [] = refl
last_at (x ∷ []) = refl
last_at (x ∷ (y ∷ ys)) =
    let place : length (x ∷ y ∷ ys) - 1 ≡ suc (length (y ∷ ys) - 1) = omega arith in
    last_at (y ∷ ys) ∙ sym (ap (slice_get (x ∷ y ∷ ys)) place)

-- all names that pass were taken
pub whole : (limit : ℕ) (all names : List Name) → all ≡ names → length names ≤ limit
    → listed limit all ≡ record { names = names; last = None }
whole limit all names is few =
    ap (listed limit) is ∙ (λ i. let t : TableNames = record {
      names = take_all limit names few i;
      last = cond-false (nat_lt limit (length names)) (last_name (take limit names)) None (not_more limit (length names) few) i;
    } in t)

-- as many were taken as may be, and one more passes
pub cut : (limit : ℕ) (all names : List Name) (name : Name) (rest : List Name) → all ≡ names ++ name ∷ rest → length names ≡ limit
    → listed limit all ≡ record { names = names; last = last_name names }
cut limit all names name rest is n =
    let front : take limit all ≡ names = ap (take limit) is ∙ ap (λ (k : ℕ). take k (names ++ name ∷ rest)) (sym n) ∙ take-append_seam names (name ∷ rest) in
    let long : length all ≡ length names + suc (length rest) = ap (λ (xs : List Name). length xs) is ∙ length-append names (name ∷ rest) in
    let more : nat_lt limit (length all) ≡ true = le-leb (suc limit) (length all) (omega (long, n, arith)) in
    (λ i. let t : TableNames = record {
      names = front i;
      last = (cond-true (nat_lt limit (length all)) (last_name (take limit all)) None more ∙ ap last_name front) i;
    } in t)

-- ---- on the way

-- of all names these are taken, in order, and these are still to come
pub record IsListed (after : Option Name) (limit : ℕ) (all names rest : List Name) : Type 0 where
  pub taken : filter (is_after after) all ≡ names ++ filter (is_after after) rest
  pub few : length names ≤ limit

pub begun : (after : Option Name) (limit : ℕ) (all names rest : List Name) → all ≡ rest → names ≡ [] → IsListed after limit all names rest
begun after limit all names rest h e = record {
  taken = ap (filter (is_after after)) h ∙ sym (ap (λ (xs : List Name). xs ++ filter (is_after after) rest) e);
  few = subst (λ (xs : List Name). length xs ≤ limit) (sym e) (omega arith);
}

pub left_out : (after : Option Name) (limit : ℕ) (all names rest others : List Name) (name : Name) → IsListed after limit all names rest
    → rest ≡ name ∷ others → is_after after name ≡ false → IsListed after limit all names others
left_out after limit all names rest others name l e f = record {
  taken = l.taken ∙ ap (λ (xs : List Name). names ++ filter (is_after after) xs) e ∙ fails (is_after after) names name others f;
  few = l.few;
}

pub put_in : (after : Option Name) (limit : ℕ) (all names rest others more : List Name) (name : Name) → IsListed after limit all names rest
    → rest ≡ name ∷ others → is_after after name ≡ true → more ≡ names ++ name ∷ [] → length names < limit → IsListed after limit all more others
put_in after limit all names rest others more name l e f q below =
    let long : length (names ++ name ∷ []) ≡ length names + 1 = length-append names (name ∷ []) in record {
      taken = l.taken ∙ ap (λ (xs : List Name). names ++ filter (is_after after) xs) e ∙ passes (is_after after) names name others f
          ∙ ap (λ (xs : List Name). xs ++ filter (is_after after) others) (sym q);
      few = subst (λ (xs : List Name). length xs ≤ limit) (sym q) (omega (long, below, arith));
    }

-- a further name passes, and as many are taken as may be
pub listed_full : (after : Option Name) (limit : ℕ) (all names rest others : List Name) (name : Name) → IsListed after limit all names rest
    → rest ≡ name ∷ others → is_after after name ≡ true → limit ≤ length names
    → listed limit (filter (is_after after) all) ≡ record { names = names; last = last_name names }
listed_full after limit all names rest others name l e f many =
    let more : filter (is_after after) all ≡ names ++ name ∷ filter (is_after after) others =
    l.taken ∙ ap (λ (xs : List Name). names ++ filter (is_after after) xs) e
    ∙ ap (λ (xs : List Name). names ++ xs) (cond-true (is_after after name) (name ∷ filter (is_after after) others) (filter (is_after after) others) f) in
    let n : length names ≡ limit = omega (l.few, many, arith) in
    cut limit (filter (is_after after) all) names name (filter (is_after after) others) more n

-- no name is left
pub listed_all : (after : Option Name) (limit : ℕ) (all names rest : List Name) → IsListed after limit all names rest → rest ≡ []
    → listed limit (filter (is_after after) all) ≡ record { names = names; last = None }
listed_all after limit all names rest l e =
    whole limit (filter (is_after after) all) names
    (l.taken ∙ ap (λ (xs : List Name). names ++ filter (is_after after) xs) e ∙ append-nil names) l.few
