-- One connection more is dealt out.
use Rattle.std.proofs.Common.{◌≡◌, ◌⊎◌, inl, inr, ℕ, suc, ◌+◌, ◌%◌, ◌==◌, ◌<◌, Bool, true, false, List, [], ◌∷◌, ◌++◌, length, map, if◌then◌else◌, ap, sym, ◌∙◌, subst, arith, get_or, set, add-one, length-set}
use Rattle.std.proofs.Math.Nat.{suc-mod}
use Rattle.std.proofs.lemmas.Bool.{cases_eq}
use Rattle.std.proofs.lemmas.Bool.Decides.{nat_tests}
use Rattle.std.proofs.lemmas.List.{get_or-set_same, get_or-set_other, get_or-map, length-map, map-append, map-set}
use Rattle.std.proofs.lemmas.List.FromFn.{fill_by_all, get_or-map-range_with_len, length-map-range_with_len, map-range_with_len_more}
use Rattle.ddb_outside.specs.Dealt.{leaving, dealt}

-- one more at the end of a list that may have a head
behind : {X : Type 0} (head mine : Bool) (x y : X) (ys more : List X) → more ≡ (if mine then ys ++ y ∷ [] else ys)
    → (if head then x ∷ more else more)
    ≡ (if mine then (if head then x ∷ ys else ys) ++ y ∷ [] else (if head then x ∷ ys else ys))
behind true true x y ys more e = ap (λ l. x ∷ l) e
behind true false x y ys more e = ap (λ l. x ∷ l) e
behind false true x y ys more e = e
behind false false x y ys more e = e

-- the last connection goes to the share that its place names
pub leaving_push : (shares k at place : ℕ) (xs : List (List ℕ)) (x : List ℕ) → at + length xs ≡ place
    → leaving shares k at (xs ++ x ∷ [])
    ≡ (if place % shares == k then leaving shares k at xs ++ x ∷ [] else leaving shares k at xs)
leaving_push shares k at place [] x e =
    let same : at ≡ place = omega (arith, e) in
    ap (λ (n : ℕ). (if n % shares == k then x ∷ [] else [])) same
leaving_push shares k at place (y ∷ ys) x e =
    let e' : (at + 1) + length ys ≡ place = omega (arith, e) in
    behind (at % shares == k) (place % shares == k) y x (leaving shares k (at + 1) ys) _ (leaving_push shares k (at + 1) place ys x e')

-- what the share that is next has then
leaving_next : (shares k : ℕ) (xs : List (List ℕ)) (x : List ℕ) → k ≡ length xs % shares
    → leaving shares k 0 (xs ++ x ∷ []) ≡ leaving shares k 0 xs ++ x ∷ []
leaving_next shares k xs x e =
    let start : 0 + length xs ≡ length xs = omega arith in
    let mine : (length xs % shares == k) ≡ true = grind (arith, nat_tests) in
    leaving_push shares k 0 (length xs) xs x start
    ∙ ap (λ (b : Bool). (if b then leaving shares k 0 xs ++ x ∷ [] else leaving shares k 0 xs)) mine

-- what any other one has
leaving_other : (shares k : ℕ) (xs : List (List ℕ)) (x : List ℕ) → (k ≡ length xs % shares → ⊥)
    → leaving shares k 0 (xs ++ x ∷ []) ≡ leaving shares k 0 xs
leaving_other shares k xs x other =
    let start : 0 + length xs ≡ length xs = omega arith in
    let no : (length xs % shares == k) ≡ false = grind (arith, nat_tests) in
    leaving_push shares k 0 (length xs) xs x start
    ∙ ap (λ (b : Bool). (if b then leaving shares k 0 xs ++ x ∷ [] else leaving shares k 0 xs)) no

-- the share at a place of the parts
part_at : (shares k : ℕ) (xs : List (List ℕ)) → k < shares → get_or (dealt xs shares) k [] ≡ leaving shares k 0 xs
part_at shares k xs low =
    let at : 0 + k ≡ k = omega arith in get_or-map-range_with_len (λ k. leaving shares k 0 xs) 0 shares k k [] low at

-- how many parts there are
count_of_parts : (shares : ℕ) (xs : List (List ℕ)) → length (dealt xs shares) ≡ shares
count_of_parts shares xs = length-map-range_with_len (λ k. leaving shares k 0 xs) 0 shares

-- each part after one more connection
part_after : (shares share : ℕ) (xs : List (List ℕ)) (x : List ℕ) → share ≡ length xs % shares
    → (k : ℕ) → k < shares → (k ≡ share) ⊎ (k ≡ share → ⊥)
    → get_or (set (dealt xs shares) share (leaving shares share 0 xs ++ x ∷ [])) k [] ≡ leaving shares k 0 (xs ++ x ∷ [])
part_after shares share xs x e k low (inl same) =
    let here : k < length (dealt xs shares) = rw (count_of_parts shares xs) low in
    let set_at : get_or (set (dealt xs shares) k (leaving shares k 0 xs ++ x ∷ [])) k [] ≡ leaving shares k 0 xs ++ x ∷ [] =
    get_or-set_same (dealt xs shares) k (leaving shares k 0 xs ++ x ∷ []) [] here in
    subst (λ (n : ℕ). get_or (set (dealt xs shares) n (leaving shares n 0 xs ++ x ∷ [])) k [] ≡ leaving shares k 0 (xs ++ x ∷ []))
    same (set_at ∙ sym (leaving_next shares k xs x (same ∙ e)))
part_after shares share xs x e k low (inr other) =
    get_or-set_other (dealt xs shares) share k _ [] other ∙ part_at shares k xs low
    ∙ sym (leaving_other shares k xs x (λ is. other (is ∙ sym e)))

-- the next connection goes to one share, and the parts of the others stay
pub dealt_push : (shares share : ℕ) (xs : List (List ℕ)) (x : List ℕ) → share ≡ length xs % shares
    → set (dealt xs shares) share (leaving shares share 0 xs ++ x ∷ []) ≡ dealt (xs ++ x ∷ []) shares
dealt_push shares share xs x e =
    fill_by_all (λ k. leaving shares k 0 (xs ++ x ∷ [])) (set (dealt xs shares) share (leaving shares share 0 xs ++ x ∷ [])) shares []
    (length-set (dealt xs shares) share _ ∙ count_of_parts shares xs)
    (λ k low. part_after shares share xs x e k low (cases_eq k share))

-- how many lists the parts are in
pub count_of_lists : {V : Type 0} (f : V → List (List ℕ)) (vs : List V) (shares : ℕ) (xs : List (List ℕ)) → map f vs ≡ dealt xs shares
    → length vs ≡ shares
count_of_lists f vs shares xs e = sym (length-map vs f) ∙ ap length e ∙ count_of_parts shares xs

-- the same of the lists in which the parts are
pub parts_after : {V : Type 0} (f : V → List (List ℕ)) (vs : List V) (v d : V) (shares share : ℕ) (xs : List (List ℕ)) (x : List ℕ)
    → share ≡ length xs % shares → share < shares → map f vs ≡ dealt xs shares → f v ≡ f (get_or vs share d) ++ x ∷ []
    → map f (set vs share v) ≡ dealt (xs ++ x ∷ []) shares
parts_after f vs v d shares share xs x e low before grown =
    let here : share < length vs = rw (count_of_lists f vs shares xs before) low in
    let was : f (get_or vs share d) ≡ leaving shares share 0 xs =
    sym (get_or-map f vs share d [] here) ∙ ap (λ l. get_or l share []) before ∙ part_at shares share xs low in
    map-set f vs share v
    ∙ ap (λ l. set l share (f v)) before
    ∙ ap (λ l. set (dealt xs shares) share l) (grown ∙ ap (λ l. l ++ x ∷ []) was)
    ∙ dealt_push shares share xs x e

-- the place behind names the share behind, in turn
pub next_share : (shares share n : ℕ) → share ≡ n % shares → (share + 1) % shares ≡ (n + 1) % shares
next_share shares share n e = rw (add-one, add-one) (ap (λ m. suc m % shares) e ∙ sym (suc-mod n shares))

-- one share more that has nothing yet
dealt_none : (n : ℕ) → dealt [] (n + 1) ≡ dealt [] n ++ [] ∷ []
dealt_none n = let at : 0 + n ≡ n = omega arith in map-range_with_len_more (λ k. []) 0 n n at

-- the parts of one share more
pub parts_push : {V : Type 0} (f : V → List (List ℕ)) (vs new : List V) (v : V) (n : ℕ) → new ≡ vs ++ v ∷ [] → f v ≡ []
    → map f vs ≡ dealt [] n → map f new ≡ dealt [] (n + 1)
parts_push f vs new v n e empty before =
    ap (map f) e ∙ map-append f vs (v ∷ []) ∙ ap (λ l. map f vs ++ l ∷ []) empty ∙ ap (λ l. l ++ [] ∷ []) before ∙ sym (dealt_none n)
