-- How many elements before a place are taken out, and how many stay.
use Rattle.std.proofs.Common.{◌≡◌, ℕ, zero, suc, ◌+◌, ◌≤◌, List, [], ◌∷◌, nat_lt, ◌==◌, Some, None, Bool, true}
use Rattle.std.proofs.Common.{false, cond, ◌&&◌, refl, ap, ◌∙◌, subst, arith}
use Rattle.std.proofs.lemmas.Bool.Decides.{Decides-eqb, nat_tests}
use Rattle.std.proofs.lemmas.List.Sums.{sum_by-cons}
use Rattle.std.specs.List.{AllByRecursion, count_by}
use Rattle.base_types.specs.declared.path.Step.{Step}
use Rattle.base_types.specs.declared.path.Step.TheVariants.{Name, Index}
use Rattle.path_entries.specs.Entries.{below, is_place, or_rest}
use Rattle.item_writes.specs.Apart.{overlap, AreApart, paths_of}
use Rattle.item_writes.specs.NewTree.{Written}
use Rattle.item_writes.specs.ListsByPlace.{takes_out, takes_out_before, taken_out_before, new_place}

-- of the writes that lead on from an element, the first does not take it out
abbrev pub stays_here : List Written → Bool
stays_here [] = true
stays_here (([], None) ∷ ws) = false
stays_here (([], Some v) ∷ ws) = true
stays_here ((s ∷ p, v) ∷ ws) = true

-- of so many elements from a place on, how many stay
abbrev pub kept_of : ℕ → ℕ → List Written → ℕ
kept_of zero start ws = 0
kept_of (suc many) start ws = cond (stays_here (below (is_place start) ws)) 1 0 + kept_of many (suc start) ws

pub counted : {X : Type 0} (p : X → Bool) (x : X) (xs : List X) → count_by p (x ∷ xs) ≡ cond (p x) 1 0 + count_by p xs
counted p x xs = sum_by-cons (λ y. cond (p y) 1 0) x xs

-- ---- one place more

lt_more : (i s : ℕ) → ◌≡◌ {A = ℕ} (cond (nat_lt i (suc s)) 1 0) (cond (nat_lt i s) 1 0 + cond (i == s) 1 0)
lt_more i s = grind (arith, nat_tests)

taken_more : (s : ℕ) (w : Written)
    → ◌≡◌ {A = ℕ} (cond (takes_out_before (suc s) w) 1 0) (cond (takes_out_before s w) 1 0 + cond (takes_out s w) 1 0)
taken_more s ([], v) = omega arith
taken_more s (Name name ∷ p, v) = omega arith
taken_more s (Index i ∷ [], None) = lt_more i s
taken_more s (Index i ∷ [], Some v) = omega arith
taken_more s (Index i ∷ next ∷ p, v) = omega arith

all_more : (s : ℕ) (ws : List Written) → taken_out_before (suc s) ws ≡ taken_out_before s ws + count_by (takes_out s) ws
all_more s [] = omega arith
all_more s (w ∷ ws) =
    let later = counted (takes_out_before (suc s)) w ws in
    let before = counted (takes_out_before s) w ws in
    omega (arith, later, before, counted (takes_out s) w ws, taken_more s w, all_more s ws)

not_below_none : (i : ℕ) → ◌≡◌ {A = ℕ} (cond (nat_lt i 0) 1 0) 0
not_below_none i = grind (arith, nat_tests)

none_first : (w : Written) → ◌≡◌ {A = ℕ} (cond (takes_out_before 0 w) 1 0) 0
none_first ([], v) = refl
none_first (Name name ∷ p, v) = refl
none_first (Index i ∷ [], None) = not_below_none i
none_first (Index i ∷ [], Some v) = refl
none_first (Index i ∷ next ∷ p, v) = refl

none_before : (ws : List Written) → taken_out_before 0 ws ≡ 0
none_before [] = refl
none_before (w ∷ ws) = omega (arith, counted (takes_out_before 0) w ws, none_first w, none_before ws)

-- ---- whether the element at a place is taken out

gone_first : (b : Bool) (rest : List Written) (n : ℕ) → cond (stays_here rest) 0 1 ≤ n
    → cond (stays_here (or_rest (cond b (Some ([], None)) None) rest)) 0 1 ≤ cond b 1 0 + n
gone_first true rest n h = omega arith
gone_first false rest n h = omega (arith, h)

stays_first : (b : Bool) (w : Written) (rest : List Written) (n : ℕ) → stays_here (w ∷ []) ≡ true → cond (stays_here rest) 0 1 ≤ n
    → cond (stays_here (or_rest (cond b (Some w) None) rest)) 0 1 ≤ n
stays_first true ([], None) rest n e h = cc
stays_first true ([], Some v) rest n e h = omega arith
stays_first true (s ∷ p, v) rest n e h = omega arith
stays_first false w rest n e h = h

-- an element that does not stay is taken out by a write
taken_where_gone : (s : ℕ) (ws : List Written) → cond (stays_here (below (is_place s) ws)) 0 1 ≤ count_by (takes_out s) ws
taken_where_gone s [] = omega arith
taken_where_gone s (([], v) ∷ ws) = omega (arith, counted (takes_out s) ([], v) ws, taken_where_gone s ws)
taken_where_gone s ((Name name ∷ p, v) ∷ ws) = omega (arith, counted (takes_out s) (Name name ∷ p, v) ws, taken_where_gone s ws)
taken_where_gone s ((Index i ∷ [], None) ∷ ws) =
    let first = gone_first (i == s) (below (is_place s) ws) (count_by (takes_out s) ws) (taken_where_gone s ws) in
    omega (arith, counted (takes_out s) (Index i ∷ [], None) ws, first)
taken_where_gone s ((Index i ∷ [], Some v) ∷ ws) =
    let first =
    stays_first (i == s) ([], Some v) (below (is_place s) ws) (count_by (takes_out s) ws) refl (taken_where_gone s ws) in
    omega (arith, counted (takes_out s) (Index i ∷ [], Some v) ws, first)
taken_where_gone s ((Index i ∷ next ∷ p, v) ∷ ws) =
    let first =
    stays_first (i == s) (next ∷ p, v) (below (is_place s) ws) (count_by (takes_out s) ws) refl (taken_where_gone s ws) in
    omega (arith, counted (takes_out s) (Index i ∷ next ∷ p, v) ws, first)

-- ---- by one write alone, where none begins another

not_met : (b : Bool) (p : List Step) → (b && overlap p []) ≡ false → ◌≡◌ {A = ℕ} (cond b 1 0) 0
not_met true [] e = cc
not_met true (s ∷ p) e = cc
not_met false p e = refl

none_at : (s : ℕ) (p : List Step) (ws : List Written) → AllByRecursion (λ q. overlap (Index s ∷ p) q ≡ false) (paths_of ws)
    → count_by (takes_out s) ws ≡ 0
none_at s p [] all = refl
none_at s p (([], v) ∷ ws) all = omega (arith, counted (takes_out s) ([], v) ws, none_at s p ws all.1)
none_at s p ((Name name ∷ q, v) ∷ ws) all = omega (arith, counted (takes_out s) (Name name ∷ q, v) ws, none_at s p ws all.1)
none_at s p ((Index i ∷ [], None) ∷ ws) all =
    omega (arith, counted (takes_out s) (Index i ∷ [], None) ws, not_met (i == s) p all.0, none_at s p ws all.1)
none_at s p ((Index i ∷ [], Some v) ∷ ws) all =
    omega (arith, counted (takes_out s) (Index i ∷ [], Some v) ws, none_at s p ws all.1)
none_at s p ((Index i ∷ next ∷ q, v) ∷ ws) all =
    omega (arith, counted (takes_out s) (Index i ∷ next ∷ q, v) ws, none_at s p ws all.1)

-- b: the first write leads on from this place
gone_alone : (b : Bool) (rest : List Written) (n : ℕ) → (b ≡ true → n ≡ 0) → n ≡ cond (stays_here rest) 0 1
    → cond b 1 0 + n ≡ cond (stays_here (or_rest (cond b (Some ([], None)) None) rest)) 0 1
gone_alone true rest n none later = omega (arith, none refl)
gone_alone false rest n none later = omega (arith, later)

stays_alone : (b : Bool) (w : Written) (rest : List Written) (n : ℕ) → stays_here (w ∷ []) ≡ true → (b ≡ true → n ≡ 0)
    → n ≡ cond (stays_here rest) 0 1
    → n ≡ cond (stays_here (or_rest (cond b (Some w) None) rest)) 0 1
stays_alone true ([], None) rest n e none later = cc
stays_alone true ([], Some v) rest n e none later = none refl
stays_alone true (s ∷ p, v) rest n e none later = none refl
stays_alone false w rest n e none later = later

none_after : (s i : ℕ) (p : List Step) (ws : List Written) → AllByRecursion (λ q. overlap (Index i ∷ p) q ≡ false) (paths_of ws)
    → (i == s) ≡ true → count_by (takes_out s) ws ≡ 0
none_after s i p ws all e =
    none_at s p ws (subst (λ j. AllByRecursion (λ q. overlap (Index j ∷ p) q ≡ false) (paths_of ws)) ((Decides-eqb i s).0 e) all)

pub taken_once : (s : ℕ) (ws : List Written) → AreApart (paths_of ws)
    → count_by (takes_out s) ws ≡ cond (stays_here (below (is_place s) ws)) 0 1
taken_once s [] apart = refl
taken_once s (([], v) ∷ ws) apart = omega (arith, counted (takes_out s) ([], v) ws, taken_once s ws apart.1)
taken_once s ((Name name ∷ p, v) ∷ ws) apart = omega (arith, counted (takes_out s) (Name name ∷ p, v) ws, taken_once s ws apart.1)
taken_once s ((Index i ∷ [], None) ∷ ws) apart =
    counted (takes_out s) (Index i ∷ [], None) ws
    ∙ gone_alone (i == s) (below (is_place s) ws) (count_by (takes_out s) ws) (none_after s i [] ws apart.0)
    (taken_once s ws apart.1)
taken_once s ((Index i ∷ [], Some v) ∷ ws) apart =
    let first =
    stays_alone (i == s) ([], Some v) (below (is_place s) ws) (count_by (takes_out s) ws) refl (none_after s i [] ws apart.0)
    (taken_once s ws apart.1) in
    omega (arith, counted (takes_out s) (Index i ∷ [], Some v) ws, first)
taken_once s ((Index i ∷ next ∷ p, v) ∷ ws) apart =
    let first =
    stays_alone (i == s) (next ∷ p, v) (below (is_place s) ws) (count_by (takes_out s) ws) refl
    (none_after s i (next ∷ p) ws apart.0) (taken_once s ws apart.1) in
    omega (arith, counted (takes_out s) (Index i ∷ next ∷ p, v) ws, first)

-- ---- how many stay before a place

one_or_other : (b : Bool) → ◌≡◌ {A = ℕ} (cond b 1 0 + cond b 0 1) 1
one_or_other true = refl
one_or_other false = refl

kept_and_taken : (ws : List Written) → AreApart (paths_of ws) → (many start end : ℕ) → end ≡ start + many
    → kept_of many start ws + taken_out_before end ws ≡ many + taken_out_before start ws
kept_and_taken ws apart zero start end e =
    let same : end ≡ start = omega (arith, e) in
    let taken = ap (λ n. taken_out_before n ws) same in omega (arith, taken)
kept_and_taken ws apart (suc many) start end e =
    let later = kept_and_taken ws apart many (suc start) end (omega (arith, e)) in
    omega (arith, later, all_more start ws, taken_once start ws apart, one_or_other (stays_here (below (is_place start) ws)))

-- where none begins another, as many stay as are not taken out
pub kept_is : (ws : List Written) (place : ℕ) → AreApart (paths_of ws) → kept_of place 0 ws ≡ new_place place ws
kept_is ws place apart = omega (arith, kept_and_taken ws apart place 0 place (omega arith), none_before ws)

kept_most : (ws : List Written) (many start : ℕ) → kept_of many start ws ≤ many
kept_most ws zero start = omega arith
kept_most ws (suc many) start =
    omega (arith, kept_most ws many (suc start), one_or_other (stays_here (below (is_place start) ws)))

kept_or_taken : (ws : List Written) (many start end : ℕ) → end ≡ start + many
    → many + taken_out_before start ws ≤ kept_of many start ws + taken_out_before end ws
kept_or_taken ws zero start end e =
    let same : end ≡ start = omega (arith, e) in
    let taken = ap (λ n. taken_out_before n ws) same in omega (arith, taken)
kept_or_taken ws (suc many) start end e =
    let later = kept_or_taken ws many (suc start) end (omega (arith, e)) in
    omega (arith, later, all_more start ws, taken_where_gone start ws, one_or_other (stays_here (below (is_place start) ws)))

-- where none is taken out, all stay
pub all_kept : (ws : List Written) (place : ℕ) → taken_out_before place ws ≡ 0 → kept_of place 0 ws ≡ place
all_kept ws place none = omega (arith, none, kept_or_taken ws place 0 place (omega arith), kept_most ws place 0)

-- of more elements at least as many stay
pub kept_more : (ws : List Written) (many more start middle all : ℕ) → all ≡ many + more → middle ≡ start + many
    → kept_of all start ws ≡ kept_of many start ws + kept_of more middle ws
kept_more ws zero more start middle all e f =
    let same : all ≡ more = omega (arith, e) in
    let here : start ≡ middle = omega (arith, f) in
    let kept = ap (λ n. kept_of n start ws) same ∙ ap (λ n. kept_of more n ws) here in omega (arith, kept)
kept_more ws (suc many) more start middle all e f =
    let same : all ≡ suc (many + more) = omega (arith, e) in
    let later = kept_more ws many more (suc start) middle (many + more) refl (omega (arith, f)) in
    let kept = ap (λ n. kept_of n start ws) same in
    omega (arith, kept, later)
