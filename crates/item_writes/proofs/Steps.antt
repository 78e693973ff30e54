-- The writes behind a step, where none of the written paths begins another.
use Rattle.std.proofs.Common.{◌≡◌, ℕ, zero, suc, List, [], ◌∷◌, slice_get, Option, Some, None, Bool, true, false, cond, ◌&&◌}
use Rattle.std.proofs.Common.{refl, sym, ap, ◌∙◌, subst}
use Rattle.std.specs.List.{AllByRecursion}
use Rattle.base_types.specs.declared.path.Step.{Step}
use Rattle.attr_value.specs.Tree.{Tree}
use Rattle.path_entries.specs.Entries.{below, behind, or_rest}
use Rattle.item_writes.specs.Apart.{same_step, overlap, AreApart, paths_of}
use Rattle.item_writes.specs.Extents.{written_here}
use Rattle.item_writes.specs.NewTree.{Written}
use Rattle.item_writes.proofs.Apart.{same_step_is, same_step_itself, apart_turned}

-- no written path meets this one
abbrev pub Misses : List Step → List Written → Type 0
Misses q ws = AllByRecursion (λ w. overlap w.0 q ≡ false) ws

pub apart_at : (p : List Step) (ws : List Written) → AllByRecursion (λ q. overlap p q ≡ false) (paths_of ws)
    → (k : ℕ) (w : Written) → slice_get ws k ≡ Some w → overlap p w.0 ≡ false
apart_at p [] apart k w e = cc
apart_at p (v ∷ ws) apart zero w e = let same : v ≡ w = cc in subst (λ x. overlap p x.0 ≡ false) same apart.0
apart_at p (v ∷ ws) apart (suc k) w e = apart_at p ws apart.1 k w e

pub misses_rest : (p : List Step) (ws : List Written) → AllByRecursion (λ q. overlap p q ≡ false) (paths_of ws) → Misses p ws
misses_rest p [] apart = tt
misses_rest p (w ∷ ws) apart = (apart_turned p w.0 apart.0, misses_rest p ws apart.1)

-- ---- a path that no written path meets, behind its first step

-- a test of two paths that goes by their first steps and then by the rest of both
abbrev pub GoesByStep : (List Step → List Step → Bool) → Type 0
GoesByStep test = (s t : Step) (p q : List Step) → test (t ∷ p) (s ∷ q) ≡ (same_step t s && test p q)

same_turned : (s t : Step) → same_step s t ≡ true → same_step t s ≡ true
same_turned s t e = subst (λ u. same_step u s ≡ true) (same_step_is s t e) (same_step_itself s)

pub fails_below : (test : List Step → List Step → Bool) → GoesByStep test → (s : Step) (q : List Step) (ws : List Written)
    → AllByRecursion (λ w. test w.0 (s ∷ q) ≡ false) ws → AllByRecursion (λ w. test w.0 q ≡ false) (below (same_step s) ws)
fails_below test by s q [] far = tt
fails_below test by s q (([], v) ∷ ws) far = fails_below test by s q ws far.1
fails_below test by s q ((t ∷ p, v) ∷ ws) far = one (same_step s t) refl (fails_below test by s q ws far.1)
  where
    one : (b : Bool) → same_step s t ≡ b → AllByRecursion (λ w. test w.0 q ≡ false) (below (same_step s) ws)
        → AllByRecursion (λ w. test w.0 q ≡ false) (or_rest (cond b (Some (p, v)) None) (below (same_step s) ws))
    one true e later = (subst (λ b. (b && test p q) ≡ false) (same_turned s t e) (sym (by s t p q) ∙ far.0), later)
    one false e later = later

pub misses_below : (s : Step) (q : List Step) (ws : List Written) → Misses (s ∷ q) ws → Misses q (below (same_step s) ws)
misses_below s q ws far = fails_below overlap (λ s t p q. refl) s q ws far

-- ---- a written path, behind its first step

pub leads_on : (s : Step) (q : List Step) (v : Option Tree) (ws : List Written) (k : ℕ) → slice_get ws k ≡ Some (s ∷ q, v)
    → (j : ℕ) × (slice_get (below (same_step s) ws) j ≡ Some (q, v))
leads_on s q v [] k e = cc
leads_on s q v (w ∷ ws) zero e =
    let same : w ≡ (s ∷ q, v) = cc in
    let first = ap (λ b. slice_get (or_rest (cond b (Some (q, v)) None) (below (same_step s) ws)) 0) (same_step_itself s) in
    (0, ap (λ x. slice_get (below (same_step s) (x ∷ ws)) 0) same ∙ first)
leads_on s q v (w ∷ ws) (suc k) e = one (behind (same_step s) w.0 w.1) (leads_on s q v ws k e)
  where
    one : (o : Option Written) → (j : ℕ) × (slice_get (below (same_step s) ws) j ≡ Some (q, v))
        → (j : ℕ) × (slice_get (or_rest o (below (same_step s) ws)) j ≡ Some (q, v))
    one None found_there = found_there
    one (Some x) found_there = (suc found_there.0, found_there.1)

-- where a written path leads on, no write ends before it
pub goes_on : (s : Step) (q : List Step) (v : Option Tree) (ws : List Written) → AreApart (paths_of ws) → (k : ℕ)
    → slice_get ws k ≡ Some (s ∷ q, v) → written_here ws ≡ None
goes_on s q v [] apart k e = refl
goes_on s q v ((t ∷ p, u) ∷ ws) apart k e = refl
goes_on s q v (([], u) ∷ ws) apart zero e =
    let same : ◌≡◌ {A = Written} ([], u) (s ∷ q, v) = cc in
    let steps : ◌≡◌ {A = List Step} [] (s ∷ q) = ap (λ w. w.0) same in cc
goes_on s q v (([], u) ∷ ws) apart (suc k) e = let h : true ≡ false = apart_at [] ws apart.0 k (s ∷ q, v) e in cc
