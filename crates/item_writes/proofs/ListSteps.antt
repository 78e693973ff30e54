-- The writes behind a step, where none of the written paths begins another.
use Rattle.std.proofs.Common.{◌≡◌, ℕ, zero, suc, List, [], ◌∷◌, slice_get, Option, Some, None, Bool, true, false, cond, ◌&&◌}
use Rattle.std.proofs.Common.{refl, sym, ap, ◌∙◌, subst}
use Rattle.std.specs.List.{AllByRecursion}
use Rattle.base_types.specs.declared.path.Step.{Step}
use Rattle.base_types.specs.declared.path.Step.TheVariants.{Name, Index}
use Rattle.attr_value.specs.Tree.{Tree}
use Rattle.path_entries.specs.Entries.{below, behind, is_name, is_place, or_rest}
use Rattle.item_writes.specs.Apart.{same_step, overlap, AreApart, paths_of}
use Rattle.item_writes.specs.Extents.{written_here}
use Rattle.item_writes.specs.NewTree.{Written}
use Rattle.item_writes.specs.PathsThroughLists.{MeetsNone, NoneBegins, begins, writes_behind}
use Rattle.item_writes.proofs.Apart.{same_step_itself, apart_turned}
use Rattle.item_writes.proofs.Steps.{apart_at, misses_rest, fails_below, misses_below}

-- ---- a path that no written path meets, behind its first step

pub none_begins_below : (s : Step) (q : List Step) (ws : List Written) → NoneBegins (s ∷ q) ws
    → NoneBegins q (below (same_step s) ws)
none_begins_below s q ws far = fails_below begins (λ s t p q. refl) s q ws far

-- a path that does not meet another does not begin it
pub missed_begins : (p q : List Step) → overlap p q ≡ false → begins p q ≡ false
missed_begins [] q e = e
missed_begins (s ∷ p) [] e = refl
missed_begins (s ∷ p) (t ∷ q) e = one (same_step s t) e (missed_begins p q)
  where
    one : (b : Bool) → (b && overlap p q) ≡ false → (overlap p q ≡ false → begins p q ≡ false) → (b && begins p q) ≡ false
    one true f later = later f
    one false f later = refl

pub misses_begins : (q : List Step) (ws : List Written) → MeetsNone q ws → NoneBegins q ws
misses_begins q [] far = tt
misses_begins q (w ∷ ws) far = (missed_begins w.0 q far.0, misses_begins q ws far.1)

pub nothing_behind : (q : List Step) (ws : List Written) → MeetsNone q ws → writes_behind q ws ≡ []
nothing_behind [] [] far = refl
nothing_behind [] (([], v) ∷ ws) far = let e : true ≡ false = far.0 in cc
nothing_behind [] ((s ∷ p, v) ∷ ws) far = let e : true ≡ false = far.0 in cc
nothing_behind (Name name ∷ q) ws far = nothing_behind q (below (is_name name) ws) (misses_below (Name name) q ws far)
nothing_behind (Index place ∷ q) ws far = nothing_behind q (below (is_place place) ws) (misses_below (Index place) q ws far)

pub not_here : (q : List Step) (ws : List Written) → NoneBegins q ws → written_here ws ≡ None
not_here q [] far = refl
not_here q (([], v) ∷ ws) far = let e : true ≡ false = far.0 in cc
not_here q ((s ∷ p, v) ∷ ws) far = refl

pub rest_begins : (q : List Step) (ws : List Written) → AllByRecursion (λ p. overlap q p ≡ false) (paths_of ws) → NoneBegins q ws
rest_begins q ws apart = misses_begins q ws (misses_rest q ws apart)

-- ---- a write that ends right behind a step

only : (b : Bool) → (b && true) ≡ false → b ≡ false
only true e = e
only false e = e

skips : (s : Step) (w : Written) (ws : List Written) → overlap w.0 (s ∷ []) ≡ false
    → below (same_step s) (w ∷ ws) ≡ below (same_step s) ws
skips s ([], v) ws e = refl
skips s (t ∷ p, v) ws e =
    let other : same_step s t ≡ false = only (same_step s t) (apart_turned (t ∷ p) (s ∷ []) e) in
    ap (λ b. or_rest (cond b (Some (p, v)) None) (below (same_step s) ws)) other

pub ends_here : (s : Step) (x : Option Tree) (ws : List Written) → AreApart (paths_of ws) → (k : ℕ)
    → slice_get ws k ≡ Some (s ∷ [], x) → written_here (below (same_step s) ws) ≡ Some x
ends_here s x [] apart k e = cc
ends_here s x (w ∷ ws) apart zero e =
    let same : w ≡ (s ∷ [], x) = cc in
    ap (λ v. written_here (below (same_step s) (v ∷ ws))) same
    ∙ ap (λ b. written_here (or_rest (cond b (Some ([], x)) None) (below (same_step s) ws))) (same_step_itself s)
ends_here s x (w ∷ ws) apart (suc k) e =
    ap written_here (skips s w ws (apart_at w.0 ws apart.0 k (s ∷ [], x) e)) ∙ ends_here s x ws apart.1 k e
