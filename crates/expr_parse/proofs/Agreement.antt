-- One list begins the other where they agree as far as both go.
use Rattle.std.proofs.lemmas.Option.{slice_get-get_or, slice_get_read, slice_get_within, get_or_from_slice_get}
use Rattle.std.proofs.Common.{◌+◌, ◌-◌, Any, Some, slice_get, get_or, get_or-drop, drop, length-drop, take, take_all, eq-zero-or-pos, ◌≡◌, ◌<◌, ◌≤◌, ◌⊎◌, ◌↔◌, inl, inr, ℕ, zero, suc, List, [], ◌∷◌, ◌++◌, length, refl, sym, ap, subst, ◌∙◌, arith}
use Rattle.base_types.specs.declared.path.DocPath.{DocPath}
use Rattle.base_types.specs.declared.path.Step.{Step}
use Rattle.expr_parse.specs.Agreement.{Agree}
use Rattle.expr_parse.specs.Overlaps.{Overlap, HaveOverlap}

begins_either : (p q : List Step) → Agree p q → ((more : List Step) × (p ++ more ≡ q)) ⊎ ((more : List Step) × (q ++ more ≡ p))
begins_either [] q h = inl (q, refl)
begins_either (x ∷ p) [] h = inr (x ∷ p, refl)
begins_either (x ∷ p) (y ∷ q) h =
    let same : x ≡ y = h 0 x (omega arith) (omega arith) in
    elim (begins_either p q (λ k d a b. h (suc k) d (omega (arith, a)) (omega (arith, b)))) [
      | inl m ↦ inl (m.0, ap (λ z. z ∷ (p ++ m.0)) same ∙ ap (λ l. y ∷ l) m.1)
      | inr m ↦ inr (m.0, ap (λ z. z ∷ (q ++ m.0)) (sym same) ∙ ap (λ l. x ∷ l) m.1)
    ]

agrees : (p m : List Step) → Agree p (p ++ m)
agrees [] m k d a b = let h : ⊥ = omega (arith, a) in absurd h
agrees (x ∷ p) m zero d a b = refl
agrees (x ∷ p) m (suc k) d a b = agrees p m k d (omega (arith, a)) (omega (arith, b))

pub overlap_agree : (p q : DocPath) → Agree p.steps q.steps ↔ Overlap p q
overlap_agree p q = (begins_either p.steps q.steps, back) where
  back : Overlap p q → Agree p.steps q.steps
  back (inl m) = subst (Agree p.steps) m.1 (agrees p.steps m.0)
  back (inr m) = λ k d a b. sym (subst (Agree q.steps) m.1 (agrees q.steps m.0) k d b a)

-- no path before the n-th overlaps a later one
abbrev pub Clear : List DocPath → ℕ → Type 0
Clear paths n = (i j : ℕ) (p q : DocPath) → i < n → i < j → slice_get paths i ≡ Some p → slice_get paths j ≡ Some q → ¬ Overlap p q

pub found : (paths : List DocPath) (n : ℕ) (d : DocPath) → n < length paths → Any (Overlap (get_or paths n d)) (drop (n + 1) paths) → HaveOverlap paths
found paths n d within (k, q, below, is, o) = record {
  i = n;
  j = n + 1 + k;
  p = get_or paths n d;
  q = q;
  apart = omega arith;
  first = slice_get-get_or paths n d within;
  second = slice_get_read paths (length paths) (n + 1 + k) q refl (omega (arith, below, length-drop (n + 1) paths)) (sym is ∙ get_or-drop (n + 1) paths k q);
  overlap = o;
}

pub clear_next : (paths : List DocPath) (n : ℕ) (d : DocPath) → Clear paths n → ¬ Any (Overlap (get_or paths n d)) (drop (n + 1) paths) → Clear paths (n + 1)
clear_next paths n d clear none i j p q early later first second o = go (eq-zero-or-pos (n - i)) where
  go : (n - i ≡ 0) ⊎ (0 < n - i) → ⊥
  go (inl e) =
      let i_is : i ≡ n = omega (arith, early, e) in
      let after : n + 1 + (j - (n + 1)) ≡ j = omega (arith, later, i_is) in
      let p_is : get_or paths n d ≡ p = get_or_from_slice_get paths n p d (subst (λ m. slice_get paths m ≡ Some p) i_is first) in
      let inside = slice_get_within paths j q second in
      none (
        j - (n + 1),
        q,
        omega (arith, inside, after, length-drop (n + 1) paths),
        get_or-drop (n + 1) paths (j - (n + 1)) q ∙ ap (λ m. get_or paths m q) after ∙ get_or_from_slice_get paths j q q second,
        subst (λ v. Overlap v q) (sym p_is) o,
      )
  go (inr less) = clear i j p q (omega (arith, less)) later first second o

pub clear_all : (paths : List DocPath) (n : ℕ) → length paths ≤ n → Clear paths n → ¬ HaveOverlap paths
clear_all paths n past clear h =
    let first = slice_get_within paths h.i h.p h.first in
    clear h.i h.j h.p h.q (omega (arith, first, past)) h.apart h.first h.second h.overlap

pub clear_none : (paths : List DocPath) → Clear paths 0
clear_none paths i j p q early later first second o = let h : ⊥ = omega (arith, early) in absurd h

-- what is behind a place, as the code cuts it out
pub rest_is : (paths : List DocPath) (n : ℕ) → take (length paths - n) (drop n paths) ≡ drop n paths
rest_is paths n = take_all (length paths - n) (drop n paths) (omega (arith, length-drop n paths))
