-- When the entries are due, as the map's calls change them.
use Rattle.std.proofs.Common.{◌≡◌, ◌≢◌, ℕ, zero, suc, ◌-◌, ◌<◌, List, [], ◌∷◌, ◌++◌, length, map, set, get_or, slice_get, slice_index, Some, option_map, ap, refl, sym, ◌∙◌, arith}
use Rattle.std.specs.List.{swap, swap_remove}
use Rattle.std.specs.Map.{values_of}
use Rattle.std.proofs.Math.ListN.{get_or-append}
use Rattle.std.proofs.Math.ListN as math
use Rattle.std.proofs.lemmas.List.{map-set, get_or-take, get_or-map, get_or-set_other, length-map, length-set, length-take, length-append}
use Rattle.std.proofs.lemmas.Option.{slice_get-map, get_or_from_slice_get}
use Rattle.indexmap.specs.Layout.{set_value_at}
use Rattle.client_tokens.specs.declared.kept.Kept.{Kept}
use Rattle.client_tokens.specs.Kept.{due}
use Rattle.client_tokens.specs.Heap.{dues}

module _ {K A : Type 0} where
  dues-values : (es : List (K × Kept A)) → dues es ≡ map due (values_of es)
  dues-values [] = refl
  dues-values (e ∷ es) = ap (λ l. due e.1 ∷ l) (dues-values es)

  -- the entry at i
  pub due_read : (es : List (K × Kept A)) (i : ℕ) (kept : Kept A) → slice_get (values_of es) i ≡ Some kept → slice_index (dues es) i ≡ due kept
  due_read es i kept e =
      ap (λ l. slice_index l i) (dues-values es)
      ∙ get_or_from_slice_get (map due (values_of es)) i (due kept) 0 (slice_get-map due (values_of es) i ∙ ap (option_map due) e)

  pub length-dues : (es : List (K × Kept A)) → length (dues es) ≡ length es
  length-dues es = length-map es (λ e. due e.1)

  -- two entries in each other's place
  pub dues-swap : (es : List (K × Kept A)) (a b : ℕ) → dues (swap es a b) ≡ swap (dues es) a b
  dues-swap [] a b = refl
  dues-swap (e ∷ es) a b =
      let f : K × Kept A → ℕ = λ d. due d.1 in
      map-set f (set (e ∷ es) a (get_or (e ∷ es) b e)) b (get_or (e ∷ es) a e)
      ∙ ap (λ l. set l b (f (get_or (e ∷ es) a e))) (map-set f (e ∷ es) a (get_or (e ∷ es) b e))
      ∙ (λ i. set (set (dues (e ∷ es)) a (sym (math.get_or-map f (e ∷ es) b e) i)) b (sym (math.get_or-map f (e ∷ es) a e) i))

  -- an entry that stands where it stood
  stays : (es fs : List (K × Kept A)) (k : ℕ) (d : K × Kept A) → k < length es → k < length fs → get_or fs k d ≡ get_or es k d → slice_index (dues fs) k ≡ slice_index (dues es) k
  stays es fs k d in' within e = get_or-map (λ x. due x.1) fs k d 0 within ∙ ap (λ x. due x.1) e ∙ sym (get_or-map (λ x. due x.1) es k d 0 in')

  -- all but the last stay where a last one comes
  pub stay_before_last : (es : List (K × Kept A)) (e : K × Kept A) (k : ℕ) → k < length es → slice_index (dues (es ++ e ∷ [])) k ≡ slice_index (dues es) k
  stay_before_last es e k in' = stays es (es ++ e ∷ []) k e in' (omega (arith, length-append es (e ∷ []))) (get_or-append es (e ∷ []) e k in')

  -- all but the one at i stay where its value is written
  pub stay_beside_write : (es : List (K × Kept A)) (i : ℕ) (w : Kept A) (k : ℕ) → k ≢ i → slice_index (dues (set_value_at es i w)) k ≡ slice_index (dues es) k
  stay_beside_write [] i w k apart = refl
  stay_beside_write (e ∷ es) zero w zero apart = absurd (apart refl)
  stay_beside_write (e ∷ es) zero w (suc k) apart = refl
  stay_beside_write (e ∷ es) (suc i) w zero apart = refl
  stay_beside_write (e ∷ es) (suc i) w (suc k) apart = stay_beside_write es i w k (λ same. apart (ap (λ n. suc n) same))

  pub length-swap_remove : (es : List (K × Kept A)) (i : ℕ) (e : K × Kept A) → length (swap_remove es i e) ≡ length es - 1
  length-swap_remove es i e = omega (arith, length-take (length es - 1) (set es i (get_or es (length es - 1) e)), length-set es i (get_or es (length es - 1) e))

  -- all but the last stay where the last takes the place at i
  pub stay_beside_gap : (es : List (K × Kept A)) (i : ℕ) (e : K × Kept A) (k : ℕ) → k < length (swap_remove es i e) → k ≢ i → slice_index (dues (swap_remove es i e)) k ≡ slice_index (dues es) k
  stay_beside_gap es i e k within apart =
      let len = length-swap_remove es i e in
      stays es (swap_remove es i e) k e (omega arith) within
      (get_or-take (length es - 1) (set es i (get_or es (length es - 1) e)) k e (omega arith) ∙ get_or-set_other es i k (get_or es (length es - 1) e) e apart)
