-- How each change of the entries leaves their order: all but the entry at one place still stand in order.
use Rattle.std.proofs.Common.{◌≡◌, ℕ, ◌<◌, List, [], ◌∷◌, ◌++◌, length, slice_get, Option, None, Some, IfSome, sym, subst, arith}
use Rattle.std.specs.List.{swap_remove}
use Rattle.std.proofs.lemmas.List.{length-append}
use Rattle.indexmap.specs.Layout.{set_value_at, length-set_value_at}
use Rattle.client_tokens.specs.declared.kept.Kept.{Kept}
use Rattle.client_tokens.specs.Heap.{dues, IsHeap, IsHeapBut}
use Rattle.client_tokens.proofs.Dues.{length-dues, stay_before_last, stay_beside_write, stay_beside_gap, length-swap_remove}
use Rattle.client_tokens.proofs.HeapSteps.{changed_at, added_at_end}
use Rattle.client_tokens.proofs.TokenMaps.{none_within}

module _ {K A : Type 0} where
  -- an entry comes last
  pub added : (es fs : List (K × Kept A)) (e : K × Kept A) → fs ≡ es ++ e ∷ [] → IsHeap (dues es) → IsHeapBut (dues fs) (length es)
  added es fs e is h =
      let len = length-dues es in
      let more = length-dues (es ++ e ∷ []) in
      let last = length-append es (e ∷ []) in
      let all : IsHeapBut (dues (es ++ e ∷ [])) (length (dues es)) = added_at_end (dues es) (dues (es ++ e ∷ [])) (omega arith) (λ k f. stay_before_last es e k (omega arith)) h in
      subst (λ l. IsHeapBut (dues l) (length es)) (sym is) (subst (λ n. IsHeapBut (dues (es ++ e ∷ [])) n) len all)

  -- a value is written
  pub written : (es : List (K × Kept A)) (place : ℕ) (w : Kept A) → IsHeap (dues es) → IsHeapBut (dues (set_value_at es place w)) place
  written es place w h =
      let old = length-dues es in
      let new = length-dues (set_value_at es place w) in
      let same = length-set_value_at es place w in
      changed_at (dues es) (dues (set_value_at es place w)) place (omega arith) (λ k f apart. stay_beside_write es place w k apart) h

  -- the last entry fills the gap of one that is taken out
  pub filled : (es fs : List (K × Kept A)) (place : ℕ) (r : Option (K × Kept A)) → place < length es → r ≡ slice_get es place → IfSome r (λ e. fs ≡ swap_remove es place e) → IsHeap (dues es) → IsHeapBut (dues fs) place
  filled es fs place None within is after h = absurd (none_within es place within is)
  filled es fs place (Some e) within is after h =
      let old = length-dues es in
      let new = length-dues (swap_remove es place e) in
      let less = length-swap_remove es place e in
      let all : IsHeapBut (dues (swap_remove es place e)) place = changed_at (dues es) (dues (swap_remove es place e)) place (omega arith) (λ k f apart. stay_beside_gap es place e k (omega arith) apart) h in
      subst (λ l. IsHeapBut (dues l) place) (sym after) all
