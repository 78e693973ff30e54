-- A list that has the kept tokens has them again after each call, changed as the list's own words say.
use Rattle.std.proofs.Common.{◌≡◌, ℕ, Bool, true, false, cond, not, if◌then◌else◌, List, [], ◌∷◌, ◌++◌, filter, Option, None, Some, option_map, is_some, true≢false, ap, refl, sym, ◌∙◌}
use Rattle.std.specs.Str.{bytes_eq}
use Rattle.std.specs.Option.{option_map_or}
use Rattle.std.specs.Ordering.{nat_cmp, eq_by_cmp}
use Rattle.std.specs.Cmp.{eq_by_cmp_equiv}
use Rattle.std.specs.Cmp.Lexicographic.{slice_cmp, nat_list_cmp_total}
use Rattle.std.specs.FinMap.{empty, get, insert, remove, from_entries, from_entries_push, get-from_entries, get-insert, get-remove, slice_cmp-IsAntisymmetric, nat_cmp-IsAntisymmetric}
use Rattle.std.proofs.lemmas.Slice.Eq.{bytes_eq-Decides}
use Rattle.client_tokens.specs.declared.kept.Kept.{Kept}
use Rattle.client_tokens.specs.Kept.{has_expired}
use Rattle.client_tokens.specs.TokenMap.{TokenMap, completed_at, purged}
use Rattle.client_tokens.specs.TokenList.{TokenList, Lists, IsEachOnce, find_listed, keep_listed, complete_listed, free_listed, purge_listed}
use Rattle.client_tokens.proofs.TokenMaps.{same_tokens, flipped, tied}
use Rattle.client_tokens.proofs.Purges.{live_part, get-purged}

apart : (token other : List ℕ) → eq_by_cmp (slice_cmp nat_cmp) token other ≡ false → eq_by_cmp (slice_cmp nat_cmp) other token ≡ false
apart token other h = (eq_by_cmp_equiv nat_list_cmp_total).symm other token ∙ h

module _ {A : Type 0} where
  pub get-listed : (list : TokenList A) (tokens : TokenMap A) → Lists list tokens → (token : List ℕ) → get tokens token ≡ find_listed list token
  get-listed list tokens lists token = ap (λ m. get m token) (sym lists.same) ∙ get-from_entries nat_list_cmp_total list token

  by_look_up : (list : TokenList A) (tokens : TokenMap A) → ((token : List ℕ) → find_listed list token ≡ get tokens token) → from_entries list ≡ tokens
  by_look_up list tokens h = same_tokens _ _ (λ token. get-from_entries nat_list_cmp_total list token ∙ h token)

  not_first : (here : Bool) (kept : Kept A) (rest : Option (Kept A)) → cond here (Some kept) rest ≡ None → (here ≡ false) × (rest ≡ None)
  not_first true kept rest h = absurd (true≢false (ap is_some h))
  not_first false kept rest h = (refl, h)

  found-part : (keep : Bool) (e : List ℕ × Kept A) (list : TokenList A) (token : List ℕ) → find_listed (cond keep (e ∷ list) list) token ≡ cond keep (cond (eq_by_cmp (slice_cmp nat_cmp) token e.0) (Some e.1) (find_listed list token)) (find_listed list token)
  found-part true e list token = refl
  found-part false e list token = refl

  -- what isn't found isn't found in a part either
  absent-filter : (test : List ℕ × Kept A → Bool) (list : TokenList A) (token : List ℕ) → find_listed list token ≡ None → find_listed (filter test list) token ≡ None
  absent-filter test [] token h = refl
  absent-filter test (e ∷ es) token h =
      elim (eq_by_cmp (slice_cmp nat_cmp) token e.0) as (λ b. eq_by_cmp (slice_cmp nat_cmp) token e.0 ≡ b → cond b (Some e.1) (find_listed es token) ≡ None → find_listed (cond (test e) (e ∷ filter test es) (filter test es)) token ≡ None) [
        | true ↦ λ _ r. absurd (true≢false (ap is_some r))
        | false ↦ λ apart r. let rest = absent-filter test es token r in
            elim (test e) as (λ t. find_listed (cond t (e ∷ filter test es) (filter test es)) token ≡ None) [ true ↦ ap (λ b. cond b (Some e.1) (find_listed (filter test es) token)) apart ∙ rest | false ↦ rest ]
      ] refl h

  once-filter : (test : List ℕ × Kept A → Bool) (list : TokenList A) → IsEachOnce list → IsEachOnce (filter test list)
  once-filter test [] h = tt
  once-filter test (e ∷ es) h = elim (test e) as (λ t. IsEachOnce (cond t (e ∷ filter test es) (filter test es))) [ true ↦ (absent-filter test es e.0 h.0, once-filter test es h.1) | false ↦ once-filter test es h.1 ]

  pub Lists-empty : Lists [] (empty {X = Kept A} {R = slice_cmp nat_cmp})
  Lists-empty = record { once = tt; same = refl }

  absent-push : (list : TokenList A) (token : List ℕ) (kept : Kept A) (other : List ℕ) → eq_by_cmp (slice_cmp nat_cmp) other token ≡ false → find_listed list other ≡ None → find_listed (list ++ (token, kept) ∷ []) other ≡ None
  absent-push [] token kept other differ none = ap (λ b. cond b (Some kept) None) differ
  absent-push (e ∷ es) token kept other differ none =
      let past = not_first (eq_by_cmp (slice_cmp nat_cmp) other e.0) e.1 (find_listed es other) none in
      ap (λ b. cond b (Some e.1) (find_listed (es ++ (token, kept) ∷ []) other)) past.0 ∙ absent-push es token kept other differ past.1

  -- a token that isn't found comes last
  once-push : (list : TokenList A) (token : List ℕ) (kept : Kept A) → find_listed list token ≡ None → IsEachOnce list → IsEachOnce (list ++ (token, kept) ∷ [])
  once-push [] token kept none h = (refl, tt)
  once-push (e ∷ es) token kept none h =
      let other = not_first (eq_by_cmp (slice_cmp nat_cmp) token e.0) e.1 (find_listed es token) none in
      (absent-push es token kept e.0 (apart token e.0 other.0) h.0, once-push es token kept other.1 h.1)

  pub Lists-keep : (list : TokenList A) (tokens : TokenMap A) (token : List ℕ) (kept : Kept A) → get tokens token ≡ None → Lists list tokens → Lists (keep_listed list token kept) (insert tokens token kept)
  Lists-keep list tokens token kept none lists = record {
    once = once-push list token kept (sym (get-listed list tokens lists token) ∙ none) lists.once;
    same = from_entries_push nat_list_cmp_total (slice_cmp-IsAntisymmetric nat_cmp-IsAntisymmetric) list token kept (sym (get-listed list tokens lists token) ∙ none) ∙ ap (λ m. insert m token kept) lists.same;
  }

  -- a token is taken out
  free_step : (gone here freed : Bool) (kept : Kept A) (rest was : Option (Kept A)) → (gone ≡ true → here ≡ freed) → (gone ≡ false → here ≡ true → freed ≡ true → ⊥) → rest ≡ cond freed None was
      → cond (not gone) (cond here (Some kept) rest) rest ≡ cond freed None (cond here (Some kept) was)
  free_step true true true kept rest was same never h = h
  free_step true true false kept rest was same never h = absurd (true≢false (same refl))
  free_step true false true kept rest was same never h = absurd (true≢false (sym (same refl)))
  free_step true false false kept rest was same never h = h
  free_step false true true kept rest was same never h = absurd (never refl refl refl)
  free_step false true false kept rest was same never h = refl
  free_step false false freed kept rest was same never h = h

  found-free : (list : TokenList A) (gone token : List ℕ) → find_listed (free_listed list gone) token ≡ cond (eq_by_cmp (slice_cmp nat_cmp) token gone) None (find_listed list token)
  found-free [] gone token = elim (eq_by_cmp (slice_cmp nat_cmp) token gone) as (λ b. None ≡ cond b None (find_listed {A = A} [] token)) [ true ↦ refl | false ↦ refl ]
  found-free (e ∷ es) gone token =
      found-part (not (bytes_eq gone e.0)) e (free_listed es gone) token
      ∙ free_step (bytes_eq gone e.0) (eq_by_cmp (slice_cmp nat_cmp) token e.0) (eq_by_cmp (slice_cmp nat_cmp) token gone) e.1 _ _
      (λ same. ap (λ t. eq_by_cmp (slice_cmp nat_cmp) token t) (sym ((bytes_eq-Decides gone e.0).0 same)))
      (λ differ here freed. true≢false (sym ((bytes_eq-Decides gone e.0).1 (sym (tied token gone freed) ∙ tied token e.0 here)) ∙ differ))
      (found-free es gone token)

  pub Lists-free : (list : TokenList A) (tokens : TokenMap A) (token : List ℕ) → Lists list tokens → Lists (free_listed list token) (remove tokens token)
  Lists-free list tokens gone lists = record {
    once = once-filter (λ e. not (bytes_eq gone e.0)) list lists.once;
    same = by_look_up (free_listed list gone) (remove tokens gone) (λ token.
        found-free list gone token
        ∙ ap (λ o. cond (eq_by_cmp (slice_cmp nat_cmp) token gone) None o) (sym (get-listed list tokens lists token))
        ∙ sym (get-remove nat_list_cmp_total tokens gone token));
  }

  -- tokens are purged
  purge_step : (over here : Bool) (moment : ℕ) (kept : Kept A) (rest was : Option (Kept A)) → has_expired kept moment ≡ over → (here ≡ true → was ≡ None) → rest ≡ live_part moment was
      → cond (not over) (cond here (Some kept) rest) rest ≡ live_part moment (cond here (Some kept) was)
  purge_step true true moment kept rest was e none h = h ∙ ap (live_part moment) (none refl) ∙ sym (ap (λ b. cond (not b) (Some kept) None) e)
  purge_step true false moment kept rest was e none h = h
  purge_step false true moment kept rest was e none h = sym (ap (λ b. cond (not b) (Some kept) None) e)
  purge_step false false moment kept rest was e none h = h

  found-purge : (list : TokenList A) (moment : ℕ) (token : List ℕ) → IsEachOnce list → find_listed (purge_listed list moment) token ≡ live_part moment (find_listed list token)
  found-purge [] moment token once = refl
  found-purge (e ∷ es) moment token once =
      found-part (not (has_expired e.1 moment)) e (purge_listed es moment) token
      ∙ purge_step (has_expired e.1 moment) (eq_by_cmp (slice_cmp nat_cmp) token e.0) moment e.1 _ _ refl
      (λ here. ap (find_listed es) (tied token e.0 here) ∙ once.0)
      (found-purge es moment token once.1)

  pub Lists-purge : (list : TokenList A) (tokens : TokenMap A) (moment : ℕ) → Lists list tokens → Lists (purge_listed list moment) (purged tokens moment)
  Lists-purge list tokens moment lists = record {
    once = once-filter (λ e. not (has_expired e.1 moment)) list lists.once;
    same = by_look_up (purge_listed list moment) (purged tokens moment) (λ token.
        found-purge list moment token lists.once
        ∙ ap (live_part moment) (sym (get-listed list tokens lists token))
        ∙ sym (get-purged tokens moment token));
  }

  -- a token is completed
  with_moment : List ℕ → ℕ → List ℕ → Kept A → Kept A
  with_moment token moment other kept = if bytes_eq token other then record kept { completed = Some moment } else kept

  complete_step : (here : Bool) (f : Kept A → Kept A) (after kept : Kept A) (rest was : Option (Kept A)) → (here ≡ true → after ≡ f kept) → rest ≡ option_map f was → cond here (Some after) rest ≡ option_map f (cond here (Some kept) was)
  complete_step true f after kept rest was same h = ap Some (same refl)
  complete_step false f after kept rest was same h = h

  found-complete : (list : TokenList A) (token : List ℕ) (moment : ℕ) (other : List ℕ) → find_listed (complete_listed list token moment) other ≡ option_map (with_moment token moment other) (find_listed list other)
  unfolding with_moment
  found-complete [] token moment other = refl
  found-complete (e ∷ es) token moment other =
      complete_step (eq_by_cmp (slice_cmp nat_cmp) other e.0) (with_moment token moment other) (with_moment token moment e.0 e.1) e.1 _ _
      (λ here. ap (λ t. with_moment token moment t e.1) (sym (tied other e.0 here)))
      (found-complete es token moment other)

  once-complete : (list : TokenList A) (token : List ℕ) (moment : ℕ) → IsEachOnce list → IsEachOnce (complete_listed list token moment)
  once-complete [] token moment h = tt
  once-complete (e ∷ es) token moment h = (found-complete es token moment e.0 ∙ ap (option_map (with_moment token moment e.0)) h.0, once-complete es token moment h.1)

  unmoved : (o : Option (Kept A)) → o ≡ option_map (λ k. k) o
  unmoved None = refl
  unmoved (Some k) = refl

  complete_found : (same : Bool) (moment : ℕ) (kept was : Option (Kept A)) (tokens : TokenMap A) (token other : List ℕ) → bytes_eq token other ≡ same → get tokens token ≡ kept → (same ≡ true → was ≡ kept) → get tokens other ≡ was
      → get (option_map_or (λ k. insert tokens token (record k { completed = Some moment })) kept tokens) other ≡ option_map (λ k. if same then record k { completed = Some moment } else k) was
  complete_found true moment None was tokens token other e k same w =
      let done : Kept A → Kept A = λ x. record x { completed = Some moment } in
      w ∙ same refl ∙ ap (option_map done) (sym (same refl))
  complete_found true moment (Some k) was tokens token other e _ same w =
      get-insert nat_list_cmp_total tokens token (record k { completed = Some moment }) other
      ∙ ap (λ b. cond b (Some (record k { completed = Some moment })) (get tokens other)) (sym (flipped token other) ∙ e)
      ∙ (let done : Kept A → Kept A = λ x. record x { completed = Some moment } in ap (option_map done) (sym (same refl)))
  complete_found false moment None was tokens token other e k same w = w ∙ unmoved was
  complete_found false moment (Some k) was tokens token other e _ same w =
      get-insert nat_list_cmp_total tokens token (record k { completed = Some moment }) other
      ∙ ap (λ b. cond b (Some (record k { completed = Some moment })) (get tokens other)) (sym (flipped token other) ∙ e)
      ∙ w ∙ unmoved was

  get-completed_at : (tokens : TokenMap A) (token : List ℕ) (moment : ℕ) (other : List ℕ) → get (completed_at tokens token moment) other ≡ option_map (with_moment token moment other) (get tokens other)
  unfolding with_moment
  get-completed_at tokens token moment other = complete_found (bytes_eq token other) moment (get tokens token) (get tokens other) tokens token other refl refl (λ same. ap (get tokens) (sym ((bytes_eq-Decides token other).0 same))) refl

  pub Lists-complete : (list : TokenList A) (tokens : TokenMap A) (token : List ℕ) (moment : ℕ) → Lists list tokens → Lists (complete_listed list token moment) (completed_at tokens token moment)
  Lists-complete list tokens token moment lists = record {
    once = once-complete list token moment lists.once;
    same = by_look_up (complete_listed list token moment) (completed_at tokens token moment) (λ other.
        found-complete list token moment other
        ∙ ap (option_map (with_moment token moment other)) (sym (get-listed list tokens lists other))
        ∙ sym (get-completed_at tokens token moment other));
  }
