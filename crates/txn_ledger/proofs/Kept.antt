-- What each token is kept with, after a token of some number was completed, freed or kept.
use Rattle.std.specs.FinMap.{get, insert, remove, get-insert, get-remove}
use Rattle.std.specs.Ordering.{nat_cmp, eq_by_cmp}
use Rattle.std.specs.Option.{option_map_or}
use Rattle.std.specs.Str.{bytes_eq}
use Rattle.std.specs.Cmp.Lexicographic.{slice_cmp, nat_list_cmp_total}
use Rattle.std.proofs.Common.{◌≡◌, ℕ, Bool, false, not, ◌&&◌, cond, nat_eq, List, Option, None, Some, is_some, if◌then◌else◌, inl, inr, true≢false, refl, sym, ap, ◌∙◌}
use Rattle.std.specs.Cmp.{eq_by_cmp_equiv}
use Rattle.std.proofs.lemmas.Map.Text.{is_eq-slice_cmp}
use Rattle.std.proofs.lemmas.Bool.{cases_Bool, eqb-true, eq-eqb}
use Rattle.client_tokens.specs.declared.kept.Kept.{Kept}
use Rattle.client_tokens.specs.Kept.{has_expired, is_over}
use Rattle.client_tokens.specs.TokenMap.{TokenMap, completed_at, purged}
use Rattle.client_tokens.proofs.TokenMaps.{tied}
use Rattle.client_tokens.proofs.Purges.{get-purged, live_part}
use Rattle.txn_ledger.specs.Tokens.{IsTokenOf, completed, freed, living}

-- two texts are one by this test
abbrev pub same : List ℕ → List ℕ → Bool
same x y = eq_by_cmp (slice_cmp nat_cmp) x y

some_is : (x y : List ℕ) → Some x ≡ Some y → x ≡ y
some_is x y e = ap (λ o. option_map_or (λ z. z) o x) e

module _ {A : Type 0} where
  -- nothing becomes of what is kept with another number
  not_completed : (number moment : ℕ) (o : Option (Kept A)) → ((kept : Kept A) → o ≡ Some kept → nat_eq kept.number number ≡ false) → completed number moment o ≡ o
  not_completed number moment None h = refl
  not_completed number moment (Some kept) h =
      ap (λ b. if b && not (is_some kept.completed) then Some (record kept { completed = Some moment }) else Some kept) (h kept refl)

  not_freed : (number : ℕ) (o : Option (Kept A)) → ((kept : Kept A) → o ≡ Some kept → nat_eq kept.number number ≡ false) → freed number o ≡ o
  not_freed number None h = refl
  not_freed number (Some kept) h = ap (λ b. if b then None else Some kept) (h kept refl)

  -- the number of another token is another one
  other_number :
      (tokens : TokenMap A) (token other : List ℕ) (number : ℕ) → IsTokenOf tokens (Some token) number → same other token ≡ false
      → (kept : Kept A) → get tokens other ≡ Some kept → nat_eq kept.number number ≡ false
  other_number tokens token other number its differ kept found = elim (cases_Bool (nat_eq kept.number number)) [
    | inl is ↦
        let one : token ≡ other = some_is token other (its other kept found (eqb-true kept.number number is)) in
        absurd (true≢false (sym ((eq_by_cmp_equiv nat_list_cmp_total).refl other) ∙ ap (λ x. same other x) (sym one) ∙ differ))
    | inr differs ↦ differs
  ]

  -- the number's own token is completed, and no other
  pub completes :
      (tokens : TokenMap A) (token : List ℕ) (kept : Kept A) (moment : ℕ) → get tokens token ≡ Some kept → kept.completed ≡ None
      → IsTokenOf tokens (Some token) kept.number
      → (other : List ℕ) → get (completed_at tokens token moment) other ≡ completed kept.number moment (get tokens other)
  completes tokens token kept moment found unset its other =
      let new : Kept A = record kept { completed = Some moment } in
      let at : completed_at tokens token moment ≡ insert tokens token new =
      ap (λ o. option_map_or (λ k. insert tokens token (record k { completed = Some moment })) o tokens) found in
      ap (λ m. get m other) at ∙ get-insert nat_list_cmp_total tokens token new other
      ∙ elim (cases_Bool (same other token)) [
        | inl is ↦
            ap (λ b. cond b (Some new) (get tokens other)) is
            ∙ sym (ap (completed kept.number moment) (ap (get tokens) (tied other token is) ∙ found)
            ∙ ap (λ b. if b && not (is_some kept.completed) then Some new else Some kept) (eq-eqb kept.number kept.number refl)
            ∙ ap (λ (c : Option ℕ). if not (is_some c) then Some new else Some kept) unset)
        | inr differs ↦
            ap (λ b. cond b (Some new) (get tokens other)) differs
            ∙ sym (not_completed kept.number moment (get tokens other) (other_number tokens token other kept.number its differs))
      ]

  -- the number's own token goes, and no other
  pub frees :
      (tokens : TokenMap A) (token : List ℕ) (kept : Kept A) → get tokens token ≡ Some kept → IsTokenOf tokens (Some token) kept.number
      → (other : List ℕ) → get (remove tokens token) other ≡ freed kept.number (get tokens other)
  frees tokens token kept found its other =
      get-remove nat_list_cmp_total tokens token other
      ∙ elim (cases_Bool (same other token)) [
        | inl is ↦
            ap (λ b. cond b None (get tokens other)) is
            ∙ sym (ap (freed kept.number) (ap (get tokens) (tied other token is) ∙ found)
            ∙ ap (λ b. if b then None else Some kept) (eq-eqb kept.number kept.number refl))
        | inr differs ↦
            ap (λ b. cond b None (get tokens other)) differs
            ∙ sym (not_freed kept.number (get tokens other) (other_number tokens token other kept.number its differs))
      ]

  live_is : (moment : ℕ) (o : Option (Kept A)) → live_part moment o ≡ living moment o
  live_is moment None = refl
  live_is moment (Some kept) = elim (cases_Bool (has_expired kept moment)) [
    | inl is ↦ ap (λ b. cond (not b) (Some kept) None) is ∙ sym (ap (λ b. if b then None else Some kept) is)
    | inr differs ↦ ap (λ b. cond (not b) (Some kept) None) differs ∙ sym (ap (λ b. if b then None else Some kept) differs)
  ]

  fresh_lives : (moment : ℕ) (kept : Kept A) → kept.completed ≡ None → living moment (Some kept) ≡ Some kept
  fresh_lives moment kept unset = ap (λ c. if is_over c moment then None else Some kept) unset

  -- a token is kept, and those whose life is over go
  pub keeps :
      (tokens : TokenMap A) (token : List ℕ) (kept : Kept A) (moment : ℕ) → kept.completed ≡ None
      → (other : List ℕ) → get (purged (insert tokens token kept) moment) other
      ≡ (if bytes_eq other token then Some kept else living moment (get tokens other))
  keeps tokens token kept moment unset other =
      get-purged (insert tokens token kept) moment other
      ∙ live_is moment (get (insert tokens token kept) other)
      ∙ ap (living moment) (get-insert nat_list_cmp_total tokens token kept other)
      ∙ elim (cases_Bool (same other token)) [
        | inl is ↦
            ap (λ b. living moment (cond b (Some kept) (get tokens other))) is ∙ fresh_lives moment kept unset
            ∙ sym (ap (λ b. if b then Some kept else living moment (get tokens other)) (sym (is_eq-slice_cmp other token) ∙ is))
        | inr differs ↦
            ap (λ b. living moment (cond b (Some kept) (get tokens other))) differs
            ∙ sym (ap (λ b. if b then Some kept else living moment (get tokens other)) (sym (is_eq-slice_cmp other token) ∙ differs))
      ]

  -- those whose life is over go
  pub purges : (tokens : TokenMap A) (moment : ℕ) (other : List ℕ) → get (purged tokens moment) other ≡ living moment (get tokens other)
  purges tokens moment other = get-purged tokens moment other ∙ live_is moment (get tokens other)
