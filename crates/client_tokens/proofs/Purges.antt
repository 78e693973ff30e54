-- What is left of the kept tokens, once those whose life is over are taken out.
use Rattle.std.proofs.Common.{◌≡◌, ℕ, suc, ◌+◌, ◌^◌, ◌<◌, ◌≤◌, Bool, true, false, cond, not, List, [], ◌∷◌, length, slice_get, slice_index, Option, None, Some, option_map, unwrap_or, is_some, true≢false, IsSomeAnd, String, ap, refl, sym, subst, ◌∙◌, arith}
use borrow.Author.Tests.{leb-false, lt-leb}
use Rattle.std.specs.Map.{lookup, values_of}
use Rattle.std.specs.Str.{bytes_eq}
use Rattle.std.specs.String.{string_bytes}
use Rattle.std.specs.Option.{option_map_or}
use Rattle.std.specs.Bool.{OnTrue, OnFalse}
use Rattle.std.proofs.lemmas.Option.{slice_get-map}
use Rattle.std.specs.Ordering.{nat_cmp, eq_by_cmp}
use Rattle.std.specs.Cmp.Lexicographic.{slice_cmp, nat_list_cmp_total}
use Rattle.std.specs.FinMap.{get, remove, get-retain_keys, get-remove, slice_cmp-IsAntisymmetric, nat_cmp-IsAntisymmetric}
use Rattle.std.proofs.lemmas.Map.Text.{is_text}
use Rattle.client_tokens.specs.declared.kept.Kept.{Kept}
use Rattle.client_tokens.specs.Kept.{has_expired, is_over, due, token_life}
use Rattle.client_tokens.specs.Heap.{dues, IsHeap, token_at}
use Rattle.client_tokens.specs.TokenMap.{TokenMap, token_map, purged}
use Rattle.client_tokens.proofs.Dues.{due_read, length-dues}
use Rattle.client_tokens.proofs.HeapSteps.{first_is_least}
use Rattle.client_tokens.proofs.TokenMaps.{same_tokens, tied, get-token_map}

-- the value, unless it is that of a token whose life is over
abbrev pub live_part : {A : Type 0} → ℕ → Option (Kept A) → Option (Kept A)
live_part moment kept = cond (not (option_map_or (λ k. has_expired k moment) kept false)) kept None

module _ {A : Type 0} where
  pub get-purged : (tokens : TokenMap A) (moment : ℕ) (token : List ℕ) → get (purged tokens moment) token ≡ live_part moment (get tokens token)
  get-purged tokens moment token =
      get-retain_keys tokens _ token (λ other tie. ap (λ t. not (option_map_or (λ k. has_expired k moment) (get tokens t) false)) (sym (slice_cmp-IsAntisymmetric nat_cmp-IsAntisymmetric token other tie)))

  -- the part that lives on, of what a removal leaves
  without : (b : Bool) (moment : ℕ) (kept : Option (Kept A)) → (b ≡ true → live_part moment kept ≡ None) → live_part moment (cond b None kept) ≡ live_part moment kept
  without true moment kept over = sym (over refl)
  without false moment kept over = refl

  over_part : (moment : ℕ) (kept : Option (Kept A)) → IsSomeAnd kept (λ k. has_expired k moment ≡ true) → live_part moment kept ≡ None
  over_part moment None over = refl
  over_part moment (Some k) over = ap (λ b. cond (not b) (Some k) None) over

  -- a token whose life is over may be taken out before
  pub purged-remove : (tokens : TokenMap A) (moment : ℕ) (gone : List ℕ) → IsSomeAnd (get tokens gone) (λ kept. has_expired kept moment ≡ true) → purged (remove tokens gone) moment ≡ purged tokens moment
  purged-remove tokens moment gone over = same_tokens _ _ (λ token.
      get-purged (remove tokens gone) moment token
      ∙ ap (live_part moment) (get-remove nat_list_cmp_total tokens gone token)
      ∙ without (eq_by_cmp (slice_cmp nat_cmp) token gone) moment (get tokens token) (λ same. ap (λ t. live_part moment (get tokens t)) (tied token gone same) ∙ over_part moment (get tokens gone) over)
      ∙ sym (get-purged tokens moment token))

  -- where each token lives on, none is taken out
  pub purged-none : (tokens : TokenMap A) (moment : ℕ) → ((token : List ℕ) (kept : Kept A) → get tokens token ≡ Some kept → has_expired kept moment ≡ false) → purged tokens moment ≡ tokens
  purged-none tokens moment live = same_tokens _ _ (λ token. get-purged tokens moment token ∙ by token (get tokens token) refl)
    where
      by : (token : List ℕ) (o : Option (Kept A)) → get tokens token ≡ o → live_part moment (get tokens token) ≡ get tokens token
      by token None e = ap (live_part moment) e ∙ sym e
      by token (Some kept) e = ap (live_part moment) e ∙ ap (λ b. cond (not b) (Some kept) None) (live token kept e) ∙ sym e

live_after : (first kept : Option ℕ) (moment : ℕ) → moment < 2 ^ 64 → unwrap_or first (2 ^ 64) ≤ unwrap_or kept (2 ^ 64) → is_over first moment ≡ false → is_over kept moment ≡ false
live_after first None moment fits before live = refl
live_after None (Some c) moment fits before live = lt-leb (c + token_life) moment (omega arith)
live_after (Some f) (Some c) moment fits before live = lt-leb (c + token_life) moment (let l : moment < f + token_life = leb-false (f + token_life) moment live in omega arith)

module _ {Y A : Type 0} where
  -- what is found stands at a place
  place_of : (es : List (String Y × Kept A)) (token : List ℕ) (kept : Kept A) → lookup (is_text token) es ≡ Some kept → (place : ℕ) × ((place < length es) × (slice_get (values_of es) place ≡ Some kept))
  place_of [] token kept h = absurd (cc)
  place_of (e ∷ es) token kept h =
      elim (bytes_eq token (string_bytes e.0)) as (λ b. cond b (Some e.1) (lookup (is_text token) es) ≡ Some kept → (place : ℕ) × ((place < length (e ∷ es)) × (slice_get (values_of (e ∷ es)) place ≡ Some kept))) [
        | true ↦ λ r. (0, (omega arith, r))
        | false ↦ λ r. let rest = place_of es token kept r in (suc rest.0, (omega (arith, rest.1.0), rest.1.1))
      ] h

  -- where what is due first lives on, so does each other token
  pub live_all : (es : List (String Y × Kept A)) (e : String Y × Kept A) (moment : ℕ) → moment < 2 ^ 64 → IsHeap (dues es) → slice_get es 0 ≡ Some e → has_expired e.1 moment ≡ false → purged (token_map es) moment ≡ token_map es
  live_all es e moment fits ordered first live = purged-none (token_map es) moment (λ token kept is.
      let at = place_of es token kept (sym (get-token_map es token) ∙ is) in
      let here : slice_index (dues es) at.0 ≡ due kept = due_read es at.0 kept at.1.1 in
      let front : slice_index (dues es) 0 ≡ due e.1 = due_read es 0 e.1 (slice_get-map (λ x. x.1) es 0 ∙ ap (option_map (λ x. x.1)) first) in
      let len = length-dues es in
      let least : slice_index (dues es) 0 ≤ slice_index (dues es) at.0 = first_is_least (dues es) ordered at.0 (omega (arith, at.1.0)) in
      live_after e.1.completed kept.completed moment fits (omega arith) live)

  -- and where there is no entry, there is no token
  pub live_none : (es : List (String Y × Kept A)) (moment : ℕ) → slice_get es 0 ≡ None → purged (token_map es) moment ≡ token_map es
  live_none [] moment none = purged-none (token_map {Y = Y} []) moment (λ token kept is. absurd (true≢false (sym (ap is_some (sym (get-token_map {Y = Y} [] token) ∙ is)))))
  live_none (e ∷ es) moment none = absurd (true≢false (ap is_some none))

  -- the test of the first entry, as its two answers
  pub first_over : (es : List (String Y × Kept A)) (key : String Y) (kept : Kept A) (moment : ℕ) (b : Bool) → b ≡ has_expired kept moment → slice_get es 0 ≡ Some (key, kept) → get (token_map es) (string_bytes key) ≡ Some kept
      → OnTrue b (IsSomeAnd (get (token_map es) (token_at es 0)) (λ k. has_expired k moment ≡ true))
  first_over es key kept moment true is first has =
      subst (λ o. IsSomeAnd o (λ k. has_expired k moment ≡ true)) (sym (ap (λ o. get (token_map es) (option_map_or (λ k. string_bytes k.0) o [])) first ∙ has)) (sym is)
  first_over es key kept moment false is first has = tt

  pub first_live : (es : List (String Y × Kept A)) (key : String Y) (kept : Kept A) (moment : ℕ) (b : Bool) → moment < 2 ^ 64 → IsHeap (dues es) → b ≡ has_expired kept moment → slice_get es 0 ≡ Some (key, kept)
      → OnFalse b (purged (token_map es) moment ≡ token_map es)
  first_live es key kept moment true fits ordered is first = tt
  first_live es key kept moment false fits ordered is first = live_all es (key, kept) moment fits ordered first (sym is)
