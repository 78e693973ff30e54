-- The finite map of the kept tokens, as the map's calls change it.
use Rattle.std.proofs.Common.{◌≡◌, ℕ, ◌<◌, true, false, cond, List, [], ◌∷◌, length, map, slice_get, get_or, Option, None, Some, String, ap, refl, sym, ◌∙◌, inl, inr, true≢false, is_some, IfSome, arith}
use Rattle.std.specs.List.{position}
use Rattle.std.specs.Map.{lookup, keys_of}
use Rattle.std.specs.Str.{bytes_eq}
use Rattle.std.specs.String.{string_bytes, string_eq, string_eq_equiv}
use Rattle.std.specs.Ordering.{nat_cmp, eq_by_cmp}
use Rattle.std.specs.Cmp.{eq_by_cmp_equiv}
use Rattle.std.specs.Cmp.Lexicographic.{slice_cmp, nat_list_cmp_total}
use Rattle.std.specs.FinMap.{get, find, insert, remove, get-from_entries, get-insert, get-remove, same_map, slice_cmp-IsAntisymmetric, nat_cmp-IsAntisymmetric}
use Rattle.std.specs.HashMap as hash
use Rattle.indexmap.specs.IndexMap.{with_value_at, set_value_at}
use Rattle.indexmap.proofs.CallerLemmas.{updates-with_value_at}
use Rattle.std.proofs.lemmas.Map.Entries.{hash_map_get_place}
use Rattle.std.specs.HashMap.{HashMap}
use Rattle.std.proofs.lemmas.Map.Text.{is_text, is_eq-slice_cmp, hash_map_updates_text, hash_map_text_same}
use Rattle.std.proofs.lemmas.Slice.Eq.{bytes_eq-Decides}
use Rattle.std.proofs.lemmas.List.Quantifiers.{position-Some}
use Rattle.std.proofs.lemmas.Option.{slice_get_cases}
use Rattle.std.proofs.Math.ListN.{get_or-map}
use Rattle.std.specs.Option.{option_map_or}
use Rattle.client_tokens.specs.declared.kept.Kept.{Kept}
use Rattle.client_tokens.specs.Heap.{token_at}
use Rattle.client_tokens.specs.TokenMap.{TokenMap, token_map, completed_at}

-- two tokens are one, as the tests of the index map and of the finite map tell
pub flipped : (a b : List ℕ) → bytes_eq a b ≡ eq_by_cmp (slice_cmp nat_cmp) b a
flipped a b = sym (is_eq-slice_cmp a b) ∙ (eq_by_cmp_equiv nat_list_cmp_total).symm a b

-- there is an element at each place within a list
pub is_some-slice_get : {X : Type 0} (xs : List X) (i : ℕ) → i < length xs → is_some (slice_get xs i) ≡ true
is_some-slice_get xs i within = elim (slice_get_cases xs i).1 [ inl e ↦ ap is_some e.2 | inr past ↦ absurd (omega (arith, past.0)) ]

pub none_within : {X : Type 0} (xs : List X) (i : ℕ) → i < length xs → None ≡ slice_get xs i → ⊥
none_within xs i within none = true≢false (sym (is_some-slice_get xs i within) ∙ sym (ap is_some none))

pub tied : (a b : List ℕ) → eq_by_cmp (slice_cmp nat_cmp) a b ≡ true → a ≡ b
tied a b h = (bytes_eq-Decides a b).0 (sym (is_eq-slice_cmp a b) ∙ h)

module _ {A : Type 0} where
  -- two maps that have the same at each token are one
  pub same_tokens : (m n : TokenMap A) → ((token : List ℕ) → get m token ≡ get n token) → m ≡ n
  same_tokens m n same = same_map nat_list_cmp_total (slice_cmp-IsAntisymmetric nat_cmp-IsAntisymmetric) m n same

module _ {Y A : Type 0} where
  found : (es : List (String Y × Kept A)) (token : List ℕ) → find (slice_cmp nat_cmp) token (map (λ e. (string_bytes e.0, e.1)) es) ≡ lookup (is_text token) es
  found [] token = refl
  found (e ∷ es) token = λ i. cond (is_eq-slice_cmp token (string_bytes e.0) i) (Some e.1) (found es token i)

  -- what the finite map has at a token is what the entries have
  pub get-token_map : (es : List (String Y × Kept A)) (token : List ℕ) → get (token_map es) token ≡ lookup (is_text token) es
  get-token_map es token = get-from_entries nat_list_cmp_total _ token ∙ found es token

  -- a token that is found has a key
  key_of : (es : List (String Y × Kept A)) (token : List ℕ) (kept : Kept A) → lookup (is_text token) es ≡ Some kept → (key : String Y) × (token ≡ string_bytes key)
  key_of [] token kept h = absurd (cc)
  key_of (e ∷ es) token kept h =
      elim (bytes_eq token (string_bytes e.0)) as (λ b. bytes_eq token (string_bytes e.0) ≡ b → cond b (Some e.1) (lookup (is_text token) es) ≡ Some kept → (key : String Y) × (token ≡ string_bytes key)) [
        | true ↦ λ t _. (e.0, (bytes_eq-Decides token (string_bytes e.0)).0 t)
        | false ↦ λ _ r. key_of es token kept r
      ] refl h

  -- the entry at the place where a token was found is the token's
  pub token_at-position : (es : List (String Y × Kept A)) (token : List ℕ) (place : ℕ) → place < length es → position (is_text token) (keys_of es) ≡ Some place → token_at es place ≡ token
  token_at-position es token place within h = elim (slice_get_cases es place).1 [
    | inl e ↦
        let first = position-Some (is_text token) (keys_of es) place e.0.0 h in
        let same : get_or (keys_of es) place e.0.0 ≡ e.0.0 = get_or-map (λ k. k.0) es place e.0 ∙ ap (λ k. k.0) e.3 in
        let passes : bytes_eq token (string_bytes e.0.0) ≡ true = ap (is_text token) (sym same) ∙ first.1 in
        ap (λ o. option_map_or (λ k. string_bytes k.0) o []) e.2 ∙ sym ((bytes_eq-Decides token (string_bytes e.0.0)).0 passes)
    | inr past ↦ absurd (omega (arith, past.0))
  ]

module _ {Y A S : Type 0} where
  at_key : (m : HashMap (String Y) (Kept A) S) (token : List ℕ) (key : String Y) → token ≡ string_bytes key → hash.get string_eq m key ≡ hash.get_by_text m token
  at_key m token key e = (hash_map_text_same key token m.entries e).0

  -- what a key has is what its bytes have
  pub get-key : (m : HashMap (String Y) (Kept A) S) (key : String Y) → hash.get string_eq m key ≡ get (token_map m.entries) (string_bytes key)
  get-key m key = at_key m (string_bytes key) key refl ∙ sym (get-token_map m.entries (string_bytes key))

  -- a change of order changes nothing at any token
  reordered_text : (m n : HashMap (String Y) (Kept A) S) → hash.IsReordered string_eq m n → (token : List ℕ) → hash.get_by_text n token ≡ hash.get_by_text m token
  reordered_text m n h token = by (hash.get_by_text m token) (hash.get_by_text n token) refl refl
    where
      at : (key : String Y) → token ≡ string_bytes key → hash.get_by_text n token ≡ hash.get_by_text m token
      at key e = sym (at_key n token key e) ∙ h.2 key ∙ at_key m token key e

      by : (o p : Option (Kept A)) → hash.get_by_text m token ≡ o → hash.get_by_text n token ≡ p → hash.get_by_text n token ≡ hash.get_by_text m token
      by None None e f = f ∙ sym e
      by (Some kept) p e f = let k = key_of m.entries token kept e in at k.0 k.1
      by None (Some kept) e f = let k = key_of n.entries token kept f in at k.0 k.1

  pub reordered : (m n : HashMap (String Y) (Kept A) S) → hash.IsReordered string_eq m n → token_map n.entries ≡ token_map m.entries
  reordered m n h = same_tokens _ _ (λ token. get-token_map n.entries token ∙ reordered_text m n h token ∙ sym (get-token_map m.entries token))

  updated : (m n : HashMap (String Y) (Kept A) S) (key : String Y) (w : Option (Kept A)) → hash.Updates string_eq m n key w → (token : List ℕ)
      → get (token_map n.entries) token ≡ cond (eq_by_cmp (slice_cmp nat_cmp) token (string_bytes key)) w (get (token_map m.entries) token)
  updated m n key w h token =
      get-token_map n.entries token
      ∙ hash_map_updates_text (string_bytes key) m n w h token
      ∙ (λ i. cond (flipped (string_bytes key) token i) w (sym (get-token_map m.entries token) i))

  -- an entry that is put at a key
  pub put : (m n : HashMap (String Y) (Kept A) S) (key : String Y) (kept : Kept A) → hash.Updates string_eq m n key (Some kept) → token_map n.entries ≡ insert (token_map m.entries) (string_bytes key) kept
  put m n key kept h = same_tokens _ _ (λ token. updated m n key (Some kept) h token ∙ sym (get-insert nat_list_cmp_total (token_map m.entries) (string_bytes key) kept token))

  -- an entry that is taken out at a key
  pub taken : (m n : HashMap (String Y) (Kept A) S) (key : String Y) → hash.Updates string_eq m n key None → token_map n.entries ≡ remove (token_map m.entries) (string_bytes key)
  taken m n key h = same_tokens _ _ (λ token. updated m n key None h token ∙ sym (get-remove nat_list_cmp_total (token_map m.entries) (string_bytes key) token))

  -- the entry at a place is taken out
  pub taken_at : (m n : HashMap (String Y) (Kept A) S) (place : ℕ) (r : Option (String Y × Kept A)) → place < length m.entries → r ≡ slice_get m.entries place
      → IfSome r (λ e. hash.Updates string_eq m n e.0 None) → token_map n.entries ≡ remove (token_map m.entries) (token_at m.entries place)
  taken_at m n place None within is h = absurd (none_within m.entries place within is)
  taken_at m n place (Some e) within is h = taken m n e.0 h ∙ ap (λ o. remove (token_map m.entries) (option_map_or (λ k. string_bytes k.0) o [])) is

  -- what the finite map has at an entry's token
  pub get-token_at : (m : HashMap (String Y) (Kept A) S) (place : ℕ) (key : String Y) (kept : Kept A) → hash.IsUnique string_eq m → slice_get m.entries place ≡ Some (key, kept)
      → get (token_map m.entries) (string_bytes key) ≡ Some kept
  get-token_at m place key kept unique is = sym (get-key m key) ∙ hash_map_get_place string_eq_equiv m place key kept unique is

  -- the completed moment is written into the entry at a place
  pub completed : (m : HashMap (String Y) (Kept A) S) (place : ℕ) (key : String Y) (kept : Kept A) (moment : ℕ) → hash.IsUnique string_eq m → slice_get m.entries place ≡ Some (key, kept)
      → token_map (set_value_at m.entries place (record kept { completed = Some moment })) ≡ completed_at (token_map m.entries) (token_at m.entries place) moment
  completed m place key kept moment unique is =
      let w : Kept A = record kept { completed = Some moment } in
      put m (with_value_at m place w) key w (updates-with_value_at m place w string_eq_equiv unique key kept is)
      ∙ sym (ap (λ o. option_map_or (λ k. insert (token_map m.entries) (string_bytes key) (record k { completed = Some moment })) o (token_map m.entries)) (get-token_at m place key kept unique is))
      ∙ ap (λ o. completed_at (token_map m.entries) (option_map_or (λ k. string_bytes k.0) o []) moment) (sym is)

  -- what is kept is written into the entry at a place
  pub renewed : (m : HashMap (String Y) (Kept A) S) (place : ℕ) (key : String Y) (kept new : Kept A) → hash.IsUnique string_eq m → slice_get m.entries place ≡ Some (key, kept)
      → token_map (set_value_at m.entries place new) ≡ insert (token_map m.entries) (token_at m.entries place) new
  renewed m place key kept new unique is =
      put m (with_value_at m place new) key new (updates-with_value_at m place new string_eq_equiv unique key kept is)
      ∙ ap (λ o. insert (token_map m.entries) (option_map_or (λ k. string_bytes k.0) o []) new) (sym is)
