-- Definitions that are left out before others are joined are those that are left out after.
use Rattle.std.proofs.Common.{◌≡◌, refl, sym, ap, ◌∙◌, ℕ, Bool, true, false, cond, List, [], ◌∷◌, ◌++◌, filter, Option, None, Some}
use Rattle.std.specs.Prelude.{bytes_eq}
use Rattle.std.specs.Cmp.Lexicographic.{bytes_decides}
use Rattle.std.proofs.lemmas.Bool.{cond-true, cond-false}
use Rattle.std.proofs.lemmas.List.Elements.{filter-append}
use Rattle.std.proofs.lemmas.List.{append-nil}
use Rattle.table_schema.specs.declared.definition.KeyKind.{KeyKind}
use Rattle.table_schema.specs.declared.definition.Definition.{Definition}
use Rattle.table_schema.specs.Kind.{kind_of}
use Rattle.table_model.specs.Catalog.{added_if, with_definitions}

module _ (used : List ℕ → Bool) where
  abbrev pub is_used_in : Definition → Bool
  is_used_in d = used d.name

  -- a name that is used keeps its type
  pub kind_filter : (n : List ℕ) (ds : List Definition) → used n ≡ true → kind_of n (filter is_used_in ds) ≡ kind_of n ds
  kind_filter n [] h = refl
  kind_filter n (d ∷ ds) h = go (kind_filter n ds h) (used d.name) (bytes_eq d.name n) refl refl
    where
      go : kind_of n (filter is_used_in ds) ≡ kind_of n ds → (u b : Bool) → used d.name ≡ u → bytes_eq d.name n ≡ b
          → kind_of n (cond u (d ∷ filter is_used_in ds) (filter is_used_in ds)) ≡ cond b (Some d.kind) (kind_of n ds)
      go rest true b e f = λ i. cond (f i) (Some d.kind) (rest i)
      go rest false true e f = absurd (let clash : used n ≡ false = ap used (sym ((bytes_decides d.name n).0 f)) ∙ e in cc)
      go rest false false e f = rest

  added_used : (d : Definition) (known : List Definition) → used d.name ≡ true
      → filter is_used_in (added_if (kind_of d.name known) d known) ≡ added_if (kind_of d.name (filter is_used_in known)) d (filter is_used_in known)
  added_used d known h =
      go (kind_of d.name known) ∙ ap (λ (o : Option KeyKind). added_if o d (filter is_used_in known)) (sym (kind_filter d.name known h))
    where
      go : (o : Option KeyKind) → filter is_used_in (added_if o d known) ≡ added_if o d (filter is_used_in known)
      go None =
          filter-append is_used_in known (d ∷ [])
          ∙ ap (λ (xs : List Definition). filter is_used_in known ++ xs) (cond-true (used d.name) (d ∷ []) [] h)
      go (Some k) = refl

  added_unused : (d : Definition) (known : List Definition) → used d.name ≡ false
      → filter is_used_in (added_if (kind_of d.name known) d known) ≡ filter is_used_in known
  added_unused d known h = go (kind_of d.name known)
    where
      go : (o : Option KeyKind) → filter is_used_in (added_if o d known) ≡ filter is_used_in known
      go None =
          filter-append is_used_in known (d ∷ [])
          ∙ ap (λ (xs : List Definition). filter is_used_in known ++ xs) (cond-false (used d.name) (d ∷ []) [] h)
          ∙ append-nil (filter is_used_in known)
      go (Some k) = refl

  pub joined_used : (added known : List Definition)
      → with_definitions (filter is_used_in known) (filter is_used_in added) ≡ filter is_used_in (with_definitions known added)
  joined_used [] known = refl
  joined_used (d ∷ ds) known = go (joined_used ds (added_if (kind_of d.name known) d known)) (used d.name) refl
    where
      go : with_definitions (filter is_used_in (added_if (kind_of d.name known) d known)) (filter is_used_in ds)
          ≡ filter is_used_in (with_definitions (added_if (kind_of d.name known) d known) ds) → (u : Bool) → used d.name ≡ u
          → with_definitions (filter is_used_in known) (cond u (d ∷ filter is_used_in ds) (filter is_used_in ds))
          ≡ filter is_used_in (with_definitions (added_if (kind_of d.name known) d known) ds)
      go rest true e = ap (λ (xs : List Definition). with_definitions xs (filter is_used_in ds)) (sym (added_used d known e)) ∙ rest
      go rest false e = ap (λ (xs : List Definition). with_definitions xs (filter is_used_in ds)) (sym (added_unused d known e)) ∙ rest
