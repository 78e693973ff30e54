-- A part of an ordered map, whose keys stand under other keys there.
use Rattle.std.specs.List.{AllByRecursion, cons_option}
use Rattle.std.specs.List.Sorted.{IsStrictlySortedBy}
use Rattle.std.specs.Cmp.{IsTotalOrder}
use Rattle.std.specs.Map.{keys_of, lookup}
use Rattle.std.specs.BTreeMap.{is_at}
use Rattle.std.specs.Ordering.{is_eq}
use Rattle.std.specs.declared.cmp.Ordering.{Ordering}
use Rattle.std.specs.declared.cmp.Ordering.TheVariants.{Less}
use Rattle.std.proofs.Common.{◌≡◌, Bool, true, false, List, [], ◌∷◌, filter_map, Option, None, Some, option_map, option_and_then, unwrap_or, refl, sym, ap, ◌∙◌}
use Rattle.std.proofs.lemmas.Bool.{cond-true, cond-false}
use Rattle.std.proofs.lemmas.Map.Lookups.{CmpEqualImpliesEq}
use Rattle.table_rows.proofs.Entries.{at_is, by_bool, false_from, past_head}

module _ {J K : Type 0} {R : K → K → Ordering} {S : J → J → Ordering} (total : IsTotalOrder R) (exact : CmpEqualImpliesEq R)
    (under : J → K) (part : K → Option J) (there : (j : J) → part (under j) ≡ Some j) (back : (k : K) (j : J) → part k ≡ Some j → k ≡ under j)
    (alike : (i j : J) → R (under i) (under j) ≡ S i j) {W V : Type 0} (val : J → W → Option V) where
  -- what a key of the map shows of its part
  abbrev pub part_row : W → Option J → Option (J × V)
  part_row w None = None
  part_row w (Some j) = option_map (λ v. (j, v)) (val j w)

  abbrev pub part_of : List (K × W) → List (J × V)
  part_of es = filter_map (λ e. part_row e.1 (part e.0)) es

  above : (i : J) (k : K) → k ≡ under i → (es : List (K × W)) → AllByRecursion (λ y. R k y ≡ Less) (keys_of es)
      → AllByRecursion (λ y. S i y ≡ Less) (keys_of (part_of es))
  above i k is [] all = tt
  above i k is (e ∷ es) all = go (part e.0) refl (above i k is es all.1)
    where
      go : (o : Option J) → part e.0 ≡ o → AllByRecursion (λ y. S i y ≡ Less) (keys_of (part_of es))
          → AllByRecursion (λ y. S i y ≡ Less) (keys_of (cons_option (part_row e.1 o) (part_of es)))
      go None at rest = rest
      go (Some j) at rest = by (val j e.1)
        where
          by : (o : Option V) → AllByRecursion (λ y. S i y ≡ Less) (keys_of (cons_option (option_map (λ v. (j, v)) o) (part_of es)))
          by None = rest
          by (Some v) = (sym (alike i j) ∙ (λ t. R (sym is t) (sym (back e.0 j at) t)) ∙ all.0, rest)

  -- a part of a map in order is in order
  pub part_rises : (es : List (K × W)) → IsStrictlySortedBy R (keys_of es) → IsStrictlySortedBy S (keys_of (part_of es))
  unfolding IsStrictlySortedBy
  part_rises [] rise = tt
  part_rises (e ∷ es) rise = go (part e.0) refl (part_rises es rise.1)
    where
      go : (o : Option J) → part e.0 ≡ o → IsStrictlySortedBy S (keys_of (part_of es))
          → IsStrictlySortedBy S (keys_of (cons_option (part_row e.1 o) (part_of es)))
      go None at rest = rest
      go (Some j) at rest = by (val j e.1)
        where
          by : (o : Option V) → IsStrictlySortedBy S (keys_of (cons_option (option_map (λ v. (j, v)) o) (part_of es)))
          by None = rest
          by (Some v) = (above j e.0 (back e.0 j at) es rise.0, rest)

  abbrev at_under : J → K → Bool
  at_under q k = is_at (R (under q)) k

  same_test : (q j : J) (k : K) → part k ≡ Some j → is_at (S q) j ≡ at_under q k
  same_test q j k at = ap is_eq (sym (alike q j)) ∙ (λ t. is_eq (R (under q) (sym (back k j at) t)))

  -- and a key finds in it what stands under it in the map
  pub part_found : (q : J) (es : List (K × W)) → IsStrictlySortedBy R (keys_of es)
      → lookup (is_at (S q)) (part_of es) ≡ option_and_then (val q) (lookup (at_under q) es)
  unfolding IsStrictlySortedBy
  part_found q [] rise = refl
  part_found q (e ∷ es) rise = go (part e.0) refl (part_found q es rise.1)
    where
      away : at_under q e.0 ≡ false → option_and_then (val q) (lookup (at_under q) (e ∷ es)) ≡ option_and_then (val q) (lookup (at_under q) es)
      away h = ap (option_and_then (val q)) (cond-false (at_under q e.0) (Some e.1) (lookup (at_under q) es) h)

      here : at_under q e.0 ≡ true → option_and_then (val q) (lookup (at_under q) (e ∷ es)) ≡ val q e.1
      here h = ap (option_and_then (val q)) (cond-true (at_under q e.0) (Some e.1) (lookup (at_under q) es) h)

      named : at_under q e.0 ≡ true → part e.0 ≡ Some q
      named h = ap part (sym (at_is total exact (under q) e.0 h)) ∙ there q

      none_some : (j : J) → None ≡ Some j → ⊥
      none_some j z = absurd (cc)

      go : (o : Option J) → part e.0 ≡ o → lookup (is_at (S q)) (part_of es) ≡ option_and_then (val q) (lookup (at_under q) es)
          → lookup (is_at (S q)) (cons_option (part_row e.1 o) (part_of es)) ≡ option_and_then (val q) (lookup (at_under q) (e ∷ es))
      go None at rest = rest ∙ sym (away (false_from (at_under q e.0) (λ h. none_some q (sym at ∙ named h))))
      go (Some j) at rest = by_bool (at_under q e.0) _ (λ h. hit h (val j e.1) refl) (λ h. miss h (val j e.1))
        where
          hit : at_under q e.0 ≡ true → (o : Option V) → val j e.1 ≡ o
              → lookup (is_at (S q)) (cons_option (option_map (λ v. (j, v)) o) (part_of es)) ≡ option_and_then (val q) (lookup (at_under q) (e ∷ es))
          hit h o is =
              let same : j ≡ q = ap (λ z. unwrap_or z q) (sym at ∙ named h) in
              first o ∙ sym is ∙ (λ t. val (same t) e.1) ∙ sym (here h)
            where
              first : (o : Option V) → lookup (is_at (S q)) (cons_option (option_map (λ v. (j, v)) o) (part_of es)) ≡ o
              first None = rest ∙ ap (option_and_then (val q)) (past_head total (under q) e es rise h)
              first (Some v) = cond-true (is_at (S q) j) (Some v) (lookup (is_at (S q)) (part_of es)) (same_test q j e.0 at ∙ h)

          miss : at_under q e.0 ≡ false → (o : Option V)
              → lookup (is_at (S q)) (cons_option (option_map (λ v. (j, v)) o) (part_of es)) ≡ option_and_then (val q) (lookup (at_under q) (e ∷ es))
          miss h None = rest ∙ sym (away h)
          miss h (Some v) = cond-false (is_at (S q) j) (Some v) (lookup (is_at (S q)) (part_of es)) (same_test q j e.0 at ∙ h) ∙ rest ∙ sym (away h)
