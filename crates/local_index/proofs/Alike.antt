-- Equal entries are alike: among the same ones, with the same claim, within the same ends.
use Rattle.std.proofs.Common.{◌≡◌, Bool, true, false, not, ◌&&◌, ◌||◌, List, [], ◌∷◌, Option, None, Some, refl, ap, sym, ◌∙◌}
use Rattle.std.proofs.lemmas.Cmp.{alike_right}
use Rattle.std.proofs.lemmas.Map.Entries.{lookup-filter-keys}
use Rattle.std.specs.Cmp.{IsTotalOrder}
use Rattle.std.specs.Map.{lookup}
use Rattle.std.specs.Ordering.{is_eq, is_le, is_lt}
use Rattle.std.specs.BTreeMap.{BTreeMap, get, is_at}
use Rattle.std.specs.BTreeMap.Range.{entries_between, is_from_start, is_past_end, range_contains}
use Rattle.std.specs.declared.cmp.Ordering.{Ordering}
use Rattle.std.specs.declared.cmp.Ordering.TheVariants.{Less, Equal, Greater}
use Rattle.std.specs.declared.ops.Bound.{Bound}
use Rattle.std.specs.declared.ops.Bound.TheVariants.{Included, Excluded, Unbounded}
use Rattle.local_index.specs.declared.claim.Claim.{Claim}
use Rattle.local_index.specs.Entries.{claim_between, is_among}

pub equal_from : (o : Ordering) → is_eq o ≡ true → o ≡ Equal
equal_from Less e = absurd (cc)
equal_from Equal e = refl
equal_from Greater e = absurd (cc)

module _ {E : Type 0} {cmp : E → E → Ordering} (total : IsTotalOrder cmp) where
  pub among_alike : (x q : E) → is_at (cmp x) q ≡ true → (es : List E) → is_among cmp es x ≡ is_among cmp es q
  among_alike x q at [] = refl
  among_alike x q at (e ∷ es) =
      let alike : cmp e x ≡ cmp e q = alike_right total x q e (equal_from (cmp x q) at) in
      let rest = among_alike x q at es in
      λ i. is_eq (alike i) || rest i

  pub claim_alike : (x q : E) → is_at (cmp x) q ≡ true → (m : BTreeMap E Claim) → get cmp m x ≡ get cmp m q
  claim_alike x q at m =
      let equal = equal_from (cmp x q) at in
      λ i. lookup (λ z. is_eq (total.congr x q z equal i)) m.entries

  from_alike : (q k : E) → is_at (cmp q) k ≡ true → (low : Bound E) → is_from_start cmp low k ≡ is_from_start cmp low q
  from_alike q k at (Included a) = ap is_le (sym (alike_right total q k a (equal_from (cmp q k) at)))
  from_alike q k at (Excluded a) = ap is_lt (sym (alike_right total q k a (equal_from (cmp q k) at)))
  from_alike q k at Unbounded = refl

  past_alike : (q k : E) → is_at (cmp q) k ≡ true → (high : Bound E) → is_past_end cmp high k ≡ is_past_end cmp high q
  past_alike q k at (Included b) = ap is_lt (sym (alike_right total q k b (equal_from (cmp q k) at)))
  past_alike q k at (Excluded b) = ap is_le (sym (alike_right total q k b (equal_from (cmp q k) at)))
  past_alike q k at Unbounded = refl

  -- the claims of the entries between two ends
  pub between_is :
      (low high : Bound E) (m : BTreeMap E Claim) (q : E)
      → lookup (is_at (cmp q)) (entries_between cmp low high m.entries) ≡ claim_between cmp low high q (get cmp m q)
  between_is low high m q =
      lookup-filter-keys (is_at (cmp q)) (range_contains cmp low high) (range_contains cmp low high q)
      (λ k at i. from_alike q k at low i && not (past_alike q k at high i)) m.entries
