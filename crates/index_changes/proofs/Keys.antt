-- Keys are compared as the rules compare them, and keys that are equal are one.
use Rattle.std.specs.Ordering.{nat_cmp, is_eq}
use Rattle.std.specs.Cmp.{unsigned_ties}
use Rattle.std.specs.BTreeMap.{is_at}
use Rattle.std.proofs.Common.{◌≡◌, ℕ, nat_eq, true, sym, ap, ◌∙◌}
use Rattle.std.specs.declared.cmp.Ord as ord
use Rattle.txn_core.specs.Service.{Service, IsServiceLawful}

pub number_at : (u v : ℕ) → is_at (nat_cmp u) v ≡ nat_eq u v
number_at u v = sym (unsigned_ties u v)

module _ {K V A F C D Q B : Type 0} (S : Service K V A F C D Q B) (law : IsServiceLawful S) where
  pub one_key : (k q : K) → S.core.same k q ≡ true → k ≡ q
  one_key k q e = law.index.feed.exact k q e

  pub at_is : {O : ord.Ghosts K} → ((x y : K) → S.index.cmp x y ≡ O.cmp x y) → (k q : K) → is_at (O.cmp k) q ≡ S.core.same k q
  at_is ordered k q = sym (law.index.feed.one k q ∙ ap is_eq (ordered k q))
