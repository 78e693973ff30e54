-- The order of key values is total, and values that tie in it are equal.
use Rattle.std.specs.Prelude.{◌≡◌, ℕ, ℤ, pos, List, []}
use Rattle.std.specs.Cmp.{IsTotalOrder, nat_cmp_total, int_cmp_total, then_total, on_total}
use Rattle.std.specs.Cmp.Lexicographic.{slice_cmp, nat_list_cmp_total}
use Rattle.std.specs.Ordering.{nat_cmp, int_cmp, on, then_cmp, ordering_then}
use Rattle.std.specs.declared.cmp.Ordering.{Ordering}
use Rattle.std.specs.declared.cmp.Ordering.TheVariants.{Less, Equal, Greater}
use Rattle.std.proofs.Common.{refl, subst, ap}
use Rattle.std.proofs.lemmas.Map.Lookups.{CmpEqualImpliesEq, exact_bytes, exact_signed}
use Rattle.item_keys.specs.declared.value.KeyValue.{KeyValue}
use Rattle.item_keys.specs.declared.value.KeyValue.TheVariants.{S, N, B}
use Rattle.item_keys.specs.Order.{value_order}

-- a value's type, its bytes and its number, the latter two empty and zero at other types
rank : KeyValue → ℕ
rank (S text) = 0
rank (N number) = 1
rank (B bytes) = 2

bytes_in : KeyValue → List ℕ
bytes_in (S text) = text
bytes_in (N number) = []
bytes_in (B bytes) = bytes

number_in : KeyValue → ℤ
number_in (S text) = pos 0
number_in (N number) = number
number_in (B bytes) = pos 0

parts_order : KeyValue → KeyValue → Ordering
parts_order = then_cmp (on rank nat_cmp) (then_cmp (on bytes_in (slice_cmp nat_cmp)) (on number_in int_cmp))

then_none : (o : Ordering) → ordering_then o Equal ≡ o
then_none Less = refl
then_none Equal = refl
then_none Greater = refl

by_parts : (a b : KeyValue) → parts_order a b ≡ value_order a b
unfolding parts_order rank bytes_in number_in value_order
by_parts (S a) (S b) = then_none (slice_cmp nat_cmp a b)
by_parts (N a) (N b) = refl
by_parts (B a) (B b) = then_none (slice_cmp nat_cmp a b)
by_parts (S a) (N b) = refl
by_parts (S a) (B b) = refl
by_parts (N a) (B b) = refl
by_parts (N a) (S b) = refl
by_parts (B a) (S b) = refl
by_parts (B a) (N b) = refl

pub value_total : IsTotalOrder value_order
unfolding parts_order
value_total =
    subst IsTotalOrder (λ i a b. by_parts a b i)
    (then_total (on_total rank nat_cmp_total) (then_total (on_total bytes_in nat_list_cmp_total) (on_total number_in int_cmp_total)))

pub value_exact : CmpEqualImpliesEq value_order
unfolding value_order
value_exact (S a) (S b) e = ap S (exact_bytes a b e)
value_exact (N a) (N b) e = ap N (exact_signed a b e)
value_exact (B a) (B b) e = ap B (exact_bytes a b e)
value_exact (S a) (N b) e = absurd (cc)
value_exact (S a) (B b) e = absurd (cc)
value_exact (N a) (B b) e = absurd (cc)
value_exact (N a) (S b) e = absurd (cc)
value_exact (B a) (S b) e = absurd (cc)
value_exact (B a) (N b) e = absurd (cc)
