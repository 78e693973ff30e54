-- The order that is derived for keys is the one that is stated, and keys that tie in it are equal.
use Rattle.std.proofs.Common.{◌≡◌, refl, Option, None, Some}
use Rattle.std.specs.Option.{option_cmp}
use Rattle.std.specs.Ordering.{nat_cmp, ordering_then}
use Rattle.std.specs.declared.cmp.Ordering.{Ordering}
use Rattle.std.specs.declared.cmp.Ordering.TheVariants.{Less, Equal, Greater}
use Rattle.std.proofs.lemmas.Map.Lookups.{CmpEqualImpliesEq, exact_unsigned}
use Rattle.item_keys.specs.declared.value.KeyValue.{KeyValue}
use Rattle.item_keys.specs.declared.key.PlacedKey.{PlacedKey}
use Rattle.item_keys.specs.contracts.key.PlacedKeyOrd.TheImpl.{ghosts}
use Rattle.item_keys.specs.Order.{value_order}
use Rattle.item_keys.specs.OrderLaws.{value_exact}
use Rattle.item_keys.specs.ScanOrder.{key_order, scan_order}

pub keys_in_order : (a b : PlacedKey) → ghosts.cmp a b ≡ scan_order a b
keys_in_order a b = refl

-- one order behind another ties only where both do
pub first_ties : (o p : Ordering) → ordering_then o p ≡ Equal → o ≡ Equal
first_ties Less p e = absurd (cc)
first_ties Equal p e = refl
first_ties Greater p e = absurd (cc)

pub rest_ties : (o p : Ordering) → ordering_then o p ≡ Equal → p ≡ Equal
rest_ties Less p e = absurd (cc)
rest_ties Equal p e = e
rest_ties Greater p e = absurd (cc)

sort_exact : (a b : Option KeyValue) → option_cmp value_order a b ≡ Equal → a ≡ b
sort_exact None None e = refl
sort_exact None (Some b) e = absurd (cc)
sort_exact (Some a) None e = absurd (cc)
sort_exact (Some a) (Some b) e = let same : a ≡ b = value_exact a b e in cc

pub keys_exact : CmpEqualImpliesEq scan_order
keys_exact a b e =
    let keys = rest_ties (nat_cmp a.place b.place) (key_order a.key b.key) e in
    let place = exact_unsigned a.place b.place (first_ties (nat_cmp a.place b.place) (key_order a.key b.key) e) in
    let partition = value_exact a.key.partition b.key.partition (first_ties _ (option_cmp value_order a.key.sort b.key.sort) keys) in
    let sort = sort_exact a.key.sort b.key.sort (rest_ties (value_order a.key.partition b.key.partition) _ keys) in
    λ i. record { place = place i; key = record { partition = partition i; sort = sort i } }
