-- The order of keys is total.
use Rattle.std.specs.Prelude.{◌≡◌}
use Rattle.std.specs.Cmp.{IsTotalOrder, nat_cmp_total, then_total, on_total}
use Rattle.std.specs.Ordering.{ordering_reverse}
use Rattle.std.specs.declared.cmp.Ordering.TheVariants.{Less, Equal}
use Rattle.std.proofs.Common.{refl}
use Rattle.row_keys.specs.KeyLaws.{row_total, position_total}
use Rattle.cell_model.specs.declared.key.CellKey.{CellKey}
use Rattle.cell_model.specs.declared.key.CellKey.TheVariants.{Item, Row}
use Rattle.cell_model.specs.Keys.{item_order, index_row_order, key_order}

items_total : IsTotalOrder item_order
items_total = then_total (on_total (λ key. key.table) nat_cmp_total) (on_total (λ key. key.key) row_total)

rows_total : IsTotalOrder index_row_order
rows_total =
    then_total (on_total (λ key. key.table) nat_cmp_total)
    (then_total (on_total (λ key. key.index) nat_cmp_total) (on_total (λ key. key.at) position_total))

turned : (a b : CellKey) → key_order a b ≡ ordering_reverse (key_order b a)
unfolding key_order
turned (Item a) (Item b) = items_total.antisymm a b
turned (Row a) (Row b) = rows_total.antisymm a b
turned (Item a) (Row b) = refl
turned (Row a) (Item b) = refl

follows : (a b c : CellKey) → key_order a b ≡ Less → key_order b c ≡ Less → key_order a c ≡ Less
unfolding key_order
follows (Item a) (Item b) (Item c) e f = items_total.trans a b c e f
follows (Row a) (Row b) (Row c) e f = rows_total.trans a b c e f
follows (Item a) b (Row c) e f = refl
follows (Item a) (Row b) (Item c) e f = absurd (cc)
follows (Row a) (Item b) c e f = absurd (cc)
follows (Row a) (Row b) (Item c) e f = absurd (cc)

alike : (a b c : CellKey) → key_order a b ≡ Equal → key_order a c ≡ key_order b c
unfolding key_order
alike (Item a) (Item b) (Item c) e = items_total.congr a b c e
alike (Row a) (Row b) (Row c) e = rows_total.congr a b c e
alike (Item a) (Item b) (Row c) e = refl
alike (Row a) (Row b) (Item c) e = refl
alike (Item a) (Row b) c e = absurd (cc)
alike (Row a) (Item b) c e = absurd (cc)

pub key_total : IsTotalOrder key_order
key_total = record { antisymm = turned; trans = follows; congr = alike }
