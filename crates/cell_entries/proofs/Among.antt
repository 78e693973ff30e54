-- Which entries an item has in one local index of its table.
use Rattle.std.specs.Prelude.{suc, zero, ◌||◌, slice_get}
use Rattle.std.specs.BTreeMap.{is_at}
use Rattle.std.specs.Cmp.{IsTotalOrder, nat_cmp_total, on_total, then_total, tied_itself}
use Rattle.std.specs.Ordering.{is_eq, nat_cmp, ordering_then}
use Rattle.std.specs.declared.cmp.Ordering.{Ordering}
use Rattle.std.specs.declared.cmp.Ordering.TheVariants.{Less, Equal, Greater}
use Rattle.std.proofs.Common.{◌≡◌, ℕ, ◌+◌, ◌<◌, Bool, true, false, List, [], ◌∷◌, Option, None, Some, refl, ap, ◌∙◌, arith}
use Rattle.std.proofs.lemmas.List.Folds.{list_any-append}
use Rattle.std.proofs.lemmas.Map.Lookups.{CmpEqualImpliesEq, exact_unsigned}
use Rattle.attr_value.specs.Tree.{Attributes}
use Rattle.table_schema.specs.declared.index.LocalIndex.{LocalIndex}
use Rattle.table_schema.specs.declared.schema.Schema.{Schema}
use Rattle.item_keys.proofs.Orders.{first_ties, rest_ties}
use Rattle.row_keys.specs.declared.position.Position.{Position}
use Rattle.row_keys.specs.Keys.{position_order}
use Rattle.row_keys.specs.KeyLaws.{position_total}
use Rattle.row_keys.specs.Rows.{position_in}
use Rattle.table_rows.specs.Moves.{is_place}
use Rattle.table_rows.proofs.Entries.{false_from}
use Rattle.table_rows.proofs.Exact.{position_exact}
use Rattle.local_index.specs.Entries.{is_among}
use Rattle.cell_model.specs.declared.key.ItemKey.{ItemKey}
use Rattle.cell_entries.specs.declared.entry.LocalEntry.{LocalEntry}
use Rattle.cell_entries.specs.LocalEntries.{entries_from, entry_at, entry_order}
use Rattle.cell_entries.specs.Met.{entry_in}

-- ---- the order of entries

pub entry_total : IsTotalOrder entry_order
entry_total =
    then_total (on_total (λ e. e.table) nat_cmp_total)
    (then_total (on_total (λ e. e.index) nat_cmp_total) (on_total (λ e. e.at) position_total))

equal_from : (o : Ordering) → is_eq o ≡ true → o ≡ Equal
equal_from Less e = absurd (cc)
equal_from Equal e = refl
equal_from Greater e = absurd (cc)

one_index : (a b : LocalEntry) → entry_order a b ≡ Equal → a.index ≡ b.index
one_index a b e =
    exact_unsigned a.index b.index (first_ties (nat_cmp a.index b.index) (position_order a.at b.at)
    (rest_ties (nat_cmp a.table b.table) (ordering_then (nat_cmp a.index b.index) (position_order a.at b.at)) e))

pub entry_exact : CmpEqualImpliesEq entry_order
entry_exact a b e =
    let rest = ordering_then (nat_cmp a.index b.index) (position_order a.at b.at) in
    let table = exact_unsigned a.table b.table (first_ties (nat_cmp a.table b.table) rest e) in
    let index = one_index a b e in
    let at = position_exact a.at b.at (rest_ties (nat_cmp a.index b.index) (position_order a.at b.at) (rest_ties (nat_cmp a.table b.table) rest e)) in
    λ i. record { table = table i; index = index i; at = at i }

tied : (n : ℕ) → nat_cmp n n ≡ Equal
tied n = tied_itself nat_cmp_total n

-- entries of one index of a table stand as their positions do
pub in_order : (table place : ℕ) (at other : Position) → entry_order (entry_in table place at) (entry_in table place other) ≡ position_order at other
in_order table place at other =
    (λ i. ordering_then (tied table i) (ordering_then (nat_cmp place place) (position_order at other)))
    ∙ (λ i. ordering_then (tied place i) (position_order at other))

-- ---- the entries of an item

-- entries of different indexes are apart
apart : (a b : LocalEntry) → (a.index ≡ b.index → ⊥) → is_at (entry_order a) b ≡ false
apart a b differ = false_from (is_at (entry_order a) b) (λ h. differ (one_index a b (equal_from (entry_order a b) h)))

module _ (schema : Schema) (key : ItemKey) (item : Attributes) (at : Position) where
  -- the item stands at the position in an index, where that is there
  abbrev pub stands_in : Option LocalIndex → Bool
  stands_in None = false
  stands_in (Some index) = is_place (position_in schema index.keys key.key item) at

  or_both : (a b : Bool) → a ≡ false → b ≡ false → (a || b) ≡ false
  or_both true b e f = absurd (cc)
  or_both false b e f = f

  or_first : (a b : Bool) → b ≡ false → (a || b) ≡ a
  or_first true b f = refl
  or_first false b f = f

  or_second : (a b : Bool) → a ≡ false → (a || b) ≡ b
  or_second true b e = absurd (cc)
  or_second false b e = refl

  here : (place : ℕ) (o : Option Position) → is_among entry_order (entry_at key place o) (entry_in key.table place at) ≡ is_place o at
  here place None = refl
  here place (Some p) = or_first (is_at (entry_order (entry_in key.table place p)) (entry_in key.table place at)) false refl ∙ ap is_eq (in_order key.table place p at)

  elsewhere : (place other : ℕ) (o : Option Position) → (other ≡ place → ⊥) → is_among entry_order (entry_at key other o) (entry_in key.table place at) ≡ false
  elsewhere place other None differ = refl
  elsewhere place other (Some p) differ = or_both _ false (apart (entry_in key.table other p) (entry_in key.table place at) differ) refl

  all_behind : (locals : List LocalIndex) (place from : ℕ) → place < from → is_among entry_order (entries_from schema locals from key item) (entry_in key.table place at) ≡ false
  all_behind [] place from less = refl
  all_behind (index ∷ rest) place from less =
      list_any-append (λ e. is_at (entry_order e) (entry_in key.table place at)) (entry_at key from (position_in schema index.keys key.key item)) (entries_from schema rest (from + 1) key item)
      ∙ or_both _ _ (elsewhere place from (position_in schema index.keys key.key item) (λ same. let is : from ≡ place = same in absurd (omega arith))) (all_behind rest place (from + 1) (omega arith))

  -- an item has the entry at a position of an index exactly where it stands there
  pub among_from : (locals : List LocalIndex) (from i place : ℕ) → from + i ≡ place
      → is_among entry_order (entries_from schema locals from key item) (entry_in key.table place at) ≡ stands_in (slice_get locals i)
  among_from [] from i place is = refl
  among_from (index ∷ rest) from zero place is =
      let same : from ≡ place = omega arith in
      list_any-append (λ e. is_at (entry_order e) (entry_in key.table place at)) (entry_at key from (position_in schema index.keys key.key item)) (entries_from schema rest (from + 1) key item)
      ∙ or_first _ _ (all_behind rest place (from + 1) (omega arith))
      ∙ ap (λ n. is_among entry_order (entry_at key n (position_in schema index.keys key.key item)) (entry_in key.table place at)) same
      ∙ here place (position_in schema index.keys key.key item)
  among_from (index ∷ rest) from (suc i) place is =
      list_any-append (λ e. is_at (entry_order e) (entry_in key.table place at)) (entry_at key from (position_in schema index.keys key.key item)) (entries_from schema rest (from + 1) key item)
      ∙ or_second _ _ (elsewhere place from (position_in schema index.keys key.key item) (λ same. let at_front : from ≡ place = same in absurd (omega arith)))
      ∙ among_from rest (from + 1) i place (omega arith)
