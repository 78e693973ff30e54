-- A page along the entries of a local index is the page of the index's rows.
use Rattle.std.specs.Prelude.{slice_get, if◌then◌else◌}
use Rattle.std.specs.List.{cons_option}
use Rattle.std.specs.BTreeMap.{BTreeMap, IsOrdered}
use Rattle.std.specs.BTreeMap.Range.{entries_between, is_past_end, range_contains}
use Rattle.std.specs.Ordering.{is_le, is_lt, nat_cmp, ordering_reverse, ordering_then}
use Rattle.std.specs.declared.cmp.Ordering.{Ordering}
use Rattle.std.specs.declared.cmp.Ordering.TheVariants.{Less, Equal, Greater}
use Rattle.std.specs.Cmp.{nat_cmp_total, tied_itself}
use Rattle.std.proofs.Common.{◌≡◌, ℕ, ◌+◌, Bool, true, false, ◌&&◌, not, List, [], ◌∷◌, filter, filter_map, Option, None, Some, is_some, option_map, refl, sym, ap, ◌∙◌, arith}
use Rattle.std.proofs.lemmas.Bool.Decides.{nat_tests}
use Rattle.attr_value.specs.Tree.{Attributes}
use Rattle.table_schema.specs.declared.index.LocalIndex.{LocalIndex}
use Rattle.row_keys.specs.declared.position.Position.{Position}
use Rattle.row_keys.specs.declared.row_key.RowKey.{RowKey}
use Rattle.row_keys.specs.Keys.{position_order}
use Rattle.row_keys.specs.KeyLaws.{position_total}
use Rattle.row_keys.specs.Rows.{Entries, Rows, position}
use Rattle.page_ranges.specs.Least.{least_at}
use Rattle.page_ranges.proofs.Orders.{nat_cmp-le, position_first, row_least}
use Rattle.local_index.specs.declared.claim.Claim.{Claim}
use Rattle.cell_model.specs.declared.key.CellKey.{CellKey}
use Rattle.cell_model.specs.declared.catalog.Catalog.{Catalog}
use Rattle.cell_model.specs.declared.catalog.CatalogTable.{CatalogTable}
use Rattle.cell_model.specs.declared.question.PageQuestion.{PageQuestion}
use Rattle.cell_model.specs.declared.question.PageSource.TheVariants.{Local}
use Rattle.cell_model.specs.Catalogs.{numbered}
use Rattle.cell_model.specs.Keys.{key_order}
use Rattle.cell_model.specs.Pages.{items_of, local_rows, part_of, source_rows}
use Rattle.cell_model.proofs.Lookups.{some_is}
use Rattle.cell_entries.specs.declared.entry.LocalEntry.{LocalEntry}
use Rattle.cell_entries.specs.LocalEntries.{entry_order}
use Rattle.cell_pages.specs.Asked.{is_asked, part_of_rows}
use Rattle.cell_pages.specs.Walked.{Surround, asked_if, included, is_from, is_up_to, page_along, shown_among}
use Rattle.cell_pages.proofs.Walks.{page_along_is, page_of_none, page_within}
use Rattle.cell_entries.specs.Met.{AreEntriesOf, Enclose, entry_in, item_in, named_at, position_of, row_at, row_met}
use Rattle.cell_entries.proofs.Among.{in_order}
use Rattle.cell_entries.proofs.Rows.{place_back, rows_are_listed}

-- ---- ends

abbrev pub first_position : Position
first_position = position (least_at 0) (least_at 0)

-- no position is below the first one
pub first_from : (at : Position) → is_le (position_order first_position at) ≡ true
first_from at = position_first (least_at 0) at ∙ row_least 0 at.read ∙ grind (arith, nat_tests)

turned : (o : Ordering) → is_le o ≡ true → is_lt (ordering_reverse o) ≡ false
turned Less h = refl
turned Equal h = refl
turned Greater h = absurd (cc)

greater : (o p : Ordering) → is_le o ≡ false → is_lt (ordering_then o p) ≡ false
greater Less p h = absurd (cc)
greater Equal p h = absurd (cc)
greater Greater p h = refl

next_above : (place next : ℕ) → next ≡ place + 1 → is_le (nat_cmp next place) ≡ false
next_above place next is = nat_cmp-le next place ∙ grind (arith, nat_tests)

module _ (table place : ℕ) where
  -- an entry of the index is at or behind one whose position its own is at or behind
  pub from_entry : (low at : Position) → is_le (position_order low at) ≡ true → is_le (entry_order (entry_in table place low) (entry_in table place at)) ≡ true
  from_entry low at from = ap is_le (in_order table place low at) ∙ from

  -- and not past one up to whose position its own is
  pub up_to_entry : (high at : Position) → is_le (position_order at high) ≡ true → is_lt (entry_order (entry_in table place high) (entry_in table place at)) ≡ false
  up_to_entry high at up_to = ap is_lt (in_order table place high at ∙ position_total.antisymm high at) ∙ turned (position_order at high) up_to

  -- nor past any of the next index
  pub before_next : (next : ℕ) (high at : Position) → next ≡ place + 1 → is_lt (entry_order (entry_in table next high) (entry_in table place at)) ≡ false
  before_next next high at is =
      ap (λ o. is_lt (ordering_then o (ordering_then (nat_cmp next place) (position_order high at)))) (tied_itself nat_cmp_total table)
      ∙ greater (nat_cmp next place) (position_order high at) (next_above place next is)

both_true : (a b : Bool) → a ≡ true → b ≡ false → (a && not b) ≡ true
both_true a b e f = λ j. e j && not (f j)

-- between ends of which the low one is before all that the page is asked for, and the high one behind it, all of it stands
pub enclosed : (table place : ℕ) (page : PageQuestion) (low high : Option Position) (first : LocalEntry) (last : Option LocalEntry) → Surround page low high
    → ((at : Position) → is_from low at ≡ true → is_le (entry_order first (entry_in table place at)) ≡ true)
    → ((at : Position) → is_up_to high at ≡ true → is_past_end entry_order (included last) (entry_in table place at) ≡ false)
    → Enclose table place page (Some first) last
enclosed table place page low high first last around from up_to at asked =
    both_true _ _ (from at (around at asked).0) (up_to at (around at asked).1)

-- ---- rows that a page is asked for

module _ (items : RowKey → Option Attributes) (page : PageQuestion) (table place : ℕ) where
  abbrev is_wanted : Position × Attributes → Bool
  is_wanted row = is_asked page row.0

  module _ (claim : Claim) (at : Position) (rest more : Entries) (is : filter is_wanted rest ≡ more) where
    abbrev kept : Bool → Option Attributes → Entries
    kept asked None = filter is_wanted rest
    kept asked (Some item) = if asked then (at, item) ∷ filter is_wanted rest else filter is_wanted rest

    abbrev row_with : Option Attributes → Option Position → Option (Position × Attributes)
    row_with item None = None
    row_with item (Some p) = option_map (λ v. (p, v)) item

    as_kept : (item : Option Attributes) → filter is_wanted (cons_option (option_map (λ v. (at, v)) item) rest) ≡ kept (is_asked page at) item
    as_kept None = refl
    as_kept (Some item) = refl

    asked_with : (asked : Bool) (item : Option Attributes) → kept asked item ≡ cons_option (row_with item (if asked then Some at else None)) more
    asked_with true None = is
    asked_with false None = is
    asked_with true (Some item) = ap (λ rows. (at, item) ∷ rows) is
    asked_with false (Some item) = is

    as_row : (asked : Bool) → row_with (named_at items at claim) (if asked then Some at else None) ≡ row_at items claim (if asked then Some at else None)
    as_row true = refl
    as_row false = refl

    one_asked : filter is_wanted (cons_option (row_at items claim (Some at)) rest) ≡ cons_option (row_at items claim (asked_if page (Some at))) more
    one_asked =
        as_kept (named_at items at claim)
        ∙ asked_with (is_asked page at) (named_at items at claim)
        ∙ ap (λ row. cons_option row more) (as_row (is_asked page at))

  row_asked : (claim : Claim) (o : Option Position) (rest more : Entries) → filter is_wanted rest ≡ more
      → filter is_wanted (cons_option (row_at items claim o) rest) ≡ cons_option (row_at items claim (asked_if page o)) more
  row_asked claim None rest more is = is
  row_asked claim (Some at) rest more is = one_asked claim at rest more is

  -- the rows of entries that a page is asked for are met along the entries
  asked_met : (es : List (LocalEntry × Claim))
      → filter is_wanted (filter_map (λ e. row_at items e.1 (position_of table place e.0)) es) ≡ filter_map (row_met items table place page) es
  asked_met [] = refl
  asked_met (e ∷ es) = row_asked e.1 (position_of table place e.0) _ (filter_map (row_met items table place page) es) (asked_met es)

  clash : (b : Bool) → b ≡ true → b ≡ false → ⊥
  clash b one other = absurd (cc)

  module _ (low high : Option LocalEntry) (around : Enclose table place page low high) where
    outside : (e : LocalEntry × Claim) → range_contains entry_order (included low) (included high) e.0 ≡ false → row_met items table place page e ≡ None
    outside e out = by (position_of table place e.0) refl
      where
        asked_by : (at : Position) (asked : Bool) → position_of table place e.0 ≡ Some at → is_asked page at ≡ asked → row_at items e.1 (if asked then Some at else None) ≡ None
        asked_by at true is asked =
            absurd (clash (range_contains entry_order (included low) (included high) e.0)
            (ap (range_contains entry_order (included low) (included high)) (place_back table place e.0 at is) ∙ around at asked) out)
        asked_by at false is asked = refl

        by : (o : Option Position) → position_of table place e.0 ≡ o → row_at items e.1 (asked_if page o) ≡ None
        by None is = refl
        by (Some at) is = asked_by at (is_asked page at) is refl

    -- a walk between the ends meets all rows that the page is asked for
    pub met_between : (es : List (LocalEntry × Claim))
        → page_along (row_met items table place page) page (entries_between entry_order (included low) (included high) es)
        ≡ page_along (row_met items table place page) page es
    met_between es = page_within entry_order low high page (row_met items table place page) outside es

-- ---- the page

module _
    {W : Type 0} (shown : W → Option Attributes) (t : CatalogTable) (place : ℕ) (items : BTreeMap CellKey W) (entries : BTreeMap LocalEntry Claim)
    (items_rising : IsOrdered key_order items) (entries_rising : IsOrdered entry_order entries) (page : PageQuestion) where
  abbrev own : Rows
  own = items_of t.number (shown_among shown items.entries)

  abbrev found : RowKey → Option Attributes
  found key = item_in shown items t.number key

  -- where the entries are those of the items, the page along them is that of the index's rows
  pub page_is : is_some (slice_get t.schema.locals place) ≡ true → (catalog : Catalog) → numbered catalog.tables t.number ≡ Some t → AreEntriesOf shown catalog items entries
      → page_along (row_met found t.number place page) page entries.entries ≡ part_of_rows page (source_rows t (Local place) (shown_among shown items.entries))
  page_is has catalog there are =
      let index = some_is (slice_get t.schema.locals place) has in
      page_along_is (row_met found t.number place page) page entries.entries (source_rows t (Local place) (shown_among shown items.entries))
      (ap (filter (λ row. is_asked page row.0))
      (ap (λ o. local_rows t.schema o own) index.1
      ∙ sym (rows_are_listed shown catalog t place index.0 there index.1 items entries items_rising entries_rising are))
      ∙ asked_met found page t.number place entries.entries)

-- where the table has no such index there is no row
pub page_is_empty : {W : Type 0} (shown : W → Option Attributes) (t : CatalogTable) (place : ℕ) (items : BTreeMap CellKey W) (page : PageQuestion)
    → is_some (slice_get t.schema.locals place) ≡ false → part_of page.room [] ≡ part_of_rows page (source_rows t (Local place) (shown_among shown items.entries))
page_is_empty shown t place items page none = by (slice_get t.schema.locals place) none
  where
    by : (o : Option LocalIndex) → is_some o ≡ false → part_of page.room [] ≡ part_of_rows page (local_rows t.schema o (items_of t.number (shown_among shown items.entries)))
    by None h = sym (page_of_none page)
    by (Some index) h = absurd (cc)
