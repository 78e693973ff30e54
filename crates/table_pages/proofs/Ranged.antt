-- The rows of a range of keys, as a page meets them.
use Rattle.std.specs.Prelude.{◌+◌, ◌*◌, ◌/◌, ◌%◌, ◌^◌, ◌<◌, filter, map, option_map, slice_get, nat_eq, Result, Ok, Err}
use Rattle.std.specs.BTreeMap.Range.{entries_between}
use Rattle.std.specs.Int.{w64, swap_bytes}
use Rattle.std.specs.Option.{option_eq}
use Rattle.std.specs.declared.ops.Bound.{Bound}
use Rattle.std.specs.Ordering.{is_lt, ordering_then}
use Rattle.std.specs.declared.cmp.Ordering.{Ordering}
use Rattle.std.specs.declared.cmp.Ordering.TheVariants.{Less, Equal, Greater}
use Rattle.std.proofs.Common.{◌≡◌, ℕ, Bool, true, List, [], Option, None, Some, refl, ap, sym, ◌∙◌, subst, arith, inl, IfSome}
use Rattle.std.proofs.lemmas.Bool.{eqb-true}
use Rattle.std.proofs.lemmas.Cmp.{tied_itself}
use Rattle.std.proofs.lemmas.List.{map-id}
use Rattle.std.proofs.Math.Seq.{take-append_seam}
use Rattle.attr_value.specs.Tree.{Attributes}
use Rattle.attr_value.specs.declared.value.Value.{Value}
use Rattle.expr_words.specs.Trees.{Tree, tree}
use Rattle.condition_eval.specs.Truth.{true_of}
use Rattle.item_keys.specs.ItemKey.{key_in}
use Rattle.item_keys.specs.KeyBytes.{key_bytes}
use Rattle.item_keys.specs.Place.{fnv1a, hash_place, place_of}
use Rattle.item_keys.specs.declared.fault.KeyFault.{KeyFault}
use Rattle.item_keys.specs.declared.key.Key.{Key}
use Rattle.item_keys.specs.declared.value.KeyValue.{KeyValue}
use Rattle.key_condition.specs.KeyRange.{lies_in}
use Rattle.key_condition.specs.Law.{HasKeysWhereTrue}
use Rattle.key_condition.specs.declared.key_range.KeyRange.{KeyRange}
use Rattle.paging.specs.Page.{is_full}
use Rattle.paging.specs.Rows.{rows_after}
use Rattle.row_keys.specs.declared.position.Position.{Position}
use Rattle.row_keys.specs.declared.row_key.RowKey.{RowKey}
use Rattle.row_keys.specs.Keys.{row_key, row_order, item_order, position_order}
use Rattle.row_keys.specs.KeyLaws.{position_total}
use Rattle.row_keys.specs.Rows.{Rows, Entries, position, index_of, index_keys}
use Rattle.table_rows.proofs.Exact.{row_exact}
use Rattle.table_schema.specs.declared.keys.KeyNames.{KeyNames}
use Rattle.table_schema.specs.declared.index.LocalIndex.{LocalIndex}
use Rattle.table_schema.specs.declared.index.GlobalIndex.{GlobalIndex}
use Rattle.table_schema.specs.declared.schema.Schema.{Schema}
use Rattle.table_request.specs.declared.pages.PageRequest.{PageRequest}
use Rattle.table_request.specs.declared.pages.Query.{Query}
use Rattle.table_request.specs.declared.pages.Scan.{Scan}
use Rattle.page_reads.specs.declared.page.Filled.{Filled}
use Rattle.table_model.specs.Database.{Table}
use Rattle.table_model.specs.Pages.{Source, whole_table, local_index, global_index, source_keys, source_entries, queried, scanned, is_in_segment, judged}
use Rattle.page_ranges.specs.declared.span.Span.{Span}
use Rattle.page_ranges.specs.declared.positions.PositionSpan.{PositionSpan}
use Rattle.page_ranges.specs.Span.{low_end, high_end, is_inside, stands_inside}
use Rattle.page_ranges.specs.AtKeys.{key_if, IsAtKey, AreAtKeys}
use Rattle.page_reads.specs.declared.source.Source as code
use Rattle.page_reads.specs.declared.source.Source.TheVariants as read
use Rattle.page_reads.specs.Sources.{source_in, IsNumber, seen}
use Rattle.page_reads.specs.Filled.{entry_seen, filled_of, IsFilled}
use Rattle.page_reads.specs.Starts.{HasSegment}
use Rattle.table_pages.specs.Ranges.{IsStart, rows_in, positions_in}
use Rattle.table_pages.proofs.Walked.{filter_same, filter_made, after_moved}
use Rattle.table_pages.proofs.Entries.{all_to, table_of, entries_at_keys}

-- ---- rows of a table stand in one order by their keys and by their positions

table_alike : (k l : RowKey) → is_lt (position_order (position k k) (position l l)) ≡ is_lt (row_order k l)
unfolding position_order
table_alike k l = at (row_order k l) refl
  where
    at : (o : Ordering) → row_order k l ≡ o → is_lt (position_order (position k k) (position l l)) ≡ is_lt o
    at Less is = ap (λ o. is_lt (ordering_then o (item_order k l))) is
    at Greater is = ap (λ o. is_lt (ordering_then o (item_order k l))) is
    at Equal is =
        ap (λ (key : RowKey). is_lt (position_order (position k k) (position key key))) (sym (row_exact k l is))
        ∙ ap is_lt (tied_itself position_total (position k k))

-- the entries of an index are what is seen of its rows
abbrev pub AreSeen : Schema → Rows → ℕ → Source → KeyNames → Type 0
AreSeen schema rows number source keys =
    source_entries (table_of schema rows number) source ≡ map (λ entry. (entry.0, seen schema source entry.1)) (index_of schema keys rows)

pub local_seen : (schema : Schema) (rows : Rows) (number : ℕ) (index : LocalIndex) → AreSeen schema rows number (local_index index) index.keys
local_seen schema rows number index = sym (map-id (index_of schema index.keys rows))

pub global_seen : (schema : Schema) (rows : Rows) (number : ℕ) (index : GlobalIndex) → AreSeen schema rows number (global_index index) index.keys
global_seen schema rows number index = refl

same_start : {P : Type 0} (start : Option P) → start ≡ option_map (λ at. at) start
same_start None = refl
same_start (Some at) = refl

module _ (schema : Schema) (rows : Rows) (number : ℕ) (forward : Bool) where
  -- a page of a table meets the rows between two keys
  pub table_rows_in : (span : Span) (after : Option RowKey)
      → rows_in (table_of schema rows number) whole_table span forward (option_map (λ key. position key key) after)
      ≡ map (entry_seen (λ key. position key key) schema whole_table)
      (rows_after row_order forward after (entries_between row_order (low_end span.low) (high_end span.high) rows))
  table_rows_in span after =
      ap (rows_after position_order forward (option_map (λ key. position key key) after))
      (filter_made (λ (row : RowKey × Attributes). (position row.0 row.0, row.1)) (λ (entry : Position × Attributes). is_inside span entry.0.read) rows)
      ∙ after_moved row_order position_order (λ key. position key key) (λ (row : RowKey × Attributes). row.1) table_alike forward after
      (entries_between row_order (low_end span.low) (high_end span.high) rows)

  -- a page of an index meets the rows between two positions
  pub index_rows_in : (source : Source) (keys : KeyNames) → AreSeen schema rows number source keys → (ends : PositionSpan) (start : Option Position)
      → positions_in (table_of schema rows number) source ends forward start
      ≡ map (entry_seen (λ at. at) schema source)
      (rows_after position_order forward start (entries_between position_order (low_end ends.low) (high_end ends.high) (index_of schema keys rows)))
  index_rows_in source keys are ends start =
      let test : Position × Attributes → Bool = λ entry. stands_inside ends entry.0 in
      let make : Position × Attributes → Position × Attributes = λ entry. (entry.0, seen schema source entry.1) in
      ap (λ entries. rows_after position_order forward start (filter test entries)) are
      ∙ ap (rows_after position_order forward start) (filter_made make test (index_of schema keys rows))
      ∙ ap (λ (at : Option Position). rows_after position_order forward at
      (map make (entries_between position_order (low_end ends.low) (high_end ends.high) (index_of schema keys rows)))) (same_start start)
      ∙ after_moved position_order position_order (λ at. at) (λ (entry : Position × Attributes). seen schema source entry.1) (λ k l. refl) forward start
      (entries_between position_order (low_end ends.low) (high_end ends.high) (index_of schema keys rows))

start_twice : (start : Option Position) → IsStart whole_table start
    → option_map (λ (key : RowKey). position key key) (option_map (λ (at : Position). at.item) start) ≡ start
start_twice None is = refl
start_twice (Some at) is = λ i. Some (position (sym is i) at.item)

-- what fills a page from a walk over a table's rows fills it from the rows that it reads
pub table_filled :
    (schema found : Schema) (rows range : Rows) (r : PageRequest) (span : Span) (forward : Bool) (start : Option Position) (after : Option RowKey) (page : Filled)
    → found ≡ schema → after ≡ option_map (λ at. at.item) start → range ≡ entries_between row_order (low_end span.low) (high_end span.high) rows
    → IsStart whole_table start
    → ((place : RowKey → Position) → IsFilled found whole_table r (map (entry_seen place found whole_table) (rows_after row_order forward after range)) page)
    → (number : ℕ) → IsFilled schema whole_table r (rows_in (table_of schema rows number) whole_table span forward start) page
table_filled schema found rows range r span forward start after page same_schema same_after same_range starts filled number =
    let place : RowKey → Position = λ key. position key key in
    let by_schema =
    subst (λ (s : Schema). IsFilled s whole_table r (map (entry_seen place s whole_table) (rows_after row_order forward after range)) page) same_schema
    (filled place) in
    let by_rows =
    subst (λ (these : Rows). IsFilled schema whole_table r (map (entry_seen place schema whole_table) (rows_after row_order forward after these)) page)
    same_range by_schema in
    let by_after =
    subst (λ (from : Option RowKey). IsFilled schema whole_table r (map (entry_seen place schema whole_table)
    (rows_after row_order forward from (entries_between row_order (low_end span.low) (high_end span.high) rows))) page)
    same_after by_rows in
    subst (λ (from : Option Position). IsFilled schema whole_table r (rows_in (table_of schema rows number) whole_table span forward from) page)
    (start_twice start starts)
    (subst (λ (entries : Entries). IsFilled schema whole_table r entries page)
    (sym (table_rows_in schema rows number forward span (option_map (λ at. at.item) start))) by_after)

-- the same of an index
pub index_filled :
    (schema found : Schema) (rows : Rows) (range : Entries) (r : PageRequest) (source : Source) (keys : KeyNames) (ends : PositionSpan) (forward : Bool)
    (start : Option Position) (page : Filled) → found ≡ schema
    → range ≡ entries_between position_order (low_end ends.low) (high_end ends.high) (index_of schema keys rows)
    → ((number : ℕ) → AreSeen schema rows number source keys)
    → ((place : Position → Position) → IsFilled found source r (map (entry_seen place found source) (rows_after position_order forward start range)) page)
    → (number : ℕ) → IsFilled schema source r (positions_in (table_of schema rows number) source ends forward start) page
index_filled schema found rows range r source keys ends forward start page same_schema same_range are filled number =
    let place : Position → Position = λ at. at in
    let by_schema =
    subst (λ (s : Schema). IsFilled s source r (map (entry_seen place s source) (rows_after position_order forward start range)) page) same_schema
    (filled place) in
    let by_rows =
    subst (λ (these : Entries). IsFilled schema source r (map (entry_seen place schema source) (rows_after position_order forward start these)) page)
    same_range by_schema in
    subst (λ (entries : Entries). IsFilled schema source r entries page) (sym (index_rows_in schema rows number forward source keys (are number) ends start)) by_rows

-- positions are inside where their keys are
pub positions_are : (table : Table) (source : Source) (ends : PositionSpan) (span : Span) (forward : Bool) (start : Option Position)
    → ((at : Position) → stands_inside ends at ≡ is_inside span at.read) → positions_in table source ends forward start ≡ rows_in table source span forward start
positions_are table source ends span forward start same = λ i.
    rows_after position_order forward start (filter (λ entry. same entry.0 i) (source_entries table source))

-- a limit of no row has a page without rows
pub none_filled : (schema : Schema) (source : Source) (r : PageRequest) (rows : Entries) (page : Filled) → r.limit ≡ Some 0 → page ≡ filled_of schema source r []
    → IsFilled schema source r rows page
none_filled schema source r rows page none is = record {
  count = 0;
  is_page = record {
    within = omega arith;
    shortest = λ k less. absurd (omega arith);
    ends = inl (λ i. is_full (none i) (take-append_seam [] (map (λ entry. judged r entry.1) rows) i));
  };
  page_is = is ∙ ap (filled_of schema source r) (sym (take-append_seam [] rows));
}

is_zero : (limit : Option ℕ) → option_eq nat_eq limit (Some 0) ≡ true → limit ≡ Some 0
is_zero None is = absurd (cc)
is_zero (Some n) is = ap (λ (m : ℕ). Some m) (eqb-true n 0 is)

-- the same by the test
pub none_at_zero : (schema : Schema) (source : Source) (r : PageRequest) (rows : Entries) (page : Filled) → true ≡ option_eq nat_eq r.limit (Some 0)
    → page ≡ filled_of schema source r [] → IsFilled schema source r rows page
none_at_zero schema source r rows page zero is = none_filled schema source r rows page (is_zero r.limit (sym zero)) is

-- ---- the index of a number

-- the index that is read has keys, whose range is walked
pub numbered : (schema : Schema) (rows : Rows) (number : ℕ) (source : code.Source) (range : Entries) (low high : Bound Position) → IsNumber schema number source
    → IfSome (slice_get (index_keys schema) number) (λ keys. range ≡ entries_between position_order low high (index_of schema keys rows))
    → (keys : KeyNames) × (range ≡ entries_between position_order low high (index_of schema keys rows))
    × ((n : ℕ) → AreSeen schema rows n (source_in source) keys)
numbered schema rows number read.Table range low high is walked = absurd is
numbered schema rows number (read.Local n index) range low high is walked = (
  index.now.keys,
  subst (λ found. IfSome found (λ keys. range ≡ entries_between position_order low high (index_of schema keys rows))) is walked,
  λ m. local_seen schema rows m index.now,
)
numbered schema rows number (read.Global n index) range low high is walked = (
  index.now.keys,
  subst (λ found. IfSome found (λ keys. range ≡ entries_between position_order low high (index_of schema keys rows))) is walked,
  λ m. global_seen schema rows m index.now,
)

-- ---- the rows of a Query

inside_some : (k l : RowKey) → Some k ≡ Some l → k ≡ l
inside_some k l is = cc

module _ (schema : Schema) (keys : KeyNames) (values : List Value) (t : Tree) (range : KeyRange) (span : Span)
    (truth : HasKeysWhereTrue schema keys values t range) (inside : (key : Key) → is_inside span (row_key key) ≡ lies_in range key) where
  true_inside : (at : RowKey) (item : Attributes) (found : Result Key KeyFault) → key_in schema keys item ≡ found → key_if found ≡ Some at
      → is_inside span at ≡ true_of values item t
  true_inside at item (Ok key) is stands =
      ap (is_inside span) (sym (inside_some (row_key key) at stands)) ∙ inside key ∙ truth item key is
  true_inside at item (Err fault) is stands = absurd (cc)

  pub test_is : (at : RowKey) (item : Attributes) → IsAtKey schema keys at item → is_inside span at ≡ true_of values item t
  test_is at item stands = true_inside at item (key_in schema keys item) refl stands

-- the rows at keys in the range of a key condition are those for which it is true
pub queried_are : (schema : Schema) (rows : Rows) (number : ℕ) (source : Source) (r : Query) (range : KeyRange) (span : Span) → AreAtKeys schema rows
    → HasKeysWhereTrue schema (source_keys schema source) r.page.values (tree r.key_condition) range
    → ((key : Key) → is_inside span (row_key key) ≡ lies_in range key)
    → filter (λ entry. is_inside span entry.0.read) (source_entries (table_of schema rows number) source)
    ≡ queried r (source_entries (table_of schema rows number) source)
queried_are schema rows number source r range span keyed truth inside =
    let entries : Entries = source_entries (table_of schema rows number) source in
    filter_same (λ (entry : Position × Attributes). is_inside span entry.0.read)
    (λ (entry : Position × Attributes). true_of r.page.values entry.1 (tree r.key_condition)) entries
    (all_to (λ (entry : Position × Attributes). IsAtKey schema (source_keys schema source) entry.0.read entry.1)
    (λ (entry : Position × Attributes). is_inside span entry.0.read ≡ true_of r.page.values entry.1 (tree r.key_condition))
    (λ entry stands. test_is schema (source_keys schema source) r.page.values (tree r.key_condition) range span truth inside entry.0.read entry.1 stands)
    entries (entries_at_keys schema rows number source keyed))

-- ---- the rows of a Scan

eight_bytes : (a b c d e f g h : ℕ) → a < 256 → b < 256 → c < 256 → d < 256 → e < 256 → f < 256 → g < 256 → h < 256
    → a * 256 ^ 7 + b * 256 ^ 6 + c * 256 ^ 5 + d * 256 ^ 4 + e * 256 ^ 3 + f * 256 ^ 2 + g * 256 ^ 1 + h < 2 ^ 64
eight_bytes a b c d e f g h ha hb hc hd he hf hg hh = omega arith

one_byte : (n : ℕ) → n % 256 < 256
one_byte n = omega arith

swapped_within : (n : ℕ) → swap_bytes w64 n < 2 ^ 64
swapped_within n =
    eight_bytes (n % 256) (n / 256 ^ 1 % 256) (n / 256 ^ 2 % 256) (n / 256 ^ 3 % 256) (n / 256 ^ 4 % 256) (n / 256 ^ 5 % 256) (n / 256 ^ 6 % 256) (n / 256 ^ 7 % 256)
    (one_byte n) (one_byte (n / 256 ^ 1)) (one_byte (n / 256 ^ 2)) (one_byte (n / 256 ^ 3)) (one_byte (n / 256 ^ 4)) (one_byte (n / 256 ^ 5))
    (one_byte (n / 256 ^ 6)) (one_byte (n / 256 ^ 7))

place_within : (value : KeyValue) → place_of value < 2 ^ 64
unfolding hash_place
place_within value = swapped_within (fnv1a (key_bytes value))

key_within : (schema : Schema) (keys : KeyNames) (at : RowKey) (item : Attributes) → IsAtKey schema keys at item → at.place < 2 ^ 64
key_within schema keys at item stands = go (key_in schema keys item) stands
  where
    go : (found : Result Key KeyFault) → key_if found ≡ Some at → at.place < 2 ^ 64
    go (Ok key) is = subst (λ (k : RowKey). k.place < 2 ^ 64) (inside_some (row_key key) at is) (place_within key.partition)
    go (Err fault) is = absurd (cc)

-- the rows at keys in the range of a segment are those of the segment
pub scanned_are : (schema : Schema) (rows : Rows) (number : ℕ) (source : Source) (r : Scan) (span : Span) → AreAtKeys schema rows → HasSegment r.segment span
    → filter (λ entry. is_inside span entry.0.read) (source_entries (table_of schema rows number) source)
    ≡ scanned r (source_entries (table_of schema rows number) source)
scanned_are schema rows number source r span keyed has =
    let entries : Entries = source_entries (table_of schema rows number) source in
    filter_same (λ (entry : Position × Attributes). is_inside span entry.0.read) (λ (entry : Position × Attributes). is_in_segment r.segment entry.0) entries
    (all_to (λ (entry : Position × Attributes). IsAtKey schema (source_keys schema source) entry.0.read entry.1)
    (λ (entry : Position × Attributes). is_inside span entry.0.read ≡ is_in_segment r.segment entry.0)
    (λ entry stands. has entry.0 (key_within schema (source_keys schema source) entry.0.read entry.1 stands))
    entries (entries_at_keys schema rows number source keyed))
