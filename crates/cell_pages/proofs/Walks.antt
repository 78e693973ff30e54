-- The rows of an ordered map that a page is asked for are those of the list that it shows.
use Rattle.std.specs.Prelude.{if◌then◌else◌}
use Rattle.std.proofs.Common.{◌≡◌, ◌⊎◌, ℕ, Bool, true, false, ◌&&◌, not, nat_eq, Less, Equal, Greater, List, [], ◌∷◌, ◌++◌, filter, filter_map, reverse, Option, None, Some, option_map, inl, inr, refl, sym, ap, ◌∙◌, append-nil}
use Rattle.std.specs.List.{cons_option}
use Rattle.std.specs.Cmp.{IsTotalOrder, nat_cmp_total, tied_itself}
use Rattle.std.specs.Ordering.{is_gt, is_le, is_lt, nat_cmp, ordering_reverse, ordering_then}
use Rattle.std.specs.BTreeMap.Range.{entries_between, is_from_start, is_past_end, range_contains}
use Rattle.std.specs.declared.cmp.Ordering.{Ordering}
use Rattle.std.proofs.lemmas.Bool.{and_parts, cond-false, eq-eqb, eqb-true}
use Rattle.std.proofs.lemmas.List.Elements.{filter_map-append}
use Rattle.attr_value.specs.Tree.{Attributes}
use Rattle.row_keys.specs.declared.position.Position.{Position}
use Rattle.row_keys.specs.Keys.{position_order, row_order}
use Rattle.row_keys.specs.KeyLaws.{position_total}
use Rattle.row_keys.specs.Rows.{Entries, position}
use Rattle.paging.specs.Rows.{in_direction, rows_after}
use Rattle.paging.proofs.Ordered.{reverse_cons}
use Rattle.page_ranges.specs.declared.positions.PositionSpan.{PositionSpan}
use Rattle.page_ranges.specs.Span.{is_inside, low_end, high_end, stands_inside}
use Rattle.cell_model.specs.declared.key.CellKey.{CellKey}
use Rattle.cell_model.specs.declared.key.CellKey.TheVariants.{Item, Row}
use Rattle.cell_model.specs.declared.catalog.CatalogTable.{CatalogTable}
use Rattle.cell_model.specs.declared.question.PageRoom.{PageRoom}
use Rattle.cell_model.specs.declared.question.PageSource.{PageSource}
use Rattle.cell_model.specs.declared.question.PageSource.TheVariants as source
use Rattle.cell_model.specs.declared.question.PageQuestion.{PageQuestion}
use Rattle.cell_model.specs.Keys.{key_order}
use Rattle.cell_model.specs.KeyLaws.{key_total}
use Rattle.cell_model.specs.Pages.{CellRows, is_over, part_of, source_rows, taken}
use Rattle.cell_pages.specs.Asked.{is_asked, is_behind, part_in, part_of_rows}
use Rattle.cell_pages.specs.Walked.{IsWalked, Surround, asked_if, included, is_from, is_reversed, is_up_to, key_at, page_along, picked, picked_of, position_under, row_met, row_under, shown_among}
use Rattle.cell_pages.proofs.Sources.{source_under}
use Rattle.cell_pages.proofs.Takes.{backward_asked, forward_asked, inside, kept_reversed, over_takes}

-- ---- orders

lt_le : (o : Ordering) → is_lt o ≡ true → is_le o ≡ true
lt_le Less e = refl
lt_le Equal e = absurd (cc)
lt_le Greater e = absurd (cc)

turned_le : (o : Ordering) → not (is_le o) ≡ true → is_le (ordering_reverse o) ≡ true
turned_le Less e = absurd (cc)
turned_le Equal e = absurd (cc)
turned_le Greater e = refl

turned_lt : (o : Ordering) → is_le o ≡ true → not (is_lt (ordering_reverse o)) ≡ true
turned_lt Less e = refl
turned_lt Equal e = refl
turned_lt Greater e = absurd (cc)

first_le : (o p : Ordering) → is_le (ordering_then o p) ≡ true → is_le o ≡ true
first_le Less p e = refl
first_le Equal p e = refl
first_le Greater p e = e

not_gt : (o : Ordering) → is_le o ≡ true → is_gt o ≡ false
not_gt Less e = refl
not_gt Equal e = refl
not_gt Greater e = absurd (cc)

not_lt : (o : Ordering) → is_lt o ≡ false → is_le (ordering_reverse o) ≡ true
not_lt Less e = absurd (cc)
not_lt Equal e = refl
not_lt Greater e = refl

-- what is between two ends shows that they are not the wrong way round
between : {K : Type 0} {R : K → K → Ordering} → IsTotalOrder R → (x y z : K) → is_le (R x y) ≡ true → is_le (R y z) ≡ true → is_gt (R x z) ≡ false
between {R = R} total x y z = by (R x y) (R y z) refl refl
  where
    by : (o p : Ordering) → R x y ≡ o → R y z ≡ p → is_le o ≡ true → is_le p ≡ true → is_gt (R x z) ≡ false
    by Less Less e f h l = ap is_gt (total.trans x y z e f)
    by Less Equal e f h l = ap is_gt (total.antisymm x z ∙ ap ordering_reverse (total.congr z y x (total.antisymm z y ∙ ap ordering_reverse f) ∙ total.antisymm y x ∙ ap ordering_reverse e))
    by Equal p e f h l = ap is_gt (total.congr x y z e ∙ f) ∙ not_gt p l
    by Less Greater e f h l = absurd (cc)
    by Greater p e f h l = absurd (cc)

-- ---- ends of a page

module _ (page : PageQuestion) where
  is_in : (at : Position) → is_asked page at ≡ true → is_inside page.span at.read ≡ true
  is_in at asked = (and_parts (is_inside page.span at.read) (is_behind page.forward page.after at) asked).0

  behind : (forward : Bool) → page.forward ≡ forward → (at : Position) → is_asked page at ≡ true → is_behind forward page.after at ≡ true
  behind forward on at asked =
      sym (ap (λ b. is_behind b page.after at) on) ∙ (and_parts (is_inside page.span at.read) (is_behind page.forward page.after at) asked).1

  module _ (span : PositionSpan) (same : (at : Position) → stands_inside span at ≡ is_inside page.span at.read) where
    low_of_span : (at : Position) → is_asked page at ≡ true → is_from span.low at ≡ true
    low_of_span at asked = by span.low (and_parts (is_from_start position_order (low_end span.low) at) (not (is_past_end position_order (high_end span.high) at)) (same at ∙ is_in at asked)).0
      where
        by : (low : Option Position) → is_from_start position_order (low_end low) at ≡ true → is_from low at ≡ true
        by None h = refl
        by (Some end) h = h

    high_of_span : (at : Position) → is_asked page at ≡ true → is_up_to span.high at ≡ true
    high_of_span at asked = by span.high (and_parts (is_from_start position_order (low_end span.low) at) (not (is_past_end position_order (high_end span.high) at)) (same at ∙ is_in at asked)).1
      where
        by : (high : Option Position) → not (is_past_end position_order (high_end high) at) ≡ true → is_up_to high at ≡ true
        by None h = refl
        by (Some end) h = ap is_le (position_total.antisymm at end) ∙ turned_le (position_order end at) h

    from_after : page.forward ≡ true → (at : Position) → is_asked page at ≡ true → is_from page.after at ≡ true
    from_after on at asked = by page.after (behind true on at asked)
      where
        by : (after : Option Position) → is_behind true after at ≡ true → is_from after at ≡ true
        by None h = refl
        by (Some place) h = lt_le (position_order place at) h

    up_to_after : page.forward ≡ false → (at : Position) → is_asked page at ≡ true → is_up_to page.after at ≡ true
    up_to_after on at asked = by page.after (behind false on at asked)
      where
        by : (after : Option Position) → is_behind false after at ≡ true → is_up_to after at ≡ true
        by None h = refl
        by (Some place) h = lt_le (position_order at place) h

    -- forward, the span's ends surround the page with the place where it goes on as its low end
    pub surround_forward : page.forward ≡ true → (low : Option Position)
        → ((at : Position) → is_from span.low at ≡ true → is_from page.after at ≡ true → is_from low at ≡ true) → Surround page low span.high
    surround_forward on low later at asked = (later at (low_of_span at asked) (from_after on at asked), high_of_span at asked)

    -- and backward as its high end
    pub surround_backward : page.forward ≡ false → (high : Option Position)
        → ((at : Position) → is_up_to span.high at ≡ true → is_up_to page.after at ≡ true → is_up_to high at ≡ true) → Surround page span.low high
    surround_backward on high earlier at asked = (low_of_span at asked, earlier at (high_of_span at asked) (up_to_after on at asked))

-- ---- keys of a page

sym_eq : (n m : ℕ) → nat_eq n m ≡ true → nat_eq m n ≡ true
sym_eq n m e = eq-eqb m n (sym (eqb-true n m e))

nat_tied : (n m : ℕ) → nat_eq n m ≡ true → nat_cmp n m ≡ Equal
nat_tied n m e = ap (λ z. nat_cmp n z) (sym (eqb-true n m e)) ∙ tied_itself nat_cmp_total n

some_is : {X : Type 0} (x y : X) → Some x ≡ Some y → x ≡ y
some_is x y e = cc

-- an item of the table, and a row of the index, as the source reads them
is_position : (b : Bool) (at other : Position) → (if b then Some at else None) ≡ Some other → (b ≡ true) × (at ≡ other)
is_position true at other e = (refl, some_is at other e)
is_position false at other e = absurd (cc)

then_le : (o p : Ordering) → o ≡ Equal → is_le p ≡ true → is_le (ordering_then o p) ≡ true
then_le o p e h = ap (λ z. is_le (ordering_then z p)) e ∙ h

-- rows stand under their keys in the order of their positions
module _ (table : ℕ) (read : PageSource) (end at : Position) where
  key_behind : (key : CellKey) → position_under table read key ≡ Some at → is_le (position_order end at) ≡ true → is_le (key_order (key_at table read end) key) ≡ true
  unfolding key_order position_order
  key_behind key is le = by read key is
    where
      by : (read : PageSource) (key : CellKey) → position_under table read key ≡ Some at → is_le (key_order (key_at table read end) key) ≡ true
      by source.Table (Item k) is =
          let h = is_position (nat_eq k.table table) (position k.key k.key) at is in
          then_le (nat_cmp table k.table) (row_order end.read k.key) (nat_tied table k.table (sym_eq k.table table h.0))
          (first_le (row_order end.read k.key) _ (ap (λ z. is_le (position_order end z)) h.1 ∙ le))
      by (source.Global index) (Row k) is =
          let h = is_position (nat_eq k.table table && nat_eq k.index index) k.at at is in
          let both = and_parts (nat_eq k.table table) (nat_eq k.index index) h.0 in
          then_le (nat_cmp table k.table) (ordering_then (nat_cmp index k.index) (position_order end k.at)) (nat_tied table k.table (sym_eq k.table table both.0))
          (then_le (nat_cmp index k.index) (position_order end k.at) (nat_tied index k.index (sym_eq k.index index both.1)) (ap (λ z. is_le (position_order end z)) h.1 ∙ le))
      by source.Table (Row k) is = absurd (cc)
      by (source.Global index) (Item k) is = absurd (cc)
      by (source.Local place) key is = absurd (cc)

  key_before : (key : CellKey) → position_under table read key ≡ Some at → is_le (position_order at end) ≡ true → is_le (key_order key (key_at table read end)) ≡ true
  unfolding key_order position_order
  key_before key is le = by read key is
    where
      by : (read : PageSource) (key : CellKey) → position_under table read key ≡ Some at → is_le (key_order key (key_at table read end)) ≡ true
      by source.Table (Item k) is =
          let h = is_position (nat_eq k.table table) (position k.key k.key) at is in
          then_le (nat_cmp k.table table) (row_order k.key end.read) (nat_tied k.table table h.0)
          (first_le (row_order k.key end.read) _ (ap (λ z. is_le (position_order z end)) h.1 ∙ le))
      by (source.Global index) (Row k) is =
          let h = is_position (nat_eq k.table table && nat_eq k.index index) k.at at is in
          let both = and_parts (nat_eq k.table table) (nat_eq k.index index) h.0 in
          then_le (nat_cmp k.table table) (ordering_then (nat_cmp k.index index) (position_order k.at end)) (nat_tied k.table table both.0)
          (then_le (nat_cmp k.index index) (position_order k.at end) (nat_tied k.index index both.1) (ap (λ z. is_le (position_order z end)) h.1 ∙ le))
      by source.Table (Row k) is = absurd (cc)
      by (source.Global index) (Item k) is = absurd (cc)
      by (source.Local place) key is = absurd (cc)

module _ (table : ℕ) (read : PageSource) (key : CellKey) (at : Position) (is : position_under table read key ≡ Some at) where
  key_from : (low : Option Position) → is_from low at ≡ true → is_from_start key_order (included (option_map (key_at table read) low)) key ≡ true
  key_from None from = refl
  key_from (Some end) from = key_behind table read end at key is from

  key_up_to : (high : Option Position) → is_up_to high at ≡ true → not (is_past_end key_order (included (option_map (key_at table read) high)) key) ≡ true
  key_up_to None up_to = refl
  key_up_to (Some end) up_to =
      ap (λ o. not (is_lt o)) (key_total.antisymm (key_at table read end) key)
      ∙ turned_lt (key_order key (key_at table read end)) (key_before table read end at key is up_to)

-- where two ends are the wrong way round nothing is between them
none_between : {K W : Type 0} {R : K → K → Ordering} → IsTotalOrder R → (low high : Option K) → is_reversed R low high ≡ true → (es : List (K × W))
    → entries_between R (included low) (included high) es ≡ []
none_between total (Some low) (Some high) wrong [] = refl
none_between {R = R} total (Some low) (Some high) wrong (e ∷ es) =
    cond-false (range_contains R (included (Some low)) (included (Some high)) e.0) _ _ (by (is_le (R low e.0)) (is_lt (R high e.0)) refl refl)
    ∙ none_between total (Some low) (Some high) wrong es
  where
    clash : (b : Bool) → b ≡ true → b ≡ false → ⊥
    clash b one other = absurd (cc)

    by : (a b : Bool) → is_le (R low e.0) ≡ a → is_lt (R high e.0) ≡ b → (a && not b) ≡ false
    by true true from past = refl
    by false b from past = refl
    by true false from past =
        absurd (clash (is_gt (R low high)) wrong
        (between total low e.0 high from (ap is_le (total.antisymm e.0 high) ∙ not_lt (R high e.0) past)))
none_between total None high wrong es = absurd (cc)
none_between total (Some low) None wrong es = absurd (cc)

-- ---- rows of a page

module _ {X Y : Type 0} (h : X → Option Y) where
  -- what fails a test that all that is picked passes is not missed
  pub picked_within : (test : X → Bool) → ((x : X) → test x ≡ false → h x ≡ None) → (xs : List X) → filter_map h xs ≡ filter_map h (filter test xs)
  picked_within test none [] = refl
  picked_within test none (x ∷ xs) = by (test x) refl (picked_within test none xs)
    where
      by : (b : Bool) → test x ≡ b → filter_map h xs ≡ filter_map h (filter test xs) → cons_option (h x) (filter_map h xs) ≡ filter_map h (if b then x ∷ filter test xs else filter test xs)
      by true is rest = ap (λ ys. cons_option (h x) ys) rest
      by false is rest = ap (λ o. cons_option o (filter_map h xs)) (none x is) ∙ rest

  picked_reversed : (xs : List X) → filter_map h (reverse xs) ≡ reverse (filter_map h xs)
  picked_reversed [] = refl
  picked_reversed (x ∷ xs) =
      ap (filter_map h) (reverse_cons x xs) ∙ filter_map-append h (reverse xs) (x ∷ []) ∙ ap (λ ys. ys ++ cons_option (h x) []) (picked_reversed xs) ∙ by (h x)
    where
      by : (o : Option Y) → reverse (filter_map h xs) ++ cons_option o [] ≡ reverse (cons_option o (filter_map h xs))
      by None = append-nil (reverse (filter_map h xs))
      by (Some y) = sym (reverse_cons y (filter_map h xs))

  -- the order of a walk is that of what it picks
  picked_in_direction : (forward : Bool) (xs : List X) → filter_map h (in_direction forward xs) ≡ in_direction forward (filter_map h xs)
  picked_in_direction true xs = refl
  picked_in_direction false xs = picked_reversed xs

  nothing_met : (forward : Bool) → filter_map h (in_direction {X = X} forward []) ≡ []
  nothing_met true = refl
  nothing_met false = refl

module _ {W : Type 0} (shown : W → Option Attributes) (page : PageQuestion) (table : ℕ) (read : PageSource) where
  abbrev kept_asked : Position × Attributes → Bool
  kept_asked e = is_asked page e.0

  one_asked : (key : CellKey) (o : Option Attributes) (rest : CellRows) (more : Entries) → filter kept_asked (filter_map (row_under table read) rest) ≡ more
      → filter kept_asked (filter_map (row_under table read) (cons_option (option_map (λ item. (key, item)) o) rest)) ≡ cons_option (picked_of read table page key o) more
  one_asked key None rest more is = is
  one_asked key (Some item) rest more is = by (position_under table read key)
    where
      asked_at : (at : Position) (a : Bool) → (if a then (at, item) ∷ filter kept_asked (filter_map (row_under table read) rest) else filter kept_asked (filter_map (row_under table read) rest))
          ≡ cons_option (option_map (λ p. (p, item)) (if a then Some at else None)) more
      asked_at at true = ap (λ es. (at, item) ∷ es) is
      asked_at at false = is

      by : (o : Option Position) → filter kept_asked (cons_option (option_map (λ at. (at, item)) o) (filter_map (row_under table read) rest))
          ≡ cons_option (option_map (λ at. (at, item)) (asked_if page o)) more
      by None = is
      by (Some at) = asked_at at (is_asked page at)

  -- of what a map shows, the rows that a page is asked for are picked along the map
  shown_asked : (es : List (CellKey × W)) → filter kept_asked (filter_map (row_under table read) (shown_among shown es)) ≡ filter_map (λ e. picked_of read table page e.0 (shown e.1)) es
  shown_asked [] = refl
  shown_asked (e ∷ es) = one_asked e.0 (shown e.1) (shown_among shown es) _ (shown_asked es)

-- the rows of a list that a page is asked for, as it meets them
asked_rows_are : (page : PageQuestion) (forward : Bool) (es : Entries)
    → rows_after position_order forward page.after (filter (inside page) es) ≡ in_direction forward (filter (λ e. is_inside page.span e.0.read && is_behind forward page.after e.0) es)
asked_rows_are page true es = sym (forward_asked page page.after es)
asked_rows_are page false es = sym (backward_asked page page.after es) ∙ kept_reversed (λ e. is_inside page.span e.0.read && is_behind false page.after e.0) es

-- a page of no rows has none
pub page_of_none : (page : PageQuestion) → part_of_rows page [] ≡ part_of page.room []
page_of_none page = ap (λ rows. part_of page.room (taken page.room rows)) (by page.forward page.after)
  where
    by : (forward : Bool) (after : Option Position) → rows_after {X = Attributes} position_order forward after [] ≡ []
    by true None = refl
    by false None = refl
    by true (Some place) = refl
    by false (Some place) = refl

module _ {E : Type 0} (row : E → Option (Position × Attributes)) (page : PageQuestion) where
  -- along no entry the page has no row
  page_along_none : page_along row page [] ≡ part_of page.room []
  page_along_none = ap (λ rows. part_of page.room (taken page.room rows)) (nothing_met row page.forward)

  -- where the rows that entries stand for are those of a list that the page is asked for, the page along them is the list's
  pub page_along_is : (es : List E) (rows : Entries) → filter (λ e. is_asked page e.0) rows ≡ filter_map row es
      → page_along row page es ≡ part_of_rows page rows
  page_along_is es rows same =
      ap (λ met. part_of page.room (taken page.room met))
      (picked_in_direction row page.forward es
      ∙ ap (λ met. in_direction page.forward met) (sym same)
      ∙ sym (asked_rows_are page page.forward rows))

module _ {K W : Type 0} (cmp : K → K → Ordering) (low high : Option K) (page : PageQuestion) (row : K × W → Option (Position × Attributes)) where
  abbrev is_between : K × W → Bool
  is_between e = range_contains cmp (included low) (included high) e.0

  -- where no entry outside two ends stands for a row, the page between them is the page along all entries
  pub page_within : ((e : K × W) → is_between e ≡ false → row e ≡ None) → (es : List (K × W))
      → page_along row page (entries_between cmp (included low) (included high) es) ≡ page_along row page es
  page_within outside es =
      ap (λ met. part_of page.room (taken page.room met))
      (picked_in_direction row page.forward (entries_between cmp (included low) (included high) es)
      ∙ ap (λ met. in_direction page.forward met) (sym (picked_within row is_between outside es))
      ∙ sym (picked_in_direction row page.forward es))

  -- where the ends are the wrong way round the page between them has no row
  pub page_reversed : IsTotalOrder cmp → true ≡ is_reversed cmp low high → (es : List (K × W))
      → part_of page.room [] ≡ page_along row page (entries_between cmp (included low) (included high) es)
  page_reversed total wrong es = sym (ap (page_along row page) (none_between total low high (sym wrong) es) ∙ page_along_none row page)

module _ {W : Type 0} (shown : W → Option Attributes) (page : PageQuestion) (t : CatalogTable) (es : List (CellKey × W)) where
  source_met : (read : PageSource) → IsWalked read → filter (λ e. is_asked page e.0) (source_rows t read (shown_among shown es)) ≡ filter_map (λ e. picked_of read t.number page e.0 (shown e.1)) es
  source_met read walked = ap (filter (λ e. is_asked page e.0)) (source_under t read walked (shown_among shown es)) ∙ shown_asked shown page t.number read es

  -- the page of what a map shows is the page of the rows that it meets along the map
  pub page_walked : IsWalked page.source → page_along (row_met shown t.number page) page es ≡ part_in (Some t) (shown_among shown es) page
  page_walked walked =
      page_along_is (row_met shown t.number page) page es (source_rows t page.source (shown_among shown es)) (source_met page.source walked)

module _ {W : Type 0} (shown : W → Option Attributes) (page : PageQuestion) (table : ℕ) (low high : Option Position) (around : Surround page low high) (es : List (CellKey × W)) where
  abbrev low_key : Option CellKey
  low_key = option_map (key_at table page.source) low

  abbrev high_key : Option CellKey
  high_key = option_map (key_at table page.source) high

  none_unless : (key : CellKey) (o : Option Attributes) → ((at : Position) → position_under table page.source key ≡ Some at → is_asked page at ≡ true → ⊥) → picked table page key o ≡ None
  none_unless key None never = refl
  none_unless key (Some item) never = by (position_under table page.source key) refl
    where
      asked_by : (at : Position) (a : Bool) → position_under table page.source key ≡ Some at → is_asked page at ≡ a → option_map {U = Position × Attributes} (λ p. (p, item)) (if a then Some at else None) ≡ None
      asked_by at true is asked = absurd (never at is asked)
      asked_by at false is asked = refl

      by : (o : Option Position) → position_under table page.source key ≡ o → option_map {U = Position × Attributes} (λ at. (at, item)) (asked_if page o) ≡ None
      by None is = refl
      by (Some at) is = asked_by at (is_asked page at) is refl

  outside : (e : CellKey × W) → range_contains key_order (included low_key) (included high_key) e.0 ≡ false → picked table page e.0 (shown e.1) ≡ None
  outside e out = none_unless e.0 (shown e.1) (λ at is asked.
      clash (range_contains key_order (included low_key) (included high_key) e.0)
      (and_both (is_from_start key_order (included low_key) e.0) (not (is_past_end key_order (included high_key) e.0))
      (key_from table page.source e.0 at is low (around at asked).0) (key_up_to table page.source e.0 at is high (around at asked).1)) out)
    where
      clash : (b : Bool) → b ≡ true → b ≡ false → ⊥
      clash b one other = absurd (cc)

      and_both : (a b : Bool) → a ≡ true → b ≡ true → (a && b) ≡ true
      and_both a b p q = λ j. p j && q j

  -- a walk between the ends meets all rows that the page is asked for
  pub met_between : page_along (row_met shown table page) page (entries_between key_order (included low_key) (included high_key) es)
      ≡ page_along (row_met shown table page) page es
  met_between = page_within key_order low_key high_key page (row_met shown table page) outside es

-- ---- the walk

module _ {X : Type 0} (h : X → Option (Position × Attributes)) where
  -- where the page is over, or nothing is left, nothing more is taken
  pub walk_ended : (forward : Bool) (room : PageRoom) (left : List X) → (is_over room ≡ true) ⊎ (left ≡ []) → taken room (filter_map h (in_direction forward left)) ≡ []
  walk_ended forward room left (inl over) = over_takes room _ over
  walk_ended forward room left (inr none) = ap (λ xs. taken room (filter_map h (in_direction forward xs))) none ∙ ap (taken room) (nothing_met h forward)
