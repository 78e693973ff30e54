-- A page with one row more, and at its ends.
use Rattle.std.specs.Prelude.{◌+◌, ◌-◌, min, ◌^◌, ◌<◌, ◌≤◌, map, take, if◌then◌else◌}
use Rattle.std.specs.Option.{option_map}
use Rattle.std.proofs.Common.{◌≡◌, ℕ, Bool, true, false, List, [], ◌∷◌, ◌++◌, Option, None, Some, length, refl, ap, sym, ◌∙◌, subst, arith}
use Rattle.std.proofs.lemmas.Bool.{cond-true, cond-false}
use Rattle.std.proofs.lemmas.List.{append-nil, append_assoc, map-append, length-append, length-map}
use Rattle.std.proofs.lemmas.List.Elements.{filter-append}
use Rattle.std.proofs.lemmas.List.Sums.{length-filter, count_by-le-length, sum_by-append, sum_by-cons}
use Rattle.std.proofs.Math.Seq.{take-append_seam}
use Rattle.attr_value.specs.Tree.{Attributes}
use Rattle.attr_value.specs.Sizes.{item_size}
use Rattle.capacity.specs.Units.{counted}
use Rattle.item_keys.specs.Row.{only}
use Rattle.paging.specs.declared.page.Judged.{Judged}
use Rattle.paging.specs.Page.{page_bytes, bytes_of, is_full, IsPage}
use Rattle.paging.specs.Room.{Room, room_after, has_stopped, Takes}
use Rattle.paging.proofs.Full.{whole_page, page_with, stopped_where_full}
use Rattle.row_keys.specs.declared.position.Position.{Position}
use Rattle.row_keys.specs.Rows.{Entries, position}
use Rattle.table_request.specs.declared.pages.PageRequest.{PageRequest}
use Rattle.table_schema.specs.declared.schema.Schema.{Schema}
use Rattle.table_model.specs.Outcome.{is_met}
use Rattle.table_model.specs.Pages.{Source, judged, row_view, shown_rows, counts_alone, page_items, last_of, is_start_name, bytes_read}
use Rattle.page_ranges.specs.Least.{least_at}
use Rattle.page_reads.specs.Sources.{seen}
use Rattle.page_reads.specs.declared.page.Filled.{Filled}
use Rattle.page_reads.specs.Filled.{entry_seen, filled_as, filled_of, IsFilling, IsFilled}

last_added : (rows : Entries) (e : Position × Attributes) → last_of (rows ++ e ∷ []) ≡ Some e.1
last_added [] e = refl
last_added (row ∷ []) e = refl
last_added (row ∷ (other ∷ rows)) e = last_added (other ∷ rows) e

-- a size that is counted up to the last `u64` leaves what the size itself leaves: the page is full by either
pub saturated : (old new : Room) (size : ℕ) (passes : Bool) → Takes old new (record { size = min size 18446744073709551615; passes = passes })
    → Takes old new (record { size = size; passes = passes })
saturated old new size passes takes limit rows is =
    let counted : Judged = record { size = min size 18446744073709551615; passes = passes } in
    let exact : Judged = record { size = size; passes = passes } in
    let many : length (rows ++ counted ∷ []) ≡ length (rows ++ exact ∷ []) =
    length-append rows (counted ∷ []) ∙ sym (length-append rows (exact ∷ [])) in
    let bytes : page_bytes + 1 - bytes_of (rows ++ counted ∷ []) ≡ page_bytes + 1 - bytes_of (rows ++ exact ∷ []) =
    omega
    (arith, sum_by-append (λ (row : Judged). row.size) rows (counted ∷ []), sum_by-append (λ (row : Judged). row.size) rows (exact ∷ [])) in
    takes limit rows is
    ∙ (λ i. record { rows = option_map (λ most. most - many i) limit; bytes = bytes i })

module _ (schema : Schema) (source : Source) (r : PageRequest) where
  -- the rows as a page judges them
  abbrev pub judged_all : Entries → List Judged
  judged_all rows = map (λ entry. judged r entry.1) rows

  judged_more : (rows : Entries) (e : Position × Attributes) → judged_all (rows ++ e ∷ []) ≡ judged_all rows ++ judged r e.1 ∷ []
  judged_more rows e = map-append (λ (entry : Position × Attributes). judged r entry.1) rows (e ∷ [])

  module _ (rows : Entries) (at : Position) (item : Attributes) where
    passed : is_met r.filter r.values (Some item) ≡ true → shown_rows r (rows ++ (at, item) ∷ []) ≡ shown_rows r rows ++ (at, item) ∷ []
    passed met =
        filter-append (λ (entry : Position × Attributes). is_met r.filter r.values (Some entry.1)) rows ((at, item) ∷ [])
        ∙ ap (λ more. shown_rows r rows ++ more) (cond-true (is_met r.filter r.values (Some item)) ((at, item) ∷ []) [] met)

    left_out : is_met r.filter r.values (Some item) ≡ false → shown_rows r (rows ++ (at, item) ∷ []) ≡ shown_rows r rows
    left_out met =
        filter-append (λ (entry : Position × Attributes). is_met r.filter r.values (Some entry.1)) rows ((at, item) ∷ [])
        ∙ ap (λ more. shown_rows r rows ++ more) (cond-false (is_met r.filter r.values (Some item)) ((at, item) ∷ []) [] met)
        ∙ append-nil (shown_rows r rows)

    -- what is shown of some rows, unless they are counted alone
    shown_of : Bool → Entries → Option (List Attributes)
    shown_of alone shown = if alone then None else Some (map (λ entry. row_view schema source r entry.1) shown)

    one_shown : (alone : Bool) → option_map (λ (shown : List Attributes). shown ++ row_view schema source r item ∷ [])
        (if alone then None else Some (map (λ (entry : Position × Attributes). row_view schema source r entry.1) (shown_rows r rows)))
        ≡ (if alone then None else Some (map (λ (entry : Position × Attributes). row_view schema source r entry.1) (shown_rows r rows ++ (at, item) ∷ [])))
    one_shown true = refl
    one_shown false =
        ap (λ (shown : List Attributes). Some shown)
        (sym (map-append (λ (entry : Position × Attributes). row_view schema source r entry.1) (shown_rows r rows) ((at, item) ∷ [])))

    -- with one row more the page has this room
    pub room_more : (room newer : Room) → room ≡ room_after r.limit (judged_all rows) → Takes room newer (judged r item)
        → newer ≡ room_after r.limit (judged_all (rows ++ (at, item) ∷ []))
    room_more room newer is takes = takes r.limit (judged_all rows) is ∙ ap (room_after r.limit) (sym (judged_more rows (at, item)))

    module _ (was : Bool) (filled : Filled) (is : filled ≡ filled_as was schema source r rows) (full : Bool) where
      last_more : (last : Option Attributes) → last ≡ (if full then Some (only (is_start_name schema source) item) else None)
          → last ≡ (if full then option_map (only (is_start_name schema source)) (last_of (rows ++ (at, item) ∷ [])) else None)
      last_more last is_last =
          is_last ∙ (λ i. if full then option_map (only (is_start_name schema source)) (sym (last_added rows (at, item)) i) else None)

      scanned_more : filled.page.scanned + 1 ≡ length (rows ++ (at, item) ∷ [])
      scanned_more = ap (λ (f : Filled). f.page.scanned + 1) is ∙ sym (length-append rows ((at, item) ∷ []))

      bytes_more : (bytes : ℕ) → bytes ≡ counted (filled.bytes + counted (item_size item)) → bytes ≡ bytes_read (rows ++ (at, item) ∷ [])
      bytes_more bytes more =
          let before : filled.bytes ≡ bytes_read rows = ap (λ (f : Filled). f.bytes) is in
          let size : Position × Attributes → ℕ = λ entry. item_size entry.1 in
          let sum = sum_by-append size rows ((at, item) ∷ []) in
          let one = sum_by-cons size (at, item) [] in
          omega (arith, more, before, sum, one)

      -- a row that passes the filter
      pub added_shown : (last : Option Attributes) (items : Option (List Attributes)) (bytes : ℕ)
          → last ≡ (if full then Some (only (is_start_name schema source) item) else None) → is_met r.filter r.values (Some item) ≡ true
          → items ≡ option_map (λ shown. shown ++ row_view schema source r item ∷ []) filled.page.items
          → bytes ≡ counted (filled.bytes + counted (item_size item))
          → (let new : Filled = record { page = record { count = filled.page.count + 1; scanned = filled.page.scanned + 1; items = items; last = last }; bytes = bytes } in new)
          ≡ filled_as full schema source r (rows ++ (at, item) ∷ [])
      added_shown last items bytes is_last met is_items more =
          let count : filled.page.count + 1 ≡ length (shown_rows r (rows ++ (at, item) ∷ [])) =
          ap (λ (f : Filled). f.page.count + 1) is ∙ sym (length-append (shown_rows r rows) ((at, item) ∷ []))
          ∙ ap length (sym (passed met)) in
          let shown : items ≡ page_items schema source r (rows ++ (at, item) ∷ []) =
          is_items ∙ ap (λ (f : Filled). option_map (λ (shown : List Attributes). shown ++ row_view schema source r item ∷ []) f.page.items) is
          ∙ one_shown (counts_alone r.select)
          ∙ ap (λ (rows : Entries). if counts_alone r.select then None else Some (map (λ entry. row_view schema source r entry.1) rows)) (sym (passed met)) in
          let end = last_more last is_last in
          λ i. record { page = record { count = count i; scanned = scanned_more i; items = shown i; last = end i }; bytes = bytes_more bytes more i }

      -- a row that does not
      pub added_counted : (last : Option Attributes) (bytes : ℕ)
          → last ≡ (if full then Some (only (is_start_name schema source) item) else None) → is_met r.filter r.values (Some item) ≡ false
          → bytes ≡ counted (filled.bytes + counted (item_size item))
          → (let new : Filled = record { page = record { count = filled.page.count; scanned = filled.page.scanned + 1; items = filled.page.items; last = last }; bytes = bytes } in new)
          ≡ filled_as full schema source r (rows ++ (at, item) ∷ [])
      added_counted last bytes is_last met more =
          let count : filled.page.count ≡ length (shown_rows r (rows ++ (at, item) ∷ [])) =
          ap (λ (f : Filled). f.page.count) is ∙ ap length (sym (left_out met)) in
          let shown : filled.page.items ≡ page_items schema source r (rows ++ (at, item) ∷ []) =
          ap (λ (f : Filled). f.page.items) is
          ∙ ap (λ (rows : Entries). if counts_alone r.select then None else Some (map (λ entry. row_view schema source r entry.1) rows)) (sym (left_out met)) in
          let end = last_more last is_last in
          λ i. record { page = record { count = count i; scanned = scanned_more i; items = shown i; last = end i }; bytes = bytes_more bytes more i }

  -- a page that was told of one row more, and is told to be full where it has no more room
  pub filling_more : (rows : Entries) (at : Position) (item : Attributes) (room newer : Room) (filled new : Filled) (full : Bool)
      → IsFilling schema source r rows room filled → Takes room newer (judged r item) → full ≡ has_stopped newer
      → ((was : Bool) (these : Entries) (place : Position) → filled ≡ filled_as was schema source r these
      → new ≡ filled_as full schema source r (these ++ (place, item) ∷ []))
      → IsFilling schema source r (rows ++ (at, item) ∷ []) newer new
  filling_more rows at item room newer filled new full is takes stops adds =
      let more = room_more rows at item room newer is.room_is takes in
      let all = rows ++ (at, item) ∷ [] in
      let ends : full ≡ is_full r.limit (judged_all all) = stops ∙ ap has_stopped more ∙ stopped_where_full r.limit (judged_all all) in
      record {
        room_is = more;
        page_is = adds (is_full r.limit (judged_all rows)) rows at is.page_is ∙ ap (λ (end : Bool). filled_as end schema source r all) ends;
      }

  -- no more rows pass than were looked at
  fewer_shown : (rows : Entries) → length (shown_rows r rows) ≤ length rows
  fewer_shown rows =
      let test : Position × Attributes → Bool = λ entry. is_met r.filter r.values (Some entry.1) in
      omega (arith, length-filter test rows, count_by-le-length test rows)

  module _ (rows : Entries) (room : Room) (filled : Filled) (is : IsFilling schema source r rows room filled) where
    pub scanned_is : filled.page.scanned ≡ length rows
    scanned_is = ap (λ (f : Filled). f.page.scanned) is.page_is

    pub count_within : filled.page.count ≤ filled.page.scanned
    count_within = omega (arith, scanned_is, ap (λ (f : Filled). f.page.count) is.page_is, fewer_shown rows)

    not_full : has_stopped room ≡ false → is_full r.limit (judged_all rows) ≡ false
    not_full going = sym (stopped_where_full r.limit (judged_all rows)) ∙ ap has_stopped (sym is.room_is) ∙ going

    -- the rows ended before the page
    pub at_end : (all : Entries) → all ≡ rows → has_stopped room ≡ false → IsFilled schema source r all filled
    at_end all same going =
        subst (λ (these : Entries). IsFilled schema source r these filled) (sym same)
        (record {
          count = length rows;
          is_page = subst (IsPage r.limit (judged_all rows)) (length-map rows (λ (entry : Position × Attributes). judged r entry.1))
              (whole_page r.limit (judged_all rows) (not_full going));
          page_is = is.page_is ∙ ap (filled_of schema source r) (sym (taken rows));
        })
      where
        taken : (these : Entries) → take (length these) these ≡ these
        taken these = ap (take (length these)) (sym (append-nil these)) ∙ take-append_seam these []

    -- the page ended with this row
    pub at_stop : (e : Position × Attributes) (rest all : Entries) (newer : Room) (new : Filled) → has_stopped room ≡ false
        → IsFilling schema source r (rows ++ e ∷ []) newer new → has_stopped newer ≡ true → all ≡ (rows ++ e ∷ []) ++ rest
        → IsFilled schema source r all new
    at_stop e rest all newer new going with_row stops same =
        subst (λ (these : Entries). IsFilled schema source r these new) (sym same)
        (record {
          count = length (rows ++ e ∷ []);
          is_page =
              subst (λ (judges : List Judged). IsPage r.limit judges (length (rows ++ e ∷ [])))
              (ap (λ (front : List Judged). front ++ judged_all rest) (sym (judged_more rows e))
              ∙ sym (map-append (λ (entry : Position × Attributes). judged r entry.1) (rows ++ e ∷ []) rest))
              (subst (IsPage r.limit ((judged_all rows ++ judged r e.1 ∷ []) ++ judged_all rest))
              (ap length (sym (judged_more rows e)) ∙ length-map (rows ++ e ∷ []) (λ (entry : Position × Attributes). judged r entry.1))
              (page_with r.limit (judged_all rows) (judged r e.1) (judged_all rest) (not_full going) full));
          page_is = with_row.page_is ∙ ap (filled_of schema source r) (sym (take-append_seam (rows ++ e ∷ []) rest));
        })
      where
        full : is_full r.limit (judged_all rows ++ judged r e.1 ∷ []) ≡ true
        full =
            ap (is_full r.limit) (sym (judged_more rows e)) ∙ sym (stopped_where_full r.limit (judged_all (rows ++ e ∷ [])))
            ∙ ap has_stopped (sym with_row.room_is) ∙ stops

-- ---- a walk over rows at places of any kind

module _ {K : Type 0} (schema : Schema) (source : Source) (r : PageRequest) where
  -- the page was told of the rows up to those that are left
  pub record Along (rows left : List (K × Attributes)) (room : Room) (filled : Filled) : Type 0 where
    pub told : List (K × Attributes)
    pub parts : rows ≡ told ++ left
    pub filling : (place : K → Position) → IsFilling schema source r (map (entry_seen place schema source) told) room filled

  module _ {rows left : List (K × Attributes)} {room : Room} {filled : Filled} (along : Along rows left room filled) where
    somewhere : K → Position
    somewhere place = position (least_at 0) (least_at 0)

    pub along_scanned : filled.page.scanned ≡ length along.told
    along_scanned =
        scanned_is schema source r _ room filled (along.filling somewhere) ∙ length-map along.told (entry_seen somewhere schema source)

    pub along_count : filled.page.count ≤ filled.page.scanned
    along_count = count_within schema source r _ room filled (along.filling somewhere)

    -- one row more may be counted
    pub along_few : (row : K × Attributes) (rest : List (K × Attributes)) → left ≡ row ∷ rest → length rows < 2 ^ 64 → filled.page.scanned + 1 < 2 ^ 64
    along_few row rest next few =
        omega (arith, along_scanned, ap length along.parts, length-append along.told left, ap length next)

    pub along_end : left ≡ [] → has_stopped room ≡ false → (place : K → Position) → IsFilled schema source r (map (entry_seen place schema source) rows) filled
    along_end none going place =
        at_end schema source r _ room filled (along.filling place) _
        (ap (map (entry_seen place schema source)) (along.parts ∙ ap (λ rest. along.told ++ rest) none ∙ append-nil along.told)) going

    module _ (row : K × Attributes) (rest : List (K × Attributes)) (next : left ≡ row ∷ rest) (newer : Room) (new : Filled)
        (more : (rows : Entries) (at : Position) → IsFilling schema source r rows room filled
        → IsFilling schema source r (rows ++ (at, seen schema source row.1) ∷ []) newer new) where
      parts_more : rows ≡ (along.told ++ row ∷ []) ++ rest
      parts_more = along.parts ∙ ap (λ rows. along.told ++ rows) next ∙ sym (append_assoc along.told (row ∷ []) rest)

      -- the page goes on
      pub along_more : Along rows rest newer new
      along_more = record {
        told = along.told ++ row ∷ [];
        parts = parts_more;
        filling = λ place.
            subst (λ (entries : Entries). IsFilling schema source r entries newer new)
            (sym (map-append (entry_seen place schema source) along.told (row ∷ [])))
            (more (map (entry_seen place schema source) along.told) (place row.0) (along.filling place));
      }

      -- the page ended
      pub along_stop : has_stopped room ≡ false → has_stopped newer ≡ true → (place : K → Position)
          → IsFilled schema source r (map (entry_seen place schema source) rows) new
      along_stop going stops place =
          at_stop schema source r (map (entry_seen place schema source) along.told) room filled (along.filling place)
          (entry_seen place schema source row) (map (entry_seen place schema source) rest) _ newer new going
          (more (map (entry_seen place schema source) along.told) (place row.0) (along.filling place)) stops
          (ap (map (entry_seen place schema source)) parts_more
          ∙ map-append (entry_seen place schema source) (along.told ++ row ∷ []) rest
          ∙ ap (λ front. front ++ map (entry_seen place schema source) rest) (map-append (entry_seen place schema source) along.told (row ∷ [])))
