-- A page that is told row by row.
use Rattle.std.specs.Prelude.{◌<◌, ◌≤◌, map}
use Rattle.std.proofs.Common.{◌≡◌, ℕ, suc, Bool, true, false, List, [], ◌∷◌, ◌++◌, get_or, length, take, take-suc, length-take-le, refl, sym, ap, ◌∙◌, arith}
use Rattle.std.proofs.lemmas.List.{length-map, map-append}
use Rattle.std.proofs.Math.Seq.{take-length}
use Rattle.paging.specs.Room.{room_after}
use Rattle.row_keys.specs.declared.position.Position.{Position}
use Rattle.row_keys.specs.Rows.{Entries}
use Rattle.table_schema.specs.declared.schema.Schema.{Schema}
use Rattle.table_request.specs.declared.pages.PageRequest.{PageRequest}
use Rattle.table_model.specs.Pages.{Source, judged, shown_rows}
use Rattle.page_reads.specs.declared.page.Filled.{Filled}
use Rattle.page_reads.specs.Filled.{filled_as, filled_of}
use Rattle.page_reads.proofs.Filling.{count_within}
use Rattle.cell_pages.specs.Asked.{entry_of}
use Rattle.cell_model.specs.declared.answer.PageRow.{PageRow}

module _ (schema : Schema) (source : Source) (r : PageRequest) where
  -- no more rows are shown than were looked at
  few_shown : (rows : Entries) → length (shown_rows r rows) ≤ length rows
  few_shown rows =
      count_within schema source r rows (room_after r.limit (map (λ entry. judged r entry.1) rows)) (filled_of schema source r rows)
      (record { room_is = refl; page_is = refl })

  -- a page without rows has no last one, whether it is told to be full or not
  none_filled : (full other : Bool) → filled_as full schema source r [] ≡ filled_as other schema source r []
  none_filled true true = refl
  none_filled true false = refl
  none_filled false true = refl
  none_filled false false = refl

  -- the page was told of so many rows, and with the last of all whether it ends
  pub record IsTold (ended : Bool) (rows : List PageRow) (place : ℕ) (filled : Filled) : Type 0 where
    pub full : Bool
    pub filled_is : filled ≡ filled_as full schema source r (map entry_of (take place rows))
    pub last : place ≡ length rows → full ≡ ended

  module _ (ended : Bool) (rows : List PageRow) where
    pub none_told : (filled : Filled) → filled ≡ filled_of schema source r [] → IsTold ended rows 0 filled
    none_told filled none = record { full = ended; filled_is = none ∙ none_filled _ ended; last = λ h. refl }

    module _ (place : ℕ) (filled : Filled) (told : IsTold ended rows place filled) where
      pub told_scanned : place ≤ length rows → filled.page.scanned ≡ place
      told_scanned within =
          ap (λ (f : Filled). f.page.scanned) told.filled_is ∙ length-map (take place rows) entry_of ∙ length-take-le place rows within

      pub told_count : filled.page.count ≤ filled.page.scanned
      told_count =
          omega (arith, ap (λ (f : Filled). f.page.scanned) told.filled_is, ap (λ (f : Filled). f.page.count) told.filled_is, few_shown (map entry_of (take place rows)))

      pub told_more : (later : ℕ) → later ≡ suc place → (row : PageRow) → place < length rows → row ≡ get_or rows place row → (full : Bool)
          → (later ≡ length rows → full ≡ ended) → (new : Filled)
          → ((was : Bool) (these : Entries) (at : Position) → filled ≡ filled_as was schema source r these → new ≡ filled_as full schema source r (these ++ (at, row.item) ∷ []))
          → IsTold ended rows later new
      told_more later more row within at full ends new adds = record {
        full = full;
        filled_is =
            adds told.full (map entry_of (take place rows)) row.at told.filled_is
            ∙ ap (filled_as full schema source r) (sym (ap (λ (k : ℕ). map entry_of (take k rows)) more ∙ ap (map entry_of) (take-suc rows place row within ∙ ap (λ x. take place rows ++ x ∷ []) (sym at)) ∙ map-append entry_of (take place rows) (row ∷ [])));
        last = ends;
      }

    pub all_told : (filled : Filled) → IsTold ended rows (length rows) filled → filled ≡ filled_as ended schema source r (map entry_of rows)
    all_told filled told = told.filled_is ∙ (λ i. filled_as (told.last refl i) schema source r (map entry_of (take-length rows i)))
