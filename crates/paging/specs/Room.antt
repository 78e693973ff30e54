-- What a page may still take.
use Rattle.std.specs.Prelude.{◌≡◌, ℕ, ◌+◌, ◌-◌, Bool, true, false, ◌||◌, ◌==◌, List, [], ◌∷◌, ◌++◌, length, Option}
use Rattle.std.specs.Option.{option_map}
use Rattle.paging.specs.declared.page.Judged.{Judged}
use Rattle.paging.specs.declared.page.Offer.{Offer}
use Rattle.paging.specs.declared.page.Offer.TheVariants.{KeepGoOn, SkipGoOn, KeepStop, SkipStop}
use Rattle.paging.specs.Page.{page_bytes, bytes_of, has_limit, is_full}

-- the rows that a page may still take, where there is a limit, and the bytes, the one that ends it included
pub record Room : Type 0 where
  pub rows : Option ℕ
  pub bytes : ℕ

-- what a page may still take when it has these rows
abbrev pub room_after : Option ℕ → List Judged → Room
room_after limit rows = record {
  rows = option_map (λ most. most - length rows) limit;
  bytes = page_bytes + 1 - bytes_of rows;
}

-- no row or no byte may be taken any more
abbrev pub has_stopped : Room → Bool
has_stopped room = has_limit room.rows 0 || (room.bytes == 0)

-- the answer tells of each page that has this room whether its rows fill it
abbrev pub TellsFull : Room → Bool → Type 0
TellsFull room answer =
    (limit : Option ℕ) (rows : List Judged) → room ≡ room_after limit rows → answer ≡ is_full limit rows

-- each page that had the old room has the new one with this row
abbrev pub Takes : Room → Room → Judged → Type 0
Takes old new row =
    (limit : Option ℕ) (rows : List Judged) → old ≡ room_after limit rows → new ≡ room_after limit (rows ++ row ∷ [])

-- a row of this size, which passes the filter or not
abbrev pub row_of : ℕ → Bool → Judged
row_of size passes = record { size = size; passes = passes }

-- the row is kept
abbrev pub is_kept : Offer → Bool
is_kept KeepGoOn = true
is_kept KeepStop = true
is_kept SkipGoOn = false
is_kept SkipStop = false

-- the page ends with the row
abbrev pub is_stop : Offer → Bool
is_stop KeepStop = true
is_stop SkipStop = true
is_stop KeepGoOn = false
is_stop SkipGoOn = false
