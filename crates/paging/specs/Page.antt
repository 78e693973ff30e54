-- Pages: which rows of a list are taken together.
use Rattle.std.specs.Prelude.{◌≡◌, ℕ, ◌<◌, ◌≤◌, Bool, true, false, ◌||◌, ◌⊎◌, nat_le, nat_lt, List, length, take, sum_by, Option, None, Some}
use Rattle.paging.specs.declared.page.Judged.{Judged}

-- a page with more bytes than these is full
abbrev pub page_bytes : ℕ
page_bytes = 1048576

-- the bytes of some rows together
abbrev pub bytes_of : List Judged → ℕ
bytes_of rows = sum_by (λ row. row.size) rows

-- there are as many rows as the limit allows, where there is a limit
abbrev pub has_limit : Option ℕ → ℕ → Bool
has_limit None count = false
has_limit (Some limit) count = nat_le limit count

-- the rows fill a page: they are as many as the limit, or have more than 1,048,576 bytes
abbrev pub is_full : Option ℕ → List Judged → Bool
is_full limit rows = has_limit limit (length rows) || nat_lt page_bytes (bytes_of rows)

-- the first `count` of the rows are their page: the shortest front that is full, or the whole list where none is
pub record IsPage (limit : Option ℕ) (rows : List Judged) (count : ℕ) : Type 0 where
  pub within : count ≤ length rows
  pub shortest : (k : ℕ) → k < count → is_full limit (take k rows) ≡ false
  pub ends : (is_full limit (take count rows) ≡ true) ⊎ (count ≡ length rows)

-- no list has two pages
abbrev pub HasOnePage : Type 0
HasOnePage =
    (limit : Option ℕ) (rows : List Judged) (count other : ℕ)
    → IsPage limit rows count → IsPage limit rows other → count ≡ other
