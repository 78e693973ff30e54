-- Fronts of rows that fill a page, and of rows that don't.
use Rattle.std.proofs.Common.{◌≡◌, ℕ, ◌+◌, ◌<◌, ◌≤◌, Bool, true, false, List, [], ◌∷◌, ◌++◌, length, take, Option, None, Some, refl, sym, ap, ◌∙◌, subst, inl, inr, arith}
use Rattle.std.specs.Prelude.{◌⊎◌, ◌-◌, ◌||◌, ◌==◌, nat_lt}
use Rattle.std.proofs.lemmas.Bool.Decides.{nat_tests}
use Rattle.std.proofs.lemmas.List.{length-take, length-append, take-append-le, append_assoc}
use Rattle.std.proofs.Math.Seq.{take-append_seam}
use Rattle.std.proofs.lemmas.List.Sums.{sum_by-take-le}
use Rattle.paging.specs.declared.page.Judged.{Judged}
use Rattle.std.specs.Option.{option_map}
use Rattle.paging.specs.Page.{page_bytes, bytes_of, has_limit, is_full, IsPage}
use Rattle.paging.specs.Room.{room_after, has_stopped}

fewer : (limit : Option ℕ) (more less : ℕ) → less ≤ more → has_limit limit more ≡ false → has_limit limit less ≡ false
fewer None more less h going = refl
fewer (Some most) more less h going = grind (arith, nat_tests)

neither : (a b : Bool) → (a || b) ≡ false → (a ≡ false) × (b ≡ false)
neither true b h = absurd (cc)
neither false b h = (refl, h)

none_of : (a b : Bool) → a ≡ false → b ≡ false → (a || b) ≡ false
none_of true b h k = absurd (cc)
none_of false b h k = k

lighter : (more less : ℕ) → less ≤ more → nat_lt page_bytes more ≡ false → nat_lt page_bytes less ≡ false
lighter more less h going = grind (arith, nat_tests)

-- a front of rows that don't fill a page doesn't either
pub front_not_full : (limit : Option ℕ) (rows : List Judged) (k : ℕ) → is_full limit rows ≡ false → is_full limit (take k rows) ≡ false
front_not_full limit rows k going =
    let both = neither (has_limit limit (length rows)) (nat_lt page_bytes (bytes_of rows)) going in
    let shorter : length (take k rows) ≤ length rows = omega (arith, length-take k rows) in
    none_of _ _ (fewer limit (length rows) (length (take k rows)) shorter both.0)
    (lighter (bytes_of rows) (bytes_of (take k rows)) (sum_by-take-le (λ row. row.size) rows k) both.1)

-- the whole list, where it fills no page
pub whole_page : (limit : Option ℕ) (rows : List Judged) → is_full limit rows ≡ false → IsPage limit rows (length rows)
whole_page limit rows going = record {
  within = omega arith;
  shortest = λ k h. front_not_full limit rows k going;
  ends = inr refl;
}

-- the front with the row that fills the page
pub page_with : (limit : Option ℕ) (front : List Judged) (row : Judged) (rest : List Judged) → is_full limit front ≡ false
    → is_full limit (front ++ row ∷ []) ≡ true → IsPage limit ((front ++ row ∷ []) ++ rest) (length (front ++ row ∷ []))
page_with limit front row rest going full = record {
  within = omega (arith, length-append (front ++ row ∷ []) rest);
  shortest = λ k h.
      let short : k ≤ length front = omega (arith, length-append front (row ∷ [])) in
      let same : take k ((front ++ row ∷ []) ++ rest) ≡ take k front =
      ap (take k) (append_assoc front (row ∷ []) rest) ∙ take-append-le k front ((row ∷ []) ++ rest) short in
      subst (λ rows. is_full limit rows ≡ false) (sym same) (front_not_full limit front k going);
  ends = inl (subst (λ rows. is_full limit rows ≡ true) (sym (take-append_seam (front ++ row ∷ []) rest)) full);
}

-- what is left of a limit is reached where the limit is
limit_left : (limit : Option ℕ) (count : ℕ) → has_limit (option_map (λ most. most - count) limit) 0 ≡ has_limit limit count
limit_left None count = refl
limit_left (Some most) count = grind (arith, nat_tests)

bytes_left : (bytes : ℕ) → (page_bytes + 1 - bytes == 0) ≡ nat_lt page_bytes bytes
bytes_left bytes = grind (arith, nat_tests)

-- a page has stopped where its rows fill it
pub stopped_where_full : (limit : Option ℕ) (rows : List Judged) → has_stopped (room_after limit rows) ≡ is_full limit rows
stopped_where_full limit rows = λ j. limit_left limit (length rows) j || bytes_left (bytes_of rows) j

no_shorter : (limit : Option ℕ) (rows : List Judged) (count other : ℕ) → IsPage limit rows count → IsPage limit rows other → ¬ (count < other)
no_shorter limit rows count other page longer h = at page.ends
  where
    at : (is_full limit (take count rows) ≡ true) ⊎ (count ≡ length rows) → ⊥
    at (inl full) = let going : is_full limit (take count rows) ≡ false = longer.shortest count h in absurd (cc)
    at (inr whole) = let within : other ≤ length rows = longer.within in absurd (omega arith)

pub one_page : (limit : Option ℕ) (rows : List Judged) (count other : ℕ) → IsPage limit rows count → IsPage limit rows other → count ≡ other
one_page limit rows count other page another =
    let least = no_shorter limit rows count other page another in
    let least_too = no_shorter limit rows other count another page in
    omega (arith, least, least_too)
