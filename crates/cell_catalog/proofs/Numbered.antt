-- The numbers of indexes, one after another.
use Rattle.std.specs.List.{range_with_len, list_any}
use Rattle.std.specs.Prelude.{nat_eq, is_some, ◌||◌}
use Rattle.cell_model.specs.Catalogs.{index_at}
use Rattle.std.proofs.Common.{◌+◌, zero, suc, arith, add-zero, add-one, ◌≡◌, ℕ, Bool, true, false, List, [], ◌∷◌, ◌++◌, if◌then◌else◌, Option, None, Some, map, refl, ap, sym, ◌∙◌}
use Rattle.table_schema.specs.declared.index.GlobalIndex.{GlobalIndex}
use Rattle.cell_catalog.specs.Numbers.{numbers_beside}

-- where none goes all stay
pub all_stay : (entries : List (ℕ × GlobalIndex)) → numbers_beside None entries ≡ map (λ entry. entry.0) entries
all_stay [] = refl
all_stay (entry ∷ entries) = ap (λ numbers. entry.0 ∷ numbers) (all_stay entries)

-- one more number
more : (first many : ℕ) → range_with_len first (suc many) ≡ range_with_len first many ++ (first + many) ∷ []
more first zero = ap (λ n. n ∷ []) (sym (add-zero first))
more first (suc many) =
    let e : first + 1 + many ≡ first + suc many = omega arith in
    ap (λ ns. first ∷ ns) (more (first + 1) many ∙ ap (λ n. range_with_len (first + 1) many ++ n ∷ []) e)

pub one_more : (first place number : ℕ) (numbers new : List ℕ) → numbers ≡ range_with_len first place → number ≡ first + place → new ≡ numbers ++ number ∷ [] → new ≡ range_with_len first (place + 1)
one_more first place number numbers new are is pushed =
    pushed ∙ (λ i. are i ++ is i ∷ []) ∙ sym (more first place) ∙ ap (range_with_len first) (sym (add-one place))

-- an index has the number where it is found by it
pub found_by :
    (number : ℕ) (entries : List (ℕ × GlobalIndex))
    → is_some (index_at number entries) ≡ list_any (λ other. nat_eq other number) (map (λ entry. entry.0) entries)
found_by number [] = refl
found_by number (entry ∷ entries) = step (nat_eq entry.0 number) entry.1 (index_at number entries) _ (found_by number entries)
  where
    step : (b : Bool) (x : GlobalIndex) (o : Option GlobalIndex) (r : Bool) → is_some o ≡ r → is_some (if b then Some x else o) ≡ (b || r)
    step true x o r e = refl
    step false x o r e = e
