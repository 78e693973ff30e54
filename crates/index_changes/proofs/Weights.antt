-- How many changes are prepared, after the list of one item was put in or taken out.
use Rattle.std.specs.Option.{option_map, unwrap_or}
use Rattle.std.specs.BTreeMap.{BTreeMap, IsOrdered, get, insert_entry, is_at, values}
use Rattle.std.specs.Map.{values_of, remove_entry}
use Rattle.std.specs.List.{sum_by}
use Rattle.std.specs.Cmp.{IsTotalOrder}
use Rattle.std.specs.declared.cmp.Ordering.{Ordering}
use Rattle.std.proofs.Common.{◌≡◌, ℕ, ◌+◌, List, length, Option, None, Some, refl, ap, arith}
use Rattle.std.proofs.lemmas.Map.Entries.{sum_by-remove_entry, sum_by-insert_entry}
use Rattle.index_changes.specs.declared.change.IndexChanges.{IndexChanges}
use Rattle.index_changes.specs.Prepared.{rows_of, places_in}

module _ {K V N : Type 0} where
  -- how many changes a list has
  abbrev many : IndexChanges K V N → ℕ
  many changes = length changes.rows.items

  counted : (o : Option (IndexChanges K V N)) → unwrap_or (option_map many o) 0 ≡ length (rows_of o)
  counted None = refl
  counted (Some changes) = refl

  pub taken :
      (cmp : K → K → Ordering) (m n : BTreeMap K (IndexChanges K V N)) (k : K) → n.entries ≡ remove_entry (is_at (cmp k)) m.entries
      → (old : Option (IndexChanges K V N)) → old ≡ get cmp m k → places_in n + length (rows_of old) ≡ places_in m
  taken cmp m n k e old was =
      let moved : sum_by many (values n) ≡ sum_by many (values_of (remove_entry (is_at (cmp k)) m.entries)) =
      ap (λ (es : List (K × IndexChanges K V N)). sum_by many (values_of es)) e in
      let sum : sum_by many (values_of (remove_entry (is_at (cmp k)) m.entries)) + unwrap_or (option_map many (get cmp m k)) 0 ≡ sum_by many (values m) =
      sum_by-remove_entry many (is_at (cmp k)) m.entries in
      let same = counted (get cmp m k) in
      let one : length (rows_of old) ≡ length (rows_of (get cmp m k)) = ap (λ o. length (rows_of o)) was in
      omega arith

  pub put :
      (cmp : K → K → Ordering) → IsTotalOrder cmp → (m n : BTreeMap K (IndexChanges K V N)) (k : K) (changes : IndexChanges K V N)
      → IsOrdered cmp m → n.entries ≡ insert_entry cmp m.entries k changes → (old : Option (IndexChanges K V N)) → old ≡ get cmp m k
      → places_in n + length (rows_of old) ≡ places_in m + length changes.rows.items
  put cmp total m n k changes order e old was =
      let moved : sum_by many (values n) ≡ sum_by many (values_of (insert_entry cmp m.entries k changes)) =
      ap (λ (es : List (K × IndexChanges K V N)). sum_by many (values_of es)) e in
      let sum : sum_by many (values_of (insert_entry cmp m.entries k changes)) + unwrap_or (option_map many (get cmp m k)) 0 ≡ sum_by many (values m) + many changes =
      sum_by-insert_entry many total m.entries k changes order in
      let same = counted (get cmp m k) in
      let one : length (rows_of old) ≡ length (rows_of (get cmp m k)) = ap (λ o. length (rows_of o)) was in
      omega arith
