-- What is told of writes, table after table.
use Rattle.std.proofs.Common.{◌≡◌, ℕ, ◌+◌, ◌-◌, min, List, [], ◌∷◌, ◌++◌, append_assoc, length, take, drop, Bool, true, false, Option, None, Some, refl, sym, ap, ◌∙◌}
use Rattle.std.specs.Prelude.{filter_map, if◌then◌else◌}
use Rattle.std.proofs.lemmas.List.{append-nil, length-drop, take_min, drop_min, drop-drop}
use Rattle.std.proofs.lemmas.List.Elements.{filter_map-append}
use Rattle.table_request.specs.declared.batches.BatchWrite.{BatchWrite}
use Rattle.table_request.specs.declared.batches.TableWrites.{TableWrites}
use Rattle.table_request.specs.declared.batches.WriteRequest.{WriteRequest}
use Rattle.cell_asks.specs.declared.asks.Wrote.{Wrote}
use Rattle.cell_asks.specs.declared.tried.Tried.{Tried}
use Rattle.batch_calls.specs.Writes.{is_made, unless_made, unmade, unwritten_in, unwritten, told_writes}

-- ---- the answers to the writes of one table, cut out of all

module _ {X : Type 0} (n start count : ℕ) (xs : List X) (is : count ≡ min n (length xs - start)) where
  pub cut_front : take count (drop start xs) ≡ take n (drop start xs)
  cut_front = ap (λ m. take m (drop start xs)) (is ∙ ap (min n) (sym (length-drop start xs))) ∙ take_min n (drop start xs)

  pub cut_back : drop (start + count) xs ≡ drop n (drop start xs)
  cut_back =
      sym (drop-drop count start xs) ∙ ap (λ m. drop m (drop start xs)) (is ∙ ap (min n) (sym (length-drop start xs))) ∙ drop_min n (drop start xs)

-- ---- writes that were not made

one_unmade : (left : List WriteRequest) (wrote : Wrote) (w : WriteRequest) (b : Bool)
    → (if b then left else left ++ w ∷ []) ≡ left ++ filter_map (λ (o : Option WriteRequest). o) ((if b then None else Some w) ∷ [])
one_unmade left wrote w true = sym (append-nil left)
one_unmade left wrote w false = refl

pub unmade_more : (both : List (Wrote × WriteRequest)) (left new : List WriteRequest) (wrote : Wrote) (w : WriteRequest) → left ≡ filter_map unless_made both
    → new ≡ (if is_made wrote then left else left ++ w ∷ []) → new ≡ filter_map unless_made (both ++ (wrote, w) ∷ [])
unmade_more both left new wrote w is pushed =
    pushed ∙ one_unmade left wrote w (is_made wrote) ∙ ap (λ xs. xs ++ filter_map unless_made ((wrote, w) ∷ [])) is
    ∙ sym (filter_map-append unless_made both ((wrote, w) ∷ []))

-- ---- tables with writes that were not made

-- one table more
module _ (t : TableWrites) (ts : List TableWrites) (wrotes : List Wrote) (start count : ℕ) (is : count ≡ min (length t.writes) (length wrotes - start)) where
  pub unwritten_more : (rest new : List TableWrites) → new ≡ rest ++ unwritten_in t.table (unmade (take count (drop start wrotes)) t.writes)
      → new ++ unwritten ts (drop (start + count) wrotes) ≡ rest ++ unwritten (t ∷ ts) (drop start wrotes)
  unwritten_more rest new pushed =
      ap (λ xs. xs ++ unwritten ts (drop (start + count) wrotes)) pushed
      ∙ append_assoc rest (unwritten_in t.table (unmade (take count (drop start wrotes)) t.writes)) (unwritten ts (drop (start + count) wrotes))
      ∙ (λ i.
      rest ++ (unwritten_in t.table (unmade (cut_front (length t.writes) start count wrotes is i) t.writes)
      ++ unwritten ts (cut_back (length t.writes) start count wrotes is i)))

-- ---- the reply

-- to the same answers
pub told_alike : (r : BatchWrite) (lent wrotes : List Wrote) (tried : Tried) → tried ≡ Tried.Reply (told_writes r lent) → lent ≡ wrotes
    → tried ≡ Tried.Reply (told_writes r wrotes)
told_alike r lent wrotes tried is same = is ∙ ap (λ ws. Tried.Reply (told_writes r ws)) same
