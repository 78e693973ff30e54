-- A history that is kept oldest first is one of ours, reversed.
use Rattle.std.proofs.Common.{◌≡◌, Bool, true, false, cond, ℕ, List, [], ◌∷◌, ◌++◌, reverse, filter, refl, sym, ap, ◌∙◌}
use Rattle.std.proofs.lemmas.List.{reverse-append, append-nil}
use Rattle.std.proofs.lemmas.List.Elements.{filter-append}
use Rattle.txn_core.specs.declared.entry.Entry.{Entry}
use Rattle.txn_core.specs.Cells.{of_cell, of_pass}

-- what is appended comes first
pub newest : {X : Type 0} (older : List X) (x : X) → reverse (older ++ x ∷ []) ≡ x ∷ reverse older
newest older x = reverse-append older (x ∷ [])

-- a beginning is what the newer part stands before
pub beginning_is_tail : {X : Type 0} (older newer : List X) → reverse (older ++ newer) ≡ reverse newer ++ reverse older
beginning_is_tail older newer = reverse-append older newer

pub filter_reversed : {X : Type 0} (test : X → Bool) (xs : List X) → filter test (reverse xs) ≡ reverse (filter test xs)
filter_reversed test [] = refl
filter_reversed test (x ∷ xs) =
    ap (λ ys. filter test ys) (reverse-append (x ∷ []) xs)
    ∙ filter-append test (reverse xs) (x ∷ [])
    ∙ (λ j. filter_reversed test xs j ++ cond (test x) (x ∷ []) [])
    ∙ by_test (test x)
  where
    by_test : (b : Bool) → reverse (filter test xs) ++ cond b (x ∷ []) [] ≡ reverse (cond b (x ∷ filter test xs) (filter test xs))
    by_test true = sym (reverse-append (x ∷ []) (filter test xs))
    by_test false = append-nil (reverse (filter test xs))

module _ {K V A F D Q B : Type 0} where
  pub of_cell_reversed : (i : ℕ) (log : List (Entry K V A F D Q B)) → of_cell i (reverse log) ≡ reverse (of_cell i log)
  of_cell_reversed i log = filter_reversed _ log

  pub of_pass_reversed : (p : ℕ) (log : List (Entry K V A F D Q B)) → of_pass p (reverse log) ≡ reverse (of_pass p log)
  of_pass_reversed p log = filter_reversed _ log
