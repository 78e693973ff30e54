-- How reads in pieces cut a list.
use Rattle.std.proofs.Common.{◌≡◌, ℕ, ◌+◌, List, ◌++◌, take, drop, ◌∙◌, sym, ap}
use Rattle.std.proofs.lemmas.List.{take-append-drop, drop-drop}

-- what is past a place is a piece and what is past the piece
pub pieces : (at n : ℕ) (xs : List ℕ) → drop at xs ≡ take n (drop at xs) ++ drop (at + n) xs
pieces at n xs = sym (take-append-drop n (drop at xs)) ∙ ap (λ d. take n (drop at xs) ++ d) (drop-drop n at xs)
