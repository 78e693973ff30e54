-- Tickets of the cells from one on, the last taken first.
use Rattle.std.proofs.Common.{◌≡◌, ◌⊎◌, ℕ, zero, suc, ◌+◌, ◌<◌, List, [], ◌∷◌, ◌++◌, length, Some, refl, sym, ap, ◌∙◌, subst, inl, inr, ⊎_elim, arith}
use Rattle.std.specs.Prelude.{slice_get}
use Rattle.turnstile.specs.declared.board.Ticket.{Ticket}
use Rattle.turnstile.specs.Histories.{Has}
use Rattle.turnstile.specs.Kept.{ticket}
use Rattle.turnstile.specs.Passes.{stacked}
use Rattle.turnstile.proofs.Basics.{Some-injective, Some-ne-None}

pub stacked_push : (c : ℕ) (ts : List ℕ) (t : ℕ) (held : List Ticket) → stacked c (ts ++ t ∷ []) held ≡ ticket (c + length ts) t ∷ stacked c ts held
stacked_push c [] t held = let e : c ≡ c + 0 = omega arith in λ i. ticket (e i) t ∷ held
stacked_push c (x ∷ xs) t held = let e : suc c + length xs ≡ c + suc (length xs) = omega arith in stacked_push (suc c) xs t (ticket c x ∷ held) ∙ (λ i. ticket (e i) t ∷ stacked (suc c) xs (ticket c x ∷ held))

pub stacked_keeps : (c : ℕ) (ts : List ℕ) (held : List Ticket) (u : Ticket) → Has held u → Has (stacked c ts held) u
stacked_keeps c [] held u h = h
stacked_keeps c (x ∷ xs) held u h = stacked_keeps (suc c) xs (ticket c x ∷ held) u (inr h)

pub stacked_has : (c : ℕ) (ts : List ℕ) (held : List Ticket) (k t : ℕ) → slice_get ts k ≡ Some t → Has (stacked c ts held) (ticket (c + k) t)
stacked_has c [] held k t e = absurd (Some-ne-None t (sym e))
stacked_has c (x ∷ xs) held zero t e = let f : c ≡ c + 0 = omega arith in let g : x ≡ t = Some-injective x t e in
    subst (λ (u : Ticket). Has (stacked (suc c) xs (ticket c x ∷ held)) u) (λ i. ticket (f i) (g i)) (stacked_keeps (suc c) xs (ticket c x ∷ held) (ticket c x) (inl refl))
stacked_has c (x ∷ xs) held (suc k) t e = let f : suc c + k ≡ c + suc k = omega arith in
    subst (λ (j : ℕ). Has (stacked (suc c) xs (ticket c x ∷ held)) (ticket j t)) f (stacked_has (suc c) xs (ticket c x ∷ held) k t e)

pub stacked_here : (ts : List ℕ) (k t : ℕ) → slice_get ts k ≡ Some t → Has (stacked 0 ts []) (ticket k t)
stacked_here ts k t e = let f : 0 + k ≡ k = omega arith in subst (λ (j : ℕ). Has (stacked 0 ts []) (ticket j t)) f (stacked_has 0 ts [] k t e)

stacked_low : (c : ℕ) (ts : List ℕ) (held : List Ticket) (u : Ticket) → Has (stacked c ts held) u → (u.cell < c + length ts) ⊎ Has held u
stacked_low c [] held u h = inr h
stacked_low c (x ∷ xs) held u h = ⊎_elim (λ lt. inl (omega arith)) (λ m. ⊎_elim (λ e. let f : c ≡ u.cell = ap (λ (y : Ticket). y.cell) e in inl (omega arith)) (λ o. inr o) m) (stacked_low (suc c) xs (ticket c x ∷ held) u h)

pub stacked_below : (ts : List ℕ) (u : Ticket) → Has (stacked 0 ts []) u → u.cell < length ts
stacked_below ts u h = ⊎_elim (λ lt. omega arith) (λ none. absurd none) (stacked_low 0 ts [] u h)

pub stacked_top : (ts : List ℕ) (t : ℕ) → stacked 0 (ts ++ t ∷ []) [] ≡ ticket (length ts) t ∷ stacked 0 ts []
stacked_top ts t = let e : 0 + length ts ≡ length ts = omega arith in stacked_push 0 ts t [] ∙ (λ i. ticket (e i) t ∷ stacked 0 ts [])
