-- The steps by which a number comes to its place in a heap.
use Rattle.std.proofs.Common.{◌≡◌, ◌≢◌, ◌⊎◌, inl, inr, ℕ, zero, suc, ◌+◌, ◌-◌, ◌*◌, ◌/◌, ◌<◌, ◌≤◌, true, false, nat_eq, List, length, slice_index, ap, refl, ◌∙◌, arith}
use borrow.Author.Tests.{eqb-true, eqb-false}
use Rattle.std.specs.List.{swap}
use Rattle.std.proofs.lemmas.List.Edits.{swapped_from_swap, length-swap}
use Rattle.client_tokens.specs.Heap.{IsHeap, IsHeapBut, IsNotBeforeParent, IsEarliestChild}

same_or_not : (a b : ℕ) → (a ≡ b) ⊎ (a ≢ b)
same_or_not a b =
    elim (nat_eq a b) as (λ t. nat_eq a b ≡ t → (a ≡ b) ⊎ (a ≢ b)) [
      | true ↦ λ e. inl (eqb-true a b e)
      | false ↦ λ e. inr (eqb-false a b e)
    ] refl

le_along : (a b x y : ℕ) → a ≡ x → b ≡ y → x ≤ y → a ≤ b
le_along a b x y p q h = omega arith

module _ (ns : List ℕ) (up j : ℕ) (lo : 2 * up + 1 ≤ j) (hi : j ≤ 2 * up + 2) (within : j < length ns) where
  moved : (slice_index (swap ns up j) up ≡ slice_index ns j) × (slice_index (swap ns up j) j ≡ slice_index ns up) × ((m : ℕ) → m ≢ up → m ≢ j → slice_index (swap ns up j) m ≡ slice_index ns m)
  moved = swapped_from_swap ns (swap ns up j) up j 0 (omega arith) within refl

  at_place : (i k : ℕ) → i ≡ k → slice_index (swap ns up j) i ≡ slice_index (swap ns up j) k
  at_place i k e = ap (λ m. slice_index (swap ns up j) m) e

  same_length : length (swap ns up j) ≡ length ns
  same_length = length-swap ns up j

  -- a number goes up
  pub rises : IsHeapBut ns j → IsHeapBut (swap ns up j) up
  rises h = record { others = others; across = across }
    where
      others : (p k : ℕ) → 2 * p + 1 ≤ k → k ≤ 2 * p + 2 → k < length (swap ns up j) → p ≢ up → k ≢ up → slice_index (swap ns up j) p ≤ slice_index (swap ns up j) k
      others p k a b f u v = elim (same_or_not p j) [
        | inl e ↦ le_along _ _ _ _ (at_place p j e ∙ moved.1) (moved.2 k v (omega arith)) (h.across up k lo hi (omega arith) (omega arith) (omega (arith, same_length)))
        | inr w ↦ elim (same_or_not k j) [
          | inl e ↦ absurd (u (omega arith))
          | inr x ↦ le_along _ _ _ _ (moved.2 p u w) (moved.2 k v x) (h.others p k a b (omega (arith, same_length)) w x)
        ]
      ]

      across : (p k : ℕ) → 2 * p + 1 ≤ up → up ≤ 2 * p + 2 → 2 * up + 1 ≤ k → k ≤ 2 * up + 2 → k < length (swap ns up j) → slice_index (swap ns up j) p ≤ slice_index (swap ns up j) k
      across p k a b c d f =
          let over : slice_index ns p ≤ slice_index ns up = h.others p up a b (omega arith) (omega arith) (omega arith) in
          let same : slice_index (swap ns up j) p ≡ slice_index ns p = moved.2 p (omega arith) (omega arith) in
          elim (same_or_not k j) [
            | inl e ↦ le_along _ _ _ _ same (at_place k j e ∙ moved.1) over
            | inr x ↦
                let under : slice_index ns up ≤ slice_index ns k = h.others up k c d (omega (arith, same_length)) (omega arith) x in
                le_along _ _ _ _ same (moved.2 k (omega arith) x) (omega arith)
          ]

  -- a number goes down, to the place of the earliest below it
  pub sinks : IsHeapBut ns up → IsEarliestChild ns up j → IsHeapBut (swap ns up j) j
  sinks h earliest = record { others = others; across = across }
    where
      others : (p k : ℕ) → 2 * p + 1 ≤ k → k ≤ 2 * p + 2 → k < length (swap ns up j) → p ≢ j → k ≢ j → slice_index (swap ns up j) p ≤ slice_index (swap ns up j) k
      others p k a b f u v = elim (same_or_not k up) [
        | inl e ↦ le_along _ _ _ _ (moved.2 p (omega arith) u) (at_place k up e ∙ moved.0) (h.across p j (omega arith) (omega arith) lo hi within)
        | inr w ↦ elim (same_or_not p up) [
          | inl e ↦ le_along _ _ _ _ (at_place p up e ∙ moved.0) (moved.2 k w v) (earliest k (omega arith) (omega arith) (omega (arith, same_length)))
          | inr x ↦ le_along _ _ _ _ (moved.2 p x u) (moved.2 k w v) (h.others p k a b (omega (arith, same_length)) x w)
        ]
      ]

      across : (p k : ℕ) → 2 * p + 1 ≤ j → j ≤ 2 * p + 2 → 2 * j + 1 ≤ k → k ≤ 2 * j + 2 → k < length (swap ns up j) → slice_index (swap ns up j) p ≤ slice_index (swap ns up j) k
      across p k a b c d f = le_along _ _ _ _ (at_place p up (omega arith) ∙ moved.0) (moved.2 k (omega arith) (omega arith)) (h.others j k c d (omega (arith, same_length)) (omega arith) (omega arith))

  -- and isn't before what is then above it
  pub sinks_above : slice_index ns j < slice_index ns up → IsNotBeforeParent (swap ns up j) j
  sinks_above before p a b = le_along _ _ _ _ (at_place p up (omega arith) ∙ moved.0) moved.1 (omega arith)

module _ (ns : List ℕ) (j : ℕ) (others : IsHeapBut ns j) where
  -- a number that isn't before what is above it, nor later than what is below it, is in its place
  pub in_place : IsNotBeforeParent ns j → ((k : ℕ) → 2 * j + 1 ≤ k → k ≤ 2 * j + 2 → k < length ns → slice_index ns j ≤ slice_index ns k) → IsHeap ns
  in_place above below p k a b f = elim (same_or_not p j) [
    | inl e ↦ le_along _ _ _ _ (ap (λ m. slice_index ns m) e) refl (below k (omega arith) (omega arith) f)
    | inr u ↦ elim (same_or_not k j) [
      | inl e ↦ le_along _ _ _ _ refl (ap (λ m. slice_index ns m) e) (above p (omega arith) (omega arith))
      | inr v ↦ others.others p k a b f u v
    ]
  ]

  -- there is no number at j
  pub past_end : length ns ≤ j → IsHeap ns
  past_end end p k a b f = others.others p k a b f (omega arith) (omega arith)

-- a heap in which the number at j alone was changed, or taken away at the end
pub changed_at : (ns ms : List ℕ) (j : ℕ) → length ms ≤ length ns → ((k : ℕ) → k < length ms → k ≢ j → slice_index ms k ≡ slice_index ns k) → IsHeap ns → IsHeapBut ms j
changed_at ns ms j shorter same h = record {
  others = λ p k a b f u v. le_along _ _ _ _ (same p (omega arith) u) (same k f v) (h p k a b (omega arith));
  across = λ p k a b c d f.
      let over : slice_index ns p ≤ slice_index ns j = h p j a b (omega arith) in
      let under : slice_index ns j ≤ slice_index ns k = h j k c d (omega arith) in
      le_along _ _ _ _ (same p (omega arith) (omega arith)) (same k f (omega arith)) (omega arith);
}

-- a heap with one number more at its end
pub added_at_end : (ns ms : List ℕ) → length ms ≡ length ns + 1 → ((k : ℕ) → k < length ns → slice_index ms k ≡ slice_index ns k) → IsHeap ns → IsHeapBut ms (length ns)
added_at_end ns ms longer same h = record {
  others = λ p k a b f u v. le_along _ _ _ _ (same p (omega arith)) (same k (omega arith)) (h p k a b (omega arith));
  across = λ p k a b c d f. absurd (omega arith);
}

first_by : (ns : List ℕ) → IsHeap ns → (fuel k : ℕ) → k ≤ fuel → k < length ns → slice_index ns 0 ≤ slice_index ns k
first_by ns h zero k a f = let e : k ≡ 0 = omega arith in le_along _ _ _ _ refl (ap (λ m. slice_index ns m) e) (omega arith)
first_by ns h (suc fuel) k a f = elim (same_or_not k 0) [
  | inl e ↦ le_along _ _ _ _ refl (ap (λ m. slice_index ns m) e) (omega arith)
  | inr u ↦
      let up : slice_index ns 0 ≤ slice_index ns ((k - 1) / 2) = first_by ns h fuel ((k - 1) / 2) (omega arith) (omega arith) in
      let step : slice_index ns ((k - 1) / 2) ≤ slice_index ns k = h ((k - 1) / 2) k (omega arith) (omega arith) f in
      omega arith
]

-- nothing is before the first
pub first_is_least : (ns : List ℕ) → IsHeap ns → (k : ℕ) → k < length ns → slice_index ns 0 ≤ slice_index ns k
first_is_least ns h k f = first_by ns h k k (omega arith) f
