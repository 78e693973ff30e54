-- Points, keys and positions that tie in their order are equal.
use Rattle.std.proofs.Common.{◌≡◌, ◌∙◌, refl, ap, sym, ℕ, List, [], ◌∷◌}
use Rattle.std.specs.Cmp.Lexicographic.{slice_cmp}
use Rattle.std.specs.Ordering.{nat_cmp, int_cmp, ordering_then}
use Rattle.std.specs.declared.cmp.Ordering.{Ordering}
use Rattle.std.specs.declared.cmp.Ordering.TheVariants as order
use Rattle.std.proofs.lemmas.Map.Lookups.{CmpEqualImpliesEq, exact_unsigned, exact_signed, exact_bytes}
use Rattle.item_keys.specs.declared.value.KeyValue.{KeyValue}
use Rattle.item_keys.specs.declared.value.KeyValue.TheVariants.{S, N, B}
use Rattle.item_keys.specs.Order.{value_order}
use Rattle.item_keys.specs.OrderLaws.{value_exact}
use Rattle.row_keys.specs.declared.point.SortPoint.TheVariants.{Least, At, After, AfterPrefix, Greatest}
use Rattle.row_keys.specs.Points.{marked, values_order, point_order}
use Rattle.row_keys.specs.Keys.{row_order, item_order, position_order}

first_ties : (o p : Ordering) → ordering_then o p ≡ order.Equal → o ≡ order.Equal
first_ties order.Less p e = absurd (cc)
first_ties order.Equal p e = refl
first_ties order.Greater p e = absurd (cc)

rest_ties : (o p : Ordering) → ordering_then o p ≡ order.Equal → p ≡ order.Equal
rest_ties order.Less p e = absurd (cc)
rest_ties order.Equal p e = e
rest_ties order.Greater p e = absurd (cc)

-- the bytes behind the marks, and what stands behind them all
abbrev bytes_behind : List ℕ → List ℕ
bytes_behind [] = []
bytes_behind (mark ∷ []) = []
bytes_behind (mark ∷ (byte ∷ others)) = byte ∷ bytes_behind others

abbrev end_behind : List ℕ → List ℕ
end_behind [] = []
end_behind (mark ∷ []) = mark ∷ []
end_behind (mark ∷ (byte ∷ others)) = end_behind others

-- at most one number stands behind bytes
abbrev IsShort : List ℕ → Type 0
IsShort [] = Unit {0}
IsShort (mark ∷ []) = Unit {0}
IsShort (mark ∷ (other ∷ others)) = ⊥

bytes_marked : (a s : List ℕ) → IsShort s → bytes_behind (marked a s) ≡ a
bytes_marked [] [] h = refl
bytes_marked [] (x ∷ []) h = refl
bytes_marked [] (x ∷ (y ∷ s)) h = absurd h
bytes_marked (b ∷ a) s h = ap (λ (l : List ℕ). b ∷ l) (bytes_marked a s h)

end_marked : (a s : List ℕ) → IsShort s → end_behind (marked a s) ≡ s
end_marked [] [] h = refl
end_marked [] (x ∷ []) h = refl
end_marked [] (x ∷ (y ∷ s)) h = absurd h
end_marked (b ∷ a) s h = end_marked a s h

module _ (a b s t : List ℕ) (short : IsShort s) (also : IsShort t) (e : slice_cmp nat_cmp (marked a s) (marked b t) ≡ order.Equal) where
  same_bytes : a ≡ b
  same_bytes = sym (bytes_marked a s short) ∙ ap bytes_behind (exact_bytes (marked a s) (marked b t) e) ∙ bytes_marked b t also

  same_end : s ≡ t
  same_end = sym (end_marked a s short) ∙ ap end_behind (exact_bytes (marked a s) (marked b t) e) ∙ end_marked b t also

values_exact : (v w : KeyValue) (s t : List ℕ) → IsShort s → IsShort t → values_order (v, s) (w, t) ≡ order.Equal → (v ≡ w) × (s ≡ t)
values_exact (S a) (S b) s t h k e = (ap S (same_bytes a b s t h k e), same_end a b s t h k e)
values_exact (N a) (N b) s t h k e = (
  ap N (exact_signed a b (first_ties (int_cmp a b) (slice_cmp nat_cmp s t) e)),
  exact_bytes s t (rest_ties (int_cmp a b) (slice_cmp nat_cmp s t) e),
)
values_exact (B a) (B b) s t h k e = (ap B (same_bytes a b s t h k e), same_end a b s t h k e)
values_exact (S a) (N b) s t h k e = absurd (cc)
values_exact (S a) (B b) s t h k e = absurd (cc)
values_exact (N a) (S b) s t h k e = absurd (cc)
values_exact (N a) (B b) s t h k e = absurd (cc)
values_exact (B a) (S b) s t h k e = absurd (cc)
values_exact (B a) (N b) s t h k e = absurd (cc)

-- the first of a list, or this
abbrev first_or : ℕ → List ℕ → ℕ
first_or other [] = other
first_or other (x ∷ xs) = x

apart : (s t : List ℕ) → first_or 1 s ≡ 0 → first_or 1 t ≡ 2 → s ≡ t → ⊥
apart s t a b e = let same : ◌≡◌ {A = ℕ} 0 2 = sym a ∙ ap (first_or 1) e ∙ b in absurd (cc)

begun : (x : ℕ) → [] ≡ x ∷ [] → ⊥
begun x e = absurd (cc)

pub point_exact : CmpEqualImpliesEq point_order
unfolding point_order
point_exact Least Least e = refl
point_exact (At v) (At w) e = ap At (values_exact v w [] [] tt tt e).0
point_exact (After v) (After w) e = ap After (values_exact v w (0 ∷ []) (0 ∷ []) tt tt e).0
point_exact (AfterPrefix v) (AfterPrefix w) e = ap AfterPrefix (values_exact v w (2 ∷ []) (2 ∷ []) tt tt e).0
point_exact Greatest Greatest e = refl
point_exact Least (At w) e = absurd (cc)
point_exact Least (After w) e = absurd (cc)
point_exact Least (AfterPrefix w) e = absurd (cc)
point_exact Least Greatest e = absurd (cc)
point_exact (At v) Least e = absurd (cc)
point_exact (At v) (After w) e = absurd (begun 0 (values_exact v w [] (0 ∷ []) tt tt e).1)
point_exact (At v) (AfterPrefix w) e = absurd (begun 2 (values_exact v w [] (2 ∷ []) tt tt e).1)
point_exact (At v) Greatest e = absurd (cc)
point_exact (After v) Least e = absurd (cc)
point_exact (After v) (At w) e = absurd (begun 0 (sym (values_exact v w (0 ∷ []) [] tt tt e).1))
point_exact (After v) (AfterPrefix w) e = absurd (apart (0 ∷ []) (2 ∷ []) refl refl (values_exact v w (0 ∷ []) (2 ∷ []) tt tt e).1)
point_exact (After v) Greatest e = absurd (cc)
point_exact (AfterPrefix v) Least e = absurd (cc)
point_exact (AfterPrefix v) (At w) e = absurd (begun 2 (sym (values_exact v w (2 ∷ []) [] tt tt e).1))
point_exact (AfterPrefix v) (After w) e = absurd (apart (0 ∷ []) (2 ∷ []) refl refl (sym (values_exact v w (2 ∷ []) (0 ∷ []) tt tt e).1))
point_exact (AfterPrefix v) Greatest e = absurd (cc)
point_exact Greatest Least e = absurd (cc)
point_exact Greatest (At w) e = absurd (cc)
point_exact Greatest (After w) e = absurd (cc)
point_exact Greatest (AfterPrefix w) e = absurd (cc)

pub row_exact : CmpEqualImpliesEq row_order
row_exact a b e =
    let keys = rest_ties (nat_cmp a.place b.place) (ordering_then (value_order a.partition b.partition) (point_order a.sort b.sort)) e in
    let place = exact_unsigned a.place b.place (first_ties (nat_cmp a.place b.place) _ e) in
    let partition = value_exact a.partition b.partition (first_ties (value_order a.partition b.partition) (point_order a.sort b.sort) keys) in
    let sort = point_exact a.sort b.sort (rest_ties (value_order a.partition b.partition) (point_order a.sort b.sort) keys) in
    λ i. record { place = place i; partition = partition i; sort = sort i }

item_exact : CmpEqualImpliesEq item_order
item_exact a b e =
    let keys = rest_ties (value_order a.partition b.partition) (ordering_then (point_order a.sort b.sort) (nat_cmp a.place b.place)) e in
    let partition = value_exact a.partition b.partition (first_ties (value_order a.partition b.partition) _ e) in
    let sort = point_exact a.sort b.sort (first_ties (point_order a.sort b.sort) (nat_cmp a.place b.place) keys) in
    let place = exact_unsigned a.place b.place (rest_ties (point_order a.sort b.sort) (nat_cmp a.place b.place) keys) in
    λ i. record { place = place i; partition = partition i; sort = sort i }

pub position_exact : CmpEqualImpliesEq position_order
unfolding position_order
position_exact a b e =
    let read = row_exact a.read b.read (first_ties (row_order a.read b.read) (item_order a.item b.item) e) in
    let item = item_exact a.item b.item (rest_ties (row_order a.read b.read) (item_order a.item b.item) e) in
    λ i. record { read = read i; item = item i }
