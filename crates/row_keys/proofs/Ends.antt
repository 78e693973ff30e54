-- What points between values end.
use Rattle.std.proofs.Common.{◌≡◌, ◌∙◌, refl, ap, sym, ℕ, Bool, true, false, List, [], ◌∷◌}
use Rattle.std.specs.Prelude.{◌&&◌, ◌||◌, ◌==◌}
use Rattle.std.specs.List.{starts_with}
use Rattle.std.specs.Cmp.Lexicographic.{slice_cmp}
use Rattle.std.specs.Ordering.{nat_cmp, int_cmp, ordering_then, is_lt, is_le}
use Rattle.std.specs.declared.cmp.Ordering.{Ordering}
use Rattle.std.specs.declared.cmp.Ordering.TheVariants.{Less, Equal, Greater}
use Rattle.std.proofs.lemmas.Map.Lookups.{exact_unsigned}
use Rattle.std.proofs.lemmas.Bool.{eqb-true, eq-eqb}
use Rattle.number38.proofs.OrderLaws.{nat_cmp-same}
use Rattle.item_keys.specs.declared.value.KeyValue.TheVariants.{S, N, B}
use Rattle.item_keys.specs.Order.{value_order}
use Rattle.row_keys.specs.Points.{marked, point_order}
use Rattle.row_keys.specs.PointEnds.{StandAsValues, EndBehindValues, EndBehindPrefixes, EndBehindFronts}

-- bytes that end alike are compared as they are
alike : (a b : List ℕ) → slice_cmp nat_cmp (marked a []) (marked b []) ≡ slice_cmp nat_cmp a b
alike [] [] = refl
alike [] (y ∷ b) = refl
alike (x ∷ a) [] = refl
alike (x ∷ a) (y ∷ b) = ap (ordering_then (nat_cmp x y)) (alike a b)

then_none : (o : Ordering) → ordering_then o Equal ≡ o
then_none Less = refl
then_none Equal = refl
then_none Greater = refl

pub stand_as_values : StandAsValues
unfolding point_order value_order
stand_as_values (S a) (S b) = alike a b
stand_as_values (N a) (N b) = then_none (int_cmp a b)
stand_as_values (B a) (B b) = alike a b
stand_as_values (S a) (N b) = refl
stand_as_values (S a) (B b) = refl
stand_as_values (N a) (S b) = refl
stand_as_values (N a) (B b) = refl
stand_as_values (B a) (S b) = refl
stand_as_values (B a) (N b) = refl

below_or_at : (o p q : Ordering) → is_lt p ≡ is_le q → is_lt (ordering_then o p) ≡ is_le (ordering_then o q)
below_or_at Less p q e = refl
below_or_at Equal p q e = e
below_or_at Greater p q e = refl

up_to : (a b : List ℕ) → is_lt (slice_cmp nat_cmp (marked a []) (marked b (0 ∷ []))) ≡ is_le (slice_cmp nat_cmp a b)
up_to [] [] = refl
up_to [] (y ∷ b) = refl
up_to (x ∷ a) [] = refl
up_to (x ∷ a) (y ∷ b) =
    below_or_at (nat_cmp x y) (slice_cmp nat_cmp (marked a []) (marked b (0 ∷ []))) (slice_cmp nat_cmp a b) (up_to a b)

up_to_number : (o : Ordering) → is_lt (ordering_then o Less) ≡ is_le o
up_to_number Less = refl
up_to_number Equal = refl
up_to_number Greater = refl

pub end_behind_values : EndBehindValues
unfolding point_order value_order
end_behind_values (S a) (S b) = up_to a b
end_behind_values (N a) (N b) = up_to_number (int_cmp a b)
end_behind_values (B a) (B b) = up_to a b
end_behind_values (S a) (N b) = refl
end_behind_values (S a) (B b) = refl
end_behind_values (N a) (S b) = refl
end_behind_values (N a) (B b) = refl
end_behind_values (B a) (S b) = refl
end_behind_values (B a) (N b) = refl

-- two numbers are compared, and then what follows
either : (x y : ℕ) (o p q : Ordering) (rest : Bool) → o ≡ nat_cmp x y → is_lt p ≡ (is_lt q || rest)
    → is_lt (ordering_then o p) ≡ (is_lt (ordering_then o q) || ((y == x) && rest))
either x y Less p q rest is e = refl
either x y Equal p q rest is e =
    e ∙ ap (λ b. is_lt q || (b && rest)) (sym (eq-eqb y x (sym (exact_unsigned x y (sym is)))))
either x y Greater p q rest is e = differ (y == x) refl
  where
    differ : (b : Bool) → (y == x) ≡ b → false ≡ (b && rest)
    differ false same = refl
    differ true same = let tie : Greater ≡ Equal = is ∙ nat_cmp-same x y (sym (eqb-true y x same)) in absurd (cc)

before_prefix : (a front : List ℕ)
    → is_lt (slice_cmp nat_cmp (marked a []) (marked front (2 ∷ []))) ≡ (is_lt (slice_cmp nat_cmp a front) || starts_with ◌==◌ a front)
before_prefix [] [] = refl
before_prefix [] (y ∷ front) = refl
before_prefix (x ∷ a) [] = refl
before_prefix (x ∷ a) (y ∷ front) =
    either x y (nat_cmp x y) (slice_cmp nat_cmp (marked a []) (marked front (2 ∷ []))) (slice_cmp nat_cmp a front)
    (starts_with ◌==◌ a front) refl (before_prefix a front)

pub end_behind_prefixes : EndBehindPrefixes
unfolding point_order
end_behind_prefixes text front = before_prefix text front

pub end_behind_fronts : EndBehindFronts
unfolding point_order
end_behind_fronts bytes front = before_prefix bytes front
