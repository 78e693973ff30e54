-- Bytes with what stands behind them, compared by fronts.
use Rattle.std.proofs.Common.{◌≡◌, ◌∙◌, refl, ap, sym, ℕ, Bool, true, false, List, [], ◌∷◌}
use Rattle.std.specs.Prelude.{◌++◌, ◌&&◌, length, take, drop, nat_eq}
use Rattle.std.specs.Cmp.{nat_eq_equiv}
use Rattle.std.specs.Cmp.Lexicographic.{slice_cmp, pointwise, bytes_decides, nat_list_cmp_total}
use Rattle.std.specs.Ordering.{nat_cmp, ordering_then, ordering_reverse}
use Rattle.std.specs.declared.cmp.Ordering.{Ordering}
use Rattle.std.specs.declared.cmp.Ordering.TheVariants.{Less, Equal, Greater}
use Rattle.std.proofs.lemmas.List.{take-append-drop}
use Rattle.std.proofs.lemmas.Map.Lookups.{exact_unsigned}
use Rattle.std.proofs.lemmas.Bool.{true≢false}
use Rattle.number38.proofs.OrderLaws.{nat_cmp-same}
use Rattle.row_keys.specs.Points.{marked}
use Rattle.row_keys.specs.Tails.{tail_of, before_more}
use Rattle.row_keys.specs.declared.point.Tail.{Tail}
use Rattle.row_keys.specs.declared.point.Tail.TheVariants.{At, After, AfterPrefix}

-- the bytes have this front
abbrev pub has_front : List ℕ → List ℕ → Bool
has_front bytes front = pointwise nat_eq (take (length front) bytes) front

-- of bytes and the same bytes with more, what stands behind the one and what is left of the other decides
same_front : (front left s t : List ℕ) → slice_cmp nat_cmp (marked front s) (marked (front ++ left) t) ≡ slice_cmp nat_cmp s (marked left t)
same_front [] left s t = refl
same_front (b ∷ front) left s t =
    ap (λ o. ordering_then o (slice_cmp nat_cmp (marked front s) (marked (front ++ left) t))) (nat_cmp-same b b refl)
    ∙ same_front front left s t

-- the same where a front was found
pub front_decides : (bytes front left s t : List ℕ) → has_front bytes front ≡ true → left ≡ drop (length front) bytes
    → slice_cmp nat_cmp s (marked left t) ≡ slice_cmp nat_cmp (marked front s) (marked bytes t)
front_decides bytes front left s t found is =
    let whole : front ++ left ≡ bytes =
    (λ i. sym ((bytes_decides (take (length front) bytes) front).0 found) i ++ is i) ∙ take-append-drop (length front) bytes in
    sym (same_front front left s t) ∙ ap (λ all. slice_cmp nat_cmp (marked front s) (marked all t)) whole

under : (o p q : Ordering) → (o ≡ Equal → p ≡ q) → ordering_then o p ≡ ordering_then o q
under Less p q f = refl
under Equal p q f = f refl
under Greater p q f = refl

behind : (x y : ℕ) (rest : Bool) → x ≡ y → (nat_eq x y && rest) ≡ false → rest ≡ false
behind x y rest same none =
    let tie : nat_eq x y ≡ true = ap (nat_eq x) (sym same) ∙ nat_eq_equiv.refl x in
    sym (ap (λ b. b && rest) tie) ∙ none

-- where neither is a front of the other, what stands behind them does not count
pub neither_front : (a b s t : List ℕ) → has_front b a ≡ false → has_front a b ≡ false
    → slice_cmp nat_cmp a b ≡ slice_cmp nat_cmp (marked a s) (marked b t)
neither_front [] b s t h g = absurd (true≢false h)
neither_front (x ∷ a) [] s t h g = absurd (true≢false g)
neither_front (x ∷ a) (y ∷ b) s t h g =
    under (nat_cmp x y) (slice_cmp nat_cmp a b) (slice_cmp nat_cmp (marked a s) (marked b t))
    (λ e. let same : x ≡ y = exact_unsigned x y e in
    neither_front a b s t (behind y x (has_front b a) (sym same) h) (behind x y (has_front a b) same g))

-- turned round
pub turned : (a b : List ℕ) → ordering_reverse (slice_cmp nat_cmp a b) ≡ slice_cmp nat_cmp b a
turned a b = sym (nat_list_cmp_total.antisymm b a)

-- bytes that end, against those that go on
pub goes_on : (tail : Tail) (left t : List ℕ) → (left ≡ [] → ⊥) → before_more tail ≡ slice_cmp nat_cmp (tail_of tail) (marked left t)
goes_on tail [] t h = absurd (h refl)
goes_on At (b ∷ left) t h = refl
goes_on After (b ∷ left) t h = refl
goes_on AfterPrefix (b ∷ left) t h = refl
