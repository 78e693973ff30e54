use Rattle.std.proofs.Common.{◌≡◌, ℤ, pos, neg_ℤ, ◌≤ℤ◌, Bool, true, false, sym, refl, ap, ◌∙◌, arith, nat_eq}
use Rattle.std.specs.Ordering.{int_eq, int_cmp, is_eq}
use Rattle.std.specs.Int.{w16}
use mir.Val.{of_z}
use mathlib.Core.Bool.{beq}
use Rattle.std.proofs.lemmas.Int.{ints}
use Rattle.std.proofs.lemmas.Bool.{eqb-true, eqb-false}
use Rattle.std.proofs.lemmas.Cmp.{tied_itself, int_cmp_total}
use Rattle.number38.specs.declared.number.Number.TheInside.{Inside}
use Rattle.number38.specs.Number.{whole_of, IsCanonical, canonical}
use Rattle.number38.specs.NumberLaws.{canonical-whole, same_from_int_eq}
use Rattle.number38.proofs.number.NumberPartialEq.eq.Goals as goal
use Rattle.number38.proofs.number.NumberPartialEq.eq.Goals.{then-self-other, else-self-other}

record SameFields (a b : Inside) : Type 0 where
  sign : a.negative ≡ b.negative
  coefficient : a.coefficient ≡ b.coefficient
  exponent : a.exponent ≡ b.exponent

same_from_fields : (a b : Inside) → SameFields a b → whole_of a ≡ whole_of b
same_from_fields a b h =
    let s = h.sign in
    let n = h.coefficient in
    let e = h.exponent in
    cc

-- equal whole numbers have the same fields
same_inside : (a b : Inside) → IsCanonical a → IsCanonical b → whole_of a ≡ whole_of b → a ≡ b
same_inside a b ha hb e = sym (canonical-whole a ha) ∙ ap canonical e ∙ canonical-whole b hb

int_eq-same : (y z : ℤ) → y ≡ z → true ≡ int_eq y z
int_eq-same y z e = sym (ap is_eq (ap (int_cmp y) (sym e) ∙ tied_itself int_cmp_total y))

not_same : (y z : ℤ) (t : Bool) → t ≡ int_eq y z → (y ≡ z → ⊥) → false ≡ int_eq y z
not_same y z true h ne = absurd (ne (same_from_int_eq y z (sym h)))
not_same y z false h ne = h

eq_answer : (a b : Inside) (y z : ℤ) → IsCanonical a → IsCanonical b → whole_of a ≡ y → whole_of b ≡ z → (r : Bool) → (r ≡ true → SameFields a b) → (r ≡ false → a ≡ b → ⊥) → r ≡ int_eq y z
eq_answer a b y z ha hb ea eb true agree differ = int_eq-same y z (sym ea ∙ same_from_fields a b (agree refl) ∙ eb)
eq_answer a b y z ha hb ea eb false agree differ =
    not_same y z (int_eq y z) refl (λ (e : y ≡ z). differ refl (same_inside a b ha hb (ea ∙ e ∙ sym eb)))

beq_true : (x y : Bool) → beq x y ≡ true → x ≡ y
beq_true true true h = refl
beq_true true false h = cc
beq_true false true h = cc
beq_true false false h = refl

beq_same : (x y : Bool) → x ≡ y → beq x y ≡ true
beq_same true true h = refl
beq_same true false h = cc
beq_same false true h = cc
beq_same false false h = refl

exponents : (d e : ℤ) → neg_ℤ (pos 167) ≤ℤ d → d ≤ℤ pos 125 → neg_ℤ (pos 167) ≤ℤ e → e ≤ℤ pos 125 → of_z w16 d ≡ of_z w16 e → d ≡ e
exponents d e h1 h2 h3 h4 h = omega (arith, ints)

pub returns-then-word : goal.returns-then-word
returns-then-word c =
    let a = c.self.inside in
    let b = c.other.inside in
    elim c.if-self-other.branch [
      | then-self-other w ↦ eq_answer a b _ _ c.self.invariant c.other.invariant c.self.view_is c.other.view_is (nat_eq (of_z w16 a.exponent) (of_z w16 b.exponent))
          (λ h. record {
            sign = beq_true a.negative b.negative w.if-self-other.true;
            coefficient = sym w.word.ensures ∙ eqb-true w.word.result w.word-then-self-other.result (sym w.value-is ∙ c.if-word.true) ∙ w.word-then-self-other.ensures;
            exponent = exponents a.exponent b.exponent c.self.invariant.low c.self.invariant.high c.other.invariant.low c.other.invariant.high (eqb-true _ _ h);
          })
          (λ h e. eqb-false _ _ h (ap (λ (x : Inside). of_z w16 x.exponent) e))
      | else-self-other w ↦ let g : c.if-self-other.value ≡ false = w.value-is ∙ w.if-self-other.false in let k : c.if-self-other.value ≡ true = c.if-word.true in cc
    ]

pub returns-else-word : goal.returns-else-word
returns-else-word c =
    let a = c.self.inside in
    let b = c.other.inside in
    eq_answer a b _ _ c.self.invariant c.other.invariant c.self.view_is c.other.view_is c.if-self-other.value
    (λ h. let k : c.if-self-other.value ≡ false = c.if-word.false in cc)
    (λ h e. elim c.if-self-other.branch [
      | then-self-other w ↦ eqb-false w.word.result w.word-then-self-other.result (sym w.value-is ∙ c.if-word.false) (w.word.ensures ∙ ap (λ (x : Inside). x.coefficient) e ∙ sym w.word-then-self-other.ensures)
      | else-self-other w ↦ let t : beq a.negative b.negative ≡ true = beq_same a.negative b.negative (ap (λ (x : Inside). x.negative) e) in let f : beq a.negative b.negative ≡ false = w.if-self-other.false in cc
    ])
