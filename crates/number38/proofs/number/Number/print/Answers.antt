use Rattle.std.proofs.Common.{◌≡◌, ◌<◌, ◌++◌, true, string_bytes, encode_utf8, ℕ, List, sym, ap, ◌∙◌, arith}
use Rattle.number38.specs.Scaled.{magnitude}
use Rattle.number38.specs.Printed.{printed, text_with}
use Rattle.number38.specs.DigitLaws.{mul_ten_pow_pos}
use Rattle.number38.proofs.PrintedLaws.{sign_code, printed-signed}
use Rattle.std.proofs.Common.{zero, suc, ◌%◌, ◌<◌, ◌≤◌, ◌^◌, ◌*◌, ◌≢◌, ℤ, subst, ⊎_elim}
use Rattle.std.proofs.Math.Nat.{zero-mul}
use Rattle.std.proofs.lemmas.Bool.{cases_eq}
use Rattle.number38.specs.Digits.{significant_digits}
use Rattle.number38.specs.DigitLaws.{significant_digits-zero, few_digits}
use Rattle.number38.specs.Scaled.{whole}
use Rattle.number38.specs.Text.{Denotes}
use Rattle.number38.proofs.ReadBackLaws.{read_back}
use Rattle.number38.proofs.number.Number.print.Goals as goal
use Rattle.number38.proofs.number.Number.print.Goals.{then-number+in_ok-push, else-number}

few_of : (n p : ℕ) → (0 < n → 0 < n % 10) → n < 10 ^ 38 → significant_digits (n * 10 ^ p) ≤ 38
few_of n p stripped small =
    ⊎_elim
    (λ (e : n ≡ 0). let none : significant_digits (n * 10 ^ p) ≡ 0 = ap significant_digits (ap (λ (x : ℕ). x * 10 ^ p) e ∙ zero-mul (10 ^ p)) ∙ significant_digits-zero in omega arith)
    (λ (ne : n ≢ 0). few_digits n p (stripped (omega arith)) small) (cases_eq n 0)

pos_of : (n p : ℕ) → 0 < n * 10 ^ p → 0 < n
pos_of zero p h = absurd (omega (arith, zero-mul (10 ^ p)))
pos_of (suc n) p h = omega arith

text_is : (c : goal.In_ok-push_magnitude) → string_bytes c.push_magnitude.new.text ≡ printed c.args.self.now
text_is c =
    let s = c.scaled-number.result in
    let some : s.negative ≡ true → 0 < magnitude s = λ e. omega (arith, mul_ten_pow_pos s.coefficient s.power (c.scaled-number.ensures.sign e)) in
    let front : string_bytes c.if-number.text ≡ sign_code s.negative = elim c.if-number.branch [
      | then-number+in_ok-push w ↦
          ap string_bytes w.text-is ∙ w.in_ok-push.ensures.bytes ∙ ap (λ (b : List ℕ). b ++ encode_utf8 45) c.new-text.ensures.bytes
          ∙ w.in_ok-push.ensures.ascii (omega arith) ∙ sym (ap sign_code w.if-number.true)
      | else-number w ↦ ap string_bytes w.text-is ∙ c.new-text.ensures.bytes ∙ sym (ap sign_code w.if-number.false)
    ] in
    c.in_ok-push_magnitude.ensures ∙ ap (λ (b : List ℕ). b ++ text_with 167 (magnitude s)) front
    ∙ sym (ap printed (sym c.scaled-number.ensures.whole) ∙ printed-signed s.negative (magnitude s) some)

pub returns-clause-text : goal.returns-clause-text
returns-clause-text c = text_is c

pub returns-clause-read_back : goal.returns-clause-read_back
returns-clause-read_back c =
    let s = c.scaled-number.result in
    let some : s.negative ≡ true → 0 < magnitude s = λ e. omega (arith, mul_ten_pow_pos s.coefficient s.power (c.scaled-number.ensures.sign e)) in
    let denotes : Denotes (printed (whole s)) (whole s) = read_back s.negative (magnitude s) (few_of s.coefficient s.power c.scaled-number.ensures.stripped c.scaled-number.ensures.digits) (λ p. c.scaled-number.ensures.range (pos_of s.coefficient s.power p)) some in
    subst (λ (text : List ℕ). Denotes text c.args.self.now) (sym (text_is c)) (subst (λ (z : ℤ). Denotes (printed z) z) c.scaled-number.ensures.whole denotes)
