use Rattle.std.proofs.Common.{◌≡◌, ◌*◌, ◌^◌, ◌<◌, ◌≤◌, ◌++◌, ℕ, List, sym, ap, ◌∙◌, subst, arith, IfSome, IfNone}
use Rattle.std.proofs.Math.Nat.{zero-mul}
use Rattle.std.specs.Str.Parse.{digits_value, digits_value_after}
use Rattle.number38.specs.declared.mantissa.Mantissa.{Mantissa}
use Rattle.number38.specs.Digits.{significant_digits}
use Rattle.number38.proofs.MantissaLaws.{digits_value_after-append, significant_more, if_none}
use Rattle.number38.proofs.text.mantissa_of.Goals as goal

-- no digits have the value 0
from_nothing : (c z : ℕ) (xs : List ℕ) → c ≡ 0 → digits_value_after 10 (c * 10 ^ z) xs ≡ digits_value 10 xs
from_nothing c z xs e = ap (λ (n : ℕ). digits_value_after 10 n xs) (ap (λ (x : ℕ). x * 10 ^ z) e ∙ zero-mul (10 ^ z))

pub returns-in_err-with_digits-clause-none : goal.returns-in_err-with_digits-clause-none
returns-in_err-with_digits-clause-none c =
    let start = c.nothing.result in
    let whole = c.args.whole.now in
    let decimals = c.args.decimals.now in
    let many : 38 < significant_digits (digits_value 10 whole) =
    subst (λ (n : ℕ). 38 < significant_digits n) (from_nothing start.coefficient start.zeros whole c.nothing.ensures.coefficient) c.in_err-with_digits.ensures.none in
    let more : significant_digits (digits_value 10 whole) ≤ significant_digits (digits_value_after 10 (digits_value 10 whole) decimals) = significant_more (digits_value 10 whole) decimals c.requires.decimals in
    let joined : significant_digits (digits_value 10 (whole ++ decimals)) ≡ significant_digits (digits_value_after 10 (digits_value 10 whole) decimals) =
    ap significant_digits (digits_value_after-append 0 whole decimals) in
    if_none c.from_residual.result (omega arith)

-- the value of both runs
total : (m start : Mantissa) (whole decimals : List ℕ) → start.coefficient ≡ 0 → m.coefficient * 10 ^ m.zeros ≡ digits_value_after 10 (start.coefficient * 10 ^ start.zeros) whole
    → digits_value_after 10 (m.coefficient * 10 ^ m.zeros) decimals ≡ digits_value 10 (whole ++ decimals)
total m start whole decimals e h =
    ap (λ (n : ℕ). digits_value_after 10 n decimals) (h ∙ from_nothing start.coefficient start.zeros whole e) ∙ sym (digits_value_after-append 0 whole decimals)

pub returns-clause-some : goal.returns-clause-some
returns-clause-some c =
    subst (λ (x : ℕ). IfSome c.with_digits-2.result (λ (m : Mantissa). m.coefficient * 10 ^ m.zeros ≡ x))
    (total c.in_ok-with_digits.field-0 c.nothing.result c.args.whole.now c.args.decimals.now c.nothing.ensures.coefficient c.in_ok-with_digits.ensures.some) c.with_digits-2.ensures.some

pub returns-clause-none : goal.returns-clause-none
returns-clause-none c =
    subst (λ (x : ℕ). IfNone c.with_digits-2.result (38 < significant_digits x))
    (total c.in_ok-with_digits.field-0 c.nothing.result c.args.whole.now c.args.decimals.now c.nothing.ensures.coefficient c.in_ok-with_digits.ensures.some) c.with_digits-2.ensures.none
