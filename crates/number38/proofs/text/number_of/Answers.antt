use Rattle.std.proofs.Common.{◌≡◌, ◌+◌, ◌*◌, ◌^◌, ◌++◌, ℕ, Bool, cond, Ok, length, sym, ap, ◌∙◌, arith, add-zero}
use Rattle.std.specs.Str.Parse.{digits_value}
use Rattle.std.proofs.Math.Nat.{zero-mul}
use Rattle.number38.specs.Text.{valued}
use Rattle.number38.proofs.TextLaws.{valued-many, valued-zero, bounded-left, bounded-right}
use Rattle.number38.proofs.text.number_of.Goals as goal

pub returns-in-None : goal.returns-in-None
returns-in-None c =
    let p = c.args.parts in
    sym (valued-many p.negative (digits_value 10 (p.whole.now ++ p.decimals.now)) _ _ c.in-None.ensures.none)

pub returns-then-mantissa-eq0 : goal.returns-then-mantissa-eq0
returns-then-mantissa-eq0 c =
    let p = c.args.parts in
    let m = c.in-Some.mantissa in
    let nothing : digits_value 10 (p.whole.now ++ p.decimals.now) ≡ 0 =
    sym c.in-Some.ensures.some ∙ ap (λ (x : ℕ). x * 10 ^ m.zeros) c.if-mantissa-eq0.true ∙ zero-mul (10 ^ m.zeros) in
    ap Ok c.zero.ensures ∙ sym (valued-zero p.negative (digits_value 10 (p.whole.now ++ p.decimals.now)) _ _ nothing)

pub returns-then-parts : goal.returns-then-parts
returns-then-parts c =
    let p = c.args.parts in
    let m = c.in-Some.mantissa in
    let value : ℕ = digits_value 10 (p.whole.now ++ p.decimals.now) in
    let places : ℕ = length p.decimals.now in
    let k : ℕ = digits_value 10 p.exponent.now in
    c.placed.ensures
    ∙ bounded-left p.negative m.coefficient m.zeros places k c.bounded_value-moved.result (m.stripped (omega arith)) m.digits (omega (arith, c.in-Some.ensures.zeros)) (omega arith) c.bounded_value-moved.ensures
    ∙ ap (λ (n : ℕ). valued p.negative n 0 (places + k)) c.in-Some.ensures.some
    ∙ ap (λ (b : Bool). valued p.negative value (cond b 0 k) (places + cond b k 0)) (sym c.if-parts.true)

pub returns-else-parts : goal.returns-else-parts
returns-else-parts c =
    let p = c.args.parts in
    let m = c.in-Some.mantissa in
    let value : ℕ = digits_value 10 (p.whole.now ++ p.decimals.now) in
    let places : ℕ = length p.decimals.now in
    let k : ℕ = digits_value 10 p.exponent.now in
    c.placed-else-parts.ensures
    ∙ bounded-right p.negative m.coefficient m.zeros places k c.bounded_value-moved.result (m.stripped (omega arith)) m.digits (omega (arith, c.in-Some.ensures.zeros)) (omega arith) c.bounded_value-moved.ensures
    ∙ ap (λ (n : ℕ). valued p.negative n k places) c.in-Some.ensures.some
    ∙ ap (valued p.negative value k) (sym (add-zero places))
    ∙ ap (λ (b : Bool). valued p.negative value (cond b 0 k) (places + cond b k 0)) (sym c.if-parts.false)
