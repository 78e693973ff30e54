use Rattle.std.proofs.Common.{◌≡◌, ◌*◌, ◌^◌, ℕ, Bool, unsigned_abs, sym, ap, ◌∙◌, Ok}
use Rattle.std.proofs.Math.Nat.{zero-mul}
use Rattle.number38.specs.Number.{fitted, signed}
use Rattle.number38.specs.NumberLaws.{signed-zero}
use Rattle.number38.specs.Scaled.{magnitude, whole}
use Rattle.number38.proofs.RangeLaws.{fitted-zero, fitted-coefficient_many, fitted-coefficient_few}
use Rattle.number38.proofs.scaled.Scaled.fit.Goals as goal

pub returns-then-self-eq0 : goal.returns-then-self-eq0
returns-then-self-eq0 c =
    let s = c.args.self in
    let nothing : magnitude s ≡ 0 = ap (λ (x : ℕ). x * 10 ^ s.power) c.if-self-eq0.true ∙ zero-mul (10 ^ s.power) in
    let none : whole s ≡ c.zero.result = ap (signed s.negative) nothing ∙ signed-zero s.negative ∙ sym c.zero.ensures in
    ap Ok (sym none) ∙ sym (fitted-zero (whole s) (ap unsigned_abs (none ∙ c.zero.ensures)))

-- to strip zeros keeps the whole number
same : (b d : Bool) (m n : ℕ) → b ≡ d → m ≡ n → signed b m ≡ signed d n
same b d m n e f = cc

pub returns-then-stripped-ge-COEFFICIENT_LIMIT : goal.returns-then-stripped-ge-COEFFICIENT_LIMIT
returns-then-stripped-ge-COEFFICIENT_LIMIT c =
    let s = c.stripped-stripped.result in
    sym (ap fitted (sym (same s.negative c.args.self.negative (magnitude s) (magnitude c.args.self) c.stripped-stripped.ensures.sign c.stripped-stripped.ensures.same))
    ∙ fitted-coefficient_many s.negative s.coefficient s.power c.stripped-stripped.ensures.stripped c.if-stripped-ge-COEFFICIENT_LIMIT.true)

pub returns : goal.returns
returns c =
    let s = c.stripped-stripped.result in
    c.ok_or.ensures.value
    ∙ fitted-coefficient_few s.negative s.coefficient s.power c.in_range.result c.stripped-stripped.ensures.stripped c.if-stripped-ge-COEFFICIENT_LIMIT.false c.in_range.ensures
    ∙ ap fitted (same s.negative c.args.self.negative (magnitude s) (magnitude c.args.self) c.stripped-stripped.ensures.sign c.stripped-stripped.ensures.same)
