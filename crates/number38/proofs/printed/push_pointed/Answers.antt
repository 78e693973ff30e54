use Rattle.std.proofs.Common.{◌≡◌, ◌^◌, ◌<◌, ◌≤◌, ◌/◌, ◌%◌, ◌++◌, ◌∷◌, string_bytes, ℕ, List, sym, ap, ◌∙◌, subst, arith}
use Rattle.std.proofs.Math.Nat.{div-le_self}
use Rattle.std.proofs.lemmas.Nat.{mod_below}
use Rattle.number38.specs.Printed.{whole_text, padded_text}
use Rattle.number38.specs.DigitLaws.{ten_pow_pos, pos_from_last}
use Rattle.number38.proofs.PrintedLaws.{last_of_place, pointed_whole}
use Rattle.number38.proofs.RangeLaws.{log_below}
use Rattle.std.proofs.lemmas.Result.{on_ok_weaker}
use Rattle.number38.proofs.printed.push_pointed.Goals as goal

some_fraction : (c k f : ℕ) → 0 < k → 0 < c % 10 → f ≡ c % 10 ^ k → 0 < f
some_fraction c k f p h e =
    pos_from_last f (subst (λ (x : ℕ). 0 < x) (sym (ap (λ (x : ℕ). x % 10) e ∙ last_of_place c k p)) h)

inside : (c k f : ℕ) → f ≡ c % 10 ^ k → f < 10 ^ k
inside c k f e = omega (arith, mod_below c (10 ^ k) (ten_pow_pos k))

pub ilog10-requires : goal.ilog10-requires
ilog10-requires c = some_fraction c.args.coefficient c.args.places c.split-whole.result.1 c.requires.places c.requires.stripped c.split-whole.ensures.fraction

pub overflow_sub-places : goal.overflow_sub-places
overflow_sub-places c =
    log_below c.split-whole.result.1 c.ilog10.result c.args.places c.ilog10.ensures.power_le (inside c.args.coefficient c.args.places c.split-whole.result.1 c.split-whole.ensures.fraction)

pub returns : goal.returns
returns c =
    let n = c.args.coefficient in
    let k = c.args.places in
    let w = c.split-whole.result.0 in
    let f = c.split-whole.result.1 in
    let l = c.ilog10.result in
    let whole_le : n / 10 ^ k ≤ n = div-le_self n (10 ^ k) in
    let rest_lt : n % 10 ^ k < 10 ^ k = mod_below n (10 ^ k) (ten_pow_pos k) in
    let small_w : w < 10 ^ 64 = omega (arith, c.split-whole.ensures.whole) in
    let small_f : f < 10 ^ 64 = omega (arith, c.split-whole.ensures.fraction) in
    on_ok_weaker c.push_decimal-2.result
    (λ e4. pointed_whole (string_bytes c.args.text.now) (string_bytes c.push_decimal.new.text) (string_bytes c.push.new.self) (string_bytes c.push_zeros.new.text) (string_bytes c.push_decimal-2.new.text) w f k l
    c.in_ok-push_decimal.ensures (c.in_ok-push.ensures.bytes ∙ ap (λ (e : List ℕ). string_bytes c.push_decimal.new.text ++ e) (c.in_ok-push.ensures.ascii (omega arith))) c.in_ok-push_zeros.ensures e4
    small_w small_f (some_fraction n k f c.requires.places c.requires.stripped c.split-whole.ensures.fraction) (inside n k f c.split-whole.ensures.fraction) c.ilog10.ensures.power_le c.ilog10.ensures.next_power_gt
    ∙ ap (λ (x : ℕ). string_bytes c.args.text.now ++ (whole_text x ++ 46 ∷ padded_text k f)) c.split-whole.ensures.whole
    ∙ ap (λ (x : ℕ). string_bytes c.args.text.now ++ (whole_text (n / 10 ^ k) ++ 46 ∷ padded_text k x)) c.split-whole.ensures.fraction)
    c.push_decimal-2.ensures
