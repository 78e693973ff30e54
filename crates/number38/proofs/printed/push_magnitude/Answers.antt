use Rattle.std.proofs.Common.{◌≡◌, ◌≢◌, ◌%◌, ◌<◌, ◌++◌, ◌-◌, string_bytes, decimal, replicate, ℕ, List, sym, ap, ◌∙◌, arith, append_assoc}
use Rattle.number38.proofs.PrintedLaws.{pointed_text, zeros_text}
use Rattle.std.proofs.lemmas.Result.{on_ok_weaker}
use Rattle.number38.proofs.printed.push_magnitude.Goals as goal

pub returns-then-power-lt167 : goal.returns-then-power-lt167
returns-then-power-lt167 c =
    let n = c.args.coefficient in
    let p = c.args.power in
    let ne : n ≢ 0 = λ e. let z = c.requires.zero e in omega arith in
    let last : 0 < n % 10 = c.requires.stripped (omega arith) in
    on_ok_weaker c.push_pointed.result
    (λ e. e ∙ ap (λ (xs : List ℕ). string_bytes c.args.text.now ++ xs) (sym (pointed_text 167 p (167 - p) n (omega arith) (omega arith) last)))
    c.push_pointed.ensures

pub returns : goal.returns
returns c =
    let n = c.args.coefficient in
    let p = c.args.power in
    let none : n ≡ 0 → p - 167 ≡ 0 = λ e. let z = c.requires.zero e in omega arith in
    on_ok_weaker c.push_zeros.result
    (λ e. e ∙ ap (λ (b : List ℕ). b ++ replicate (p - 167) 48) c.in_ok-push_decimal.ensures ∙ append_assoc (string_bytes c.args.text.now) (decimal n) (replicate (p - 167) 48)
    ∙ ap (λ (xs : List ℕ). string_bytes c.args.text.now ++ xs) (sym (zeros_text 167 p (p - 167) n (omega arith) (omega (arith, c.requires.digits)) none)))
    c.push_zeros.ensures
