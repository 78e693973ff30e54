use Rattle.std.proofs.Common.{rules, ◌≡◌, ℕ, List, [], ◌∷◌, true, arith, refl, ap, ◌∙◌, ◌&&◌, suc}
use Rattle.std.proofs.lemmas.Str.Parse.{IsNumeralModel, numerals_by_value, parse_gives, digits_value_short}
use Rattle.std.specs.List.{AllPass}
use Rattle.std.specs.Char.{is_ascii_digit}
use Rattle.std.specs.Str.{all_ascii_digits}
use Rattle.std.specs.Str.Parse.{digits_value}
use Rattle.expr_words.proofs.meaning.number.Goals as goal

own : IsNumeralModel (λ ds. all_ascii_digits ds ≡ true) (digits_value 10)
own = numerals_by_value _ (search rules)

digits_only : (ds : List ℕ) → AllPass is_ascii_digit ds → all_ascii_digits ds ≡ true
digits_only [] pass = refl
digits_only (c ∷ cs) pass =
    ap (λ b. b && all_ascii_digits cs) (pass 0 c (omega arith)) ∙ digits_only cs (λ k d below. pass (suc k) d (omega (arith, below)))

pub returns : goal.returns
returns c =
    let only = digits_only c.args.digits.now c.requires.digits in
    let short = digits_value_short own c.args.digits.now 9 only c.requires.few in
    let e = parse_gives own 32 c.args.digits.now _ c.parse.ensures.value.0 only c.requires.some (omega (arith, short)) in
    search (rules, e)
