use Rattle.std.proofs.Common.{rules, ◌≡◌, ◌≤◌, ◌<◌, ℕ, List, Result, Ok, true, arith, refl, length}
use Rattle.std.proofs.lemmas.Grind.{common_steps}
use Rattle.std.proofs.lemmas.Str.Parse.{IsDigitsTest, IsNumeralModel, numerals_by_value, parse_gives, digits_value_short}
use Rattle.std.specs.List.{list_all}
use Rattle.std.specs.Char.{is_ascii_digit}
use Rattle.std.specs.Str.Parse.{digits_value, ParsesUnsigned}
use Rattle.command_words.specs.Settings.{is_number}
use Rattle.command_words.proofs.number.number.Goals as goal

tells : IsDigitsTest (λ ds. list_all is_ascii_digit ds ≡ true)
tells = record {
  empty = refl;
  parts = λ c cs e. grind (arith, common_steps);
  more = λ c cs inside e. grind (arith, common_steps);
}

own : IsNumeralModel (λ ds. list_all is_ascii_digit ds ≡ true) (digits_value 10)
own = numerals_by_value _ tells

parsed : {E : Type 0} (text : List ℕ) (r : Result ℕ E) → is_number text ≡ true → ParsesUnsigned 32 10 text r → r ≡ Ok (digits_value 10 text)
parsed text r is parses =
    let only : list_all is_ascii_digit text ≡ true = grind (arith, common_steps) in
    let some : 0 < length text = grind (arith, common_steps) in
    let few : length text ≤ 7 = grind (arith, common_steps) in
    let short = digits_value_short own text 7 only few in
    parse_gives own 32 text r parses only some (omega (arith, short))

pub returns-then-is_number : goal.returns-then-is_number
returns-then-is_number c =
    let is : is_number c.args.text.now ≡ true = search rules in
    let e = parsed c.args.text.now _ is c.parse.ensures.value.0 in
    search (rules, e)
