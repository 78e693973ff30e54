-- The number of a text, as a function of the text.
use Rattle.std.proofs.Common.{◌≡◌, ℕ, ℤ, ◌⊎◌, inl, inr, List, Option, Some, None, Result, refl, sym, ap, ◌∙◌}
use Rattle.std.specs.Prelude.{IsErrOf}
use Rattle.number38.specs.Text.{Numeral, IsTextOf, denoted}
use Rattle.number38.specs.Reading.{Pieces, pieces_at, answer_to}
use Rattle.number38.specs.declared.number.NumberFault.{NumberFault}
use Rattle.number38.specs.declared.number.NumberFault.TheVariants.{Grammar}
use Rattle.number38.proofs.ReadingLaws.{complete, sound, Reads, pieces_of, answer_to-pieces_of}
use Rattle.attr_json.specs.Scalars.{number_in}

none_some : (p : Pieces) → ◌≡◌ {A = Option Pieces} None (Some p) → ⊥
none_some p h = cc

parsed_at : (text : List ℕ) (r : Result ℤ NumberFault) (o : Option Pieces) → pieces_at text ≡ o → ((n : Numeral) → IsTextOf n text → r ≡ denoted n)
    → IsErrOf r Grammar ⊎ ((n : Numeral) × IsTextOf n text) → number_in o ≡ r
parsed_at text r None is value (inl grammar) = sym grammar
parsed_at text r None is value (inr (n, t)) = absurd (none_some (pieces_of n) (sym is ∙ ap pieces_at t.1 ∙ complete n t.0))
parsed_at text r (Some p) is value numeral =
    let read : Reads text p = sound text p is in
    let n = read.numeral in
    ap answer_to read.same ∙ answer_to-pieces_of n ∙ sym (value n read.is_text)

-- what the relation of texts and numerals says is what taking the text apart says
pub parsed : (text : List ℕ) (r : Result ℤ NumberFault) → ((n : Numeral) → IsTextOf n text → r ≡ denoted n)
    → IsErrOf r Grammar ⊎ ((n : Numeral) × IsTextOf n text) → number_in (pieces_at text) ≡ r
parsed text r value numeral = parsed_at text r (pieces_at text) refl value numeral
