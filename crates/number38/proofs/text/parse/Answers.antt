use Rattle.std.proofs.Common.{◌≡◌, inr, List, ℕ, Option, Some, None, sym, ap, ◌∙◌, subst, arith}
use Rattle.number38.specs.Text.{IsTextOf}
use Rattle.number38.specs.Reading.{Pieces, pieces, pieces_at, answer_to}
use Rattle.number38.proofs.ReadingLaws.{has_digits, pieces_length, complete, sound, Reads, pieces_of, answer_to-pieces_of}
use Rattle.number38.proofs.text.parse.Goals as goal

some_same : (p q : Pieces) → Some p ≡ Some q → p ≡ q
some_same p q h = cc

none_some : (p : Pieces) → ◌≡◌ {A = Option Pieces} None (Some p) → ⊥
none_some p h = cc

pub number_of-requires-clause-digits : goal.number_of-requires-clause-digits
number_of-requires-clause-digits c =
    has_digits c.as_bytes.result.now (pieces c.in-Some.parts) (sym c.in-Some.ensures)

pub number_of-requires-clause-room : goal.number_of-requires-clause-room
number_of-requires-clause-room c =
    omega (arith, pieces_length c.as_bytes.result.now (pieces c.in-Some.parts) (sym c.in-Some.ensures), c.as_bytes.ensures.len)

pub returns-in-Some-clause-value : goal.returns-in-Some-clause-value
returns-in-Some-clause-value c = λ n t.
    let at : pieces_at c.as_bytes.result.now ≡ Some (pieces_of n) = ap pieces_at (c.as_bytes.ensures.value ∙ t.1) ∙ complete n t.0 in
    let same : pieces c.in-Some.parts ≡ pieces_of n = some_same _ _ (c.in-Some.ensures ∙ at) in
    c.number_of.ensures ∙ ap answer_to same ∙ answer_to-pieces_of n

pub returns-in-Some-clause-numeral : goal.returns-in-Some-clause-numeral
returns-in-Some-clause-numeral c =
    let r : Reads c.as_bytes.result.now (pieces c.in-Some.parts) = sound c.as_bytes.result.now (pieces c.in-Some.parts) (sym c.in-Some.ensures) in
    inr (r.numeral, subst (λ (text : List ℕ). IsTextOf r.numeral text) c.as_bytes.ensures.value r.is_text)

pub returns-in-None-clause-value : goal.returns-in-None-clause-value
returns-in-None-clause-value c = λ n t.
    let at : pieces_at c.as_bytes.result.now ≡ Some (pieces_of n) = ap pieces_at (c.as_bytes.ensures.value ∙ t.1) ∙ complete n t.0 in
    absurd (none_some _ (c.in-None.ensures ∙ at))
