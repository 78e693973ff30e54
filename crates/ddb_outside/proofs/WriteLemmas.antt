-- Texts that are written piece by piece.
use Rattle.std.proofs.Common.{◌≡◌, ℕ, ◌+◌, ◌-◌, List, ◌++◌, length, take, drop, sym, ap, ◌∙◌, subst, arith, append_assoc, Option}
use Rattle.std.specs.Io.KnownBytes.{Keeps, Appends}
use Rattle.std.proofs.KnownBytes.{Appends-kept, Appends-trans}
use Rattle.std.proofs.lemmas.List.{take-take, drop-take, take-append-drop, take_rest}
use Rattle.ddb_outside.specs.Writes.{AppendsFront}

-- the front was written, and then nothing
pub AppendsFront-kept : (old mid new : Option (List ℕ)) (at : ℕ) (text : List ℕ) → Appends old mid (take at text)
    → Keeps mid new → AppendsFront old new text
AppendsFront-kept old mid new at text written keeps =
    (take at text, drop at text, sym (take-append-drop at text), Appends-kept old mid new _ written keeps)

-- a front of the first part
pub AppendsFront-first : (old new : Option (List ℕ)) (first second : List ℕ) → AppendsFront old new first
    → AppendsFront old new (first ++ second)
AppendsFront-first old new first second (part, rest, split, written) =
    (part, rest ++ second, ap (λ l. l ++ second) split ∙ append_assoc part rest second, written)

-- the first part, and a front of the second
pub AppendsFront-second : (old mid new : Option (List ℕ)) (first second : List ℕ) → Appends old mid first
    → AppendsFront mid new second → AppendsFront old new (first ++ second)
AppendsFront-second old mid new first second whole (part, rest, split, written) =
    (first ++ part, rest, ap (λ l. first ++ l) split ∙ sym (append_assoc first part rest), Appends-trans old mid new first part whole written)

-- one more piece of the text
pub Appends-piece : (old mid new : Option (List ℕ)) (text : List ℕ) (at count : ℕ) → Appends old mid (take at text)
    → Appends mid new (take count (take (length text - at) (drop at text))) → Appends old new (take (at + count) text)
Appends-piece old mid new text at count first second =
    let piece : take count (take (length text - at) (drop at text)) ≡ drop at (take (at + count) text) =
    ap (take count) (take_rest text at) ∙ sym (drop-take at count text) in
    let whole : take at text ++ take count (take (length text - at) (drop at text)) ≡ take (at + count) text =
    ap (λ l. take at text ++ l) piece ∙ ap (λ l. l ++ drop at (take (at + count) text)) (sym (take-take at (at + count) text (omega arith)))
    ∙ take-append-drop at (take (at + count) text) in
    subst (Appends old new) whole (Appends-trans old mid new _ _ first second)
