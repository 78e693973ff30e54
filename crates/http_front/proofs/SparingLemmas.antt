-- What is taken from a source, piece by piece.
use Rattle.std.proofs.Common.{◌≡◌, ℕ, ◌≤◌, List, [], ◌++◌, length, Option, refl, sym, ap, ◌∙◌, subst, append_assoc, append-nil, inl, inr}
use Rattle.std.specs.Io.KnownBytes.{Consumes}
use Rattle.std.proofs.KnownBytes.{Consumes-trans}
use Rattle.http_front.specs.Messages.{IsPartial, max_piece, IsSparing, TakesSparingly, LosesPiece}

-- one piece more, where what was taken before decides nothing yet
pub sparing_piece : (held taken now piece : List ℕ) → now ≡ held ++ taken → IsPartial now → length piece ≤ max_piece
    → IsSparing held (taken ++ piece)
sparing_piece held taken now piece is partial fits = inr (taken, piece, refl, fits, subst IsPartial is partial)

-- what was taken so far, which decides nothing yet, and one piece more
pub piece_taken : (a b c : Option (List ℕ)) (held taken now : List ℕ) (P : List ℕ → Type 0) → Consumes a b taken → now ≡ held ++ taken
    → IsPartial now → LosesPiece b c P → TakesSparingly a c held
piece_taken a b c held taken now P known is partial (piece, more, fits, holds) =
    (taken ++ piece, Consumes-trans a b c taken piece known more, sparing_piece held taken now piece is partial fits)

-- what was taken so far, and what was taken behind it
pub sparing_on : (held taken now more : List ℕ) → now ≡ held ++ taken → IsSparing held taken → IsSparing now more → IsSparing held (taken ++ more)
sparing_on held taken now more is sparing (inl none) =
    subst (IsSparing held) (sym (ap (λ l. taken ++ l) none ∙ append-nil taken)) sparing
sparing_on held taken now more is sparing (inr (earlier, last, split, fits, partial)) =
    inr (
      taken ++ earlier,
      last,
      ap (λ l. taken ++ l) split ∙ sym (append_assoc taken earlier last),
      fits,
      subst IsPartial (ap (λ l. l ++ earlier) is ∙ append_assoc held taken earlier) partial,
    )

pub taken_on : (a b c : Option (List ℕ)) (held taken now : List ℕ) → Consumes a b taken → now ≡ held ++ taken → IsSparing held taken
    → TakesSparingly b c now → TakesSparingly a c held
taken_on a b c held taken now known is sparing (more, known_more, sparing_more) =
    (taken ++ more, Consumes-trans a b c taken more known known_more, sparing_on held taken now more is sparing sparing_more)
