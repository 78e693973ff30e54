-- A text has one reading.
use Rattle.std.proofs.Common.{◌≡◌, ℕ, ◌+◌, List, ◌∷◌, drop, Some, Result, refl, subst}
use Rattle.expr_lexer.specs.declared.lexer.Lexeme.{Lexeme}
use Rattle.expr_lexer.specs.declared.token.Token.{Token}
use Rattle.expr_lexer.specs.Lexeme.{front_lexeme}
use Rattle.expr_lexer.specs.Lexes.{with_front, token_at, Lexes}
use Rattle.expr_lexer.specs.Lexes.Lexes.{ends, blank, token, no_token, long_index}

same_token : (place byte : ℕ) (rest : List ℕ) (found other : Lexeme) (reading : Result (List Token) ℕ)
    → front_lexeme (byte ∷ rest) ≡ Some found → front_lexeme (byte ∷ rest) ≡ Some other
    → Lexes (place + other.size) (drop other.size (byte ∷ rest)) reading → Lexes (place + found.size) (drop found.size (byte ∷ rest)) reading
same_token place byte rest found other reading f g reads =
    let e : other ≡ found = cc in subst (λ x. Lexes (place + x.size) (drop x.size (byte ∷ rest)) reading) e reads

one_front : (place byte : ℕ) (rest : List ℕ) (found other : Lexeme) (reading another : Result (List Token) ℕ)
    → front_lexeme (byte ∷ rest) ≡ Some found → front_lexeme (byte ∷ rest) ≡ Some other → reading ≡ another
    → with_front (token_at place found) reading ≡ with_front (token_at place other) another
one_front place byte rest found other reading another f g e = let h : found ≡ other = cc in cc

pub one_reading : {place : ℕ} {bytes : List ℕ} {reading another : Result (List Token) ℕ}
    → Lexes place bytes reading → Lexes place bytes another → reading ≡ another
one_reading ends ends = refl
one_reading (blank b l) (blank c m) = one_reading l m
one_reading (blank b l) (token c f s m) = absurd (cc)
one_reading (blank b l) (no_token c f) = absurd (cc)
one_reading (blank b l) (long_index c f s) = absurd (cc)
one_reading (token c f s m) (blank b l) = absurd (cc)
one_reading {place = place} (token {byte = byte} {rest = rest} {found = found} {reading = reading} c f s l) (token {found = other} {reading = another} d g t m) =
    one_front place byte rest found other reading another f g (one_reading l (same_token place byte rest found other another f g m))
one_reading (token c f s l) (no_token d g) = absurd (cc)
one_reading (token {found = found} c f s l) (long_index {found = other} d g t) = let e : found ≡ other = cc in absurd (cc)
one_reading (no_token c f) (blank b l) = absurd (cc)
one_reading (no_token c f) (token d g s l) = absurd (cc)
one_reading (no_token c f) (no_token d g) = refl
one_reading (no_token c f) (long_index d g s) = absurd (cc)
one_reading (long_index c f s) (blank b l) = absurd (cc)
one_reading (long_index {found = found} c f s) (token {found = other} d g t l) = let e : found ≡ other = cc in absurd (cc)
one_reading (long_index c f s) (no_token d g) = absurd (cc)
one_reading (long_index c f s) (long_index d g t) = refl
