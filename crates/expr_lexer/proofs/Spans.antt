-- Tokens of a text follow one another, and each can be cut out.
use Rattle.std.proofs.Common.{◌≡◌, ℕ, ◌+◌, ◌-◌, ◌<◌, ◌≤◌, List, [], ◌∷◌, ◌++◌, append-nil, length, get_or, drop, Some, Result, Ok, Err, refl, ◌∙◌, ap, subst, arith}
use Rattle.std.specs.Prelude.{IfSome, IfOk, All}
use Rattle.std.specs.Str.{IsUtf8, IsCharBoundary}
use Rattle.std.proofs.lemmas.Str.{IsCharBoundary-before_ascii, IsCharBoundary-after_ascii}
use Rattle.std.proofs.lemmas.List.{length-drop, get_or-drop, drop-drop}
use Rattle.std.proofs.lemmas.List.Elements.{All-nil, All-cons}
use Rattle.expr_lexer.specs.declared.lexer.Lexeme.{Lexeme}
use Rattle.expr_lexer.specs.declared.token.Token.{Token}
use Rattle.expr_lexer.specs.Lexeme.{front_lexeme}
use Rattle.expr_lexer.specs.Lexes.{with_front, token_at, Lexes}
use Rattle.expr_lexer.specs.Lexes.Lexes.{ends, blank, token, no_token, long_index}
use Rattle.expr_lexer.specs.Spans.{IsPart, Follow}
use Rattle.expr_lexer.proofs.Fits.{Fits, front_fits}

fits : (bytes : List ℕ) (found : Lexeme) → front_lexeme bytes ≡ Some found → Fits bytes found
fits bytes found e = subst (λ x. IfSome x (Fits bytes)) e (front_fits bytes)

byte_at : (text : List ℕ) (place k there : ℕ) → place + k ≡ there → get_or (drop place text) k 0 < 128 → get_or text there 0 < 128
byte_at text place k there e low = subst (λ n. get_or text n 0 < 128) e (rw get_or-drop at low)

add_back : (n : ℕ) → 0 < n → n - 1 + 1 ≡ n
add_back n h = omega arith

pub further : (text bytes : List ℕ) (place size : ℕ) → bytes ≡ drop place text → drop size bytes ≡ drop (place + size) text
further text bytes place size e = ap (drop size) e ∙ drop-drop size place text

part : (text : List ℕ) (place : ℕ) (found : Lexeme) → IsUtf8 text → place ≤ length text → Fits (drop place text) found → IsPart text (token_at place found)
part text place found utf8 h f =
    let within : place + found.size ≤ length text = let w = f.within in let some = f.some in omega (arith, length-drop {A = ℕ}) in
    let first : get_or text place 0 < 128 = byte_at text place 0 place (omega arith) (f.ascii 0 f.some) in
    let some = f.some in
    let last : get_or text (place + found.size - 1) 0 < 128 = byte_at text place (found.size - 1) (place + found.size - 1) (omega arith) (f.ascii (found.size - 1) (omega arith)) in
    record {
      some = omega (arith, f.some);
      within = within;
      begins = IsCharBoundary-before_ascii text place (omega (arith, f.some)) first;
      ends = subst (IsCharBoundary text) (add_back (place + found.size) (omega arith)) (IsCharBoundary-after_ascii text (place + found.size - 1) utf8 (omega arith) last);
    }

earlier : (place later : ℕ) (text : List ℕ) (tokens : List Token) → place ≤ later → Follow later text tokens → Follow place text tokens
earlier place later text [] h f = tt
earlier place later text (next ∷ tokens) h (from, is_part, follow) = (omega arith, is_part, follow)

joined : (place : ℕ) (text : List ℕ) (found : Lexeme) (reading : Result (List Token) ℕ) → IsPart text (token_at place found)
    → IfOk reading (Follow (place + found.size) text) → IfOk (with_front (token_at place found) reading) (Follow place text)
joined place text found (Ok tokens) is_part follow = (omega arith, is_part, follow)
joined place text found (Err fault) is_part follow = tt

mapped : (place later : ℕ) (text : List ℕ) (reading : Result (List Token) ℕ) → place ≤ later → IfOk reading (Follow later text) → IfOk reading (Follow place text)
mapped place later text (Ok tokens) h follow = earlier place later text tokens h follow
mapped place later text (Err fault) h follow = tt

pub follow : {place : ℕ} {bytes : List ℕ} {reading : Result (List Token) ℕ} → (text : List ℕ) → IsUtf8 text → bytes ≡ drop place text → place + length bytes ≡ length text
    → Lexes place bytes reading → IfOk reading (Follow place text)
follow text utf8 e n ends = tt
follow {place = place} text utf8 e n (blank {byte = byte} {rest = rest} {reading = reading} b l) =
    mapped place (place + 1) text reading (omega arith) (follow text utf8 (further text (byte ∷ rest) place 1 e) (omega arith) l)
follow {place = place} text utf8 e n (token {byte = byte} {rest = rest} {found = found} {reading = reading} b f s l) =
    let here : Fits (byte ∷ rest) found = fits (byte ∷ rest) found f in
    let within = here.within in
    joined place text found reading (part text place found utf8 (omega arith) (subst (λ bs. Fits bs found) e here))
    (follow text utf8 (further text (byte ∷ rest) place found.size e) (omega (arith, length-drop {A = ℕ})) l)
follow text utf8 e n (no_token b f) = tt
follow text utf8 e n (long_index b f s) = tt

-- the first part of `Follow`, by index
pub parts : (place : ℕ) (text : List ℕ) (tokens : List Token) → Follow place text tokens → All (IsPart text) tokens
parts place text [] f = All-nil (IsPart text)
parts place text (next ∷ tokens) (from, is_part, f) = All-cons (IsPart text) next tokens is_part (parts next.to text tokens f)

pub follows : (text : List ℕ) (tokens : List Token) → IsUtf8 text → Lexes 0 text (Ok (tokens ++ [])) → Follow 0 text tokens
follows text tokens utf8 l = subst (Follow 0 text) (append-nil tokens) (follow text utf8 refl (omega arith) l)
