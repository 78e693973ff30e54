-- The cases of `Lexes`, at bytes that are known by an equation.
use Rattle.std.proofs.Common.{◌≡◌, ℕ, ◌+◌, ◌-◌, ◌<◌, ◌≤◌, true, false, List, [], ◌∷◌, length, get_or, take, drop, Some, None, Result, Ok, Err, refl, sym, subst, arith}
use Rattle.std.proofs.lemmas.Grind.{common_steps}
use Rattle.expr_lexer.specs.declared.lexer.Lexeme.{Lexeme}
use Rattle.expr_lexer.specs.declared.token.Token.{Token}
use Rattle.expr_lexer.specs.Character.{is_blank}
use Rattle.expr_lexer.specs.Lexeme.{front_lexeme, most_digits, is_too_long}
use Rattle.expr_lexer.specs.Lexes.{with_front, token_at, Lexes}
use Rattle.expr_lexer.specs.Lexes.Lexes.{ends, blank, token, no_token, long_index}
use Rattle.expr_lexer.specs.Steps.{BeginsToken}

pub step_end : (place : ℕ) (bytes : List ℕ) → bytes ≡ [] → Lexes place bytes (Ok [])
step_end place bytes e = subst (λ bs. Lexes place bs (Ok [])) (sym e) ends

pub step_blank : (place byte : ℕ) (bytes rest : List ℕ) (reading : Result (List Token) ℕ) → bytes ≡ byte ∷ rest → is_blank byte ≡ true
    → Lexes (place + 1) rest reading → Lexes place bytes reading
step_blank place byte bytes rest reading e b reads = subst (λ bs. Lexes place bs reading) (sym e) (blank b reads)

pub step_token : (place : ℕ) (bytes rest : List ℕ) (found : Lexeme) (reading : Result (List Token) ℕ) → BeginsToken bytes
    → front_lexeme bytes ≡ Some found → is_too_long found ≡ false → rest ≡ drop found.size bytes → Lexes (place + found.size) rest reading
    → Lexes place bytes (with_front (token_at place found) reading)
step_token place bytes rest found reading start f s e reads =
    let step : front_lexeme bytes ≡ Some found → Lexes (place + found.size) (drop found.size bytes) reading → Lexes place bytes (with_front (token_at place found) reading)
    = subst (λ bs. front_lexeme bs ≡ Some found → Lexes (place + found.size) (drop found.size bs) reading
    → Lexes place bs (with_front (token_at place found) reading)) (sym start.bytes_are) (λ f reads. token start.no_blank f s reads)
    in step f (subst (λ bs. Lexes (place + found.size) bs reading) e reads)

pub step_bad : (place : ℕ) (bytes : List ℕ) → BeginsToken bytes → front_lexeme bytes ≡ None → Lexes place bytes (Err place)
step_bad place bytes start = subst (λ bs. front_lexeme bs ≡ None → Lexes place bs (Err place)) (sym start.bytes_are) (λ e. no_token start.no_blank e)

pub step_long : (place : ℕ) (bytes : List ℕ) (found : Lexeme) → BeginsToken bytes → front_lexeme bytes ≡ Some found → is_too_long found ≡ true
    → Lexes place bytes (Err (place + most_digits))
step_long place bytes found start =
    subst (λ bs. front_lexeme bs ≡ Some found → is_too_long found ≡ true → Lexes place bs (Err (place + most_digits)))
    (sym start.bytes_are) (λ e l. long_index start.no_blank e l)

-- the list without its front, as a slice shows it
pub rest_is : (bytes : List ℕ) (size : ℕ) → take (length bytes - size) (drop size bytes) ≡ drop size bytes
rest_is bytes size = grind (arith, common_steps)

pub none_left : (bytes : List ℕ) → length bytes < 1 → bytes ≡ []
none_left [] h = refl
none_left (byte ∷ rest) h = absurd (omega arith)

pub front_and_rest : (bytes : List ℕ) → 1 ≤ length bytes → bytes ≡ get_or bytes 0 0 ∷ take (length bytes - 1) (drop 1 bytes)
front_and_rest [] h = absurd (omega arith)
front_and_rest (byte ∷ rest) h = grind (arith, common_steps)
