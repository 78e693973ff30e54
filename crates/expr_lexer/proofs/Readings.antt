-- Readings with tokens before them.
use Rattle.std.proofs.Common.{◌≡◌, ℕ, List, [], ◌∷◌, ◌++◌, Result, Ok, Err, refl, append_assoc}
use Rattle.expr_lexer.specs.declared.token.Token.{Token}
use Rattle.expr_lexer.specs.Lexes.{with_front}

-- these tokens before the others, where there is no fault
abbrev pub with_all : List Token → Result (List Token) ℕ → Result (List Token) ℕ
with_all front (Ok tokens) = Ok (front ++ tokens)
with_all front (Err place) = Err place

pub with_one_more : (front : List Token) (token : Token) (reading : Result (List Token) ℕ)
    → with_all front (with_front token reading) ≡ with_all (front ++ token ∷ []) reading
with_one_more front token (Ok tokens) = let e : (front ++ token ∷ []) ++ tokens ≡ front ++ (token ∷ tokens) = append_assoc front (token ∷ []) tokens in cc
with_one_more front token (Err place) = refl
