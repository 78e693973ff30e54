-- Each token is the longest one at its place.
use Rattle.std.proofs.Common.{◌≡◌, ℕ, zero, suc, ◌+◌, ◌-◌, ◌<◌, ◌≤◌, Bool, true, false, List, [], ◌∷◌, ◌++◌, append-nil, length, take, drop, Some, Result, Ok, Err, refl, sym, ◌∙◌, ap, subst, arith}
use Rattle.std.specs.Prelude.{codes, IfSome, IfOk, All}
use Rattle.std.specs.List.{AllPass, prefix_len}
use Rattle.std.specs.Char.{is_ascii_digit}
use Rattle.std.proofs.lemmas.Bool.{cond-true, cond-false}
use Rattle.std.proofs.lemmas.Bool.Decides.{nat_tests}
use Rattle.std.proofs.lemmas.List.{length-take, length-drop, take-append-drop}
use Rattle.std.proofs.lemmas.List.Elements.{All-nil, All-cons}
use Rattle.expr_lexer.specs.declared.token.TokenKind.{TokenKind}
use Rattle.expr_lexer.specs.declared.token.TokenKind.TheVariants.{NamePlaceholder, ValuePlaceholder, Index, Equal, Unequal, Less, AtMost, More, AtLeast, OpenParenthesis, CloseParenthesis, OpenBracket, CloseBracket, Comma, Dot, Plus, Minus}
use Rattle.expr_lexer.specs.declared.token.Token.{Token}
use Rattle.expr_lexer.specs.declared.lexer.Lexeme.{Lexeme}
use Rattle.expr_lexer.specs.Character.{is_letter, is_word_byte}
use Rattle.expr_lexer.specs.Lexeme.{lexeme, word_lexeme, placeholder, sign, front_lexeme}
use Rattle.expr_lexer.specs.Lexes.{with_front, token_at, Lexes}
use Rattle.expr_lexer.specs.Lexes.Lexes.{ends, blank, token, no_token, long_index}
use Rattle.expr_lexer.specs.Spelling.{IsWord, IsPlaceholder, IsIndex, Spells}
use Rattle.expr_lexer.specs.Longest.{IsLongest}
use Rattle.expr_lexer.proofs.Fits.{Fits, front_fits}
use Rattle.expr_lexer.proofs.Spans.{further}

-- the word is no longer than what is found at the front of it and of what is behind
abbrev Covers : List ℕ → Type 0
Covers word = (behind : List ℕ) (found : Lexeme) → front_lexeme (word ++ behind) ≡ Some found → length word ≤ found.size

-- bytes that pass a test are within the longest front that does
run_covers : (p : ℕ → Bool) (word behind : List ℕ) → AllPass p word → length word ≤ prefix_len p (word ++ behind)
run_covers p [] behind passes = omega arith
run_covers p (b ∷ word) behind passes =
    let rest : length word ≤ prefix_len p (word ++ behind) = run_covers p word behind (λ k d h. passes (suc k) d (omega arith)) in
    let run : prefix_len p (b ∷ (word ++ behind)) ≡ 1 + prefix_len p (word ++ behind) = cond-true (p b) _ _ (passes 0 b (omega arith)) in
    omega arith

same_size : (one other : Lexeme) → Some one ≡ Some other → one.size ≡ other.size
same_size one other e = let same : one ≡ other = cc in ap (λ found. found.size) same

digit_no_letter : (b : ℕ) → is_ascii_digit b ≡ true → is_letter b ≡ false
digit_no_letter b e = grind (arith, nat_tests)

word_covers : (word : List ℕ) → IsWord word → Covers word
word_covers [] is = absurd is
word_covers (b ∷ word) is = λ behind found e.
    let run : length word ≤ prefix_len is_word_byte (word ++ behind) = run_covers is_word_byte word behind is.1 in
    let size = same_size found (word_lexeme (b ∷ (word ++ behind)) (1 + prefix_len is_word_byte (word ++ behind))) (sym e ∙ cond-true (is_letter b) _ _ is.0) in
    omega arith

index_covers : (word : List ℕ) → IsIndex word → Covers word
index_covers [] is = λ behind found e. omega arith
index_covers (b ∷ word) is = λ behind found e.
    let digit : is_ascii_digit b ≡ true = is.digits 0 b (omega arith) in
    let run : length word ≤ prefix_len is_ascii_digit (word ++ behind) = run_covers is_ascii_digit word behind (λ k d h. is.digits (suc k) d (omega arith)) in
    let size = same_size found (lexeme Index (1 + prefix_len is_ascii_digit (word ++ behind)))
    (sym e ∙ cond-false (is_letter b) _ _ (digit_no_letter b digit) ∙ cond-true (is_ascii_digit b) _ _ digit) in
    omega arith

placeholder_size : (kind : TokenKind) (n : ℕ) (found : Lexeme) → placeholder kind n ≡ Some found → found.size ≡ 1 + n
placeholder_size kind zero found e = absurd (cc)
placeholder_size kind (suc n) found e = same_size found (lexeme kind (1 + suc n)) (sym e)

name_covers : (word : List ℕ) → IsPlaceholder 35 word → Covers word
name_covers [] is = absurd is
name_covers (b ∷ word) is = λ behind found e.
    let run : length word ≤ prefix_len is_word_byte (word ++ behind) = run_covers is_word_byte word behind is.2 in
    let size = placeholder_size NamePlaceholder (prefix_len is_word_byte (word ++ behind)) found (ap (λ c. front_lexeme (c ∷ (word ++ behind))) (sym is.0) ∙ e) in
    omega arith

value_covers : (word : List ℕ) → IsPlaceholder 58 word → Covers word
value_covers [] is = absurd is
value_covers (b ∷ word) is = λ behind found e.
    let run : length word ≤ prefix_len is_word_byte (word ++ behind) = run_covers is_word_byte word behind is.2 in
    let size = placeholder_size ValuePlaceholder (prefix_len is_word_byte (word ++ behind)) found (ap (λ c. front_lexeme (c ∷ (word ++ behind))) (sym is.0) ∙ e) in
    omega arith

-- what is found has a byte or more
one_covers : (word : List ℕ) → length word ≤ 1 → Covers word
one_covers word few = λ behind found e.
    let fits : Fits (word ++ behind) found = subst (λ x. IfSome x (Fits (word ++ behind))) e (front_fits (word ++ behind)) in
    let some : 0 < found.size = fits.some in omega arith

unequal_covers : Covers (codes "<>")
unfolding sign
unequal_covers behind found e = let size = same_size found (lexeme Unequal 2) (sym e) in omega arith

at_most_covers : Covers (codes "<=")
unfolding sign
at_most_covers behind found e = let size = same_size found (lexeme AtMost 2) (sym e) in omega arith

at_least_covers : Covers (codes ">=")
unfolding sign
at_least_covers behind found e = let size = same_size found (lexeme AtLeast 2) (sym e) in omega arith

-- a sign of one byte
short : (word text : List ℕ) → word ≡ text → length text ≤ 1 → Covers word
short word text e few = one_covers word (subst (λ w. length w ≤ 1) (sym e) few)

spelled_covers : (kind : TokenKind) (word : List ℕ) → Spells kind word → Covers word
spelled_covers Index word is = index_covers word is
spelled_covers NamePlaceholder word is = name_covers word is
spelled_covers ValuePlaceholder word is = value_covers word is
spelled_covers Unequal word is = subst Covers (sym is) unequal_covers
spelled_covers AtMost word is = subst Covers (sym is) at_most_covers
spelled_covers AtLeast word is = subst Covers (sym is) at_least_covers
spelled_covers Equal word is = short word (codes "=") is (omega arith)
spelled_covers Less word is = short word (codes "<") is (omega arith)
spelled_covers More word is = short word (codes ">") is (omega arith)
spelled_covers OpenParenthesis word is = short word (codes "(") is (omega arith)
spelled_covers CloseParenthesis word is = short word (codes ")") is (omega arith)
spelled_covers OpenBracket word is = short word (codes "[") is (omega arith)
spelled_covers CloseBracket word is = short word (codes "]") is (omega arith)
spelled_covers Comma word is = short word (codes ",") is (omega arith)
spelled_covers Dot word is = short word (codes ".") is (omega arith)
spelled_covers Plus word is = short word (codes "+") is (omega arith)
spelled_covers Minus word is = short word (codes "-") is (omega arith)
spelled_covers kind word is = word_covers word is.0

longest_at : (text bytes : List ℕ) (place : ℕ) (found : Lexeme) → bytes ≡ drop place text → front_lexeme bytes ≡ Some found → IsLongest text (token_at place found)
longest_at text bytes place found e f = λ kind end beyond within spells.
    let word : List ℕ = take (end - place) (drop place text) in
    let behind : List ℕ = drop (end - place) (drop place text) in
    let joined : word ++ behind ≡ bytes = take-append-drop (end - place) (drop place text) ∙ sym e in
    let covered : length word ≤ found.size = spelled_covers kind word spells behind found (ap front_lexeme joined ∙ f) in
    absurd (omega (arith, length-take (end - place) (drop place text), length-drop place text))

joined : (text : List ℕ) (next : Token) (reading : Result (List Token) ℕ) → IsLongest text next → IfOk reading (All (IsLongest text))
    → IfOk (with_front next reading) (All (IsLongest text))
joined text next (Ok tokens) here rest = All-cons (IsLongest text) next tokens here rest
joined text next (Err fault) here rest = tt

longest : {place : ℕ} {bytes : List ℕ} {reading : Result (List Token) ℕ} → (text : List ℕ) → bytes ≡ drop place text
    → Lexes place bytes reading → IfOk reading (All (IsLongest text))
longest text e ends = All-nil (IsLongest text)
longest {place = place} text e (blank {byte = byte} {rest = rest} b l) = longest text (further text (byte ∷ rest) place 1 e) l
longest {place = place} text e (token {byte = byte} {rest = rest} {found = found} {reading = reading} b f s l) =
    joined text (token_at place found) reading (longest_at text (byte ∷ rest) place found e f) (longest text (further text (byte ∷ rest) place found.size e) l)
longest text e (no_token b f) = tt
longest text e (long_index b f s) = tt

pub all_longest : (text : List ℕ) (tokens : List Token) → Lexes 0 text (Ok (tokens ++ [])) → All (IsLongest text) tokens
all_longest text tokens l = subst (All (IsLongest text)) (append-nil tokens) (longest text refl l)
