-- Each token is spelled as its kind is.
use Rattle.std.proofs.Common.{◌≡◌, ◌≢◌, ℕ, zero, suc, ◌+◌, ◌-◌, ◌<◌, ◌≤◌, Bool, true, false, List, [], ◌∷◌, ◌++◌, append-nil, length, get_or, take, drop, Result, Ok, Err, refl, sym, ap, subst, arith}
use Rattle.std.specs.Prelude.{codes, IfSome, IfOk, All, nat_eq, if◌then◌else◌, ◌==◌}
use Prim.Native.String.{String}
use Rattle.std.specs.List.{AllPass, prefix_len, starts_with}
use Rattle.std.specs.Char.{is_ascii_digit}
use Rattle.std.proofs.lemmas.Bool.Decides.{nat_tests}
use Rattle.std.proofs.lemmas.Grind.{common_steps}
use Rattle.std.proofs.lemmas.List.Elements.{All-nil, All-cons}
use Rattle.std.proofs.lemmas.List.Sums.{prefix_len-le-length, prefix_len_passes}
use Rattle.expr_lexer.specs.declared.token.TokenKind.{TokenKind}
use Rattle.expr_lexer.specs.declared.token.TokenKind.TheVariants.{Name, NamePlaceholder, ValuePlaceholder, Index, And, Or, Not, Between, In, Set, Remove, Add, Delete}
use Rattle.expr_lexer.specs.declared.token.Token.{Token}
use Rattle.expr_lexer.specs.declared.lexer.Lexeme.{Lexeme}
use Rattle.expr_lexer.specs.Character.{is_letter, is_word_byte}
use Rattle.expr_lexer.specs.Lexeme.{lexeme, word_kind, begins, sign, placeholder, front_lexeme, is_too_long}
use Rattle.expr_lexer.specs.Lexes.{with_front, token_at, Lexes}
use Rattle.expr_lexer.specs.Lexes.Lexes.{ends, blank, token, no_token, long_index}
use Rattle.expr_lexer.specs.Spelling.{IsWord, IsPlaceholder, IsIndex, Spells, IsSpelled}
use Rattle.expr_lexer.proofs.Fits.{either, choice, both_left, both_right}
use Rattle.expr_lexer.proofs.Spans.{further}

-- what was found spells its kind, unless it is too long an index
abbrev SpellsFront : List ℕ → Lexeme → Type 0
SpellsFront bytes found = is_too_long found ≡ false → Spells found.kind (take found.size bytes)

pick : (P : TokenKind → Type 0) (test : Bool) (x y : TokenKind) → P x → P y → P (if test then x else y)
pick P true x y p q = p
pick P false x y p q = q

word_spelled : (word : List ℕ) → IsWord word → Spells (word_kind word) word
word_spelled word h =
    let P : TokenKind → Type 0 = λ kind. word_kind word ≡ kind → Spells kind word in
    let all : P (word_kind word) =
    pick P _ And _ (λ e. (h, e)) (pick P _ Or _ (λ e. (h, e)) (pick P _ Not _ (λ e. (h, e)) (pick P _ Between _ (λ e. (h, e)) (
    pick P _ In _ (λ e. (h, e)) (pick P _ Set _ (λ e. (h, e)) (pick P _ Remove _ (λ e. (h, e)) (pick P _ Add _ (λ e. (h, e)) (
    pick P _ Delete Name (λ e. (h, e)) (λ e. (h, e)))))))))) in
    all refl

-- the longest front that passes a test passes it
run_passes : (p : ℕ → Bool) (bytes : List ℕ) → AllPass p (take (prefix_len p bytes) bytes)
run_passes p bytes k d h =
    let within : prefix_len p bytes ≤ length bytes = prefix_len-le-length p bytes in
    let here : k < prefix_len p bytes = grind (arith, common_steps) in
    let same : get_or (take (prefix_len p bytes) bytes) k d ≡ get_or bytes k d = grind (arith, common_steps) in
    rw same (prefix_len_passes p bytes k d here)

took : (text bytes : List ℕ) → starts_with nat_eq bytes text ≡ true → take (length text) bytes ≡ text
took [] bytes e = refl
took (t ∷ text) [] e = absurd (cc)
took (t ∷ text) (b ∷ bytes) e =
    let rest : take (length text) bytes ≡ text = took text bytes (both_right _ _ e) in
    let same : b ≡ t = let h = both_left (nat_eq t b) _ e in grind (arith, nat_tests) in cc

sign_spelled : (bytes : List ℕ) → IfSome (sign bytes) (SpellsFront bytes)
unfolding sign
sign_spelled bytes =
    let P : Lexeme → Type 0 = SpellsFront bytes in
    let is : (text : String) → begins text bytes ≡ true → take (length (codes text)) bytes ≡ codes text = λ text e. took (codes text) bytes e in
    either P _ _ _ (λ e few. is "<>" e) (
    either P _ _ _ (λ e few. is "<=" e) (
    either P _ _ _ (λ e few. is ">=" e) (
    either P _ _ _ (λ e few. is "=" e) (
    either P _ _ _ (λ e few. is "<" e) (
    either P _ _ _ (λ e few. is ">" e) (
    either P _ _ _ (λ e few. is "(" e) (
    either P _ _ _ (λ e few. is ")" e) (
    either P _ _ _ (λ e few. is "[" e) (
    either P _ _ _ (λ e few. is "]" e) (
    either P _ _ _ (λ e few. is "," e) (
    either P _ _ _ (λ e few. is "." e) (
    either P _ _ _ (λ e few. is "+" e) (
    either P _ _ _ (λ e few. is "-" e) tt)))))))))))))

one_more : (b : ℕ) (rest : List ℕ) (n : ℕ) → take (1 + n) (b ∷ rest) ≡ b ∷ take n rest
one_more b rest n = let e : 1 + n ≡ suc n = omega arith in ap (λ m. take m (b ∷ rest)) e

word_front : (b : ℕ) (rest : List ℕ) → is_letter b ≡ true → (n : ℕ) → n ≡ prefix_len is_word_byte rest
    → Spells (word_kind (take (1 + n) (b ∷ rest))) (take (1 + n) (b ∷ rest))
word_front b rest e n same =
    let passes : AllPass is_word_byte (take n rest) = subst (λ m. AllPass is_word_byte (take m rest)) (sym same) (run_passes is_word_byte rest) in
    let word : IsWord (b ∷ take n rest) = (e, passes) in
    word_spelled _ (subst IsWord (sym (one_more b rest n)) word)

index_spelled : (b : ℕ) (rest : List ℕ) → is_ascii_digit b ≡ true → SpellsFront (b ∷ rest) (lexeme Index (1 + prefix_len is_ascii_digit rest))
index_spelled b rest e few =
    let within : prefix_len is_ascii_digit rest ≤ length rest = prefix_len-le-length is_ascii_digit rest in
    let size : length (take (prefix_len is_ascii_digit rest) rest) ≡ prefix_len is_ascii_digit rest = grind (arith, common_steps) in
    let most : prefix_len is_ascii_digit rest < 9 = grind (arith, nat_tests) in
    let word : IsIndex (b ∷ take (prefix_len is_ascii_digit rest) rest) =
    record { some = omega arith; few = omega arith; digits = All-cons (λ c. is_ascii_digit c ≡ true) b _ e (run_passes is_ascii_digit rest) } in
    subst IsIndex (sym (one_more b rest _)) word

some_taken : (p : ℕ → Bool) (bytes : List ℕ) (n : ℕ) → suc n ≡ prefix_len p bytes → take (suc n) bytes ≢ []
some_taken p [] n e = absurd (omega arith)
some_taken p (b ∷ bytes) n e = λ h. absurd (cc)

placeholder_spelled : (kind : TokenKind) (b : ℕ) (rest : List ℕ) (n : ℕ) → n ≡ prefix_len is_word_byte rest
    → ((word : List ℕ) → IsPlaceholder b word → Spells kind word) → IfSome (placeholder kind n) (SpellsFront (b ∷ rest))
placeholder_spelled kind b rest zero e spells = tt
placeholder_spelled kind b rest (suc n) e spells = λ few.
    let passes : AllPass is_word_byte (take (suc n) rest) = subst (λ m. AllPass is_word_byte (take m rest)) (sym e) (run_passes is_word_byte rest) in
    let word : IsPlaceholder b (b ∷ take (suc n) rest) = (refl, some_taken is_word_byte rest n e, passes) in
    spells _ (subst (IsPlaceholder b) (sym (one_more b rest (suc n))) word)

sign_is : (b c : ℕ) → (b == c) ≡ true → b ≡ c
sign_is b c e = grind (arith, nat_tests)

pub front_spelled : (bytes : List ℕ) → IfSome (front_lexeme bytes) (SpellsFront bytes)
front_spelled [] = tt
front_spelled (b ∷ rest) =
    let P : Lexeme → Type 0 = SpellsFront (b ∷ rest) in
    either P _ _ _ (λ e few. word_front b rest e _ refl) (
    either P _ _ _ (λ e. index_spelled b rest e) (
    choice P _ _ _ (λ e. placeholder_spelled NamePlaceholder b rest _ refl (λ word h. subst (λ x. IsPlaceholder x word) (sign_is b 35 e) h)) (
    choice P _ _ _ (λ e. placeholder_spelled ValuePlaceholder b rest _ refl (λ word h. subst (λ x. IsPlaceholder x word) (sign_is b 58 e) h)) (sign_spelled (b ∷ rest)))))

joined : (text : List ℕ) (next : Token) (reading : Result (List Token) ℕ) → IsSpelled text next → IfOk reading (All (IsSpelled text))
    → IfOk (with_front next reading) (All (IsSpelled text))
joined text next (Ok tokens) here rest = All-cons (IsSpelled text) next tokens here rest
joined text next (Err fault) here rest = tt

spelled_at : (text bytes : List ℕ) (place : ℕ) (found : Lexeme) → bytes ≡ drop place text → Spells found.kind (take found.size bytes)
    → IsSpelled text (token_at place found)
spelled_at text bytes place found e s =
    let same : found.size ≡ place + found.size - place = omega arith in
    subst (λ size. Spells found.kind (take size (drop place text))) same (subst (λ bs. Spells found.kind (take found.size bs)) e s)

pub spelled : {place : ℕ} {bytes : List ℕ} {reading : Result (List Token) ℕ} → (text : List ℕ) → bytes ≡ drop place text
    → Lexes place bytes reading → IfOk reading (All (IsSpelled text))
spelled text e ends = All-nil (IsSpelled text)
spelled {place = place} text e (blank {byte = byte} {rest = rest} b l) = spelled text (further text (byte ∷ rest) place 1 e) l
spelled {place = place} text e (token {byte = byte} {rest = rest} {found = found} {reading = reading} b f s l) =
    joined text (token_at place found) reading
    (spelled_at text (byte ∷ rest) place found e (subst (λ x. IfSome x (SpellsFront (byte ∷ rest))) f (front_spelled (byte ∷ rest)) s))
    (spelled text (further text (byte ∷ rest) place found.size e) l)
spelled text e (no_token b f) = tt
spelled text e (long_index b f s) = tt

pub all_spelled : (text : List ℕ) (tokens : List Token) → Lexes 0 text (Ok (tokens ++ [])) → All (IsSpelled text) tokens
all_spelled text tokens l = subst (All (IsSpelled text)) (append-nil tokens) (spelled text refl l)
