-- A token at the front is of a byte or more, and within the bytes.
use Rattle.std.proofs.Common.{◌≡◌, ℕ, zero, suc, ◌+◌, ◌<◌, ◌≤◌, Bool, true, false, List, [], ◌∷◌, length, get_or, Option, Some, refl, arith}
use Rattle.std.proofs.lemmas.Bool.Decides.{nat_tests}
use Rattle.std.specs.Prelude.{codes, IfSome, nat_eq, nat_lt, ◌&&◌, if◌then◌else◌, ◌==◌}
use Prim.Native.String.{String}
use Rattle.std.specs.List.{prefix_len, starts_with}
use Rattle.std.specs.Char.{is_ascii_digit}
use Rattle.std.proofs.lemmas.List.Sums.{prefix_len-le-length, prefix_len_passes}
use Rattle.expr_lexer.specs.declared.token.TokenKind.{TokenKind}
use Rattle.expr_lexer.specs.declared.lexer.Lexeme.{Lexeme}
use Rattle.expr_lexer.specs.Character.{is_letter, is_word_byte}
use Rattle.expr_lexer.specs.Lexeme.{lexeme, begins, sign, placeholder, front_lexeme}
use Rattle.expr_lexer.specs.declared.token.TokenKind.TheVariants.{NamePlaceholder, ValuePlaceholder, Index, Equal, Unequal, Less, AtMost, More, AtLeast, OpenParenthesis, CloseParenthesis, OpenBracket, CloseBracket, Comma, Dot, Plus, Minus}

pub record Fits (bytes : List ℕ) (found : Lexeme) : Type 0 where
  pub some : 0 < found.size
  pub within : found.size ≤ length bytes
  pub ascii : (k : ℕ) → k < found.size → get_or bytes k 0 < 128

abbrev is_ascii_all : List ℕ → Bool
is_ascii_all [] = true
is_ascii_all (b ∷ bs) = nat_lt b 128 && is_ascii_all bs

-- bytes that begin with a text are as long, and as ASCII
pub record Begun (text bytes : List ℕ) : Type 0 where
  pub within : length text ≤ length bytes
  pub ascii : (k : ℕ) → k < length text → get_or bytes k 0 < 128

pub both_left : (a b : Bool) → a && b ≡ true → a ≡ true
both_left true b e = refl
both_left false b e = e

pub both_right : (a b : Bool) → a && b ≡ true → b ≡ true
both_right true b e = e
both_right false b e = absurd (cc)

along : (b : ℕ) (bytes : List ℕ) (n : ℕ) → b < 128 → ((k : ℕ) → k < n → get_or bytes k 0 < 128)
    → (k : ℕ) → k < suc n → get_or (b ∷ bytes) k 0 < 128
along b bytes n low more zero h = low
along b bytes n low more (suc k) h = more k (omega arith)

begun : (text bytes : List ℕ) → starts_with nat_eq bytes text ≡ true → is_ascii_all text ≡ true → Begun text bytes
begun [] bytes e a = record { within = omega arith; ascii = λ k h. absurd (omega arith) }
begun (t ∷ text) [] e a = absurd (cc)
begun (t ∷ text) (b ∷ bytes) e a =
    let more : Begun text bytes = begun text bytes (both_right _ _ e) (both_right _ _ a) in
    let same : t ≡ b = let h = both_left (nat_eq t b) _ e in grind (arith, nat_tests) in
    let low : t < 128 = let h = both_left (nat_lt t 128) _ a in grind (arith, nat_tests) in
    record { within = omega (arith, more.within); ascii = along b bytes (length text) (omega arith) more.ascii }

-- what holds of both answers holds of the one that a test picks
pub either : (P : Lexeme → Type 0) (test : Bool) (found : Lexeme) (others : Option Lexeme) → (test ≡ true → P found)
    → IfSome others P → IfSome (if test then Some found else others) P
either P true found others first second = first refl
either P false found others first second = second

pub choice : (P : Lexeme → Type 0) (test : Bool) (x y : Option Lexeme) → (test ≡ true → IfSome x P) → IfSome y P
    → IfSome (if test then x else y) P
choice P true x y first second = first refl
choice P false x y first second = second

letter_ascii : (b : ℕ) → is_letter b ≡ true → b < 128
letter_ascii b e = grind (arith, nat_tests)

word_ascii : (b : ℕ) → is_word_byte b ≡ true → b < 128
word_ascii b e = grind (arith, nat_tests)

digit_ascii : (b : ℕ) → is_ascii_digit b ≡ true → b < 128
digit_ascii b e = grind (arith, nat_tests)

sign_ascii : (text bytes : List ℕ) (kind : TokenKind) → 0 < length text → is_ascii_all text ≡ true → starts_with nat_eq bytes text ≡ true
    → Fits bytes (lexeme kind (length text))
sign_ascii text bytes kind some a e = let h : Begun text bytes = begun text bytes e a in record { some = some; within = h.within; ascii = h.ascii }

sign_fits : (bytes : List ℕ) → IfSome (sign bytes) (Fits bytes)
unfolding sign
sign_fits bytes =
    let fits : (text : String) (kind : TokenKind) → 0 < length (codes text) → is_ascii_all (codes text) ≡ true → begins text bytes ≡ true → Fits bytes (lexeme kind (length (codes text)))
    = λ text kind some a e. sign_ascii (codes text) bytes kind some a e in
    either (Fits bytes) _ _ _ (fits "<>" Unequal (omega arith) refl) (
    either (Fits bytes) _ _ _ (fits "<=" AtMost (omega arith) refl) (
    either (Fits bytes) _ _ _ (fits ">=" AtLeast (omega arith) refl) (
    either (Fits bytes) _ _ _ (fits "=" Equal (omega arith) refl) (
    either (Fits bytes) _ _ _ (fits "<" Less (omega arith) refl) (
    either (Fits bytes) _ _ _ (fits ">" More (omega arith) refl) (
    either (Fits bytes) _ _ _ (fits "(" OpenParenthesis (omega arith) refl) (
    either (Fits bytes) _ _ _ (fits ")" CloseParenthesis (omega arith) refl) (
    either (Fits bytes) _ _ _ (fits "[" OpenBracket (omega arith) refl) (
    either (Fits bytes) _ _ _ (fits "]" CloseBracket (omega arith) refl) (
    either (Fits bytes) _ _ _ (fits "," Comma (omega arith) refl) (
    either (Fits bytes) _ _ _ (fits "." Dot (omega arith) refl) (
    either (Fits bytes) _ _ _ (fits "+" Plus (omega arith) refl) (
    either (Fits bytes) _ _ _ (fits "-" Minus (omega arith) refl) tt)))))))))))))

-- a first byte, and the bytes behind it that pass a test
run_fits : (p : ℕ → Bool) (b : ℕ) (rest : List ℕ) (kind : TokenKind) → b < 128 → ((c : ℕ) → p c ≡ true → c < 128)
    → Fits (b ∷ rest) (lexeme kind (1 + prefix_len p rest))
run_fits p b rest kind low pass =
    let bound : prefix_len p rest ≤ length rest = prefix_len-le-length p rest in
    record {
      some = omega arith;
      within = omega arith;
      ascii = λ k h. along b rest (prefix_len p rest) low (λ j g. pass _ (prefix_len_passes p rest j 0 g)) k (omega arith);
    }

placeholder_fits : (kind : TokenKind) (b : ℕ) (rest : List ℕ) → b < 128 → IfSome (placeholder kind (prefix_len is_word_byte rest)) (Fits (b ∷ rest))
placeholder_fits kind b rest low = go (prefix_len is_word_byte rest) (run_fits is_word_byte b rest kind low word_ascii)
  where
    go : (n : ℕ) → Fits (b ∷ rest) (lexeme kind (1 + n)) → IfSome (placeholder kind n) (Fits (b ∷ rest))
    go zero h = tt
    go (suc n) h = h

byte_ascii : (b c : ℕ) → (b == c) ≡ true → c < 128 → b < 128
byte_ascii b c e low = grind (arith, nat_tests)

pub front_fits : (bytes : List ℕ) → IfSome (front_lexeme bytes) (Fits bytes)
front_fits [] = tt
front_fits (b ∷ rest) =
    either (Fits (b ∷ rest)) _ _ _ (λ e. run_fits is_word_byte b rest _ (letter_ascii b e) word_ascii) (
    either (Fits (b ∷ rest)) _ _ _ (λ e. run_fits is_ascii_digit b rest Index (digit_ascii b e) digit_ascii) (
    choice (Fits (b ∷ rest)) _ _ _ (λ e. placeholder_fits NamePlaceholder b rest (byte_ascii b 35 e (omega arith))) (
    choice (Fits (b ∷ rest)) _ _ _ (λ e. placeholder_fits ValuePlaceholder b rest (byte_ascii b 58 e (omega arith))) (sign_fits (b ∷ rest)))))
