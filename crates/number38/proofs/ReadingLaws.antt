-- How the code takes a text apart, against the grammar.
use Rattle.std.proofs.Common.{◌≡◌, ◌≢◌, ℕ, ◌+◌, ◌<◌, ◌≤◌, Bool, true, false, cond, eqb, not, ◌||◌, List, [], ◌∷◌, ◌++◌, length, take, drop, Option, Some, None, IfSome, option_and_then, sym, refl, ap, ◌∙◌, subst, arith, length-append, add_comm, add-one}
use Rattle.std.proofs.lemmas.List.{append-nil}
use Rattle.std.proofs.lemmas.Bool.{cond-true, cond-false, ne_eqb, eqb-true, eqb-false}
use Rattle.std.proofs.lemmas.Bool.Decides.{nat_tests}
use Rattle.std.specs.Prelude.{unwrap_or}
use Rattle.std.specs.Char.{is_ascii_digit, digit_value}
use Rattle.std.specs.List.{prefix_len}
use Rattle.std.specs.Str.Parse.{AllDigits, digits_value}
use Rattle.number38.specs.Text.{Sign, Unsigned, Plus, Minus, Exponent, Numeral, sign_text, fraction_text, mark_text, exponent_text, spelling, decimals, IsNumeral, IsTextOf, is_minus, raised_by, lowered_by, raised, lowered, denoted, valued}
use Rattle.number38.specs.Reading.{digits_at, after_digits, sign_at, fraction_at, only_digits, exponent_at, assembled, Pieces, pieces_at, answer_to, HasDigits}

-- ---- the digits at the front

take_step : (c : ℕ) (cs ds : List ℕ) (k : ℕ) (b : Bool) → take k cs ≡ ds → take (cond b (1 + k) 0) (c ∷ cs) ≡ cond b (c ∷ ds) []
take_step c cs ds k true h = ap (λ (m : ℕ). take m (c ∷ cs)) (add_comm 1 k ∙ add-one k) ∙ ap (λ (xs : List ℕ). c ∷ xs) h
take_step c cs ds k false h = refl

drop_step : (c : ℕ) (cs ds : List ℕ) (k : ℕ) (b : Bool) → drop k cs ≡ ds → drop (cond b (1 + k) 0) (c ∷ cs) ≡ cond b ds (c ∷ cs)
drop_step c cs ds k true h = ap (λ (m : ℕ). drop m (c ∷ cs)) (add_comm 1 k ∙ add-one k) ∙ h
drop_step c cs ds k false h = refl

digits_take : (xs : List ℕ) → take (prefix_len is_ascii_digit xs) xs ≡ digits_at xs
digits_take [] = refl
digits_take (c ∷ cs) = take_step c cs (digits_at cs) (prefix_len is_ascii_digit cs) (is_ascii_digit c) (digits_take cs)

digits_drop : (xs : List ℕ) → drop (prefix_len is_ascii_digit xs) xs ≡ after_digits xs
digits_drop [] = refl
digits_drop (c ∷ cs) = drop_step c cs (after_digits cs) (prefix_len is_ascii_digit cs) (is_ascii_digit c) (digits_drop cs)

pub digits_at_front : (xs : List ℕ) → (take (prefix_len is_ascii_digit xs) xs ≡ digits_at xs) × (drop (prefix_len is_ascii_digit xs) xs ≡ after_digits xs)
digits_at_front xs = (digits_take xs, digits_drop xs)

digit_range : (c : ℕ) → digit_value c < 10 → (48 ≤ c) × (c ≤ 57)
digit_range c h = grind (arith, nat_tests)

digit_test : (c : ℕ) → digit_value c < 10 → is_ascii_digit c ≡ true
digit_test c h = let r = digit_range c h in grind (arith, nat_tests)

digit_from_test : (c : ℕ) → is_ascii_digit c ≡ true → digit_value c < 10
digit_from_test c h = grind (arith, nat_tests)

-- the first of a list, if there is one, is such
abbrev FirstIs : (ℕ → Type 0) → List ℕ → Type 0
FirstIs P [] = Unit {0}
FirstIs P (c ∷ cs) = P c

abbrev NoDigit : ℕ → Type 0
NoDigit c = is_ascii_digit c ≡ false

abbrev NoSign : ℕ → Type 0
NoSign c = (c ≢ 45) × (c ≢ 43)

digits_at-none : (xs : List ℕ) → FirstIs NoDigit xs → (digits_at xs ≡ []) × (after_digits xs ≡ xs)
digits_at-none [] h = (refl, refl)
digits_at-none (c ∷ cs) h = (cond-false (is_ascii_digit c) _ _ h, cond-false (is_ascii_digit c) _ _ h)

digits_at-append : (ds xs : List ℕ) → AllDigits 10 ds → FirstIs NoDigit xs → (digits_at (ds ++ xs) ≡ ds) × (after_digits (ds ++ xs) ≡ xs)
digits_at-append [] xs a h = digits_at-none xs h
digits_at-append (d ∷ ds) xs a h =
    let t : is_ascii_digit d ≡ true = digit_test d a.0 in
    let r = digits_at-append ds xs a.1 h in
    (cond-true (is_ascii_digit d) _ _ t ∙ ap (λ (ys : List ℕ). d ∷ ys) r.0, cond-true (is_ascii_digit d) _ _ t ∙ r.1)

digits_at-all : (ds : List ℕ) → AllDigits 10 ds → (digits_at ds ≡ ds) × (after_digits ds ≡ [])
digits_at-all [] a = (refl, refl)
digits_at-all (d ∷ ds) a =
    let t : is_ascii_digit d ≡ true = digit_test d a.0 in
    let r = digits_at-all ds a.1 in
    (cond-true (is_ascii_digit d) _ _ t ∙ ap (λ (ys : List ℕ). d ∷ ys) r.0, cond-true (is_ascii_digit d) _ _ t ∙ r.1)

join_step : (c : ℕ) (cs ds xs : List ℕ) (b : Bool) → cs ≡ ds ++ xs → c ∷ cs ≡ cond b (c ∷ ds) [] ++ cond b xs (c ∷ cs)
join_step c cs ds xs true h = ap (λ (ys : List ℕ). c ∷ ys) h
join_step c cs ds xs false h = refl

digits_join : (xs : List ℕ) → xs ≡ digits_at xs ++ after_digits xs
digits_join [] = refl
digits_join (c ∷ cs) = join_step c cs (digits_at cs) (after_digits cs) (is_ascii_digit c) (digits_join cs)

are_step : (c : ℕ) (ds : List ℕ) (b : Bool) → is_ascii_digit c ≡ b → AllDigits 10 ds → AllDigits 10 (cond b (c ∷ ds) [])
are_step c ds true e h = (digit_from_test c e, h)
are_step c ds false e h = tt

digits_are : (xs : List ℕ) → AllDigits 10 (digits_at xs)
digits_are [] = tt
digits_are (c ∷ cs) = are_step c (digits_at cs) (is_ascii_digit c) refl (digits_are cs)

-- ---- a sign

sign_at-none : (xs : List ℕ) → FirstIs NoSign xs → sign_at xs ≡ (false, xs)
sign_at-none [] h = refl
sign_at-none (c ∷ cs) h = cond-false (eqb c 45) _ _ (ne_eqb c 45 h.0) ∙ cond-false (eqb c 43) _ _ (ne_eqb c 43 h.1)

sign_at-text : (s : Sign) (xs : List ℕ) → FirstIs NoSign xs → sign_at (sign_text s ++ xs) ≡ (is_minus s, xs)
sign_at-text Unsigned xs h = sign_at-none xs h
sign_at-text Plus xs h = refl
sign_at-text Minus xs h = refl

digits_no_sign : (ds xs : List ℕ) → AllDigits 10 ds → 0 < length ds → FirstIs NoSign (ds ++ xs)
digits_no_sign [] xs a h = absurd (omega arith)
digits_no_sign (d ∷ ds) xs a h = let r = digit_range d a.0 in ((λ e. omega arith), (λ e. omega arith))

-- ---- complete: the text of a numeral is taken apart into its parts

abbrev lowers_of : Option Exponent → Bool
lowers_of None = false
lowers_of (Some e) = is_minus e.sign

abbrev exponent_digits_of : Option Exponent → List ℕ
exponent_digits_of None = []
exponent_digits_of (Some e) = e.digits

abbrev pub pieces_of : Numeral → Pieces
pieces_of n = record { negative = is_minus n.sign; whole = n.whole; decimals = decimals n; lowers = lowers_of n.exponent; exponent = exponent_digits_of n.exponent }

exponent_no_digit : (x : Option Exponent) → FirstIs NoDigit (exponent_text x)
exponent_no_digit None = tt
exponent_no_digit (Some e) = first e.capital (sign_text e.sign ++ e.digits)
  where
    first : (b : Bool) (xs : List ℕ) → FirstIs NoDigit (mark_text b ++ xs)
    first true xs = refl
    first false xs = refl

behind_no_digit : (f : Option (List ℕ)) (x : Option Exponent) → FirstIs NoDigit (fraction_text f ++ exponent_text x)
behind_no_digit None x = exponent_no_digit x
behind_no_digit (Some ds) x = refl

fraction_at-none : (xs : List ℕ) → FirstIs (λ c. c ≢ 46) xs → fraction_at xs ≡ ([], xs)
fraction_at-none [] h = refl
fraction_at-none (c ∷ cs) h = cond-false (eqb c 46) _ _ (ne_eqb c 46 h)

exponent_no_point : (x : Option Exponent) → FirstIs (λ c. c ≢ 46) (exponent_text x)
exponent_no_point None = tt
exponent_no_point (Some e) = first e.capital (sign_text e.sign ++ e.digits)
  where
    first : (b : Bool) (xs : List ℕ) → FirstIs (λ c. c ≢ 46) (mark_text b ++ xs)
    first true xs = λ h. omega arith
    first false xs = λ h. omega arith

fraction_at-text : (f : Option (List ℕ)) (x : Option Exponent) → AllDigits 10 (unwrap_or f []) → fraction_at (fraction_text f ++ exponent_text x) ≡ (unwrap_or f [], exponent_text x)
fraction_at-text None x h = fraction_at-none (exponent_text x) (exponent_no_point x)
fraction_at-text (Some ds) x h =
    let r = digits_at-append ds (exponent_text x) h (exponent_no_digit x) in
    let front = r.0 in let rest = r.1 in (cc)

some_length : (ds : List ℕ) → 0 < length ds → eqb (length ds) 0 ≡ false
some_length ds h = ne_eqb (length ds) 0 (λ e. omega arith)

only_digits-all : (b : Bool) (ds : List ℕ) → AllDigits 10 ds → 0 < length ds → only_digits (b, ds) ≡ Some (b, ds)
only_digits-all b ds a p =
    let r = digits_at-all ds a in
    let front = ap (λ (xs : List ℕ). eqb (length xs) 0) r.0 ∙ some_length ds p in
    let rest = ap (λ (xs : List ℕ). not (eqb (length xs) 0)) r.1 in
    cond-false _ _ _ (ap (λ (t : Bool). t || not (eqb (length (after_digits ds)) 0)) front ∙ rest)

exponent_at-text : (x : Option Exponent) → IfSome x (λ e. AllDigits 10 e.digits) → IfSome x (λ e. 0 < length e.digits) → exponent_at (exponent_text x) ≡ Some (lowers_of x, exponent_digits_of x)
exponent_at-text None a p = refl
exponent_at-text (Some e) a p =
    mark e.capital (sign_text e.sign ++ e.digits)
    ∙ ap only_digits (sign_at-text e.sign e.digits (subst (λ (xs : List ℕ). FirstIs NoSign xs) (append-nil e.digits) (digits_no_sign e.digits [] a p)))
    ∙ only_digits-all (is_minus e.sign) e.digits a p
  where
    mark : (b : Bool) (xs : List ℕ) → exponent_at (mark_text b ++ xs) ≡ only_digits (sign_at xs)
    mark true xs = refl
    mark false xs = refl

body_no_sign : (w : List ℕ) (f : Option (List ℕ)) (x : Option Exponent) → AllDigits 10 w → 0 < length w + length (unwrap_or f []) → FirstIs NoSign (w ++ (fraction_text f ++ exponent_text x))
body_no_sign [] None x a p = absurd (omega arith)
body_no_sign [] (Some ds) x a p = ((λ h. omega arith), (λ h. omega arith))
body_no_sign (d ∷ ds) f x a p = digits_no_sign (d ∷ ds) (fraction_text f ++ exponent_text x) a (omega arith)

pub complete : (n : Numeral) → IsNumeral n → pieces_at (spelling n) ≡ Some (pieces_of n)
unfolding pieces_at
complete n h =
    let behind : List ℕ = fraction_text n.fraction ++ exponent_text n.exponent in
    let body : List ℕ = n.whole ++ behind in
    let whole = digits_at-append n.whole behind h.whole (behind_no_digit n.fraction n.exponent) in
    ap (λ (s : Bool × List ℕ). assembled s.0 (digits_at s.1) (fraction_at (after_digits s.1)).0 (exponent_at (fraction_at (after_digits s.1)).1))
    (sign_at-text n.sign body (body_no_sign n.whole n.fraction n.exponent h.whole h.some_digit))
    ∙ ap (λ (ds : List ℕ). assembled (is_minus n.sign) ds (fraction_at (after_digits body)).0 (exponent_at (fraction_at (after_digits body)).1)) whole.0
    ∙ ap (λ (r : List ℕ). assembled (is_minus n.sign) n.whole (fraction_at r).0 (exponent_at (fraction_at r).1)) whole.1
    ∙ ap (λ (f : List ℕ × List ℕ). assembled (is_minus n.sign) n.whole f.0 (exponent_at f.1)) (fraction_at-text n.fraction n.exponent h.fraction)
    ∙ ap (assembled (is_minus n.sign) n.whole (decimals n)) (exponent_at-text n.exponent h.exponent_digits h.some_exponent_digit)
    ∙ cond-false _ _ _ (ne_eqb (length n.whole + length (decimals n)) 0 (λ e. omega arith))

-- ---- sound: what is taken apart is the text of a numeral

record SignFound (xs : List ℕ) (s : Bool × List ℕ) : Type 0 where
  sign : Sign
  joined : xs ≡ sign_text sign ++ s.1
  minus : s.0 ≡ is_minus sign

sign_step : (c : ℕ) (cs : List ℕ) (b d : Bool) → eqb c 45 ≡ b → eqb c 43 ≡ d → SignFound (c ∷ cs) (cond b (true, cs) (cond d (false, cs) (false, c ∷ cs)))
sign_step c cs true d e f = record { sign = Minus; joined = ap (λ (x : ℕ). x ∷ cs) (eqb-true c 45 e); minus = refl }
sign_step c cs false true e f = record { sign = Plus; joined = ap (λ (x : ℕ). x ∷ cs) (eqb-true c 43 f); minus = refl }
sign_step c cs false false e f = record { sign = Unsigned; joined = refl; minus = refl }

sign_found : (xs : List ℕ) → SignFound xs (sign_at xs)
sign_found [] = record { sign = Unsigned; joined = refl; minus = refl }
sign_found (c ∷ cs) = sign_step c cs (eqb c 45) (eqb c 43) refl refl

record FractionFound (xs : List ℕ) (f : List ℕ × List ℕ) : Type 0 where
  fraction : Option (List ℕ)
  joined : xs ≡ fraction_text fraction ++ f.1
  digits : f.0 ≡ unwrap_or fraction []
  are : AllDigits 10 (unwrap_or fraction [])

fraction_step : (c : ℕ) (cs : List ℕ) (b : Bool) → eqb c 46 ≡ b → FractionFound (c ∷ cs) (cond b (digits_at cs, after_digits cs) ([], c ∷ cs))
fraction_step c cs true e = record {
  fraction = Some (digits_at cs);
  joined = ap (λ (x : ℕ). x ∷ cs) (eqb-true c 46 e) ∙ ap (λ (ys : List ℕ). 46 ∷ ys) (digits_join cs);
  digits = refl;
  are = digits_are cs;
}
fraction_step c cs false e = record { fraction = None; joined = refl; digits = refl; are = tt }

fraction_found : (xs : List ℕ) → FractionFound xs (fraction_at xs)
fraction_found [] = record { fraction = None; joined = refl; digits = refl; are = tt }
fraction_found (c ∷ cs) = fraction_step c cs (eqb c 46) refl

only_step : (s e : Bool × List ℕ) (t u : Bool) → cond (t || not u) None (Some s) ≡ Some e → (t ≡ false) × (u ≡ true) × (s ≡ e)
only_step s e true u h = absurd (cc)
only_step s e false true h = (refl, refl, cc)
only_step s e false false h = absurd (cc)

nil_from_length : (xs : List ℕ) → eqb (length xs) 0 ≡ true → xs ≡ []
nil_from_length [] h = refl
nil_from_length (x ∷ xs) h = absurd (omega (arith, eqb-true (length (x ∷ xs)) 0 h))

record ExponentFound (xs : List ℕ) (e : Bool × List ℕ) : Type 0 where
  exponent : Option Exponent
  joined : xs ≡ exponent_text exponent
  lowers : e.0 ≡ lowers_of exponent
  digits : e.1 ≡ exponent_digits_of exponent
  are : IfSome exponent (λ x. AllDigits 10 x.digits)
  some : IfSome exponent (λ x. 0 < length x.digits)

exponent_of_mark : (capital : Bool) (cs : List ℕ) (e : Bool × List ℕ) → only_digits (sign_at cs) ≡ Some e → ExponentFound (mark_text capital ++ cs) e
exponent_of_mark capital cs e h =
    let s : Bool × List ℕ = sign_at cs in
    let t = only_step s e (eqb (length (digits_at s.1)) 0) (eqb (length (after_digits s.1)) 0) h in
    let found : SignFound cs s = sign_found cs in
    let rest : after_digits s.1 ≡ [] = nil_from_length (after_digits s.1) t.1 in
    let all : s.1 ≡ digits_at s.1 = digits_join s.1 ∙ ap (λ (ys : List ℕ). digits_at s.1 ++ ys) rest ∙ append-nil (digits_at s.1) in
    record {
      exponent = Some (record { capital = capital; sign = found.sign; digits = s.1 });
      joined = ap (λ (ys : List ℕ). mark_text capital ++ ys) found.joined;
      lowers = ap (λ (x : Bool × List ℕ). x.0) (sym t.2) ∙ found.minus;
      digits = ap (λ (x : Bool × List ℕ). x.1) (sym t.2);
      are = subst (λ (xs : List ℕ). AllDigits 10 xs) (sym all) (digits_are s.1);
      some = positive (length s.1) (ap (λ (xs : List ℕ). eqb (length xs) 0) all ∙ t.0);
    }
  where
    positive : (k : ℕ) → eqb k 0 ≡ false → 0 < k
    positive k e = let ne = eqb-false k 0 e in omega arith

exponent_step : (c : ℕ) (cs : List ℕ) (e : Bool × List ℕ) (b d : Bool) → eqb c 101 ≡ b → eqb c 69 ≡ d → cond (b || d) (only_digits (sign_at cs)) None ≡ Some e → ExponentFound (c ∷ cs) e
exponent_step c cs e true d p q h = subst (λ (x : ℕ). ExponentFound (x ∷ cs) e) (sym (eqb-true c 101 p)) (exponent_of_mark false cs e h)
exponent_step c cs e false true p q h = subst (λ (x : ℕ). ExponentFound (x ∷ cs) e) (sym (eqb-true c 69 q)) (exponent_of_mark true cs e h)
exponent_step c cs e false false p q h = absurd (cc)

exponent_found : (xs : List ℕ) (e : Bool × List ℕ) → exponent_at xs ≡ Some e → ExponentFound xs e
exponent_found [] e h =
    let same : Some (false, []) ≡ Some e = h in
    record { exponent = None; joined = refl; lowers = cc; digits = cc; are = tt; some = tt }
exponent_found (c ∷ cs) e h = exponent_step c cs e (eqb c 101) (eqb c 69) refl refl h

pub record Reads (text : List ℕ) (p : Pieces) : Type 0 where
  pub numeral : Numeral
  pub is_text : IsTextOf numeral text
  pub same : p ≡ pieces_of numeral

record AssembledFound (b : Bool) (w ds : List ℕ) (x : Option (Bool × List ℕ)) (p : Pieces) : Type 0 where
  some : 0 < length w + length ds
  end : Bool × List ℕ
  is : x ≡ Some end
  same : p ≡ (record { negative = b; whole = w; decimals = ds; lowers = end.0; exponent = end.1 })

assembled_step : (b : Bool) (w ds : List ℕ) (x : Option (Bool × List ℕ)) (p : Pieces) (t : Bool) → eqb (length w + length ds) 0 ≡ t
    → cond t None (option_and_then (λ (e : Bool × List ℕ). Some (record { negative = b; whole = w; decimals = ds; lowers = e.0; exponent = e.1 })) x) ≡ Some p → AssembledFound b w ds x p
assembled_step b w ds x p true q h = absurd (cc)
assembled_step b w ds None p false q h = absurd (cc)
assembled_step b w ds (Some e) p false q h =
    let ne = eqb-false (length w + length ds) 0 q in record { some = omega arith; end = e; is = refl; same = cc }

pub sound : (text : List ℕ) (p : Pieces) → pieces_at text ≡ Some p → Reads text p
unfolding pieces_at
sound text p h =
    let s : Bool × List ℕ = sign_at text in
    let sign : SignFound text s = sign_found text in
    let f : List ℕ × List ℕ = fraction_at (after_digits s.1) in
    let fraction : FractionFound (after_digits s.1) f = fraction_found (after_digits s.1) in
    let whole : AssembledFound s.0 (digits_at s.1) f.0 (exponent_at f.1) p = assembled_step s.0 (digits_at s.1) f.0 (exponent_at f.1) p (eqb (length (digits_at s.1) + length f.0) 0) refl h in
    let behind : ExponentFound f.1 whole.end = exponent_found f.1 whole.end whole.is in
    let n : Numeral = record { sign = sign.sign; whole = digits_at s.1; fraction = fraction.fraction; exponent = behind.exponent } in
    record {
      numeral = n;
      is_text = (
        record {
          whole = digits_are s.1;
          fraction = fraction.are;
          some_digit = subst (λ (ds : List ℕ). 0 < length (digits_at s.1) + length ds) fraction.digits whole.some;
          exponent_digits = behind.are;
          some_exponent_digit = behind.some;
        },
        sign.joined ∙ ap (λ (ys : List ℕ). sign_text sign.sign ++ ys) (digits_join s.1 ∙ ap (λ (ys : List ℕ). digits_at s.1 ++ ys) (fraction.joined ∙ ap (λ (ys : List ℕ). fraction_text fraction.fraction ++ ys) behind.joined)),
      );
      same = whole.same ∙ pieces_same s.0 (is_minus sign.sign) (digits_at s.1) f.0 (decimals n) whole.end.0 (lowers_of behind.exponent) whole.end.1 (exponent_digits_of behind.exponent) sign.minus fraction.digits behind.lowers behind.digits;
    }
  where
    pieces_same : (a b : Bool) (w ds es : List ℕ) (c d : Bool) (xs ys : List ℕ) → a ≡ b → ds ≡ es → c ≡ d → xs ≡ ys
        → ◌≡◌ {A = Pieces} (record { negative = a; whole = w; decimals = ds; lowers = c; exponent = xs }) (record { negative = b; whole = w; decimals = es; lowers = d; exponent = ys })
    pieces_same a b w ds es c d xs ys e f g h = cc

-- ---- the answer of the pieces is that of the numeral

answer_sign : (b : Bool) (m places : ℕ) (s : Sign) (k : ℕ) → valued b m (cond (is_minus s) 0 k) (places + cond (is_minus s) k 0) ≡ valued b m (raised_by s k) (places + lowered_by s k)
answer_sign b m places Unsigned k = refl
answer_sign b m places Plus k = refl
answer_sign b m places Minus k = refl

answer_exponent : (b : Bool) (m places : ℕ) (x : Option Exponent) → valued b m (cond (lowers_of x) 0 (digits_value 10 (exponent_digits_of x))) (places + cond (lowers_of x) (digits_value 10 (exponent_digits_of x)) 0) ≡ valued b m (raised x) (places + lowered x)
answer_exponent b m places None = refl
answer_exponent b m places (Some e) = answer_sign b m places e.sign (digits_value 10 e.digits)

pub answer_to-pieces_of : (n : Numeral) → answer_to (pieces_of n) ≡ denoted n
answer_to-pieces_of n = answer_exponent (is_minus n.sign) (digits_value 10 (n.whole ++ decimals n)) (length (decimals n)) n.exponent

-- ---- what the pieces keep

exponent_has_digits : (x : Option Exponent) → IfSome x (λ e. AllDigits 10 e.digits) → AllDigits 10 (exponent_digits_of x)
exponent_has_digits None h = tt
exponent_has_digits (Some e) h = h

pieces_of-HasDigits : (n : Numeral) → IsNumeral n → HasDigits (pieces_of n)
pieces_of-HasDigits n h = record { whole = h.whole; decimals = h.fraction; exponent = exponent_has_digits n.exponent h.exponent_digits }

pub has_digits : (text : List ℕ) (p : Pieces) → pieces_at text ≡ Some p → HasDigits p
has_digits text p h =
    let r : Reads text p = sound text p h in
    subst (λ (q : Pieces). HasDigits q) (sym r.same) (pieces_of-HasDigits r.numeral r.is_text.0)

fraction_length : (f : Option (List ℕ)) → length (unwrap_or f []) ≤ length (fraction_text f)
fraction_length None = omega arith
fraction_length (Some ds) = omega arith

spelling_length : (n : Numeral) → length n.whole + length (decimals n) ≤ length (spelling n)
spelling_length n =
    omega (
      arith,
      fraction_length n.fraction,
      length-append (sign_text n.sign) (n.whole ++ (fraction_text n.fraction ++ exponent_text n.exponent)),
      length-append n.whole (fraction_text n.fraction ++ exponent_text n.exponent),
      length-append (fraction_text n.fraction) (exponent_text n.exponent),
    )

pub pieces_length : (text : List ℕ) (p : Pieces) → pieces_at text ≡ Some p → length p.whole + length p.decimals ≤ length text
pieces_length text p h =
    let r : Reads text p = sound text p h in
    omega (arith, spelling_length r.numeral, ap length r.is_text.1, ap (λ (q : Pieces). length q.whole) r.same, ap (λ (q : Pieces). length q.decimals) r.same)
