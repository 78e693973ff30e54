-- No text reads in two ways.
use Rattle.std.proofs.Common.{◌≡◌, ◌+◌, ◌<◌, ◌≤◌, ℕ, List, [], ◌∷◌, ◌++◌, length, Option, Some, None, Result, Ok, Err, refl, sym, ap, subst, ◌∙◌, append_assoc, append-nil, length-append, arith}
use Rattle.base_types.specs.declared.path.DocPath.{DocPath}
use Rattle.expr_lexer.specs.declared.token.Token.{Token}
use Rattle.expr_words.specs.declared.given.Given.{Given}
use Rattle.expr_words.specs.declared.parse_end.ParseEnd.{ParseEnd}
use Rattle.expr_words.specs.declared.parse_end.ParseEnd.TheVariants.{Syntax, Overlap, TooManyOperators}
use Rattle.expr_words.specs.Trees.{Tree, SectionTree}
use Rattle.expr_words.specs.Words.{Word, words, undefined}
use Rattle.expr_words.specs.Grammar.{IsCondition, ArePaths, IsUpdate, most_levels}
use Rattle.expr_words.specs.Faults.{Stops, IsFault}
use Rattle.expr_lexer.specs.Lexes.{Lexes}
use Rattle.expr_parse.specs.Reading.{IsSentence, place_of, IsVerdict, early, not_given, late, fit, ReadsTokens, no_sentence, spelled, Reads, too_long, no_token, lexed, NoFault, ReadsCondition, PathsFault, ReadsPaths, TwiceFault, UpdateFault, ClausesFault, ReadsClauses, ReadsUpdate}
use Rattle.expr_parse.specs.UpdateTree.{UpdateTree, update_of}
use Rattle.expr_parse.proofs.Along.{one_condition, one_list, one_update}

abbrev first_or : Word → List Word → Word
first_or t [] = t
first_or t (u ∷ us) = u

abbrev rest_of : List Word → List Word
rest_of [] = []
rest_of (u ∷ us) = us

-- of two ways to part a list, the longer front goes on from the shorter
goes_on : (a b c d : List Word) → a ++ b ≡ c ++ d → length a ≤ length c → (mid : List Word) × (c ≡ a ++ mid)
goes_on [] b c d e short = (c, refl)
goes_on (x ∷ a) b [] d e short = let h : ⊥ = omega (arith, short) in absurd h
goes_on (x ∷ a) b (y ∷ c) d e short =
    let r = goes_on a b c d (ap rest_of e) (omega (arith, short)) in
    (r.0, ap (λ z. z ∷ c) (sym (ap (first_or x) e)) ∙ ap (λ l. x ∷ l) r.1)

-- no fault stands before another
not_before : (S : List Word → Type 0) (ts : List Word) (m n : ℕ) → IsFault S ts m → IsFault S ts n → m < n → ⊥
not_before S ts m n f g less = go g.front g.back g.whole g.left_is g.stops where
  go : (front back : List Word) → ts ≡ front ++ back → length back ≡ n → Stops S front back → ⊥
  go front [] whole is stops = let h : ⊥ = omega (arith, less, is) in absurd h
  go front (t ∷ back) whole is stops =
      let parted : (front ++ t ∷ []) ++ back ≡ f.front ++ f.back = append_assoc front (t ∷ []) back ∙ sym whole ∙ f.whole in
      let sizes : length (front ++ t ∷ []) + length back ≡ length f.front + length f.back =
      sym (length-append (front ++ t ∷ []) back) ∙ ap length parted ∙ length-append f.front f.back in
      let r = goes_on (front ++ t ∷ []) back f.front f.back parted (omega (arith, sizes, is, f.left_is, less)) in
      stops (record {
        more = r.0 ++ f.begins.more;
        is_sentence = subst S (ap (λ l. l ++ f.begins.more) r.1 ∙ append_assoc (front ++ t ∷ []) r.0 f.begins.more) f.begins.is_sentence;
      })

one_fault : (S : List Word → Type 0) (ts : List Word) (m n : ℕ) → IsFault S ts m → IsFault S ts n → m ≡ n
one_fault S ts m n f g =
    let not_below : m < n → ⊥ = not_before S ts m n f g in
    let not_above : n < m → ⊥ = not_before S ts n m g f in
    omega (arith, not_below, not_above)

-- a sentence has no fault
no_fault : (S : List Word → Type 0) (ts : List Word) (left : ℕ) → S ts → IsFault S ts left → ⊥
no_fault S ts left s f = go f.front f.back f.whole f.stops where
  go : (front back : List Word) → ts ≡ front ++ back → Stops S front back → ⊥
  go front [] whole stops = stops (subst S (whole ∙ append-nil front) s)
  go front (t ∷ back) whole stops = stops (record { more = back; is_sentence = subst S (whole ∙ sym (append_assoc front (t ∷ []) back)) s })

-- FaultOf says one thing of each tree
abbrev IsSingle : {T : Type 0} → (T → Option ParseEnd → Type 0) → Type 0
IsSingle {T} FaultOf = (t : T) (m n : Option ParseEnd) → FaultOf t m → FaultOf t n → m ≡ n

-- no words are sentences for two trees
abbrev IsUnambiguous : {T : Type 0} → (List Word → T → Type 0) → Type 0
IsUnambiguous {T} Spells = (ts : List Word) (t u : T) → Spells ts t → Spells ts u → t ≡ u

abbrev fault_or : ParseEnd → Option ParseEnd → ParseEnd
fault_or d None = d
fault_or d (Some fault) = fault

module _ {T : Type 0} (Spells : List Word → T → Type 0) (Early Late : T → Option ParseEnd → Type 0) (one_tree : IsUnambiguous Spells)
    (single_early : IsSingle Early) (single_late : IsSingle Late) (given : Given) (text : List ℕ) where
  abbrev Reading : Type 0
  Reading = Result T ParseEnd

  abbrev refused : ParseEnd → Reading
  refused fault = Err fault

  -- no fault and a fault exclude each other
  no_early : (t : T) (fault : ParseEnd) → Early t None → Early t (Some fault) → ⊥
  no_early t fault e f = let same : None ≡ Some fault = single_early t None (Some fault) e f in cc

  no_late : (t : T) (fault : ParseEnd) → Late t None → Late t (Some fault) → ⊥
  no_late t fault e f = let same : None ≡ Some fault = single_late t None (Some fault) e f in cc

  one_verdict : (m : Option ParseEnd) (t : T) (r s : Reading) → IsVerdict Early Late m t r → IsVerdict Early Late m t s → r ≡ s
  one_verdict m t _ _ (early {fault = a} e) (early {fault = b} f) = ap (λ o. refused (fault_or a o)) (single_early t (Some a) (Some b) e f)
  one_verdict m t _ _ (early {fault = a} e) (not_given f u) = absurd (no_early t a f e)
  one_verdict m t _ _ (early {fault = a} e) (late f u w) = absurd (no_early t a f e)
  one_verdict m t _ _ (early {fault = a} e) (fit f u w) = absurd (no_early t a f e)
  one_verdict m t _ _ (not_given f u) (early {fault = a} e) = absurd (no_early t a f e)
  one_verdict m t _ _ (late f u w) (early {fault = a} e) = absurd (no_early t a f e)
  one_verdict m t _ _ (fit f u w) (early {fault = a} e) = absurd (no_early t a f e)
  one_verdict m t _ _ (not_given {fault = a} e u) (not_given {fault = b} f v) = ap (λ o. refused (fault_or a o)) (sym u ∙ v)
  one_verdict m t _ _ (not_given e u) (late f v w) = let h : ⊥ = cc in absurd h
  one_verdict m t _ _ (not_given e u) (fit f v w) = let h : ⊥ = cc in absurd h
  one_verdict m t _ _ (late e u w) (not_given f v) = let h : ⊥ = cc in absurd h
  one_verdict m t _ _ (fit e u w) (not_given f v) = let h : ⊥ = cc in absurd h
  one_verdict m t _ _ (late {fault = a} e u w) (late {fault = b} f v x) = ap (λ o. refused (fault_or a o)) (single_late t (Some a) (Some b) w x)
  one_verdict m t _ _ (late {fault = a} e u w) (fit f v x) = absurd (no_late t a x w)
  one_verdict m t _ _ (fit e u w) (late {fault = a} f v x) = absurd (no_late t a w x)
  one_verdict m t _ _ (fit e u w) (fit f v x) = refl

  one_judgement : (tokens : List Token) (r s : Reading) → ReadsTokens Spells Early Late given text tokens r → ReadsTokens Spells Early Late given text tokens s → r ≡ s
  one_judgement tokens _ _ (no_sentence {left = m} f) (no_sentence {left = n} g) =
      ap (λ left. refused (Syntax (place_of text tokens left))) (one_fault (IsSentence Spells) (words given text tokens) m n f g)
  one_judgement tokens _ _ (no_sentence {left = m} f) (spelled {t = t} s v) = absurd (no_fault (IsSentence Spells) (words given text tokens) m (t, s) f)
  one_judgement tokens _ _ (spelled {t = t} s v) (no_sentence {left = m} f) = absurd (no_fault (IsSentence Spells) (words given text tokens) m (t, s) f)
  one_judgement tokens _ _ (spelled {t = t} {verdict = r} s v) (spelled {t = t'} {verdict = r'} s' v') =
      one_verdict (undefined given text tokens) t r r' v
      (subst (λ x. IsVerdict Early Late (undefined given text tokens) x r') (one_tree (words given text tokens) t' t s' s) v')

  abbrev Lexing : Type 0
  Lexing = Result (List Token) ℕ

  abbrev tokens_in : Lexing → List Token
  tokens_in (Ok tokens) = tokens
  tokens_in (Err place) = []

  abbrev place_in : Lexing → ℕ
  place_in (Ok tokens) = 0
  place_in (Err place) = place

  one_reading : ((r s : Lexing) → Lexes 0 text r → Lexes 0 text s → r ≡ s)
      → (r s : Reading) → Reads Spells Early Late given text r → Reads Spells Early Late given text s → r ≡ s
  one_reading one_lexing _ _ (too_long l) (too_long l') = refl
  one_reading one_lexing _ _ (too_long l) (no_token room x) = let h : ⊥ = omega (arith, l, room) in absurd h
  one_reading one_lexing _ _ (too_long l) (lexed room x y) = let h : ⊥ = omega (arith, l, room) in absurd h
  one_reading one_lexing _ _ (no_token room x) (too_long l) = let h : ⊥ = omega (arith, l, room) in absurd h
  one_reading one_lexing _ _ (lexed room x y) (too_long l) = let h : ⊥ = omega (arith, l, room) in absurd h
  one_reading one_lexing _ _ (no_token room x) (no_token room' x') = ap (λ o. refused (Syntax (place_in o))) (one_lexing _ _ x x')
  one_reading one_lexing _ _ (no_token room x) (lexed room' x' y) = let e = one_lexing _ _ x x' in let h : ⊥ = cc in absurd h
  one_reading one_lexing _ _ (lexed room x y) (no_token room' x') = let e = one_lexing _ _ x x' in let h : ⊥ = cc in absurd h
  one_reading one_lexing _ _ (lexed {tokens = a} {reading = r} room x y) (lexed {tokens = b} {reading = s} room' x' y') =
      one_judgement a r s y (subst (λ l. ReadsTokens Spells Early Late given text l s) (sym (ap tokens_in (one_lexing _ _ x x'))) y')

-- lists of words, and conditions, have one reading where texts have one lexing
abbrev pub LexesOnce : Type 0
LexesOnce = (text : List ℕ) (r s : Result (List Token) ℕ) → Lexes 0 text r → Lexes 0 text s → r ≡ s

single_none : {T : Type 0} (t : T) (m n : Option ParseEnd) → NoFault t m → NoFault t n → m ≡ n
single_none t m n e e' = e ∙ sym e'

single_paths : IsSingle PathsFault
single_paths t None None a b = refl
single_paths t (Some Overlap) (Some Overlap) a b = refl
single_paths t None (Some Overlap) a b = absurd (a b)
single_paths t (Some Overlap) None a b = absurd (b a)
single_paths t None (Some fault) a b = absurd b
single_paths t (Some fault) None a b = absurd a
single_paths t (Some Overlap) (Some fault) a b = absurd b
single_paths t (Some fault) n a b = absurd a

single_twice : IsSingle TwiceFault
single_twice cs m n e e' = e ∙ sym e'

single_update : IsSingle UpdateFault
single_update u None None a b = refl
single_update u (Some TooManyOperators) (Some TooManyOperators) a b = refl
single_update u (Some Overlap) (Some Overlap) a b = refl
single_update u None (Some Overlap) (few, apart) (f, overlap) = absurd (apart overlap)
single_update u (Some Overlap) None (f, overlap) (few, apart) = absurd (apart overlap)
single_update u None (Some TooManyOperators) (few, apart) many = let h : ⊥ = omega (arith, few, many) in absurd h
single_update u (Some TooManyOperators) None many (few, apart) = let h : ⊥ = omega (arith, few, many) in absurd h
single_update u (Some Overlap) (Some TooManyOperators) (few, overlap) many = let h : ⊥ = omega (arith, few, many) in absurd h
single_update u (Some TooManyOperators) (Some Overlap) many (few, overlap) = let h : ⊥ = omega (arith, few, many) in absurd h
single_update u None (Some fault) a b = absurd b
single_update u (Some Overlap) (Some fault) a b = absurd b
single_update u (Some TooManyOperators) (Some fault) a b = absurd b
single_update u (Some fault) n a b = absurd a

pub condition_once : LexesOnce → (given : Given) (text : List ℕ) (r s : Result Tree ParseEnd) → ReadsCondition given text r → ReadsCondition given text s → r ≡ s
condition_once lexing given text =
    one_reading (IsCondition most_levels) NoFault NoFault (one_condition most_levels) single_none single_none given text (lexing text)

pub paths_once : LexesOnce → (given : Given) (text : List ℕ) (r s : Result (List DocPath) ParseEnd) → ReadsPaths given text r → ReadsPaths given text s → r ≡ s
paths_once lexing given text = one_reading ArePaths NoFault PathsFault one_list single_none single_paths given text (lexing text)

clauses_once : LexesOnce → (given : Given) (text : List ℕ) (r s : Result (List SectionTree) ParseEnd) → ReadsClauses given text r → ReadsClauses given text s → r ≡ s
clauses_once lexing given text =
    one_reading (IsUpdate most_levels) TwiceFault ClausesFault (one_update most_levels) single_twice (λ cs. single_update (update_of cs)) given text (lexing text)

abbrev clauses_in : Result (List SectionTree) ParseEnd → List SectionTree
clauses_in (Ok cs) = cs
clauses_in (Err fault) = []

abbrev fault_in : Result (List SectionTree) ParseEnd → ParseEnd → ParseEnd
fault_in (Ok cs) d = d
fault_in (Err fault) d = fault

abbrev update_read : UpdateTree → Result UpdateTree ParseEnd
update_read u = Ok u

abbrev update_refused : ParseEnd → Result UpdateTree ParseEnd
update_refused fault = Err fault

pub update_once : LexesOnce → (given : Given) (text : List ℕ) (r s : Result UpdateTree ParseEnd) → ReadsUpdate given text r → ReadsUpdate given text s → r ≡ s
update_once lexing given text (Ok u) (Ok v) (cs, a, e) (ds, b, f) =
    ap update_read (sym e ∙ ap (λ x. update_of (clauses_in x)) (clauses_once lexing given text _ _ a b) ∙ f)
update_once lexing given text (Ok u) (Err fault) (cs, a, e) b = let same = clauses_once lexing given text _ _ a b in let h : ⊥ = cc in absurd h
update_once lexing given text (Err fault) (Ok v) a (ds, b, f) = let same = clauses_once lexing given text _ _ a b in let h : ⊥ = cc in absurd h
update_once lexing given text (Err fault) (Err other) a b = ap (λ x. update_refused (fault_in x fault)) (clauses_once lexing given text _ _ a b)
