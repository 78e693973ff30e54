-- Where the machine refuses a word, what was read begins a sentence, and no sentence goes on with that word.
use Rattle.std.proofs.Common.{◌≡◌, ◌≤◌, ℕ, List, [], ◌∷◌, ◌++◌, length, Option, Some, None, Result, Ok, Err, refl, sym, ap, subst, append_assoc, append-nil, arith, codes}
use Rattle.base_types.specs.declared.path.Step.TheVariants as step
use Rattle.expr_lexer.specs.declared.token.TokenKind.TheVariants as sign
use Rattle.expr_words.specs.declared.tree.Comparison.TheVariants as comparison
use Rattle.expr_words.specs.declared.tree.Operand.{Operand}
use Rattle.expr_words.specs.declared.tree.Operand.TheVariants as operand
use Rattle.expr_words.specs.Trees.{Compared, Choice, Located, OfValue, Alone, Removes}
use Rattle.expr_words.specs.Words.{Word, Bare, Held, Number, Sign, Barred}
use Rattle.expr_words.specs.Grammar.{written, no_step, IsOperand, a_path, a_value, equals, IsFlat, a_comparison, tail_ends, IsPart, no_more, located, valued, IsSum, alone, IsSection, removes, no_section}
use Rattle.expr_words.specs.Machine.{Kept, Whole, Side, Sides, Steps, Place, Listed, Termed, Summed, Assigned, Paired, Sections, Owed, ACondition, AConjunction, APart, MoreOr, MoreAnd, ARest, AnOperand, NamedPart, NamedOperand, MoreChoices, APath, MoreSteps, AField, AnIndex, AValue, MorePaths, ATerm, NamedTerm, ASum, MoreSum, MoreSets, MorePairs, ASection, MoreSections, ASign, ABar, Do, Action, Take, Pass, Refuse, act, apply, path_of, named, Point, after, next, ended, closing, going, reads}
use Rattle.expr_words.specs.Faults.{Stops, IsFault}
use Rattle.expr_words.proofs.Owing.{Then, After, AllAfter, split, closed}
use Rattle.expr_words.proofs.Sound.{Sound, sound, SoundEnd, sound_end, flat_part, bare_path, plain_term}

-- P is met by some words, whatever is kept
abbrev pub Reaches : Then → Type 0
Reaches P = (ks : List Kept) → (ts : List Word) × P ks ts

-- a condition, and an operand, of few words
value_part : (k : ℕ) → IsPart k (Held 0 ∷ Sign sign.Equal ∷ Held 0 ∷ []) (Compared comparison.Equal (operand.Value 0) (operand.Value 0))
value_part k = flat_part k (a_comparison (Held 0 ∷ []) (Held 0 ∷ []) (Sign sign.Equal) comparison.Equal (operand.Value 0) (operand.Value 0)
    (a_value 0 refl refl) equals (a_value 0 refl refl) refl refl)

compared : (k : ℕ) (front : List Word) (x : Operand) → IsOperand k front x
    → IsFlat k (front ++ Sign sign.Equal ∷ Held 0 ∷ []) (Compared comparison.Equal x (operand.Value 0))
compared k front x s = a_comparison front (Held 0 ∷ []) (Sign sign.Equal) comparison.Equal x (operand.Value 0) s equals (a_value 0 refl refl) refl refl

-- a sum, and a clause of an update, of few words
value_sum : (k : ℕ) → IsSum k (Held 0 ∷ []) (Alone (OfValue 0))
value_sum k =
    record { front = Held 0 ∷ []; more = []; first = OfValue 0; is_first = plain_term k (valued 0 refl refl); is_end = alone refl refl; spelled = refl }

a_removal : (k : ℕ) → IsSection k (Sign sign.Remove ∷ Bare (codes "a") ∷ []) (Removes (path_of (named (codes "a")) ∷ []))
a_removal k = removes (Bare (codes "a") ∷ []) (path_of (named (codes "a")) ∷ []) (record {
  front = Bare (codes "a") ∷ [];
  more = [];
  first = path_of (named (codes "a"));
  others = [];
  is_first = bare_path (codes "a") [] [] no_step;
  are_more = no_more;
  spelled = refl;
  listed = refl;
}) refl refl

-- whatever is owed can be spelled
fill : (o : Owed) (ks : List Kept) (P : Then) → Reaches P → (ts : List Word) × After o ks ts P
fill (ACondition k) ks P r =
    let t = Compared comparison.Equal (operand.Value 0) (operand.Value 0) in
    let front = Held 0 ∷ Sign sign.Equal ∷ Held 0 ∷ [] in
    let n = r (Whole t ∷ ks) in (
      front ++ n.0,
      (
        t,
        front,
        n.0,
        record {
          first = front;
          more = [];
          left = t;
          is_first = record { first = front; more = []; left = t; is_first = value_part k; is_more = tail_ends; spelled = refl };
          is_more = tail_ends;
          spelled = refl;
        },
        refl,
        n.1,
      ),
    )
fill (AConjunction k) ks P r =
    let t = Compared comparison.Equal (operand.Value 0) (operand.Value 0) in
    let front = Held 0 ∷ Sign sign.Equal ∷ Held 0 ∷ [] in
    let n = r (Whole t ∷ ks) in (
      front ++ n.0,
      (
        t,
        front,
        n.0,
        record { first = front; more = []; left = t; is_first = value_part k; is_more = tail_ends; spelled = refl },
        refl,
        n.1,
      ),
    )
fill (APart k) ks P r =
    let t = Compared comparison.Equal (operand.Value 0) (operand.Value 0) in
    let front = Held 0 ∷ Sign sign.Equal ∷ Held 0 ∷ [] in
    let n = r (Whole t ∷ ks) in
    (front ++ n.0, (t, front, n.0, value_part k, refl, n.1))
fill (MoreOr k) (Whole l ∷ ks) P r = let n = r (Whole l ∷ ks) in (n.0, (l, [], n.0, tail_ends, refl, n.1))
fill (MoreAnd k) (Whole l ∷ ks) P r = let n = r (Whole l ∷ ks) in (n.0, (l, [], n.0, tail_ends, refl, n.1))
fill (ARest k) (Side x ∷ ks) P r =
    let n = r (Whole (Compared comparison.Equal x (operand.Value 0)) ∷ ks) in
    (Sign sign.Equal ∷ Held 0 ∷ n.0, (Compared comparison.Equal x (operand.Value 0), Sign sign.Equal ∷ Held 0 ∷ [], n.0, (λ f g. compared k f x g), refl, n.1))
fill (AnOperand k) ks P r = let n = r (Side (operand.Value 0) ∷ ks) in (Held 0 ∷ n.0, (operand.Value 0, Held 0 ∷ [], n.0, a_value 0 refl refl, refl, n.1))
fill (NamedPart k name) ks P r =
    let x = operand.Path (path_of (named name)) in
    let n = r (Whole (Compared comparison.Equal x (operand.Value 0)) ∷ ks) in (
      Sign sign.Equal ∷ Held 0 ∷ n.0,
      (
        Compared comparison.Equal x (operand.Value 0),
        Sign sign.Equal ∷ Held 0 ∷ [],
        n.0,
        flat_part k (compared k (Bare name ∷ []) x (a_path (path_of (named name)) (bare_path name [] [] no_step) refl)),
        refl,
        n.1,
      ),
    )
fill (NamedOperand k name) ks P r =
    let x = operand.Path (path_of (named name)) in
    let n = r (Side x ∷ ks) in
    (n.0, (x, [], n.0, a_path (path_of (named name)) (bare_path name [] [] no_step) refl, refl, n.1))
fill (MoreChoices k left) (Sides ys ∷ Side x ∷ ks) P r =
    let n = r (Whole (Choice x (ys ++ [])) ∷ ks) in
    (Sign sign.CloseParenthesis ∷ n.0, ([], Sign sign.CloseParenthesis ∷ [], n.0, closed [] no_more (omega arith) refl, refl, n.1))
fill APath ks P r =
    let n = r (Steps (named (codes "a")) ∷ ks) in
    (Bare (codes "a") ∷ n.0, (named (codes "a"), Bare (codes "a") ∷ [], n.0, bare_path (codes "a") [] [] no_step, refl, n.1))
fill MoreSteps (Steps p ∷ ks) P r = let n = r (Steps (p ++ []) ∷ ks) in (n.0, ([], [], n.0, no_step, refl, n.1))
fill AField (Steps p ∷ ks) P r =
    let n = r (Steps (p ++ step.Name (codes "a") ∷ []) ∷ ks) in
    (Bare (codes "a") ∷ n.0, (codes "a", Bare (codes "a"), n.0, written, refl, n.1))
fill AnIndex (Steps p ∷ ks) P r = let n = r (Steps (p ++ step.Index 0 ∷ []) ∷ ks) in (Number 0 ∷ n.0, (0, n.0, refl, n.1))
fill AValue ks P r = let n = r (Place 0 ∷ ks) in (Held 0 ∷ n.0, (0, n.0, refl, n.1))
fill MorePaths (Listed ps ∷ ks) P r = let n = r (Listed (ps ++ []) ∷ ks) in (n.0, ([], [], n.0, no_more, refl, n.1))
fill (ATerm k) ks P r =
    let n = r (Termed (OfValue 0) ∷ ks) in (Held 0 ∷ n.0, (OfValue 0, Held 0 ∷ [], n.0, plain_term k (valued 0 refl refl), refl, n.1))
fill (NamedTerm k name) ks P r =
    let t = Located (path_of (named name)) in
    let n = r (Termed t ∷ ks) in
    (n.0, (t, [], n.0, plain_term k (located (path_of (named name)) (bare_path name [] [] no_step) refl), refl, n.1))
fill (ASum k) ks P r = let n = r (Summed (Alone (OfValue 0)) ∷ ks) in (Held 0 ∷ n.0, (Alone (OfValue 0), Held 0 ∷ [], n.0, value_sum k, refl, n.1))
fill (MoreSum k) (Termed t ∷ ks) P r = let n = r (Summed (Alone t) ∷ ks) in (n.0, (Alone t, [], n.0, alone refl refl, refl, n.1))
fill (MoreSets k) (Assigned xs ∷ ks) P r = let n = r (Assigned (xs ++ []) ∷ ks) in (n.0, ([], [], n.0, no_more, refl, n.1))
fill MorePairs (Paired xs ∷ ks) P r = let n = r (Paired (xs ++ []) ∷ ks) in (n.0, ([], [], n.0, no_more, refl, n.1))
fill (ASection k) (Sections cs ∷ ks) P r =
    let c = Removes (path_of (named (codes "a")) ∷ []) in
    let n = r (Sections (cs ++ c ∷ []) ∷ ks) in
    (Sign sign.Remove ∷ Bare (codes "a") ∷ n.0, (c, Sign sign.Remove ∷ Bare (codes "a") ∷ [], n.0, a_removal k, refl, n.1))
fill (MoreSections k) (Sections cs ∷ ks) P r = let n = r (Sections (cs ++ []) ∷ ks) in (n.0, ([], [], n.0, no_section, refl, n.1))
fill (ASign s) ks P r = let n = r ks in (Sign s ∷ n.0, (n.0, refl, n.1))
fill ABar ks P r = let n = r ks in (Barred ∷ n.0, (n.0, refl, n.1))
fill (Do effect) ks P r = r (apply effect ks)
fill o ks P r = ([], tt)

fill_all : (os : List Owed) (ks : List Kept) (P : Then) → Reaches P → (ts : List Word) × AllAfter os ks ts P
fill_all [] ks P r = r ks
fill_all (o ∷ os) ks P r = fill o ks (λ ks ts. AllAfter os ks ts P) (λ ks. fill_all os ks P r)

-- a step over a word is right for all that is owed
abbrev Right : List Owed → List Kept → Word → Option Point → Type 1
Right os ks t None = Unit {1}
Right os ks t (Some p) = (P : Then) (u : List Word) → AllAfter p.owed p.kept u P → AllAfter os ks (t ∷ u) P

after_right : (o : Owed) (os : List Owed) (ks : List Kept) (t : Word) (go : List Kept → Option Point) (a : Action)
    → Sound o ks t a → ((ks' : List Kept) → Right os ks' t (go ks')) → Right (o ∷ os) ks t (after os go a)
after_right o os ks t go (Take new ks') s h = λ P u p. s _ u (split new os ks' u P p)
after_right o os ks t go (Pass ks') s h = passed (go ks') (h ks') where
  passed : (x : Option Point) → Right os ks' t x → Right (o ∷ os) ks t x
  passed None r = tt
  passed (Some p) r = λ P u q. s _ (t ∷ u) (r P u q)
after_right o os ks t go Refuse s h = tt

next_right : (os : List Owed) (ks : List Kept) (t : Word) → Right os ks t (next os ks t)
next_right [] ks t = tt
next_right (o ∷ os) ks t = after_right o os ks t (λ ks. next os ks t) (act o ks (Some t)) (sound o ks t) (λ ks'. next_right os ks' t)

abbrev Answer : Type 0
Answer = Result (List Kept) ℕ

abbrev left_of : Answer → ℕ
left_of (Ok ks) = 0
left_of (Err left) = left

abbrev kept_of : Answer → List Kept
kept_of (Ok ks) = ks
kept_of (Err left) = []

-- the machine fails where `left` words are left, and what is before them can be gone on with
record Fails (ts : List Word) (os : List Owed) (ks : List Kept) (left : ℕ) : Type 1 where
  front : List Word
  back : List Word
  split_is : ts ≡ front ++ back
  left_is : length back ≡ left
  goes_on : (P : Then) → Reaches P → (more : List Word) × AllAfter os ks (front ++ more) P

closing_left : (os : List Owed) (ks : List Kept) (left : ℕ) → closing os ks ≡ Err left → 0 ≡ left
closing_left [] ks left e = let h : ⊥ = cc in absurd h
closing_left (o ∷ os) ks left e = go (act o ks None) e (λ ks. closing_left os ks left) where
  go : (a : Action) → ended (λ ks. closing os ks) a ≡ Err left → ((ks : List Kept) → closing os ks ≡ Err left → 0 ≡ left) → 0 ≡ left
  go (Take new ks') e ih = ap left_of e
  go (Pass ks') e ih = ih ks' e
  go Refuse e ih = ap left_of e

fails : (ts : List Word) (os : List Owed) (ks : List Kept) (left : ℕ) → reads ts os ks ≡ Err left → Fails ts os ks left
fails [] os ks left e = record { front = []; back = []; split_is = refl; left_is = closing_left os ks left e; goes_on = λ P r. fill_all os ks P r }
fails (t ∷ ts) os ks left e = go (next os ks t) (next_right os ks t) e (fails ts) where
  go : (x : Option Point) → Right os ks t x → going (reads ts) (length (t ∷ ts)) x ≡ Err left
      → ((os : List Owed) (ks : List Kept) (left : ℕ) → reads ts os ks ≡ Err left → Fails ts os ks left) → Fails (t ∷ ts) os ks left
  go None r e ih = record { front = []; back = t ∷ ts; split_is = refl; left_is = ap left_of e; goes_on = λ P r. fill_all os ks P r }
  go (Some p) r e ih =
      let f = ih p.owed p.kept left e in
      record {
        front = t ∷ f.front;
        back = f.back;
        split_is = ap (λ l. t ∷ l) f.split_is;
        left_is = f.left_is;
        goes_on = λ P q. let g = f.goes_on P q in (g.0, r P _ g.1);
      }

-- all is settled, and this is kept
abbrev Ends : List Kept → Then
Ends kept ks ts = (ts ≡ []) × (ks ≡ kept)

closing_right : (os : List Owed) (ks kept : List Kept) → closing os ks ≡ Ok kept → AllAfter os ks [] (Ends kept)
closing_right [] ks kept e = (refl, ap kept_of e)
closing_right (o ∷ os) ks kept e = go (act o ks None) (sound_end o ks) e (λ ks. closing_right os ks kept) where
  go : (a : Action) → SoundEnd o ks a → ended (λ ks. closing os ks) a ≡ Ok kept
      → ((ks : List Kept) → closing os ks ≡ Ok kept → AllAfter os ks [] (Ends kept)) → AllAfter (o ∷ os) ks [] (Ends kept)
  go (Take new ks') s e ih = let h : ⊥ = cc in absurd h
  go (Pass ks') s e ih = s _ (ih ks' e)
  go Refuse s e ih = let h : ⊥ = cc in absurd h

pub ok_right : (ts : List Word) (os : List Owed) (ks kept : List Kept) → reads ts os ks ≡ Ok kept → AllAfter os ks ts (Ends kept)
ok_right [] os ks kept e = closing_right os ks kept e
ok_right (t ∷ ts) os ks kept e = go (next os ks t) (next_right os ks t) e (ok_right ts) where
  go : (x : Option Point) → Right os ks t x → going (reads ts) (length (t ∷ ts)) x ≡ Ok kept
      → ((os : List Owed) (ks kept : List Kept) → reads ts os ks ≡ Ok kept → AllAfter os ks ts (Ends kept)) → AllAfter os ks (t ∷ ts) (Ends kept)
  go None r e ih = let h : ⊥ = cc in absurd h
  go (Some p) r e ih = r _ ts (ih p.owed p.kept kept e)

left_bound : (ts : List Word) (os : List Owed) (ks : List Kept) (left : ℕ) → reads ts os ks ≡ Err left → left ≤ length ts
left_bound [] os ks left e = let h = closing_left os ks left e in omega (arith, h)
left_bound (t ∷ ts) os ks left e = go (next os ks t) e (left_bound ts) where
  go : (x : Option Point) → going (reads ts) (length (t ∷ ts)) x ≡ Err left
      → ((os : List Owed) (ks : List Kept) (left : ℕ) → reads ts os ks ≡ Err left → left ≤ length ts) → left ≤ length (t ∷ ts)
  go None e ih = let h : length (t ∷ ts) ≡ left = ap left_of e in omega (arith, h)
  go (Some p) e ih = let h = ih p.owed p.kept left e in omega (arith, h)

-- what fails at a word fails whatever follows that word
stuck : (front : List Word) (t : Word) (ts more : List Word) (os : List Owed) (ks : List Kept)
    → reads (front ++ t ∷ ts) os ks ≡ Err (length (t ∷ ts)) → (n : ℕ) × (reads (front ++ t ∷ more) os ks ≡ Err n)
stuck [] t ts more os ks e = go (next os ks t) e where
  go : (x : Option Point) → going (reads ts) (length (t ∷ ts)) x ≡ Err (length (t ∷ ts)) → (n : ℕ) × (going (reads more) (length (t ∷ more)) x ≡ Err n)
  go None e = (length (t ∷ more), refl)
  go (Some p) e = let h = left_bound ts p.owed p.kept (length (t ∷ ts)) e in let h2 : ⊥ = omega (arith, h) in absurd h2
stuck (s ∷ front) t ts more os ks e = go (next os ks s) e (stuck front t ts more) where
  go : (x : Option Point) → going (reads (front ++ t ∷ ts)) (length (s ∷ (front ++ t ∷ ts))) x ≡ Err (length (t ∷ ts))
      → ((os : List Owed) (ks : List Kept) → reads (front ++ t ∷ ts) os ks ≡ Err (length (t ∷ ts)) → (n : ℕ) × (reads (front ++ t ∷ more) os ks ≡ Err n))
      → (n : ℕ) × (going (reads (front ++ t ∷ more)) (length (s ∷ (front ++ t ∷ more))) x ≡ Err n)
  go None e ih = (length (s ∷ (front ++ t ∷ more)), refl)
  go (Some p) e ih = ih p.owed p.kept e

-- Where the machine fails is the fault, by the language that it starts with: what settles the start is a sentence, and the machine reads
-- every sentence.
pub is_fault : (S : List Word → Type 0) (os : List Owed)
    → ((ts : List Word) → AllAfter os [] ts (λ ks ts. ts ≡ []) → S ts)
    → ((ts : List Word) → S ts → (ks : List Kept) × (reads ts os [] ≡ Ok ks))
    → (ts : List Word) (left : ℕ) → reads ts os [] ≡ Err left → IsFault S ts left
is_fault S os settled complete ts left e =
    let f = fails ts os [] left e in
    record {
      front = f.front;
      back = f.back;
      whole = f.split_is;
      left_is = f.left_is;
      begins = (let g = f.goes_on (λ ks ts. ts ≡ []) (λ ks. ([], refl)) in record { more = g.0; is_sentence = settled (f.front ++ g.0) g.1 });
      stops = stops f.front f.back (subst (λ l. reads l os [] ≡ Err left) f.split_is e) f.left_is;
    } where
      stops : (front back : List Word) → reads (front ++ back) os [] ≡ Err left → length back ≡ left → Stops S front back
      stops front [] e is = λ s.
          let read = complete front s in
          let refused : reads front os [] ≡ Err left = subst (λ l. reads l os [] ≡ Err left) (append-nil front) e in
          let h : ⊥ = cc in absurd h
      stops front (t ∷ ts) e is = λ b.
          let read = complete ((front ++ t ∷ []) ++ b.more) b.is_sentence in
          let failed = stuck front t ts b.more os [] (subst (λ n. reads (front ++ t ∷ ts) os [] ≡ Err n) (sym is) e) in
          let refused : reads ((front ++ t ∷ []) ++ b.more) os [] ≡ Err failed.0 = subst (λ l. reads l os [] ≡ Err failed.0) (sym (append_assoc front (t ∷ []) b.more)) failed.1 in
          let h : ⊥ = cc in absurd h
