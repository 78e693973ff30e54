-- What the machine does is right: where a word is taken, settling what is owed then settles what was owed before.
use Rattle.std.proofs.Common.{◌≡◌, ℕ, zero, suc, List, [], ◌∷◌, ◌++◌, Some, None, refl, sym, ap, subst, ◌∙◌, inl, inr, append_assoc, append-nil, arith}
use Rattle.base_types.specs.declared.path.DocPath.{DocPath}
use Rattle.base_types.specs.declared.path.Step.{Step}
use Rattle.base_types.specs.declared.path.Step.TheVariants as step
use Rattle.expr_lexer.specs.declared.token.TokenKind.TheVariants as sign
use Rattle.expr_words.specs.declared.tree.Comparison.{Comparison}
use Rattle.expr_words.specs.declared.tree.Comparison.TheVariants as comparison
use Rattle.expr_words.specs.declared.tree.Operand.{Operand}
use Rattle.expr_words.specs.declared.tree.Operand.TheVariants as operand
use Rattle.expr_words.specs.declared.function.Function.{Function}
use Rattle.expr_words.specs.declared.function.Function.TheVariants as function
use Rattle.expr_words.specs.Trees.{Tree, Negation, Compared, Range, Choice, Presence, Absence, KindTest, FrontTest, PartTest, TermTree, Located, OfValue, OrElse, Appended, SumTree, Alone, Plus, Minus, SetTree, SectionTree, Sets, Removes, Adds, Deletes}
use Rattle.expr_words.specs.declared.tree.PathValue.{PathValue}
use Rattle.expr_lexer.specs.declared.token.TokenKind.{TokenKind}
use Rattle.expr_words.specs.Words.{Word, Bare, Placed, Held, Number, Sign, Barred}
use Rattle.expr_words.specs.Functions.{function_of}
use Rattle.expr_words.specs.Grammar.{written, placed, AreSteps, no_step, a_field, an_element, IsPath, IsOperand, a_path, a_value, a_size, IsComparison, equals, differs, is_less, is_at_most, is_more_than, is_at_least, IsPathTest, exists, not_exists, IsOperandTest, begins, contains, IsFlat, a_comparison, a_range, a_choice, a_path_test, a_kind_test, an_operand_test, a_barred_parenthesis, a_barred_choice, tail_ends, tail_goes, IsPart, AreMore, no_more, one_more, AreListed, IsPlainTerm, located, valued, IsTermCall, an_or_else, an_append, IsTerm, IsSumEnd, alone, plus, minus, IsSet, IsPair, IsSection, sets, removes, adds, deletes, no_section, a_section}
use Rattle.expr_words.specs.Machine.{Kept, Whole, Side, Sides, Steps, Listed, Termed, Summed, Assigned, Paired, Sections, Owed, ACondition, AConjunction, APart, MoreOr, MoreAnd, ARest, AnOperand, NamedPart, NamedOperand, MoreChoices, APath, MoreSteps, AField, AnIndex, AValue, MorePaths, ATerm, NamedTerm, ASum, MoreSum, MoreSets, MorePairs, ASection, MoreSections, ASign, ABar, Do, Action, OfPath, OfSides, EndSets, EndPairs, Take, Pass, Refuse, also, act, path_of, named, on_call, on_operand_call, on_rest, on_part, on_choices, on_named_part, on_named_operand, a_set, a_pair, set_to, pair_of, on_term, on_term_call, on_named_term, on_more_sum, on_section, or_pass, on_same, on_sign}
use Rattle.expr_words.proofs.Names.{IsCalled, is_called}
use Rattle.expr_words.proofs.Owing.{Then, After, AllAfter, split, two, three, IsListEnd, closed, barred}

-- what an action at the word t says of what was owed
abbrev pub Sound : Owed → List Kept → Word → Action → Type 1
Sound o ks t (Take new ks') = (P : Then) (u : List Word) → AllAfter new ks' u P → After o ks (t ∷ u) P
Sound o ks t (Pass ks') = (P : Then) (u : List Word) → P ks' u → After o ks u P
Sound o ks t Refuse = Unit {1}

-- kept in another shape than the machine ever has it, nothing is said
junk : (o : Owed) (ks : List Kept) (t : Word) (a : Action) → ((P : Then) (u : List Word) → After o ks u P) → Sound o ks t a
junk o ks t (Take new ks') h = λ P u _. h P (t ∷ u)
junk o ks t (Pass ks') h = λ P u _. h P u
junk o ks t Refuse h = tt

also_sound : (o o' : Owed) (ks : List Kept) (t : Word) (behind : List Owed) (a : Action)
    → ((P : Then) (u : List Word) → After o ks u (λ ks ts. AllAfter behind ks ts P) → After o' ks u P)
    → Sound o ks t a → Sound o' ks t (also behind a)
also_sound o o' ks t behind (Take new ks') h s = λ P u p. h P (t ∷ u) (s _ u (split new behind ks' u P p))
also_sound o o' ks t behind (Pass ks') h s = tt
also_sound o o' ks t behind Refuse h s = tt

pub flat_part : (k : ℕ) {ts : List Word} {t : Tree} → IsFlat k ts t → IsPart k ts t
flat_part zero s = s
flat_part (suc k) s = inl s

-- a bare name, and a placeholder, with the steps behind it
pub bare_path : (name : List ℕ) (ts : List Word) (q : List Step) → AreSteps ts q → IsPath (Bare name ∷ ts) (path_of (step.Name name ∷ q))
bare_path name ts q s = record { first = Bare name; name = name; more = ts; steps = q; is_first = written; are_more = s; spelled = refl; path_is = refl }

pub placed_path : (name : List ℕ) (ts : List Word) (q : List Step) → AreSteps ts q → IsPath (Placed name ∷ ts) (path_of (step.Name name ∷ q))
placed_path name ts q s = record { first = Placed name; name = name; more = ts; steps = q; is_first = placed; are_more = s; spelled = refl; path_is = refl }

-- what is closed by one word
closes : {ts : List Word} (a : List Word) (t : Word) (b2 : List Word) {b : List Word} → ts ≡ a ++ b → b ≡ t ∷ b2 → ts ≡ (a ++ t ∷ []) ++ b2
closes a t b2 e e2 = two a (t ∷ []) b2 e e2

compares : (k : ℕ) (x : Operand) (ks : List Kept) (w : Word) (op : Comparison) → IsComparison w op
    → Sound (ARest k) (Side x ∷ ks) w (Take (AnOperand k ∷ Do (OfSides (Compared op)) ∷ []) (Side x ∷ ks))
compares k x ks w op c = λ P u (y, a, b, s, e, p). (Compared op x y, w ∷ a, b, (λ f g. a_comparison f a w op x y g c s refl refl), ap (λ l. w ∷ l) e, p)

-- a list of choices as the end of an IN
among : (k : ℕ) (f a : List Word) (x y : Operand) (zs : List Operand) (a2 : List Word) → IsOperand (suc k) f x → IsOperand k a y → IsListEnd k 99 zs a2
    → IsFlat (suc k) (f ++ Sign sign.In ∷ Sign sign.OpenParenthesis ∷ (a ++ a2)) (Choice x (y ∷ zs))
among k f a x y zs a2 g s (closed m are few is) =
    a_choice f a m x y zs k refl g s are (omega (arith, few)) (ap (λ l. f ++ Sign sign.In ∷ Sign sign.OpenParenthesis ∷ (a ++ l)) is) refl
among k f a x y zs a2 g s (barred m are most is) =
    a_barred_choice f a m x y zs k refl g s are (omega (arith, most)) (ap (λ l. f ++ Sign sign.In ∷ Sign sign.OpenParenthesis ∷ (a ++ l)) is) refl

rest : (k : ℕ) (x : Operand) (ks : List Kept) (t : Word) → Sound (ARest k) (Side x ∷ ks) t (on_rest k (Side x ∷ ks) (Some t))
rest k x ks (Sign sign.Equal) = compares k x ks (Sign sign.Equal) comparison.Equal equals
rest k x ks (Sign sign.Unequal) = compares k x ks (Sign sign.Unequal) comparison.Unequal differs
rest k x ks (Sign sign.Less) = compares k x ks (Sign sign.Less) comparison.Less is_less
rest k x ks (Sign sign.AtMost) = compares k x ks (Sign sign.AtMost) comparison.AtMost is_at_most
rest k x ks (Sign sign.More) = compares k x ks (Sign sign.More) comparison.More is_more_than
rest k x ks (Sign sign.AtLeast) = compares k x ks (Sign sign.AtLeast) comparison.AtLeast is_at_least
rest k x ks (Sign sign.Between) = λ P u (y, a, b, s, e, (b2, e2, (z, c, d, s2, e3, p))). (
  Range x y z,
  Sign sign.Between ∷ (a ++ Sign sign.And ∷ c),
  d,
  (λ f g. a_range f a c x y z g s s2 refl refl),
  ap (λ l. Sign sign.Between ∷ l) (two a (Sign sign.And ∷ c) d e (e2 ∙ ap (λ l. Sign sign.And ∷ l) e3)),
  p,
)
rest (suc k) x ks (Sign sign.In) = λ P u (b, e, (y, a, b2, s, e2, (zs, a2, b3, l, e3, p))). (
  Choice x (y ∷ zs),
  Sign sign.In ∷ Sign sign.OpenParenthesis ∷ (a ++ a2),
  b3,
  (λ f g. among k f a x y zs a2 g s l),
  ap (λ l. Sign sign.In ∷ l) (e ∙ ap (λ l. Sign sign.OpenParenthesis ∷ l) (two a a2 b3 e2 e3)),
  p,
)
rest zero x ks (Sign sign.In) = λ P u (b, e, p).
    (Choice x [], Sign sign.In ∷ Barred ∷ [], b, (λ f g. a_barred_parenthesis f x refl g refl refl), ap (λ l. Sign sign.In ∷ l) e, p)
rest k x ks t = tt

part : (k : ℕ) (ks : List Kept) (t : Word) → Sound (APart k) ks t (on_part k ks (Some t))
part k ks (Bare name) = λ P u (t, a, b, s, e, p). (t, Bare name ∷ a, b, s, ap (λ l. Bare name ∷ l) e, p)
part k ks (Placed name) = λ P u (q, a, b, s, e, (t, a2, b2, f, e2, p)). (
  t,
  Placed name ∷ (a ++ a2),
  b2,
  flat_part k (f (Placed name ∷ a) (a_path (path_of (step.Name name ∷ q)) (placed_path name a q s) refl)),
  ap (λ l. Placed name ∷ l) (two a a2 b2 e e2),
  p,
)
part k ks (Held value) = λ P u (t, a, b, f, e, p).
    (t, Held value ∷ a, b, flat_part k (f (Held value ∷ []) (a_value value refl refl)), ap (λ l. Held value ∷ l) e, p)
part (suc k) ks (Sign sign.Not) = λ P u (t, a, b, s, e, p). (
  Negation t,
  Sign sign.Not ∷ a,
  b,
  inr (inl (record { inner = a; negated = t; is_inner = s; spelled = refl; tree_is = refl })),
  ap (λ l. Sign sign.Not ∷ l) e,
  p,
)
part (suc k) ks (Sign sign.OpenParenthesis) = λ P u (t, a, b, s, e, (b2, e2, p)). (
  t,
  Sign sign.OpenParenthesis ∷ (a ++ Sign sign.CloseParenthesis ∷ []),
  b2,
  inr (inr (record { inner = a; is_inner = s; spelled = refl })),
  ap (λ l. Sign sign.OpenParenthesis ∷ l) (closes a (Sign sign.CloseParenthesis) b2 e e2),
  p,
)
part k ks t = tt

-- a call of one path
path_call : (k : ℕ) (name : List ℕ) (ks : List Kept) (of : DocPath → Tree) → IsPathTest name of
    → Sound (NamedPart (suc k) name) ks (Sign sign.OpenParenthesis) (Take (APath ∷ ASign sign.CloseParenthesis ∷ Do (OfPath of) ∷ []) ks)
path_call k name ks of c = λ P u (p, a, b, s, e, (b2, e2, r)). (
  of (path_of p),
  Sign sign.OpenParenthesis ∷ (a ++ Sign sign.CloseParenthesis ∷ []),
  b2,
  inl (a_path_test name of a (path_of p) (omega arith) c s refl refl),
  ap (λ l. Sign sign.OpenParenthesis ∷ l) (closes a (Sign sign.CloseParenthesis) b2 e e2),
  r,
)

-- a call of two operands
operand_call : (k : ℕ) (name : List ℕ) (ks : List Kept) (of : Operand → Operand → Tree) → IsOperandTest name of
    → Sound (NamedPart (suc k) name) ks (Sign sign.OpenParenthesis) (Take (AnOperand k ∷ ASign sign.Comma ∷ AnOperand k ∷ ASign sign.CloseParenthesis ∷ Do (OfSides of) ∷ []) ks)
operand_call k name ks of c = λ P u (x, a, b, s, e, (b2, e2, (y, a3, b3, s3, e3, (b4, e4, r)))). (
  of x y,
  Sign sign.OpenParenthesis ∷ (a ++ Sign sign.Comma ∷ (a3 ++ Sign sign.CloseParenthesis ∷ [])),
  b4,
  inl (an_operand_test name of a a3 x y k refl c s s3 refl refl),
  ap (λ l. Sign sign.OpenParenthesis ∷ l)
      (two a (Sign sign.Comma ∷ (a3 ++ Sign sign.CloseParenthesis ∷ [])) b4 e (e2 ∙ ap (λ l. Sign sign.Comma ∷ l) (closes a3 (Sign sign.CloseParenthesis) b4 e3 e4))),
  r,
)

call : (f : Function) (k : ℕ) (name : List ℕ) (ks : List Kept) → IsCalled f name
    → Sound (NamedPart k name) ks (Sign sign.OpenParenthesis) (on_call f k ks)
call function.Size (suc k) name ks n = λ P u (p, a, b, s, e, (b2, e2, (t, a3, b3, f, e3, r))). (
  t,
  Sign sign.OpenParenthesis ∷ ((a ++ Sign sign.CloseParenthesis ∷ []) ++ a3),
  b3,
  inl (f (Bare name ∷ Sign sign.OpenParenthesis ∷ (a ++ Sign sign.CloseParenthesis ∷ []))
      (a_size (path_of p) a (omega arith) s (ap (λ m. Bare m ∷ Sign sign.OpenParenthesis ∷ (a ++ Sign sign.CloseParenthesis ∷ [])) n) refl)),
  ap (λ l. Sign sign.OpenParenthesis ∷ l) (three a (Sign sign.CloseParenthesis ∷ []) a3 b3 e e2 e3),
  r,
)
call function.Exists (suc k) name ks n = path_call k name ks Presence (subst (λ m. IsPathTest m Presence) (sym n) exists)
call function.NotExists (suc k) name ks n = path_call k name ks Absence (subst (λ m. IsPathTest m Absence) (sym n) not_exists)
call function.HasType (suc k) name ks n = λ P u (p, a, b, s, e, (b2, e2, (v, b3, e3, (b4, e4, r)))). (
  KindTest (path_of p) v,
  Sign sign.OpenParenthesis ∷ (a ++ Sign sign.Comma ∷ Held v ∷ Sign sign.CloseParenthesis ∷ []),
  b4,
  inl (a_kind_test a (path_of p) v (omega arith) s
      (ap (λ m. Bare m ∷ Sign sign.OpenParenthesis ∷ (a ++ Sign sign.Comma ∷ Held v ∷ Sign sign.CloseParenthesis ∷ [])) n) refl),
  ap (λ l. Sign sign.OpenParenthesis ∷ l)
      (two a (Sign sign.Comma ∷ Held v ∷ Sign sign.CloseParenthesis ∷ []) b4 e (e2 ∙ ap (λ l. Sign sign.Comma ∷ l) (e3 ∙ ap (λ l. Held v ∷ l) e4))),
  r,
)
call function.BeginsWith (suc k) name ks n = operand_call k name ks FrontTest (subst (λ m. IsOperandTest m FrontTest) (sym n) begins)
call function.Contains (suc k) name ks n = operand_call k name ks PartTest (subst (λ m. IsOperandTest m PartTest) (sym n) contains)
call f k name ks n = tt

operand_size : (f : Function) (k : ℕ) (name : List ℕ) (ks : List Kept) → IsCalled f name
    → Sound (NamedOperand k name) ks (Sign sign.OpenParenthesis) (on_operand_call f k ks)
operand_size function.Size (suc k) name ks n = λ P u (p, a, b, s, e, (b2, e2, r)). (
  operand.Size (path_of p),
  Sign sign.OpenParenthesis ∷ (a ++ Sign sign.CloseParenthesis ∷ []),
  b2,
  a_size (path_of p) a (omega arith) s (ap (λ m. Bare m ∷ Sign sign.OpenParenthesis ∷ (a ++ Sign sign.CloseParenthesis ∷ [])) n) refl,
  ap (λ l. Sign sign.OpenParenthesis ∷ l) (closes a (Sign sign.CloseParenthesis) b2 e e2),
  r,
)
operand_size f k name ks n = tt

-- a choice more at the front
more_end : (k left : ℕ) (a : List Word) (y : Operand) (zs : List Operand) (a2 : List Word) → IsOperand k a y → IsListEnd k left zs a2
    → IsListEnd k (suc left) (y ∷ zs) (Sign sign.Comma ∷ (a ++ a2))
more_end k left a y zs a2 s (closed m are few is) =
    closed (Sign sign.Comma ∷ (a ++ m)) (one_more s are) (omega (arith, few))
    (ap (λ l. Sign sign.Comma ∷ (a ++ l)) is ∙ ap (λ l. Sign sign.Comma ∷ l) (sym (append_assoc a m (Sign sign.CloseParenthesis ∷ []))))
more_end k left a y zs a2 s (barred m are most is) =
    barred (Sign sign.Comma ∷ (a ++ m)) (one_more s are) (omega (arith, most))
    (ap (λ l. Sign sign.Comma ∷ (a ++ l)) is ∙ ap (λ l. Sign sign.Comma ∷ l) (sym (append_assoc a m (Sign sign.Comma ∷ Barred ∷ []))))

choices : (k left : ℕ) (ys : List Operand) (x : Operand) (ks : List Kept) (t : Word)
    → Sound (MoreChoices k left) (Sides ys ∷ Side x ∷ ks) t (on_choices k left (Sides ys ∷ Side x ∷ ks) (Some t))
choices k (suc left) ys x ks (Sign sign.Comma) = λ P u (y, a, b, s, e, (zs, a2, b2, l, e2, p)). (
  y ∷ zs,
  Sign sign.Comma ∷ (a ++ a2),
  b2,
  more_end k left a y zs a2 s l,
  ap (λ l. Sign sign.Comma ∷ l) (two a a2 b2 e e2),
  subst (λ l. P (Whole (Choice x l) ∷ ks) b2) (append_assoc ys (y ∷ []) zs) p,
)
choices k zero ys x ks (Sign sign.Comma) = λ P u (b, e, p). (
  [],
  Sign sign.Comma ∷ Barred ∷ [],
  b,
  barred [] no_more refl refl,
  ap (λ l. Sign sign.Comma ∷ l) e,
  subst (λ l. P (Whole (Choice x l) ∷ ks) b) (sym (append-nil ys)) p,
)
choices k left ys x ks (Sign sign.CloseParenthesis) = λ P u p.
    ([], Sign sign.CloseParenthesis ∷ [], u, closed [] no_more (omega arith) refl, refl, subst (λ l. P (Whole (Choice x l) ∷ ks) u) (sym (append-nil ys)) p)
choices k left ys x ks t = tt

-- an action does not pass
abbrev Takes : Action → Type 0
Takes (Pass ks) = ⊥
Takes a = Unit {0}

-- what follows a first operand is taken or refused
named_rest : (k : ℕ) (name : List ℕ) (ks : List Kept) (t : Word) (a : Action) → Takes a
    → Sound (ARest k) (Side (operand.Path (path_of (named name))) ∷ ks) t a → Sound (NamedPart k name) ks t a
named_rest k name ks t (Take new ks') h s = λ P u p. of_rest P (t ∷ u) (s P u p) where
  of_rest : (P : Then) (u : List Word) → After (ARest k) (Side (operand.Path (path_of (named name))) ∷ ks) u P → After (NamedPart k name) ks u P
  of_rest P u (t, a, b, f, e, p) = (t, a, b, flat_part k (f (Bare name ∷ []) (a_path (path_of (named name)) (bare_path name [] [] no_step) refl)), e, p)
named_rest k name ks t (Pass ks') h s = absurd h
named_rest k name ks t Refuse h s = tt

rest_takes : (k : ℕ) (ks : List Kept) (t : Word) → Takes (on_rest k ks (Some t))
rest_takes (suc k) ks (Sign sign.In) = tt
rest_takes zero ks (Sign sign.In) = tt
rest_takes k ks t = tt

named_part : (k : ℕ) (name : List ℕ) (ks : List Kept) (t : Word) → Sound (NamedPart k name) ks t (on_named_part k name ks (Some t))
named_part k name ks (Sign sign.OpenParenthesis) = call (function_of name) k name ks (is_called name)
named_part k name ks (Sign sign.Dot) = λ P u (field, w, b, n, e, (q, a, b2, s, e2, (t, a3, b3, f, e3, p))). (
  t,
  Sign sign.Dot ∷ w ∷ (a ++ a3),
  b3,
  flat_part k (f (Bare name ∷ Sign sign.Dot ∷ w ∷ a) (a_path (path_of (step.Name name ∷ step.Name field ∷ q)) (bare_path name (Sign sign.Dot ∷ w ∷ a) (step.Name field ∷ q) (a_field n s)) refl)),
  ap (λ l. Sign sign.Dot ∷ l) (e ∙ ap (λ l. w ∷ l) (two a a3 b3 e2 e3)),
  p,
)
named_part k name ks (Sign sign.OpenBracket) = λ P u (i, b, e, (b2, e2, (q, a, b3, s, e3, (t, a4, b4, f, e4, p)))). (
  t,
  Sign sign.OpenBracket ∷ Number i ∷ Sign sign.CloseBracket ∷ (a ++ a4),
  b4,
  flat_part k (f (Bare name ∷ Sign sign.OpenBracket ∷ Number i ∷ Sign sign.CloseBracket ∷ a)
      (a_path (path_of (step.Name name ∷ step.Index i ∷ q)) (bare_path name (Sign sign.OpenBracket ∷ Number i ∷ Sign sign.CloseBracket ∷ a) (step.Index i ∷ q) (an_element s)) refl)),
  ap (λ l. Sign sign.OpenBracket ∷ l) (e ∙ ap (λ l. Number i ∷ l) (e2 ∙ ap (λ l. Sign sign.CloseBracket ∷ l) (two a a4 b4 e3 e4))),
  p,
)
named_part k name ks t =
    named_rest k name ks t (on_rest k (Side (operand.Path (path_of (named name))) ∷ ks) (Some t)) (rest_takes k (Side (operand.Path (path_of (named name))) ∷ ks) t)
    (rest k (operand.Path (path_of (named name))) ks t)

named_operand : (k : ℕ) (name : List ℕ) (ks : List Kept) (t : Word) → Sound (NamedOperand k name) ks t (on_named_operand k name ks (Some t))
named_operand k name ks (Sign sign.OpenParenthesis) = operand_size (function_of name) k name ks (is_called name)
named_operand k name ks (Sign sign.Dot) = λ P u (field, w, b, n, e, (q, a, b2, s, e2, p)). (
  operand.Path (path_of (step.Name name ∷ step.Name field ∷ q)),
  Sign sign.Dot ∷ w ∷ a,
  b2,
  a_path (path_of (step.Name name ∷ step.Name field ∷ q)) (bare_path name (Sign sign.Dot ∷ w ∷ a) (step.Name field ∷ q) (a_field n s)) refl,
  ap (λ l. Sign sign.Dot ∷ l) (e ∙ ap (λ l. w ∷ l) e2),
  p,
)
named_operand k name ks (Sign sign.OpenBracket) = λ P u (i, b, e, (b2, e2, (q, a, b3, s, e3, p))). (
  operand.Path (path_of (step.Name name ∷ step.Index i ∷ q)),
  Sign sign.OpenBracket ∷ Number i ∷ Sign sign.CloseBracket ∷ a,
  b3,
  a_path (path_of (step.Name name ∷ step.Index i ∷ q)) (bare_path name (Sign sign.OpenBracket ∷ Number i ∷ Sign sign.CloseBracket ∷ a) (step.Index i ∷ q) (an_element s)) refl,
  ap (λ l. Sign sign.OpenBracket ∷ l) (e ∙ ap (λ l. Number i ∷ l) (e2 ∙ ap (λ l. Sign sign.CloseBracket ∷ l) e3)),
  p,
)
named_operand k name ks t = λ P u p.
    (operand.Path (path_of (named name)), [], u, a_path (path_of (named name)) (bare_path name [] [] no_step) refl, refl, p)

steps : (p : List Step) (ks : List Kept) (t : Word) → Sound MoreSteps (Steps p ∷ ks) t (act MoreSteps (Steps p ∷ ks) (Some t))
steps p ks (Sign sign.Dot) = λ P u (field, w, b, n, e, (q, a, b2, s, e2, r)). (
  step.Name field ∷ q,
  Sign sign.Dot ∷ w ∷ a,
  b2,
  a_field n s,
  ap (λ l. Sign sign.Dot ∷ l) (e ∙ ap (λ l. w ∷ l) e2),
  subst (λ l. P (Steps l ∷ ks) b2) (append_assoc p (step.Name field ∷ []) q) r,
)
steps p ks (Sign sign.OpenBracket) = λ P u (i, b, e, (b2, e2, (q, a, b3, s, e3, r))). (
  step.Index i ∷ q,
  Sign sign.OpenBracket ∷ Number i ∷ Sign sign.CloseBracket ∷ a,
  b3,
  an_element s,
  ap (λ l. Sign sign.OpenBracket ∷ l) (e ∙ ap (λ l. Number i ∷ l) (e2 ∙ ap (λ l. Sign sign.CloseBracket ∷ l) e3)),
  subst (λ l. P (Steps l ∷ ks) b3) (append_assoc p (step.Index i ∷ []) q) r,
)
steps p ks t = λ P u r. ([], [], u, no_step, refl, subst (λ l. P (Steps l ∷ ks) u) (sym (append-nil p)) r)

more_paths : (ps : List DocPath) (ks : List Kept) (t : Word) → Sound MorePaths (Listed ps ∷ ks) t (act MorePaths (Listed ps ∷ ks) (Some t))
more_paths ps ks (Sign sign.Comma) = λ P u (p, a, b, s, e, (qs, a2, b2, are, e2, r)). (
  path_of p ∷ qs,
  Sign sign.Comma ∷ (a ++ a2),
  b2,
  one_more s are,
  ap (λ l. Sign sign.Comma ∷ l) (two a a2 b2 e e2),
  subst (λ l. P (Listed l ∷ ks) b2) (append_assoc ps (path_of p ∷ []) qs) r,
)
more_paths ps ks t = λ P u r. ([], [], u, no_more, refl, subst (λ l. P (Listed l ∷ ks) u) (sym (append-nil ps)) r)

conjunction : (k : ℕ) (ks : List Kept) (P : Then) (u : List Word) → After (APart k) ks u (λ ks ts. AllAfter (MoreAnd k ∷ []) ks ts P)
    → After (AConjunction k) ks u P
conjunction k ks P u (t, a, b, s, e, (t2, a2, b2, s2, e2, p)) =
    (t2, a ++ a2, b2, record { first = a; more = a2; left = t; is_first = s; is_more = s2; spelled = refl }, two a a2 b2 e e2, p)

condition : (k : ℕ) (ks : List Kept) (P : Then) (u : List Word)
    → After (APart k) ks u (λ ks ts. AllAfter (MoreAnd k ∷ MoreOr k ∷ []) ks ts P) → After (ACondition k) ks u P
condition k ks P u (t, a, b, s, e, (t2, a2, b2, s2, e2, (t3, a3, b3, s3, e3, p))) = (
  t3,
  (a ++ a2) ++ a3,
  b3,
  record {
    first = a ++ a2;
    more = a3;
    left = t2;
    is_first = record { first = a; more = a2; left = t; is_first = s; is_more = s2; spelled = refl };
    is_more = s3;
    spelled = refl;
  },
  three a a2 a3 b3 e e2 e3,
  p,
)

same_sign : (s t : TokenKind) (ks : List Kept) → Sound (ASign s) ks (Sign t) (on_same s t ks)
same_sign sign.OpenParenthesis sign.OpenParenthesis ks = λ P u p. (u, refl, p)
same_sign sign.CloseParenthesis sign.CloseParenthesis ks = λ P u p. (u, refl, p)
same_sign sign.CloseBracket sign.CloseBracket ks = λ P u p. (u, refl, p)
same_sign sign.And sign.And ks = λ P u p. (u, refl, p)
same_sign sign.Comma sign.Comma ks = λ P u p. (u, refl, p)
same_sign sign.Equal sign.Equal ks = λ P u p. (u, refl, p)
same_sign s t ks = tt

a_sign : (s : TokenKind) (ks : List Kept) (t : Word) → Sound (ASign s) ks t (on_sign s ks (Some t))
a_sign s ks (Sign t) = same_sign s t ks
a_sign s ks t = tt

pub plain_term : (k : ℕ) {ts : List Word} {t : TermTree} → IsPlainTerm ts t → IsTerm k ts t
plain_term zero s = s
plain_term (suc k) s = inl s

term : (k : ℕ) (ks : List Kept) (t : Word) → Sound (ATerm k) ks t (on_term k ks (Some t))
term k ks (Bare name) = λ P u (t, a, b, s, e, p). (t, Bare name ∷ a, b, s, ap (λ l. Bare name ∷ l) e, p)
term k ks (Placed name) = λ P u (q, a, b, s, e, p). (
  Located (path_of (step.Name name ∷ q)),
  Placed name ∷ a,
  b,
  plain_term k (located (path_of (step.Name name ∷ q)) (placed_path name a q s) refl),
  ap (λ l. Placed name ∷ l) e,
  p,
)
term k ks (Held value) = λ P u p. (OfValue value, Held value ∷ [], u, plain_term k (valued value refl refl), refl, p)
term k ks t = tt

-- a call of two arguments, behind its parenthesis
two_arguments : {u b b2 b3 : List Word} (a a3 b4 : List Word) → u ≡ a ++ b → b ≡ Sign sign.Comma ∷ b2 → b2 ≡ a3 ++ b3 → b3 ≡ Sign sign.CloseParenthesis ∷ b4
    → Sign sign.OpenParenthesis ∷ u ≡ (Sign sign.OpenParenthesis ∷ (a ++ Sign sign.Comma ∷ (a3 ++ Sign sign.CloseParenthesis ∷ []))) ++ b4
two_arguments a a3 b4 e e2 e3 e4 = ap (λ l. Sign sign.OpenParenthesis ∷ l)
    (two a (Sign sign.Comma ∷ (a3 ++ Sign sign.CloseParenthesis ∷ [])) b4 e (e2 ∙ ap (λ l. Sign sign.Comma ∷ l) (closes a3 (Sign sign.CloseParenthesis) b4 e3 e4)))

term_call : (f : Function) (k : ℕ) (name : List ℕ) (ks : List Kept) → IsCalled f name
    → Sound (NamedTerm k name) ks (Sign sign.OpenParenthesis) (on_term_call f k ks)
term_call function.IfNotExists (suc k) name ks n = λ P u (p, a, b, s, e, (b2, e2, (t, a3, b3, s3, e3, (b4, e4, r)))). (
  OrElse (path_of p) t,
  Sign sign.OpenParenthesis ∷ (a ++ Sign sign.Comma ∷ (a3 ++ Sign sign.CloseParenthesis ∷ [])),
  b4,
  inr (an_or_else a a3 (path_of p) t s s3
      (ap (λ m. Bare m ∷ Sign sign.OpenParenthesis ∷ (a ++ Sign sign.Comma ∷ (a3 ++ Sign sign.CloseParenthesis ∷ []))) n) refl),
  two_arguments a a3 b4 e e2 e3 e4,
  r,
)
term_call function.ListAppend (suc k) name ks n = λ P u (x, a, b, s, e, (b2, e2, (y, a3, b3, s3, e3, (b4, e4, r)))). (
  Appended x y,
  Sign sign.OpenParenthesis ∷ (a ++ Sign sign.Comma ∷ (a3 ++ Sign sign.CloseParenthesis ∷ [])),
  b4,
  inr (an_append a a3 x y s s3
      (ap (λ m. Bare m ∷ Sign sign.OpenParenthesis ∷ (a ++ Sign sign.Comma ∷ (a3 ++ Sign sign.CloseParenthesis ∷ []))) n) refl),
  two_arguments a a3 b4 e e2 e3 e4,
  r,
)
term_call f k name ks n = tt

named_term : (k : ℕ) (name : List ℕ) (ks : List Kept) (t : Word) → Sound (NamedTerm k name) ks t (on_named_term k name ks (Some t))
named_term k name ks (Sign sign.OpenParenthesis) = term_call (function_of name) k name ks (is_called name)
named_term k name ks (Sign sign.Dot) = λ P u (field, w, b, n, e, (q, a, b2, s, e2, p)). (
  Located (path_of (step.Name name ∷ step.Name field ∷ q)),
  Sign sign.Dot ∷ w ∷ a,
  b2,
  plain_term k (located (path_of (step.Name name ∷ step.Name field ∷ q)) (bare_path name (Sign sign.Dot ∷ w ∷ a) (step.Name field ∷ q) (a_field n s)) refl),
  ap (λ l. Sign sign.Dot ∷ l) (e ∙ ap (λ l. w ∷ l) e2),
  p,
)
named_term k name ks (Sign sign.OpenBracket) = λ P u (i, b, e, (b2, e2, (q, a, b3, s, e3, p))). (
  Located (path_of (step.Name name ∷ step.Index i ∷ q)),
  Sign sign.OpenBracket ∷ Number i ∷ Sign sign.CloseBracket ∷ a,
  b3,
  plain_term k (located (path_of (step.Name name ∷ step.Index i ∷ q))
      (bare_path name (Sign sign.OpenBracket ∷ Number i ∷ Sign sign.CloseBracket ∷ a) (step.Index i ∷ q) (an_element s)) refl),
  ap (λ l. Sign sign.OpenBracket ∷ l) (e ∙ ap (λ l. Number i ∷ l) (e2 ∙ ap (λ l. Sign sign.CloseBracket ∷ l) e3)),
  p,
)
named_term k name ks t = λ P u p.
    (Located (path_of (named name)), [], u, plain_term k (located (path_of (named name)) (bare_path name [] [] no_step) refl), refl, p)

sum : (k : ℕ) (ks : List Kept) (P : Then) (u : List Word) → After (ATerm k) ks u (λ ks ts. AllAfter (MoreSum k ∷ []) ks ts P) → After (ASum k) ks u P
sum k ks P u (t, a, b, s, e, (x, a2, b2, m, e2, p)) =
    (x, a ++ a2, b2, record { front = a; more = a2; first = t; is_first = s; is_end = m; spelled = refl }, two a a2 b2 e e2, p)

more_sum : (k : ℕ) (x : TermTree) (ks : List Kept) (t : Word) → Sound (MoreSum k) (Termed x ∷ ks) t (on_more_sum k (Termed x ∷ ks) (Some t))
more_sum k x ks (Sign sign.Plus) = λ P u (y, a, b, s, e, p). (Plus x y, Sign sign.Plus ∷ a, b, plus a y s refl refl, ap (λ l. Sign sign.Plus ∷ l) e, p)
more_sum k x ks (Sign sign.Minus) = λ P u (y, a, b, s, e, p). (Minus x y, Sign sign.Minus ∷ a, b, minus a y s refl refl, ap (λ l. Sign sign.Minus ∷ l) e, p)
more_sum k x ks t = λ P u p. (Alone x, [], u, alone refl refl, refl, p)

-- what is listed here, behind what was listed before, and what comes then
abbrev pub Lists : {X : Type 0} → (List Word → X → Type 0) → (List X → Kept) → List X → List Kept → List Word → Then → Type 0
Lists {X} G keep xs ks ts P = (ys : List X) × (a : List Word) × (b : List Word) × AreListed G a ys × (ts ≡ a ++ b) × P (keep (xs ++ ys) ∷ ks) b

-- a list behind a comma goes on with another
goes_listed : {X : Type 0} (G : List Word → X → Type 0) (a : List Word) (ys : List X) → AreListed G a ys → AreMore G (Sign sign.Comma ∷ a) ys
goes_listed {X = X} G a ys l =
    let ends : List X → Type 0 = λ v. AreMore G (Sign sign.Comma ∷ (l.front ++ l.more)) v in
    subst (λ v. AreMore G (Sign sign.Comma ∷ v) ys) (sym l.spelled) (subst ends (sym l.listed) (one_more l.is_first l.are_more))

set_list : (k : ℕ) (xs : List SetTree) (ks : List Kept) (u : List Word) (P : Then) → AllAfter (a_set k) (Assigned xs ∷ ks) u P
    → Lists (IsSet k) Assigned xs ks u P
set_list k xs ks u P (p, a, b, s, e, (b2, e2, (v, a3, b3, s3, e3, (ys, a4, b4, are, e4, r)))) = (
  set_to p v ∷ ys,
  (a ++ Sign sign.Equal ∷ a3) ++ a4,
  b4,
  record {
    front = a ++ Sign sign.Equal ∷ a3;
    more = a4;
    first = set_to p v;
    others = ys;
    is_first = record { front = a; more = a3; is_path = s; is_sum = s3; spelled = refl };
    are_more = are;
    spelled = refl;
    listed = refl;
  },
  two (a ++ Sign sign.Equal ∷ a3) a4 b4 (two a (Sign sign.Equal ∷ a3) b3 e (e2 ∙ ap (λ l. Sign sign.Equal ∷ l) e3)) e4,
  subst (λ l. P (Assigned l ∷ ks) b4) (append_assoc xs (set_to p v ∷ []) ys) r,
)

pair_list : (xs : List PathValue) (ks : List Kept) (u : List Word) (P : Then) → AllAfter a_pair (Paired xs ∷ ks) u P → Lists IsPair Paired xs ks u P
pair_list xs ks u P (p, a, b, s, e, (v, b2, e2, (ys, a4, b4, are, e4, r))) = (
  pair_of p v ∷ ys,
  (a ++ Held v ∷ []) ++ a4,
  b4,
  record {
    front = a ++ Held v ∷ [];
    more = a4;
    first = pair_of p v;
    others = ys;
    is_first = record { front = a; is_path = s; spelled = refl };
    are_more = are;
    spelled = refl;
    listed = refl;
  },
  two (a ++ Held v ∷ []) a4 b4 (closes a (Held v) b2 e e2) e4,
  subst (λ l. P (Paired l ∷ ks) b4) (append_assoc xs (pair_of p v ∷ []) ys) r,
)

more_sets : (k : ℕ) (xs : List SetTree) (ks : List Kept) (t : Word) → Sound (MoreSets k) (Assigned xs ∷ ks) t (act (MoreSets k) (Assigned xs ∷ ks) (Some t))
more_sets k xs ks (Sign sign.Comma) = λ P u h. goes P u (set_list k xs ks u P h) where
  goes : (P : Then) (u : List Word) → Lists (IsSet k) Assigned xs ks u P → After (MoreSets k) (Assigned xs ∷ ks) (Sign sign.Comma ∷ u) P
  goes P u (ys, a, b, l, e, p) = (ys, Sign sign.Comma ∷ a, b, goes_listed (IsSet k) a ys l, ap (λ l. Sign sign.Comma ∷ l) e, p)
more_sets k xs ks t = λ P u r. ([], [], u, no_more, refl, subst (λ l. P (Assigned l ∷ ks) u) (sym (append-nil xs)) r)

more_pairs : (xs : List PathValue) (ks : List Kept) (t : Word) → Sound MorePairs (Paired xs ∷ ks) t (act MorePairs (Paired xs ∷ ks) (Some t))
more_pairs xs ks (Sign sign.Comma) = λ P u h. goes P u (pair_list xs ks u P h) where
  goes : (P : Then) (u : List Word) → Lists IsPair Paired xs ks u P → After MorePairs (Paired xs ∷ ks) (Sign sign.Comma ∷ u) P
  goes P u (ys, a, b, l, e, p) = (ys, Sign sign.Comma ∷ a, b, goes_listed IsPair a ys l, ap (λ l. Sign sign.Comma ∷ l) e, p)
more_pairs xs ks t = λ P u r. ([], [], u, no_more, refl, subst (λ l. P (Paired l ∷ ks) u) (sym (append-nil xs)) r)

section : (k : ℕ) (cs : List SectionTree) (ks : List Kept) (t : Word) → Sound (ASection k) (Sections cs ∷ ks) t (on_section k (Sections cs ∷ ks) (Some t))
section k cs ks (Sign sign.Set) = λ P u h. goes P u (set_list k [] (Sections cs ∷ ks) u (λ ks ts. AllAfter (Do EndSets ∷ []) ks ts P) h) where
  goes : (P : Then) (u : List Word) → Lists (IsSet k) Assigned [] (Sections cs ∷ ks) u (λ ks ts. AllAfter (Do EndSets ∷ []) ks ts P)
      → After (ASection k) (Sections cs ∷ ks) (Sign sign.Set ∷ u) P
  goes P u (ys, a, b, l, e, p) = (Sets ys, Sign sign.Set ∷ a, b, sets a ys l refl refl, ap (λ l. Sign sign.Set ∷ l) e, p)
section k cs ks (Sign sign.Remove) = λ P u (p, a, b, s, e, (qs, a2, b2, are, e2, r)). (
  Removes (path_of p ∷ qs),
  Sign sign.Remove ∷ (a ++ a2),
  b2,
  removes (a ++ a2) (path_of p ∷ qs)
      (record { front = a; more = a2; first = path_of p; others = qs; is_first = s; are_more = are; spelled = refl; listed = refl }) refl refl,
  ap (λ l. Sign sign.Remove ∷ l) (two a a2 b2 e e2),
  r,
)
section k cs ks (Sign sign.Add) = λ P u h. goes P u (pair_list [] (Sections cs ∷ ks) u (λ ks ts. AllAfter (Do (EndPairs Adds) ∷ []) ks ts P) h) where
  goes : (P : Then) (u : List Word) → Lists IsPair Paired [] (Sections cs ∷ ks) u (λ ks ts. AllAfter (Do (EndPairs Adds) ∷ []) ks ts P)
      → After (ASection k) (Sections cs ∷ ks) (Sign sign.Add ∷ u) P
  goes P u (ys, a, b, l, e, p) = (Adds ys, Sign sign.Add ∷ a, b, adds a ys l refl refl, ap (λ l. Sign sign.Add ∷ l) e, p)
section k cs ks (Sign sign.Delete) = λ P u h. goes P u (pair_list [] (Sections cs ∷ ks) u (λ ks ts. AllAfter (Do (EndPairs Deletes) ∷ []) ks ts P) h) where
  goes : (P : Then) (u : List Word) → Lists IsPair Paired [] (Sections cs ∷ ks) u (λ ks ts. AllAfter (Do (EndPairs Deletes) ∷ []) ks ts P)
      → After (ASection k) (Sections cs ∷ ks) (Sign sign.Delete ∷ u) P
  goes P u (ys, a, b, l, e, p) = (Deletes ys, Sign sign.Delete ∷ a, b, deletes a ys l refl refl, ap (λ l. Sign sign.Delete ∷ l) e, p)
section k cs ks t = tt

or_pass_sound : (o : Owed) (ks : List Kept) (t : Word) (a : Action) → ((P : Then) (u : List Word) → P ks u → After o ks u P) → Sound o ks t a
    → Sound o ks t (or_pass ks a)
or_pass_sound o ks t (Take new ks') h s = s
or_pass_sound o ks t (Pass ks') h s = s
or_pass_sound o ks t Refuse h s = h

more_sections : (k : ℕ) (cs : List SectionTree) (ks : List Kept) (t : Word)
    → Sound (MoreSections k) (Sections cs ∷ ks) t (act (MoreSections k) (Sections cs ∷ ks) (Some t))
more_sections k cs ks t =
    or_pass_sound (MoreSections k) (Sections cs ∷ ks) t (also (MoreSections k ∷ []) (on_section k (Sections cs ∷ ks) (Some t)))
    (λ P u r. ([], [], u, no_section, refl, subst (λ l. P (Sections l ∷ ks) u) (sym (append-nil cs)) r))
    (also_sound (ASection k) (MoreSections k) (Sections cs ∷ ks) t (MoreSections k ∷ []) (on_section k (Sections cs ∷ ks) (Some t)) goes (section k cs ks t)) where
      goes : (P : Then) (u : List Word) → After (ASection k) (Sections cs ∷ ks) u (λ ks ts. AllAfter (MoreSections k ∷ []) ks ts P)
          → After (MoreSections k) (Sections cs ∷ ks) u P
      goes P u (c, a, b, s, e, (ds, a2, b2, are, e2, r)) =
          (c ∷ ds, a ++ a2, b2, a_section s are, two a a2 b2 e e2, subst (λ l. P (Sections l ∷ ks) b2) (append_assoc cs (c ∷ []) ds) r)

pub sound : (o : Owed) (ks : List Kept) (t : Word) → Sound o ks t (act o ks (Some t))
sound (ACondition k) ks t = also_sound (APart k) (ACondition k) ks t (MoreAnd k ∷ MoreOr k ∷ []) (on_part k ks (Some t)) (condition k ks) (part k ks t)
sound (AConjunction k) ks t = also_sound (APart k) (AConjunction k) ks t (MoreAnd k ∷ []) (on_part k ks (Some t)) (conjunction k ks) (part k ks t)
sound (APart k) ks t = part k ks t
sound (MoreOr k) (Whole l ∷ ks) (Sign sign.Or) = λ P u (r, a, b, s, e, (t, a2, b2, s2, e2, p)).
    (t, Sign sign.Or ∷ (a ++ a2), b2, tail_goes s s2, ap (λ l. Sign sign.Or ∷ l) (two a a2 b2 e e2), p)
sound (MoreOr k) (Whole l ∷ ks) t = λ P u p. (l, [], u, tail_ends, refl, p)
sound (MoreOr k) ks t = junk (MoreOr k) ks t (act (MoreOr k) ks (Some t)) (λ P u. tt)
sound (MoreAnd k) (Whole l ∷ ks) (Sign sign.And) = λ P u (r, a, b, s, e, (t, a2, b2, s2, e2, p)).
    (t, Sign sign.And ∷ (a ++ a2), b2, tail_goes s s2, ap (λ l. Sign sign.And ∷ l) (two a a2 b2 e e2), p)
sound (MoreAnd k) (Whole l ∷ ks) t = λ P u p. (l, [], u, tail_ends, refl, p)
sound (MoreAnd k) ks t = junk (MoreAnd k) ks t (act (MoreAnd k) ks (Some t)) (λ P u. tt)
sound (ARest k) (Side x ∷ ks) t = rest k x ks t
sound (ARest k) ks t = junk (ARest k) ks t (on_rest k ks (Some t)) (λ P u. tt)
sound (AnOperand k) ks (Bare name) = λ P u (x, a, b, s, e, p). (x, Bare name ∷ a, b, s, ap (λ l. Bare name ∷ l) e, p)
sound (AnOperand k) ks (Placed name) = λ P u (q, a, b, s, e, p). (
  operand.Path (path_of (step.Name name ∷ q)),
  Placed name ∷ a,
  b,
  a_path (path_of (step.Name name ∷ q)) (placed_path name a q s) refl,
  ap (λ l. Placed name ∷ l) e,
  p,
)
sound (AnOperand k) ks (Held value) = λ P u p. (operand.Value value, Held value ∷ [], u, a_value value refl refl, refl, p)
sound (AnOperand k) ks t = tt
sound (NamedPart k name) ks t = named_part k name ks t
sound (NamedOperand k name) ks t = named_operand k name ks t
sound (MoreChoices k left) (Sides ys ∷ Side x ∷ ks) t = choices k left ys x ks t
sound (MoreChoices k left) ks t = junk (MoreChoices k left) ks t (on_choices k left ks (Some t)) (λ P u. tt)
sound APath ks (Bare name) = λ P u (q, a, b, s, e, p). (step.Name name ∷ q, Bare name ∷ a, b, bare_path name a q s, ap (λ l. Bare name ∷ l) e, p)
sound APath ks (Placed name) = λ P u (q, a, b, s, e, p). (step.Name name ∷ q, Placed name ∷ a, b, placed_path name a q s, ap (λ l. Placed name ∷ l) e, p)
sound APath ks t = tt
sound MoreSteps (Steps p ∷ ks) t = steps p ks t
sound MoreSteps ks t = junk MoreSteps ks t (act MoreSteps ks (Some t)) (λ P u. tt)
sound AField (Steps p ∷ ks) (Bare name) = λ P u r. (name, Bare name, u, written, refl, r)
sound AField (Steps p ∷ ks) (Placed name) = λ P u r. (name, Placed name, u, placed, refl, r)
sound AField (Steps p ∷ ks) t = tt
sound AField ks t = junk AField ks t (act AField ks (Some t)) (λ P u. tt)
sound AnIndex (Steps p ∷ ks) (Number index) = λ P u r. (index, u, refl, r)
sound AnIndex (Steps p ∷ ks) t = tt
sound AnIndex ks t = junk AnIndex ks t (act AnIndex ks (Some t)) (λ P u. tt)
sound AValue ks (Held value) = λ P u p. (value, u, refl, p)
sound AValue ks t = tt
sound MorePaths (Listed ps ∷ ks) t = more_paths ps ks t
sound MorePaths ks t = junk MorePaths ks t (act MorePaths ks (Some t)) (λ P u. tt)
sound (ATerm k) ks t = term k ks t
sound (NamedTerm k name) ks t = named_term k name ks t
sound (ASum k) ks t = also_sound (ATerm k) (ASum k) ks t (MoreSum k ∷ []) (on_term k ks (Some t)) (sum k ks) (term k ks t)
sound (MoreSum k) (Termed x ∷ ks) t = more_sum k x ks t
sound (MoreSum k) ks t = junk (MoreSum k) ks t (act (MoreSum k) ks (Some t)) (λ P u. tt)
sound (MoreSets k) (Assigned xs ∷ ks) t = more_sets k xs ks t
sound (MoreSets k) ks t = junk (MoreSets k) ks t (act (MoreSets k) ks (Some t)) (λ P u. tt)
sound MorePairs (Paired xs ∷ ks) t = more_pairs xs ks t
sound MorePairs ks t = junk MorePairs ks t (act MorePairs ks (Some t)) (λ P u. tt)
sound (ASection k) (Sections cs ∷ ks) t = section k cs ks t
sound (ASection k) ks t = junk (ASection k) ks t (act (ASection k) ks (Some t)) (λ P u. tt)
sound (MoreSections k) (Sections cs ∷ ks) t = more_sections k cs ks t
sound (MoreSections k) ks t = junk (MoreSections k) ks t (act (MoreSections k) ks (Some t)) (λ P u. tt)
sound (ASign s) ks t = a_sign s ks t
sound ABar ks Barred = λ P u p. (u, refl, p)
sound ABar ks t = tt
sound (Do effect) ks t = λ P u p. p

-- at the end
abbrev pub SoundEnd : Owed → List Kept → Action → Type 1
SoundEnd o ks (Take new ks') = Unit {1}
SoundEnd o ks (Pass ks') = (P : Then) → P ks' [] → After o ks [] P
SoundEnd o ks Refuse = Unit {1}

junk_end : (o : Owed) (ks : List Kept) (a : Action) → ((P : Then) → After o ks [] P) → SoundEnd o ks a
junk_end o ks (Take new ks') h = tt
junk_end o ks (Pass ks') h = λ P _. h P
junk_end o ks Refuse h = tt

pub sound_end : (o : Owed) (ks : List Kept) → SoundEnd o ks (act o ks None)
sound_end (MoreOr k) (Whole l ∷ ks) = λ P p. (l, [], [], tail_ends, refl, p)
sound_end (MoreOr k) ks = junk_end (MoreOr k) ks (act (MoreOr k) ks None) (λ P. tt)
sound_end (MoreAnd k) (Whole l ∷ ks) = λ P p. (l, [], [], tail_ends, refl, p)
sound_end (MoreAnd k) ks = junk_end (MoreAnd k) ks (act (MoreAnd k) ks None) (λ P. tt)
sound_end (NamedOperand k name) ks = λ P p.
    (operand.Path (path_of (named name)), [], [], a_path (path_of (named name)) (bare_path name [] [] no_step) refl, refl, p)
sound_end MoreSteps (Steps p ∷ ks) = λ P r. ([], [], [], no_step, refl, subst (λ l. P (Steps l ∷ ks) []) (sym (append-nil p)) r)
sound_end MoreSteps ks = junk_end MoreSteps ks (act MoreSteps ks None) (λ P. tt)
sound_end MorePaths (Listed ps ∷ ks) = λ P r. ([], [], [], no_more, refl, subst (λ l. P (Listed l ∷ ks) []) (sym (append-nil ps)) r)
sound_end MorePaths ks = junk_end MorePaths ks (act MorePaths ks None) (λ P. tt)
sound_end (NamedTerm k name) ks = λ P p.
    (Located (path_of (named name)), [], [], plain_term k (located (path_of (named name)) (bare_path name [] [] no_step) refl), refl, p)
sound_end (MoreSum k) (Termed x ∷ ks) = λ P p. (Alone x, [], [], alone refl refl, refl, p)
sound_end (MoreSum k) ks = junk_end (MoreSum k) ks (act (MoreSum k) ks None) (λ P. tt)
sound_end (MoreSets k) (Assigned xs ∷ ks) = λ P r. ([], [], [], no_more, refl, subst (λ l. P (Assigned l ∷ ks) []) (sym (append-nil xs)) r)
sound_end (MoreSets k) ks = junk_end (MoreSets k) ks (act (MoreSets k) ks None) (λ P. tt)
sound_end MorePairs (Paired xs ∷ ks) = λ P r. ([], [], [], no_more, refl, subst (λ l. P (Paired l ∷ ks) []) (sym (append-nil xs)) r)
sound_end MorePairs ks = junk_end MorePairs ks (act MorePairs ks None) (λ P. tt)
sound_end (MoreSections k) (Sections cs ∷ ks) = λ P r. ([], [], [], no_section, refl, subst (λ l. P (Sections l ∷ ks) []) (sym (append-nil cs)) r)
sound_end (MoreSections k) ks = junk_end (MoreSections k) ks (act (MoreSections k) ks None) (λ P. tt)
sound_end (Do effect) ks = λ P p. p
sound_end o ks = tt
