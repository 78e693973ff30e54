-- The machine reads every sentence, and keeps its tree.
use Rattle.std.proofs.Common.{◌≡◌, ◌≤◌, ℕ, zero, suc, Bool, true, false, List, [], ◌∷◌, ◌++◌, length, Result, Ok, refl, sym, ap, subst, ◌∙◌, inl, inr, true≢false, append_assoc, append-nil, arith}
use Rattle.base_types.specs.declared.path.DocPath.{DocPath}
use Rattle.base_types.specs.declared.path.Step.{Step}
use Rattle.base_types.specs.declared.path.Step.TheVariants as step
use Rattle.expr_lexer.specs.declared.token.TokenKind.TheVariants as sign
use Rattle.expr_words.specs.declared.tree.Comparison.{Comparison}
use Rattle.expr_words.specs.declared.tree.Operand.{Operand}
use Rattle.expr_words.specs.Trees.{Tree, Disjunction, Conjunction, Compared, Choice, TermTree, SumTree, Alone, Plus, Minus, SetTree, SectionTree, Adds, Deletes}
use Rattle.expr_words.specs.declared.tree.PathValue.{PathValue}
use Rattle.expr_words.specs.Words.{Word, Bare, Held, Sign, Barred}
use Rattle.expr_words.specs.Grammar.{IsName, written, placed, AreSteps, no_step, a_field, an_element, IsPath, IsOperand, a_path, a_value, a_size, IsComparison, equals, differs, is_less, is_at_most, is_more_than, is_at_least, AreMore, no_more, one_more, IsPathTest, exists, not_exists, IsOperandTest, begins, contains, IsFlat, a_comparison, a_range, a_choice, a_path_test, a_kind_test, an_operand_test, a_barred_parenthesis, a_barred_choice, IsTail, tail_ends, tail_goes, IsPart, IsConjunction, IsCondition, ArePaths, IsPlainTerm, located, valued, an_or_else, an_append, IsTerm, IsSumEnd, alone, plus, minus, IsSum, AreListed, IsSet, IsPair, IsSection, sets, removes, adds, deletes, AreSections, no_section, a_section, IsUpdate}
use Rattle.expr_words.specs.Machine.{Kept, Whole, Side, Sides, Steps, Place, Listed, Owed, ACondition, AConjunction, APart, MoreOr, MoreAnd, ARest, AnOperand, MoreChoices, APath, MoreSteps, AValue, MorePaths, ATerm, ASum, MoreSum, MoreSets, MorePairs, ASection, MoreSections, ASign, Do, Joins, Negates, MakePath, MakeSize, OfPath, OfSides, MakeRange, FirstChoice, NextChoice, MakeChoice, MakeKindTest, FirstPath, NextPath, MakeTerm, MakeOrElse, MakeAppended, OfTerms, NextSet, NextPair, NoSections, EndSets, EndRemoves, EndPairs, Termed, Summed, Assigned, Paired, Sections, named, a_set, a_pair, an_update, reads}
use Rattle.expr_words.specs.Fronts.{opens}
use Rattle.expr_words.proofs.Steps.{do_it, conjunction_starts, condition_starts, sum_starts, named_operand, named_part, named_term}

-- a path, or a name, goes on with the next word
abbrev extends : List Word → Bool
extends (Sign sign.Dot ∷ ts) = true
extends (Sign sign.OpenBracket ∷ ts) = true
extends (Sign sign.OpenParenthesis ∷ ts) = true
extends ts = false

pass_steps : (ts : List Word) (p : List Step) (os : List Owed) (ks : List Kept) → extends ts ≡ false
    → reads ts (MoreSteps ∷ os) (Steps p ∷ ks) ≡ reads ts os (Steps p ∷ ks)
pass_steps [] p os ks e = refl
pass_steps (Sign sign.Dot ∷ ts) p os ks e = absurd (true≢false e)
pass_steps (Sign sign.OpenBracket ∷ ts) p os ks e = absurd (true≢false e)
pass_steps (t ∷ ts) p os ks e = refl

no_call : (ts : List Word) → extends ts ≡ false → opens ts ≡ false
no_call (Sign sign.OpenParenthesis ∷ ts) e = e
no_call [] e = refl
no_call (t ∷ ts) e = refl

steps_read : (a : List Word) (q : List Step) → AreSteps a q → (ts : List Word) (p : List Step) (os : List Owed) (ks : List Kept) → extends ts ≡ false
    → reads (a ++ ts) (MoreSteps ∷ os) (Steps p ∷ ks) ≡ reads ts os (Steps (p ++ q) ∷ ks)
steps_read _ _ no_step ts p os ks e = pass_steps ts p os ks e ∙ ap (λ l. reads ts os (Steps l ∷ ks)) (sym (append-nil p))
steps_read _ _ (a_field {name = name} {ts = a} {path = q} written s) ts p os ks e =
    steps_read a q s ts (p ++ step.Name name ∷ []) os ks e ∙ ap (λ l. reads ts os (Steps l ∷ ks)) (append_assoc p (step.Name name ∷ []) q)
steps_read _ _ (a_field {name = name} {ts = a} {path = q} placed s) ts p os ks e =
    steps_read a q s ts (p ++ step.Name name ∷ []) os ks e ∙ ap (λ l. reads ts os (Steps l ∷ ks)) (append_assoc p (step.Name name ∷ []) q)
steps_read _ _ (an_element {index = i} {ts = a} {path = q} s) ts p os ks e =
    steps_read a q s ts (p ++ step.Index i ∷ []) os ks e ∙ ap (λ l. reads ts os (Steps l ∷ ks)) (append_assoc p (step.Index i ∷ []) q)

steps_call : (a : List Word) (q : List Step) → AreSteps a q → (ts : List Word) → extends ts ≡ false → opens (a ++ ts) ≡ false
steps_call _ _ no_step ts e = no_call ts e
steps_call _ _ (a_field n s) ts e = refl
steps_call _ _ (an_element s) ts e = refl

first_read : (w : Word) (name : List ℕ) → IsName w name → (ts : List Word) (os : List Owed) (ks : List Kept)
    → reads (w ∷ ts) (APath ∷ os) ks ≡ reads ts (MoreSteps ∷ os) (Steps (named name) ∷ ks)
first_read _ _ written ts os ks = refl
first_read _ _ placed ts os ks = refl

-- what is read of a path, from its first word on
path_steps : (a : List Word) (path : DocPath) (s : IsPath a path) (ts : List Word) (os : List Owed) (ks : List Kept) → extends ts ≡ false
    → reads (s.more ++ ts) (MoreSteps ∷ os) (Steps (named s.name) ∷ ks) ≡ reads ts os (Steps path.steps ∷ ks)
path_steps a path s ts os ks e =
    steps_read s.more s.steps s.are_more ts (named s.name) os ks e ∙ ap (λ l. reads ts os (Steps l.steps ∷ ks)) (sym s.path_is)

path_read : (a : List Word) (path : DocPath) → IsPath a path → (ts : List Word) (os : List Owed) (ks : List Kept) → extends ts ≡ false
    → reads (a ++ ts) (APath ∷ os) ks ≡ reads ts os (Steps path.steps ∷ ks)
path_read a path s ts os ks e =
    ap (λ l. reads (l ++ ts) (APath ∷ os) ks) s.spelled ∙ first_read s.first s.name s.is_first (s.more ++ ts) os ks ∙ path_steps a path s ts os ks e

first_operand : (k : ℕ) (w : Word) (name : List ℕ) → IsName w name → (ts : List Word) (os : List Owed) (ks : List Kept) → opens ts ≡ false
    → reads (w ∷ ts) (AnOperand k ∷ os) ks ≡ reads ts (MoreSteps ∷ Do MakePath ∷ os) (Steps (named name) ∷ ks)
first_operand k _ name written ts os ks e = named_operand k name ts os ks e
first_operand k _ name placed ts os ks e = refl

first_part : (k : ℕ) (w : Word) (name : List ℕ) → IsName w name → (ts : List Word) (os : List Owed) (ks : List Kept) → opens ts ≡ false
    → reads (w ∷ ts) (APart k ∷ os) ks ≡ reads ts (MoreSteps ∷ Do MakePath ∷ ARest k ∷ os) (Steps (named name) ∷ ks)
first_part k _ name written ts os ks e = named_part k name ts os ks e
first_part k _ name placed ts os ks e = refl

-- a path in parentheses, behind the first of them
inside_read : (inner : List Word) (path : DocPath) → IsPath inner path → (ts : List Word) (os : List Owed) (ks : List Kept)
    → reads ((inner ++ Sign sign.CloseParenthesis ∷ []) ++ ts) (APath ∷ ASign sign.CloseParenthesis ∷ os) ks ≡ reads ts os (Steps path.steps ∷ ks)
inside_read inner path s ts os ks =
    ap (λ l. reads l (APath ∷ ASign sign.CloseParenthesis ∷ os) ks) (append_assoc inner (Sign sign.CloseParenthesis ∷ []) ts)
    ∙ path_read inner path s (Sign sign.CloseParenthesis ∷ ts) (ASign sign.CloseParenthesis ∷ os) ks refl

operand_read : (k : ℕ) (a : List Word) (x : Operand) → IsOperand k a x → (ts : List Word) (os : List Owed) (ks : List Kept) → extends ts ≡ false
    → reads (a ++ ts) (AnOperand k ∷ os) ks ≡ reads ts os (Side x ∷ ks)
operand_read k a x (a_path path s is) ts os ks e =
    ap (λ l. reads (l ++ ts) (AnOperand k ∷ os) ks) s.spelled
    ∙ first_operand k s.first s.name s.is_first (s.more ++ ts) os ks (steps_call s.more s.steps s.are_more ts e)
    ∙ path_steps a path s ts (Do MakePath ∷ os) ks e
    ∙ do_it ts MakePath os (Steps path.steps ∷ ks) ∙ ap (λ l. reads ts os (Side l ∷ ks)) (sym is)
operand_read k a x (a_value value is x_is) ts os ks e =
    ap (λ l. reads (l ++ ts) (AnOperand k ∷ os) ks) is ∙ ap (λ l. reads ts os (Side l ∷ ks)) (sym x_is)
operand_read zero a x (a_size path inner room s is x_is) ts os ks e = let h : ⊥ = omega (arith, room) in absurd h
operand_read (suc k) a x (a_size path inner room s is x_is) ts os ks e =
    ap (λ l. reads (l ++ ts) (AnOperand (suc k) ∷ os) ks) is
    ∙ inside_read inner path s ts (Do MakeSize ∷ os) ks
    ∙ do_it ts MakeSize os (Steps path.steps ∷ ks) ∙ ap (λ l. reads ts os (Side l ∷ ks)) (sym x_is)

part_operand : (k : ℕ) (a : List Word) (x : Operand) → IsOperand k a x → (ts : List Word) (os : List Owed) (ks : List Kept) → extends ts ≡ false
    → reads (a ++ ts) (APart k ∷ os) ks ≡ reads ts (ARest k ∷ os) (Side x ∷ ks)
part_operand k a x (a_path path s is) ts os ks e =
    ap (λ l. reads (l ++ ts) (APart k ∷ os) ks) s.spelled
    ∙ first_part k s.first s.name s.is_first (s.more ++ ts) os ks (steps_call s.more s.steps s.are_more ts e)
    ∙ path_steps a path s ts (Do MakePath ∷ ARest k ∷ os) ks e
    ∙ do_it ts MakePath (ARest k ∷ os) (Steps path.steps ∷ ks) ∙ ap (λ l. reads ts (ARest k ∷ os) (Side l ∷ ks)) (sym is)
part_operand k a x (a_value value is x_is) ts os ks e =
    ap (λ l. reads (l ++ ts) (APart k ∷ os) ks) is ∙ ap (λ l. reads ts (ARest k ∷ os) (Side l ∷ ks)) (sym x_is)
part_operand zero a x (a_size path inner room s is x_is) ts os ks e = let h : ⊥ = omega (arith, room) in absurd h
part_operand (suc k) a x (a_size path inner room s is x_is) ts os ks e =
    ap (λ l. reads (l ++ ts) (APart (suc k) ∷ os) ks) is
    ∙ inside_read inner path s ts (Do MakeSize ∷ ARest (suc k) ∷ os) ks
    ∙ do_it ts MakeSize (ARest (suc k) ∷ os) (Steps path.steps ∷ ks) ∙ ap (λ l. reads ts (ARest (suc k) ∷ os) (Side l ∷ ks)) (sym x_is)

more_extends : (k : ℕ) (m : List Word) (ys : List Operand) → AreMore (IsOperand k) m ys → (ts : List Word) → extends ts ≡ false → extends (m ++ ts) ≡ false
more_extends k _ _ no_more ts e = e
more_extends k _ _ (one_more s are) ts e = refl

-- the rest of a list of choices, up to the parenthesis, and up to the bar
choices_close : (k : ℕ) (m : List Word) (ys : List Operand) → AreMore (IsOperand k) m ys → (left : ℕ) → length ys ≤ left
    → (ts : List Word) (xs : List Operand) (x : Operand) (os : List Owed) (ks : List Kept)
    → reads (m ++ Sign sign.CloseParenthesis ∷ ts) (MoreChoices k left ∷ os) (Sides xs ∷ Side x ∷ ks) ≡ reads ts os (Whole (Choice x (xs ++ ys)) ∷ ks)
choices_close k _ _ no_more left few ts xs x os ks =
    do_it ts MakeChoice os (Sides xs ∷ Side x ∷ ks) ∙ ap (λ l. reads ts os (Whole (Choice x l) ∷ ks)) (sym (append-nil xs))
choices_close k _ _ (one_more s are) zero few ts xs x os ks = let h : ⊥ = omega (arith, few) in absurd h
choices_close k _ _ (one_more {a = a} {ts = m} {x = y} {xs = ys} s are) (suc left) few ts xs x os ks =
    ap (λ l. reads l (AnOperand k ∷ Do NextChoice ∷ MoreChoices k left ∷ os) (Sides xs ∷ Side x ∷ ks)) (append_assoc a m (Sign sign.CloseParenthesis ∷ ts))
    ∙ operand_read k a y s (m ++ Sign sign.CloseParenthesis ∷ ts) (Do NextChoice ∷ MoreChoices k left ∷ os) (Sides xs ∷ Side x ∷ ks)
    (more_extends k m ys are (Sign sign.CloseParenthesis ∷ ts) refl)
    ∙ do_it (m ++ Sign sign.CloseParenthesis ∷ ts) NextChoice (MoreChoices k left ∷ os) (Side y ∷ Sides xs ∷ Side x ∷ ks)
    ∙ choices_close k m ys are left (omega (arith, few)) ts (xs ++ y ∷ []) x os ks
    ∙ ap (λ l. reads ts os (Whole (Choice x l) ∷ ks)) (append_assoc xs (y ∷ []) ys)

choices_bar : (k : ℕ) (m : List Word) (ys : List Operand) → AreMore (IsOperand k) m ys → (left : ℕ) → length ys ≡ left
    → (ts : List Word) (xs : List Operand) (x : Operand) (os : List Owed) (ks : List Kept)
    → reads (m ++ Sign sign.Comma ∷ Barred ∷ ts) (MoreChoices k left ∷ os) (Sides xs ∷ Side x ∷ ks) ≡ reads ts os (Whole (Choice x (xs ++ ys)) ∷ ks)
choices_bar k _ _ no_more zero most ts xs x os ks =
    do_it ts MakeChoice os (Sides xs ∷ Side x ∷ ks) ∙ ap (λ l. reads ts os (Whole (Choice x l) ∷ ks)) (sym (append-nil xs))
choices_bar k _ _ no_more (suc left) most ts xs x os ks = let h : ⊥ = omega (arith, most) in absurd h
choices_bar k _ _ (one_more s are) zero most ts xs x os ks = let h : ⊥ = omega (arith, most) in absurd h
choices_bar k _ _ (one_more {a = a} {ts = m} {x = y} {xs = ys} s are) (suc left) most ts xs x os ks =
    ap (λ l. reads l (AnOperand k ∷ Do NextChoice ∷ MoreChoices k left ∷ os) (Sides xs ∷ Side x ∷ ks)) (append_assoc a m (Sign sign.Comma ∷ Barred ∷ ts))
    ∙ operand_read k a y s (m ++ Sign sign.Comma ∷ Barred ∷ ts) (Do NextChoice ∷ MoreChoices k left ∷ os) (Sides xs ∷ Side x ∷ ks)
    (more_extends k m ys are (Sign sign.Comma ∷ Barred ∷ ts) refl)
    ∙ do_it (m ++ Sign sign.Comma ∷ Barred ∷ ts) NextChoice (MoreChoices k left ∷ os) (Side y ∷ Sides xs ∷ Side x ∷ ks)
    ∙ choices_bar k m ys are left (omega (arith, most)) ts (xs ++ y ∷ []) x os ks
    ∙ ap (λ l. reads ts os (Whole (Choice x l) ∷ ks)) (append_assoc xs (y ∷ []) ys)

-- an IN up to its list's rest, which ends in `end`
in_read : (k : ℕ) (a b m end : List Word) (x y : Operand) (ys : List Operand) → IsOperand (suc k) a x → IsOperand k b y → AreMore (IsOperand k) m ys
    → (ts : List Word) (os : List Owed) (ks : List Kept) → extends (end ++ ts) ≡ false
    → reads ((a ++ Sign sign.In ∷ Sign sign.OpenParenthesis ∷ (b ++ (m ++ end))) ++ ts) (APart (suc k) ∷ os) ks
    ≡ reads (m ++ (end ++ ts)) (MoreChoices k 99 ∷ os) (Sides (y ∷ []) ∷ Side x ∷ ks)
in_read k a b m end x y ys sx sy are ts os ks e =
    ap (λ l. reads l (APart (suc k) ∷ os) ks) (append_assoc a (Sign sign.In ∷ Sign sign.OpenParenthesis ∷ (b ++ (m ++ end))) ts
    ∙ ap (λ l. a ++ Sign sign.In ∷ Sign sign.OpenParenthesis ∷ l) (append_assoc b (m ++ end) ts ∙ ap (λ l. b ++ l) (append_assoc m end ts)))
    ∙ part_operand (suc k) a x sx (Sign sign.In ∷ Sign sign.OpenParenthesis ∷ (b ++ (m ++ (end ++ ts)))) os ks refl
    ∙ operand_read k b y sy (m ++ (end ++ ts)) (Do FirstChoice ∷ MoreChoices k 99 ∷ os) (Side x ∷ ks) (more_extends k m ys are (end ++ ts) e)
    ∙ do_it (m ++ (end ++ ts)) FirstChoice (MoreChoices k 99 ∷ os) (Side y ∷ Side x ∷ ks)

comparison_read : (k : ℕ) (w : Word) (op : Comparison) → IsComparison w op → (ts : List Word) (os : List Owed) (ks : List Kept)
    → reads (w ∷ ts) (ARest k ∷ os) ks ≡ reads ts (AnOperand k ∷ Do (OfSides (Compared op)) ∷ os) ks
comparison_read k _ _ equals ts os ks = refl
comparison_read k _ _ differs ts os ks = refl
comparison_read k _ _ is_less ts os ks = refl
comparison_read k _ _ is_at_most ts os ks = refl
comparison_read k _ _ is_more_than ts os ks = refl
comparison_read k _ _ is_at_least ts os ks = refl

comparison_ends : (w : Word) (op : Comparison) → IsComparison w op → (ts : List Word) → extends (w ∷ ts) ≡ false
comparison_ends _ _ equals ts = refl
comparison_ends _ _ differs ts = refl
comparison_ends _ _ is_less ts = refl
comparison_ends _ _ is_at_most ts = refl
comparison_ends _ _ is_more_than ts = refl
comparison_ends _ _ is_at_least ts = refl

path_test_read : (k : ℕ) (name : List ℕ) (of : DocPath → Tree) → IsPathTest name of → (ts : List Word) (os : List Owed) (ks : List Kept)
    → reads (Bare name ∷ Sign sign.OpenParenthesis ∷ ts) (APart (suc k) ∷ os) ks ≡ reads ts (APath ∷ ASign sign.CloseParenthesis ∷ Do (OfPath of) ∷ os) ks
path_test_read k _ _ exists ts os ks = refl
path_test_read k _ _ not_exists ts os ks = refl

operand_test_read : (k : ℕ) (name : List ℕ) (of : Operand → Operand → Tree) → IsOperandTest name of → (ts : List Word) (os : List Owed) (ks : List Kept)
    → reads (Bare name ∷ Sign sign.OpenParenthesis ∷ ts) (APart (suc k) ∷ os) ks
    ≡ reads ts (AnOperand k ∷ ASign sign.Comma ∷ AnOperand k ∷ ASign sign.CloseParenthesis ∷ Do (OfSides of) ∷ os) ks
operand_test_read k _ _ begins ts os ks = refl
operand_test_read k _ _ contains ts os ks = refl

flat_read : (k : ℕ) (u : List Word) (t : Tree) → IsFlat k u t → (ts : List Word) (os : List Owed) (ks : List Kept) → extends ts ≡ false
    → reads (u ++ ts) (APart k ∷ os) ks ≡ reads ts os (Whole t ∷ ks)
flat_read k u t (a_comparison a b w op x y sx c sy is t_is) ts os ks e =
    ap (λ l. reads l (APart k ∷ os) ks) (ap (λ l. l ++ ts) is ∙ append_assoc a (w ∷ b) ts)
    ∙ part_operand k a x sx (w ∷ (b ++ ts)) os ks (comparison_ends w op c (b ++ ts))
    ∙ comparison_read k w op c (b ++ ts) os (Side x ∷ ks)
    ∙ operand_read k b y sy ts (Do (OfSides (Compared op)) ∷ os) (Side x ∷ ks) e
    ∙ do_it ts (OfSides (Compared op)) os (Side y ∷ Side x ∷ ks) ∙ ap (λ l. reads ts os (Whole l ∷ ks)) (sym t_is)
flat_read k u t (a_range a b c x y z sx sy sz is t_is) ts os ks e =
    ap (λ l. reads l (APart k ∷ os) ks) (ap (λ l. l ++ ts) is ∙ append_assoc a (Sign sign.Between ∷ (b ++ Sign sign.And ∷ c)) ts
    ∙ ap (λ l. a ++ Sign sign.Between ∷ l) (append_assoc b (Sign sign.And ∷ c) ts))
    ∙ part_operand k a x sx (Sign sign.Between ∷ (b ++ Sign sign.And ∷ (c ++ ts))) os ks refl
    ∙ operand_read k b y sy (Sign sign.And ∷ (c ++ ts)) (ASign sign.And ∷ AnOperand k ∷ Do MakeRange ∷ os) (Side x ∷ ks) refl
    ∙ operand_read k c z sz ts (Do MakeRange ∷ os) (Side y ∷ Side x ∷ ks) e
    ∙ do_it ts MakeRange os (Side z ∷ Side y ∷ Side x ∷ ks) ∙ ap (λ l. reads ts os (Whole l ∷ ks)) (sym t_is)
flat_read zero u t (a_choice a b m x y ys j room sx sy are few is t_is) ts os ks e = let h : ⊥ = omega (arith, room) in absurd h
flat_read (suc k) u t (a_choice a b m x y ys j room sx sy are few is t_is) ts os ks e =
    let j_is : j ≡ k = omega (arith, room) in
    let sy' : IsOperand k b y = subst (λ n. IsOperand n b y) j_is sy in
    let are' : AreMore (IsOperand k) m ys = subst (λ n. AreMore (IsOperand n) m ys) j_is are in
    ap (λ l. reads (l ++ ts) (APart (suc k) ∷ os) ks) is
    ∙ in_read k a b m (Sign sign.CloseParenthesis ∷ []) x y ys sx sy' are' ts os ks refl
    ∙ choices_close k m ys are' 99 (omega (arith, few)) ts (y ∷ []) x os ks
    ∙ ap (λ l. reads ts os (Whole l ∷ ks)) (sym t_is)
flat_read zero u t (a_path_test name of inner path room c s is t_is) ts os ks e = let h : ⊥ = omega (arith, room) in absurd h
flat_read (suc k) u t (a_path_test name of inner path room c s is t_is) ts os ks e =
    ap (λ l. reads (l ++ ts) (APart (suc k) ∷ os) ks) is
    ∙ path_test_read k name of c ((inner ++ Sign sign.CloseParenthesis ∷ []) ++ ts) os ks
    ∙ inside_read inner path s ts (Do (OfPath of) ∷ os) ks
    ∙ do_it ts (OfPath of) os (Steps path.steps ∷ ks) ∙ ap (λ l. reads ts os (Whole l ∷ ks)) (sym t_is)
flat_read zero u t (a_kind_test inner path value room s is t_is) ts os ks e = let h : ⊥ = omega (arith, room) in absurd h
flat_read (suc k) u t (a_kind_test inner path value room s is t_is) ts os ks e =
    ap (λ l. reads (l ++ ts) (APart (suc k) ∷ os) ks) is
    ∙ ap (λ l. reads l (APath ∷ ASign sign.Comma ∷ AValue ∷ ASign sign.CloseParenthesis ∷ Do MakeKindTest ∷ os) ks)
    (append_assoc inner (Sign sign.Comma ∷ Held value ∷ Sign sign.CloseParenthesis ∷ []) ts)
    ∙ path_read inner path s (Sign sign.Comma ∷ Held value ∷ Sign sign.CloseParenthesis ∷ ts) (ASign sign.Comma ∷ AValue ∷ ASign sign.CloseParenthesis ∷ Do MakeKindTest ∷ os) ks refl
    ∙ do_it ts MakeKindTest os (Place value ∷ Steps path.steps ∷ ks) ∙ ap (λ l. reads ts os (Whole l ∷ ks)) (sym t_is)
flat_read zero u t (an_operand_test name of a b x y j room c sx sy is t_is) ts os ks e = let h : ⊥ = omega (arith, room) in absurd h
flat_read (suc k) u t (an_operand_test name of a b x y j room c sx sy is t_is) ts os ks e =
    let j_is : j ≡ k = omega (arith, room) in
    let sx' : IsOperand k a x = subst (λ n. IsOperand n a x) j_is sx in
    let sy' : IsOperand k b y = subst (λ n. IsOperand n b y) j_is sy in
    ap (λ l. reads (l ++ ts) (APart (suc k) ∷ os) ks) is
    ∙ operand_test_read k name of c ((a ++ Sign sign.Comma ∷ (b ++ Sign sign.CloseParenthesis ∷ [])) ++ ts) os ks
    ∙ ap (λ l. reads l (AnOperand k ∷ ASign sign.Comma ∷ AnOperand k ∷ ASign sign.CloseParenthesis ∷ Do (OfSides of) ∷ os) ks)
    (append_assoc a (Sign sign.Comma ∷ (b ++ Sign sign.CloseParenthesis ∷ [])) ts
    ∙ ap (λ l. a ++ Sign sign.Comma ∷ l) (append_assoc b (Sign sign.CloseParenthesis ∷ []) ts))
    ∙ operand_read k a x sx' (Sign sign.Comma ∷ (b ++ Sign sign.CloseParenthesis ∷ ts)) (ASign sign.Comma ∷ AnOperand k ∷ ASign sign.CloseParenthesis ∷ Do (OfSides of) ∷ os) ks refl
    ∙ operand_read k b y sy' (Sign sign.CloseParenthesis ∷ ts) (ASign sign.CloseParenthesis ∷ Do (OfSides of) ∷ os) (Side x ∷ ks) refl
    ∙ do_it ts (OfSides of) os (Side y ∷ Side x ∷ ks) ∙ ap (λ l. reads ts os (Whole l ∷ ks)) (sym t_is)
flat_read zero u t (a_barred_parenthesis a x none s is t_is) ts os ks e =
    ap (λ l. reads l (APart zero ∷ os) ks) (ap (λ l. l ++ ts) is ∙ append_assoc a (Sign sign.In ∷ Barred ∷ []) ts)
    ∙ part_operand zero a x s (Sign sign.In ∷ Barred ∷ ts) os ks refl
    ∙ do_it ts MakeChoice os (Sides [] ∷ Side x ∷ ks) ∙ ap (λ l. reads ts os (Whole l ∷ ks)) (sym t_is)
flat_read (suc k) u t (a_barred_parenthesis a x none s is t_is) ts os ks e = let h : ⊥ = omega (arith, none) in absurd h
flat_read zero u t (a_barred_choice a b m x y ys j room sx sy are most is t_is) ts os ks e = let h : ⊥ = omega (arith, room) in absurd h
flat_read (suc k) u t (a_barred_choice a b m x y ys j room sx sy are most is t_is) ts os ks e =
    let j_is : j ≡ k = omega (arith, room) in
    let sy' : IsOperand k b y = subst (λ n. IsOperand n b y) j_is sy in
    let are' : AreMore (IsOperand k) m ys = subst (λ n. AreMore (IsOperand n) m ys) j_is are in
    ap (λ l. reads (l ++ ts) (APart (suc k) ∷ os) ks) is
    ∙ in_read k a b m (Sign sign.Comma ∷ Barred ∷ []) x y ys sx sy' are' ts os ks refl
    ∙ choices_bar k m ys are' 99 (omega (arith, most)) ts (y ∷ []) x os ks
    ∙ ap (λ l. reads ts os (Whole l ∷ ks)) (sym t_is)

-- a chain of parts goes on with the next word: as extends, or with AND; or with OR
abbrev and_goes : List Word → Bool
and_goes (Sign sign.Dot ∷ ts) = true
and_goes (Sign sign.OpenBracket ∷ ts) = true
and_goes (Sign sign.OpenParenthesis ∷ ts) = true
and_goes (Sign sign.And ∷ ts) = true
and_goes ts = false

abbrev or_goes : List Word → Bool
or_goes (Sign sign.Dot ∷ ts) = true
or_goes (Sign sign.OpenBracket ∷ ts) = true
or_goes (Sign sign.OpenParenthesis ∷ ts) = true
or_goes (Sign sign.And ∷ ts) = true
or_goes (Sign sign.Or ∷ ts) = true
or_goes ts = false

no_extension : (ts : List Word) → and_goes ts ≡ false → extends ts ≡ false
no_extension (Sign sign.Dot ∷ ts) e = e
no_extension (Sign sign.OpenBracket ∷ ts) e = e
no_extension (Sign sign.OpenParenthesis ∷ ts) e = e
no_extension [] e = refl
no_extension (t ∷ ts) e = refl

no_and : (ts : List Word) → or_goes ts ≡ false → and_goes ts ≡ false
no_and (Sign sign.Dot ∷ ts) e = e
no_and (Sign sign.OpenBracket ∷ ts) e = e
no_and (Sign sign.OpenParenthesis ∷ ts) e = e
no_and (Sign sign.And ∷ ts) e = e
no_and [] e = refl
no_and (t ∷ ts) e = refl

pass_and : (k : ℕ) (ts : List Word) (os : List Owed) (ks : List Kept) → and_goes ts ≡ false → reads ts (MoreAnd k ∷ os) ks ≡ reads ts os ks
pass_and k [] os ks e = refl
pass_and k (Sign sign.And ∷ ts) os ks e = absurd (true≢false e)
pass_and k (t ∷ ts) os ks e = refl

pass_or : (k : ℕ) (ts : List Word) (os : List Owed) (ks : List Kept) → or_goes ts ≡ false → reads ts (MoreOr k ∷ os) ks ≡ reads ts os ks
pass_or k [] os ks e = refl
pass_or k (Sign sign.Or ∷ ts) os ks e = absurd (true≢false e)
pass_or k (t ∷ ts) os ks e = refl

abbrev PartsRead : ℕ → Type 0
PartsRead k = (u : List Word) (t : Tree) → IsPart k u t → (ts : List Word) (os : List Owed) (ks : List Kept) → extends ts ≡ false
    → reads (u ++ ts) (APart k ∷ os) ks ≡ reads ts os (Whole t ∷ ks)

and_extends : (k : ℕ) (l : Tree) (u : List Word) (t : Tree) → IsTail (IsPart k) (Sign sign.And) Conjunction l u t → (ts : List Word) → and_goes ts ≡ false
    → extends (u ++ ts) ≡ false
and_extends k _ _ _ tail_ends ts e = no_extension ts e
and_extends k _ _ _ (tail_goes s m) ts e = refl

and_tail : (k : ℕ) → PartsRead k → (l : Tree) (u : List Word) (t : Tree) → IsTail (IsPart k) (Sign sign.And) Conjunction l u t
    → (ts : List Word) (os : List Owed) (ks : List Kept) → and_goes ts ≡ false
    → reads (u ++ ts) (MoreAnd k ∷ os) (Whole l ∷ ks) ≡ reads ts os (Whole t ∷ ks)
and_tail k parts _ _ _ (tail_ends {left = l}) ts os ks e = pass_and k ts os (Whole l ∷ ks) e
and_tail k parts _ _ _ (tail_goes {a = a} {ts = u} {left = l} {right = r} {t = t} s m) ts os ks e =
    ap (λ w. reads w (APart k ∷ Do (Joins Conjunction) ∷ MoreAnd k ∷ os) (Whole l ∷ ks)) (append_assoc a u ts)
    ∙ parts a r s (u ++ ts) (Do (Joins Conjunction) ∷ MoreAnd k ∷ os) (Whole l ∷ ks) (and_extends k (Conjunction l r) u t m ts e)
    ∙ do_it (u ++ ts) (Joins Conjunction) (MoreAnd k ∷ os) (Whole r ∷ Whole l ∷ ks)
    ∙ and_tail k parts (Conjunction l r) u t m ts os ks e

conjunction_read : (k : ℕ) → PartsRead k → (u : List Word) (t : Tree) → IsConjunction k u t → (ts : List Word) (os : List Owed) (ks : List Kept)
    → and_goes ts ≡ false → reads (u ++ ts) (AConjunction k ∷ os) ks ≡ reads ts os (Whole t ∷ ks)
conjunction_read k parts u t c ts os ks e =
    conjunction_starts (u ++ ts) k os ks
    ∙ ap (λ w. reads w (APart k ∷ MoreAnd k ∷ os) ks) (ap (λ w. w ++ ts) c.spelled ∙ append_assoc c.first c.more ts)
    ∙ parts c.first c.left c.is_first (c.more ++ ts) (MoreAnd k ∷ os) ks (and_extends k c.left c.more t c.is_more ts e)
    ∙ and_tail k parts c.left c.more t c.is_more ts os ks e

or_extends : (k : ℕ) (l : Tree) (u : List Word) (t : Tree) → IsTail (IsConjunction k) (Sign sign.Or) Disjunction l u t → (ts : List Word) → or_goes ts ≡ false
    → and_goes (u ++ ts) ≡ false
or_extends k _ _ _ tail_ends ts e = no_and ts e
or_extends k _ _ _ (tail_goes s m) ts e = refl

or_tail : (k : ℕ) → PartsRead k → (l : Tree) (u : List Word) (t : Tree) → IsTail (IsConjunction k) (Sign sign.Or) Disjunction l u t
    → (ts : List Word) (os : List Owed) (ks : List Kept) → or_goes ts ≡ false
    → reads (u ++ ts) (MoreOr k ∷ os) (Whole l ∷ ks) ≡ reads ts os (Whole t ∷ ks)
or_tail k parts _ _ _ (tail_ends {left = l}) ts os ks e = pass_or k ts os (Whole l ∷ ks) e
or_tail k parts _ _ _ (tail_goes {a = a} {ts = u} {left = l} {right = r} {t = t} s m) ts os ks e =
    ap (λ w. reads w (AConjunction k ∷ Do (Joins Disjunction) ∷ MoreOr k ∷ os) (Whole l ∷ ks)) (append_assoc a u ts)
    ∙ conjunction_read k parts a r s (u ++ ts) (Do (Joins Disjunction) ∷ MoreOr k ∷ os) (Whole l ∷ ks) (or_extends k (Disjunction l r) u t m ts e)
    ∙ do_it (u ++ ts) (Joins Disjunction) (MoreOr k ∷ os) (Whole r ∷ Whole l ∷ ks)
    ∙ or_tail k parts (Disjunction l r) u t m ts os ks e

condition_read : (k : ℕ) → PartsRead k → (u : List Word) (t : Tree) → IsCondition k u t → (ts : List Word) (os : List Owed) (ks : List Kept)
    → or_goes ts ≡ false → reads (u ++ ts) (ACondition k ∷ os) ks ≡ reads ts os (Whole t ∷ ks)
condition_read k parts u t c ts os ks e =
    condition_starts (u ++ ts) k os ks
    ∙ ap (λ w. reads w (AConjunction k ∷ MoreOr k ∷ os) ks) (ap (λ w. w ++ ts) c.spelled ∙ append_assoc c.first c.more ts)
    ∙ conjunction_read k parts c.first c.left c.is_first (c.more ++ ts) (MoreOr k ∷ os) ks (or_extends k c.left c.more t c.is_more ts e)
    ∙ or_tail k parts c.left c.more t c.is_more ts os ks e

part_reads : (k : ℕ) → PartsRead k
part_reads zero u t s ts os ks e = flat_read zero u t s ts os ks e
part_reads (suc k) u t (inl s) ts os ks e = flat_read (suc k) u t s ts os ks e
part_reads (suc k) u t (inr (inl n)) ts os ks e =
    ap (λ w. reads (w ++ ts) (APart (suc k) ∷ os) ks) n.spelled
    ∙ part_reads k n.inner n.negated n.is_inner ts (Do Negates ∷ os) ks e
    ∙ do_it ts Negates os (Whole n.negated ∷ ks) ∙ ap (λ l. reads ts os (Whole l ∷ ks)) (sym n.tree_is)
part_reads (suc k) u t (inr (inr g)) ts os ks e =
    ap (λ w. reads (w ++ ts) (APart (suc k) ∷ os) ks) g.spelled
    ∙ ap (λ w. reads w (ACondition k ∷ ASign sign.CloseParenthesis ∷ os) ks) (append_assoc g.inner (Sign sign.CloseParenthesis ∷ []) ts)
    ∙ condition_read k (part_reads k) g.inner t g.is_inner (Sign sign.CloseParenthesis ∷ ts) (ASign sign.CloseParenthesis ∷ os) ks refl

-- a condition is read whole
abbrev pub kept_tree : Tree → Result (List Kept) ℕ
kept_tree t = Ok (Whole t ∷ [])

pub condition_reads : (k : ℕ) (ts : List Word) (t : Tree) → IsCondition k ts t → reads ts (ACondition k ∷ []) [] ≡ kept_tree t
condition_reads k ts t c =
    ap (λ w. reads w (ACondition k ∷ []) []) (sym (append-nil ts)) ∙ condition_read k (part_reads k) ts t c [] [] [] refl

abbrev pub kept_paths : List DocPath → Result (List Kept) ℕ
kept_paths paths = Ok (Listed paths ∷ [])

abbrev pub kept_sections : List SectionTree → Result (List Kept) ℕ
kept_sections cs = Ok (Sections cs ∷ [])

-- a sum goes on with the next word: as extends, or with a sign; and a list of sums or of others, with a comma too
abbrev sum_goes : List Word → Bool
sum_goes (Sign sign.Dot ∷ ts) = true
sum_goes (Sign sign.OpenBracket ∷ ts) = true
sum_goes (Sign sign.OpenParenthesis ∷ ts) = true
sum_goes (Sign sign.Plus ∷ ts) = true
sum_goes (Sign sign.Minus ∷ ts) = true
sum_goes ts = false

abbrev list_goes : List Word → Bool
list_goes (Sign sign.Dot ∷ ts) = true
list_goes (Sign sign.OpenBracket ∷ ts) = true
list_goes (Sign sign.OpenParenthesis ∷ ts) = true
list_goes (Sign sign.Plus ∷ ts) = true
list_goes (Sign sign.Minus ∷ ts) = true
list_goes (Sign sign.Comma ∷ ts) = true
list_goes ts = false

no_sum_extends : (ts : List Word) → sum_goes ts ≡ false → extends ts ≡ false
no_sum_extends (Sign sign.Dot ∷ ts) e = e
no_sum_extends (Sign sign.OpenBracket ∷ ts) e = e
no_sum_extends (Sign sign.OpenParenthesis ∷ ts) e = e
no_sum_extends [] e = refl
no_sum_extends (t ∷ ts) e = refl

no_list_sum : (ts : List Word) → list_goes ts ≡ false → sum_goes ts ≡ false
no_list_sum (Sign sign.Dot ∷ ts) e = e
no_list_sum (Sign sign.OpenBracket ∷ ts) e = e
no_list_sum (Sign sign.OpenParenthesis ∷ ts) e = e
no_list_sum (Sign sign.Plus ∷ ts) e = e
no_list_sum (Sign sign.Minus ∷ ts) e = e
no_list_sum [] e = refl
no_list_sum (t ∷ ts) e = refl

no_list_extends : (ts : List Word) → list_goes ts ≡ false → extends ts ≡ false
no_list_extends ts e = no_sum_extends ts (no_list_sum ts e)

-- behind a list's first item nothing but a comma, or what follows the list
more_sum_goes : {X : Type 0} (G : List Word → X → Type 0) (m : List Word) (xs : List X) → AreMore G m xs → (ts : List Word) → list_goes ts ≡ false → sum_goes (m ++ ts) ≡ false
more_sum_goes G _ _ no_more ts e = no_list_sum ts e
more_sum_goes G _ _ (one_more s are) ts e = refl

pass_paths : (ts : List Word) (os : List Owed) (ks : List Kept) → list_goes ts ≡ false → reads ts (MorePaths ∷ os) ks ≡ reads ts os ks
pass_paths [] os ks e = refl
pass_paths (Sign sign.Comma ∷ ts) os ks e = absurd (true≢false e)
pass_paths (t ∷ ts) os ks e = refl

more_paths_read : (m : List Word) (qs : List DocPath) → AreMore IsPath m qs → (ts : List Word) (ps : List DocPath) (os : List Owed) (ks : List Kept)
    → list_goes ts ≡ false → reads (m ++ ts) (MorePaths ∷ os) (Listed ps ∷ ks) ≡ reads ts os (Listed (ps ++ qs) ∷ ks)
more_paths_read _ _ no_more ts ps os ks e = pass_paths ts os (Listed ps ∷ ks) e ∙ ap (λ l. reads ts os (Listed l ∷ ks)) (sym (append-nil ps))
more_paths_read _ _ (one_more {a = a} {ts = m} {x = p} {xs = qs} s are) ts ps os ks e =
    ap (λ l. reads l (APath ∷ Do NextPath ∷ MorePaths ∷ os) (Listed ps ∷ ks)) (append_assoc a m ts)
    ∙ path_read a p s (m ++ ts) (Do NextPath ∷ MorePaths ∷ os) (Listed ps ∷ ks) (no_sum_extends (m ++ ts) (more_sum_goes IsPath m qs are ts e))
    ∙ do_it (m ++ ts) NextPath (MorePaths ∷ os) (Steps p.steps ∷ Listed ps ∷ ks)
    ∙ more_paths_read m qs are ts (ps ++ p ∷ []) os ks e ∙ ap (λ l. reads ts os (Listed l ∷ ks)) (append_assoc ps (p ∷ []) qs)

path_list_read : (u : List Word) (paths : List DocPath) → ArePaths u paths → (ts : List Word) (os : List Owed) (ks : List Kept) → list_goes ts ≡ false
    → reads (u ++ ts) (APath ∷ Do FirstPath ∷ MorePaths ∷ os) ks ≡ reads ts os (Listed paths ∷ ks)
path_list_read u paths l ts os ks e =
    ap (λ w. reads w (APath ∷ Do FirstPath ∷ MorePaths ∷ os) ks) (ap (λ w. w ++ ts) l.spelled ∙ append_assoc l.front l.more ts)
    ∙ path_read l.front l.first l.is_first (l.more ++ ts) (Do FirstPath ∷ MorePaths ∷ os) ks
    (no_sum_extends (l.more ++ ts) (more_sum_goes IsPath l.more l.others l.are_more ts e))
    ∙ do_it (l.more ++ ts) FirstPath (MorePaths ∷ os) (Steps l.first.steps ∷ ks)
    ∙ more_paths_read l.more l.others l.are_more ts (l.first ∷ []) os ks e ∙ ap (λ x. reads ts os (Listed x ∷ ks)) (sym l.listed)

-- a list of paths is read whole
pub paths_read : (ts : List Word) (paths : List DocPath) → ArePaths ts paths → reads ts (APath ∷ Do FirstPath ∷ MorePaths ∷ []) [] ≡ kept_paths paths
paths_read ts paths s =
    ap (λ w. reads w (APath ∷ Do FirstPath ∷ MorePaths ∷ []) []) (sym (append-nil ts)) ∙ path_list_read ts paths s [] [] [] refl

first_term : (k : ℕ) (w : Word) (name : List ℕ) → IsName w name → (ts : List Word) (os : List Owed) (ks : List Kept) → opens ts ≡ false
    → reads (w ∷ ts) (ATerm k ∷ os) ks ≡ reads ts (MoreSteps ∷ Do MakeTerm ∷ os) (Steps (named name) ∷ ks)
first_term k _ name written ts os ks e = named_term k name ts os ks e
first_term k _ name placed ts os ks e = refl

plain_term_read : (k : ℕ) (a : List Word) (t : TermTree) → IsPlainTerm a t → (ts : List Word) (os : List Owed) (ks : List Kept) → extends ts ≡ false
    → reads (a ++ ts) (ATerm k ∷ os) ks ≡ reads ts os (Termed t ∷ ks)
plain_term_read k a t (located path s is) ts os ks e =
    ap (λ l. reads (l ++ ts) (ATerm k ∷ os) ks) s.spelled
    ∙ first_term k s.first s.name s.is_first (s.more ++ ts) os ks (steps_call s.more s.steps s.are_more ts e)
    ∙ path_steps a path s ts (Do MakeTerm ∷ os) ks e
    ∙ do_it ts MakeTerm os (Steps path.steps ∷ ks) ∙ ap (λ l. reads ts os (Termed l ∷ ks)) (sym is)
plain_term_read k a t (valued value is t_is) ts os ks e =
    ap (λ l. reads (l ++ ts) (ATerm k ∷ os) ks) is ∙ ap (λ l. reads ts os (Termed l ∷ ks)) (sym t_is)

-- two arguments behind an opening parenthesis, with what follows them
arguments : (a b ts : List Word)
    → (a ++ Sign sign.Comma ∷ (b ++ Sign sign.CloseParenthesis ∷ [])) ++ ts ≡ a ++ Sign sign.Comma ∷ (b ++ Sign sign.CloseParenthesis ∷ ts)
arguments a b ts =
    append_assoc a (Sign sign.Comma ∷ (b ++ Sign sign.CloseParenthesis ∷ [])) ts
    ∙ ap (λ l. a ++ Sign sign.Comma ∷ l) (append_assoc b (Sign sign.CloseParenthesis ∷ []) ts)

term_read : (k : ℕ) (a : List Word) (t : TermTree) → IsTerm k a t → (ts : List Word) (os : List Owed) (ks : List Kept) → extends ts ≡ false
    → reads (a ++ ts) (ATerm k ∷ os) ks ≡ reads ts os (Termed t ∷ ks)
term_read zero a t s ts os ks e = plain_term_read zero a t s ts os ks e
term_read (suc k) a t (inl s) ts os ks e = plain_term_read (suc k) a t s ts os ks e
term_read (suc k) a t (inr (an_or_else x y path other s r is t_is)) ts os ks e =
    ap (λ l. reads (l ++ ts) (ATerm (suc k) ∷ os) ks) is
    ∙ ap (λ l. reads l (APath ∷ ASign sign.Comma ∷ ATerm k ∷ ASign sign.CloseParenthesis ∷ Do MakeOrElse ∷ os) ks) (arguments x y ts)
    ∙ path_read x path s (Sign sign.Comma ∷ (y ++ Sign sign.CloseParenthesis ∷ ts)) (ASign sign.Comma ∷ ATerm k ∷ ASign sign.CloseParenthesis ∷ Do MakeOrElse ∷ os) ks refl
    ∙ term_read k y other r (Sign sign.CloseParenthesis ∷ ts) (ASign sign.CloseParenthesis ∷ Do MakeOrElse ∷ os) (Steps path.steps ∷ ks) refl
    ∙ do_it ts MakeOrElse os (Termed other ∷ Steps path.steps ∷ ks) ∙ ap (λ l. reads ts os (Termed l ∷ ks)) (sym t_is)
term_read (suc k) a t (inr (an_append x y front back s r is t_is)) ts os ks e =
    ap (λ l. reads (l ++ ts) (ATerm (suc k) ∷ os) ks) is
    ∙ ap (λ l. reads l (ATerm k ∷ ASign sign.Comma ∷ ATerm k ∷ ASign sign.CloseParenthesis ∷ Do MakeAppended ∷ os) ks) (arguments x y ts)
    ∙ term_read k x front s (Sign sign.Comma ∷ (y ++ Sign sign.CloseParenthesis ∷ ts)) (ASign sign.Comma ∷ ATerm k ∷ ASign sign.CloseParenthesis ∷ Do MakeAppended ∷ os) ks refl
    ∙ term_read k y back r (Sign sign.CloseParenthesis ∷ ts) (ASign sign.CloseParenthesis ∷ Do MakeAppended ∷ os) (Termed front ∷ ks) refl
    ∙ do_it ts MakeAppended os (Termed back ∷ Termed front ∷ ks) ∙ ap (λ l. reads ts os (Termed l ∷ ks)) (sym t_is)

pass_sum : (k : ℕ) (ts : List Word) (t : TermTree) (os : List Owed) (ks : List Kept) → sum_goes ts ≡ false
    → reads ts (MoreSum k ∷ os) (Termed t ∷ ks) ≡ reads ts os (Summed (Alone t) ∷ ks)
pass_sum k [] t os ks e = refl
pass_sum k (Sign sign.Plus ∷ ts) t os ks e = absurd (true≢false e)
pass_sum k (Sign sign.Minus ∷ ts) t os ks e = absurd (true≢false e)
pass_sum k (w ∷ ts) t os ks e = refl

sum_end_read : (k : ℕ) (t : TermTree) (m : List Word) (x : SumTree) → IsSumEnd k t m x → (ts : List Word) (os : List Owed) (ks : List Kept) → sum_goes ts ≡ false
    → reads (m ++ ts) (MoreSum k ∷ os) (Termed t ∷ ks) ≡ reads ts os (Summed x ∷ ks)
sum_end_read k t m x (alone is x_is) ts os ks e =
    ap (λ l. reads (l ++ ts) (MoreSum k ∷ os) (Termed t ∷ ks)) is ∙ pass_sum k ts t os ks e ∙ ap (λ l. reads ts os (Summed l ∷ ks)) (sym x_is)
sum_end_read k t m x (plus a u s is x_is) ts os ks e =
    ap (λ l. reads (l ++ ts) (MoreSum k ∷ os) (Termed t ∷ ks)) is
    ∙ term_read k a u s ts (Do (OfTerms Plus) ∷ os) (Termed t ∷ ks) (no_sum_extends ts e)
    ∙ do_it ts (OfTerms Plus) os (Termed u ∷ Termed t ∷ ks) ∙ ap (λ l. reads ts os (Summed l ∷ ks)) (sym x_is)
sum_end_read k t m x (minus a u s is x_is) ts os ks e =
    ap (λ l. reads (l ++ ts) (MoreSum k ∷ os) (Termed t ∷ ks)) is
    ∙ term_read k a u s ts (Do (OfTerms Minus) ∷ os) (Termed t ∷ ks) (no_sum_extends ts e)
    ∙ do_it ts (OfTerms Minus) os (Termed u ∷ Termed t ∷ ks) ∙ ap (λ l. reads ts os (Summed l ∷ ks)) (sym x_is)

sum_end_extends : (k : ℕ) (t : TermTree) (m : List Word) (x : SumTree) → IsSumEnd k t m x → (ts : List Word) → sum_goes ts ≡ false → extends (m ++ ts) ≡ false
sum_end_extends k t m x (alone is x_is) ts e = ap (λ l. extends (l ++ ts)) is ∙ no_sum_extends ts e
sum_end_extends k t m x (plus a u s is x_is) ts e = ap (λ l. extends (l ++ ts)) is
sum_end_extends k t m x (minus a u s is x_is) ts e = ap (λ l. extends (l ++ ts)) is

sum_read : (k : ℕ) (a : List Word) (x : SumTree) → IsSum k a x → (ts : List Word) (os : List Owed) (ks : List Kept) → sum_goes ts ≡ false
    → reads (a ++ ts) (ASum k ∷ os) ks ≡ reads ts os (Summed x ∷ ks)
sum_read k a x s ts os ks e =
    sum_starts (a ++ ts) k os ks
    ∙ ap (λ w. reads w (ATerm k ∷ MoreSum k ∷ os) ks) (ap (λ w. w ++ ts) s.spelled ∙ append_assoc s.front s.more ts)
    ∙ term_read k s.front s.first s.is_first (s.more ++ ts) (MoreSum k ∷ os) ks (sum_end_extends k s.first s.more x s.is_end ts e)
    ∙ sum_end_read k s.first s.more x s.is_end ts os ks e

set_read : (k : ℕ) (a : List Word) (x : SetTree) → IsSet k a x → (ts : List Word) (xs : List SetTree) (os : List Owed) (ks : List Kept) → sum_goes ts ≡ false
    → reads (a ++ ts) (APath ∷ ASign sign.Equal ∷ ASum k ∷ Do NextSet ∷ os) (Assigned xs ∷ ks) ≡ reads ts os (Assigned (xs ++ x ∷ []) ∷ ks)
set_read k a x s ts xs os ks e =
    ap (λ w. reads w (APath ∷ ASign sign.Equal ∷ ASum k ∷ Do NextSet ∷ os) (Assigned xs ∷ ks))
    (ap (λ w. w ++ ts) s.spelled ∙ append_assoc s.front (Sign sign.Equal ∷ s.more) ts)
    ∙ path_read s.front x.path s.is_path (Sign sign.Equal ∷ (s.more ++ ts)) (ASign sign.Equal ∷ ASum k ∷ Do NextSet ∷ os) (Assigned xs ∷ ks) refl
    ∙ sum_read k s.more x.sum s.is_sum ts (Do NextSet ∷ os) (Steps x.path.steps ∷ Assigned xs ∷ ks) e
    ∙ do_it ts NextSet os (Summed x.sum ∷ Steps x.path.steps ∷ Assigned xs ∷ ks)

pass_sets : (k : ℕ) (ts : List Word) (os : List Owed) (ks : List Kept) → list_goes ts ≡ false → reads ts (MoreSets k ∷ os) ks ≡ reads ts os ks
pass_sets k [] os ks e = refl
pass_sets k (Sign sign.Comma ∷ ts) os ks e = absurd (true≢false e)
pass_sets k (t ∷ ts) os ks e = refl

more_sets_read : (k : ℕ) (m : List Word) (ys : List SetTree) → AreMore (IsSet k) m ys → (ts : List Word) (xs : List SetTree) (os : List Owed) (ks : List Kept)
    → list_goes ts ≡ false → reads (m ++ ts) (MoreSets k ∷ os) (Assigned xs ∷ ks) ≡ reads ts os (Assigned (xs ++ ys) ∷ ks)
more_sets_read k _ _ no_more ts xs os ks e = pass_sets k ts os (Assigned xs ∷ ks) e ∙ ap (λ l. reads ts os (Assigned l ∷ ks)) (sym (append-nil xs))
more_sets_read k _ _ (one_more {a = a} {ts = m} {x = y} {xs = ys} s are) ts xs os ks e =
    ap (λ l. reads l (a_set k ++ os) (Assigned xs ∷ ks)) (append_assoc a m ts)
    ∙ set_read k a y s (m ++ ts) xs (MoreSets k ∷ os) ks (more_sum_goes (IsSet k) m ys are ts e)
    ∙ more_sets_read k m ys are ts (xs ++ y ∷ []) os ks e ∙ ap (λ l. reads ts os (Assigned l ∷ ks)) (append_assoc xs (y ∷ []) ys)

set_list_read : (k : ℕ) (u : List Word) (ys : List SetTree) → AreListed (IsSet k) u ys → (ts : List Word) (os : List Owed) (ks : List Kept) → list_goes ts ≡ false
    → reads (u ++ ts) (a_set k ++ os) (Assigned [] ∷ ks) ≡ reads ts os (Assigned ys ∷ ks)
set_list_read k u ys l ts os ks e =
    ap (λ w. reads w (a_set k ++ os) (Assigned [] ∷ ks)) (ap (λ w. w ++ ts) l.spelled ∙ append_assoc l.front l.more ts)
    ∙ set_read k l.front l.first l.is_first (l.more ++ ts) [] (MoreSets k ∷ os) ks (more_sum_goes (IsSet k) l.more l.others l.are_more ts e)
    ∙ more_sets_read k l.more l.others l.are_more ts (l.first ∷ []) os ks e ∙ ap (λ x. reads ts os (Assigned x ∷ ks)) (sym l.listed)

pair_read : (a : List Word) (x : PathValue) → IsPair a x → (ts : List Word) (xs : List PathValue) (os : List Owed) (ks : List Kept)
    → reads (a ++ ts) (APath ∷ AValue ∷ Do NextPair ∷ os) (Paired xs ∷ ks) ≡ reads ts os (Paired (xs ++ x ∷ []) ∷ ks)
pair_read a x s ts xs os ks =
    ap (λ w. reads w (APath ∷ AValue ∷ Do NextPair ∷ os) (Paired xs ∷ ks)) (ap (λ w. w ++ ts) s.spelled ∙ append_assoc s.front (Held x.value ∷ []) ts)
    ∙ path_read s.front x.path s.is_path (Held x.value ∷ ts) (AValue ∷ Do NextPair ∷ os) (Paired xs ∷ ks) refl
    ∙ do_it ts NextPair os (Place x.value ∷ Steps x.path.steps ∷ Paired xs ∷ ks)

pass_pairs : (ts : List Word) (os : List Owed) (ks : List Kept) → list_goes ts ≡ false → reads ts (MorePairs ∷ os) ks ≡ reads ts os ks
pass_pairs [] os ks e = refl
pass_pairs (Sign sign.Comma ∷ ts) os ks e = absurd (true≢false e)
pass_pairs (t ∷ ts) os ks e = refl

more_pairs_read : (m : List Word) (ys : List PathValue) → AreMore IsPair m ys → (ts : List Word) (xs : List PathValue) (os : List Owed) (ks : List Kept)
    → list_goes ts ≡ false → reads (m ++ ts) (MorePairs ∷ os) (Paired xs ∷ ks) ≡ reads ts os (Paired (xs ++ ys) ∷ ks)
more_pairs_read _ _ no_more ts xs os ks e = pass_pairs ts os (Paired xs ∷ ks) e ∙ ap (λ l. reads ts os (Paired l ∷ ks)) (sym (append-nil xs))
more_pairs_read _ _ (one_more {a = a} {ts = m} {x = y} {xs = ys} s are) ts xs os ks e =
    ap (λ l. reads l (a_pair ++ os) (Paired xs ∷ ks)) (append_assoc a m ts)
    ∙ pair_read a y s (m ++ ts) xs (MorePairs ∷ os) ks
    ∙ more_pairs_read m ys are ts (xs ++ y ∷ []) os ks e ∙ ap (λ l. reads ts os (Paired l ∷ ks)) (append_assoc xs (y ∷ []) ys)

pair_list_read : (u : List Word) (ys : List PathValue) → AreListed IsPair u ys → (ts : List Word) (os : List Owed) (ks : List Kept) → list_goes ts ≡ false
    → reads (u ++ ts) (a_pair ++ os) (Paired [] ∷ ks) ≡ reads ts os (Paired ys ∷ ks)
pair_list_read u ys l ts os ks e =
    ap (λ w. reads w (a_pair ++ os) (Paired [] ∷ ks)) (ap (λ w. w ++ ts) l.spelled ∙ append_assoc l.front l.more ts)
    ∙ pair_read l.front l.first l.is_first (l.more ++ ts) [] (MorePairs ∷ os) ks
    ∙ more_pairs_read l.more l.others l.are_more ts (l.first ∷ []) os ks e ∙ ap (λ x. reads ts os (Paired x ∷ ks)) (sym l.listed)

section_read : (k : ℕ) (u : List Word) (c : SectionTree) → IsSection k u c → (ts : List Word) (cs : List SectionTree) (os : List Owed) (ks : List Kept)
    → list_goes ts ≡ false → reads (u ++ ts) (ASection k ∷ os) (Sections cs ∷ ks) ≡ reads ts os (Sections (cs ++ c ∷ []) ∷ ks)
section_read k u c (sets inner xs l is c_is) ts cs os ks e =
    ap (λ w. reads (w ++ ts) (ASection k ∷ os) (Sections cs ∷ ks)) is
    ∙ set_list_read k inner xs l ts (Do EndSets ∷ os) (Sections cs ∷ ks) e
    ∙ do_it ts EndSets os (Assigned xs ∷ Sections cs ∷ ks) ∙ ap (λ d. reads ts os (Sections (cs ++ d ∷ []) ∷ ks)) (sym c_is)
section_read k u c (removes inner xs l is c_is) ts cs os ks e =
    ap (λ w. reads (w ++ ts) (ASection k ∷ os) (Sections cs ∷ ks)) is
    ∙ path_list_read inner xs l ts (Do EndRemoves ∷ os) (Sections cs ∷ ks) e
    ∙ do_it ts EndRemoves os (Listed xs ∷ Sections cs ∷ ks) ∙ ap (λ d. reads ts os (Sections (cs ++ d ∷ []) ∷ ks)) (sym c_is)
section_read k u c (adds inner xs l is c_is) ts cs os ks e =
    ap (λ w. reads (w ++ ts) (ASection k ∷ os) (Sections cs ∷ ks)) is
    ∙ pair_list_read inner xs l ts (Do (EndPairs Adds) ∷ os) (Sections cs ∷ ks) e
    ∙ do_it ts (EndPairs Adds) os (Paired xs ∷ Sections cs ∷ ks) ∙ ap (λ d. reads ts os (Sections (cs ++ d ∷ []) ∷ ks)) (sym c_is)
section_read k u c (deletes inner xs l is c_is) ts cs os ks e =
    ap (λ w. reads (w ++ ts) (ASection k ∷ os) (Sections cs ∷ ks)) is
    ∙ pair_list_read inner xs l ts (Do (EndPairs Deletes) ∷ os) (Sections cs ∷ ks) e
    ∙ do_it ts (EndPairs Deletes) os (Paired xs ∷ Sections cs ∷ ks) ∙ ap (λ d. reads ts os (Sections (cs ++ d ∷ []) ∷ ks)) (sym c_is)

-- before a clause another one begins, and no list goes on
section_begins : (k : ℕ) (u : List Word) (c : SectionTree) → IsSection k u c → (ts : List Word) (os : List Owed) (ks : List Kept)
    → reads (u ++ ts) (MoreSections k ∷ os) ks ≡ reads (u ++ ts) (ASection k ∷ MoreSections k ∷ os) ks
section_begins k u c (sets inner xs l is c_is) ts os ks = subst (λ w. reads (w ++ ts) (MoreSections k ∷ os) ks ≡ reads (w ++ ts) (ASection k ∷ MoreSections k ∷ os) ks) (sym is) refl
section_begins k u c (removes inner xs l is c_is) ts os ks = subst (λ w. reads (w ++ ts) (MoreSections k ∷ os) ks ≡ reads (w ++ ts) (ASection k ∷ MoreSections k ∷ os) ks) (sym is) refl
section_begins k u c (adds inner xs l is c_is) ts os ks = subst (λ w. reads (w ++ ts) (MoreSections k ∷ os) ks ≡ reads (w ++ ts) (ASection k ∷ MoreSections k ∷ os) ks) (sym is) refl
section_begins k u c (deletes inner xs l is c_is) ts os ks = subst (λ w. reads (w ++ ts) (MoreSections k ∷ os) ks ≡ reads (w ++ ts) (ASection k ∷ MoreSections k ∷ os) ks) (sym is) refl

section_no_list : (k : ℕ) (u : List Word) (c : SectionTree) → IsSection k u c → (ts : List Word) → list_goes (u ++ ts) ≡ false
section_no_list k u c (sets inner xs l is c_is) ts = ap (λ w. list_goes (w ++ ts)) is
section_no_list k u c (removes inner xs l is c_is) ts = ap (λ w. list_goes (w ++ ts)) is
section_no_list k u c (adds inner xs l is c_is) ts = ap (λ w. list_goes (w ++ ts)) is
section_no_list k u c (deletes inner xs l is c_is) ts = ap (λ w. list_goes (w ++ ts)) is

sections_no_list : (k : ℕ) (m : List Word) (ds : List SectionTree) → AreSections k m ds → list_goes m ≡ false
sections_no_list k _ _ no_section = refl
sections_no_list k _ _ (a_section {a = a} {ts = ts} {c = c} s are) = section_no_list k a c s ts

sections_read : (k : ℕ) (m : List Word) (ds : List SectionTree) → AreSections k m ds → (cs : List SectionTree)
    → reads m (MoreSections k ∷ []) (Sections cs ∷ []) ≡ kept_sections (cs ++ ds)
sections_read k _ _ no_section cs = ap kept_sections (sym (append-nil cs))
sections_read k _ _ (a_section {a = a} {ts = m} {c = c} {cs = ds} s are) cs =
    section_begins k a c s m [] (Sections cs ∷ [])
    ∙ section_read k a c s m cs (MoreSections k ∷ []) [] (sections_no_list k m ds are)
    ∙ sections_read k m ds are (cs ++ c ∷ []) ∙ ap kept_sections (append_assoc cs (c ∷ []) ds)

-- an update is read whole
pub update_reads : (k : ℕ) (ts : List Word) (cs : List SectionTree) → IsUpdate k ts cs → reads ts (an_update k) [] ≡ kept_sections cs
update_reads k ts cs s =
    ap (λ w. reads w (an_update k) []) s.spelled
    ∙ do_it (s.front ++ s.more) NoSections (ASection k ∷ MoreSections k ∷ []) []
    ∙ section_read k s.front s.first s.is_first s.more [] (MoreSections k ∷ []) [] (sections_no_list k s.more s.others s.are_more)
    ∙ sections_read k s.more s.others s.are_more (s.first ∷ []) ∙ ap kept_sections (sym s.listed)
