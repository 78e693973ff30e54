-- `same` says of two trees whether they are equal.
use Rattle.std.proofs.Common.{◌≡◌, ℕ, List, Bool, true, false, ◌&&◌, bytes_eq, nat_eq, refl, sym, ap, ◌∙◌, subst}
use Rattle.std.specs.Bool.{Decides}
use Rattle.std.specs.Cmp.{IsEquivalence, decided}
use Rattle.std.specs.Cmp.Lexicographic.{pointwise}
use Rattle.std.proofs.lemmas.Bool.Decides.{Decides-eqb}
use Rattle.std.proofs.lemmas.Cmp.{on_equiv}
use Rattle.std.proofs.lemmas.Slice.Eq.{slice_eq-Decides, bytes_eq-Decides}
use Rattle.base_types.specs.declared.path.DocPath.{DocPath}
use Rattle.base_types.specs.declared.path.Step.{Step}
use Rattle.base_types.specs.declared.path.Step.TheVariants as step
use Rattle.expr_words.specs.declared.tree.Comparison.{Comparison}
use Rattle.expr_words.specs.declared.tree.Comparison.TheVariants as comparison
use Rattle.expr_words.specs.declared.tree.Operand.{Operand}
use Rattle.expr_words.specs.declared.tree.Operand.TheVariants as operand
use Rattle.expr_words.specs.declared.tree.Condition.{Condition}
use Rattle.expr_words.specs.declared.tree.Term as code
use Rattle.expr_words.specs.Trees.{Tree, Disjunction, Conjunction, Negation, Compared, Range, Choice, Presence, Absence, KindTest, FrontTest, PartTest, TermTree, Located, OfValue, OrElse, Appended, tree, term_tree}
use Rattle.expr_words.specs.Equality.{same_step, same_path, same_comparison, same_operand, same, same_term}

both : (a b : Bool) → (a && b) ≡ true → (a ≡ true) × (b ≡ true)
both true b e = (refl, e)
both false b e = cc

all_true : (a b : Bool) → a ≡ true → b ≡ true → (a && b) ≡ true
all_true true b p q = q
all_true false b p q = cc

-- a test that is true of equal values, and of no others, decides whether they are equal
decides : {X : Type 0} (test : X → X → Bool) → ((x y : X) → test x y ≡ true → x ≡ y) → ((x : X) → test x x ≡ true) → (x y : X) → Decides (test x y) (x ≡ y)
decides test equal itself x y = (equal x y, λ e. subst (λ z. test x z ≡ true) e (itself x))

step_decides : (s t : Step) → Decides (same_step s t) (s ≡ t)
step_decides = decides same_step equal itself where
  equal : (s t : Step) → same_step s t ≡ true → s ≡ t
  equal (step.Name a) (step.Name b) e = ap (λ n. step.Name n) ((bytes_eq-Decides a b).0 e)
  equal (step.Index i) (step.Index j) e = ap (λ n. step.Index n) ((Decides-eqb i j).0 e)
  equal s t e = cc

  itself : (s : Step) → same_step s s ≡ true
  itself (step.Name a) = (bytes_eq-Decides a a).1 refl
  itself (step.Index i) = (Decides-eqb i i).1 refl

pub path_decides : (p q : DocPath) → Decides (same_path p q) (p ≡ q)
path_decides p q =
    let d = slice_eq-Decides step_decides p.steps q.steps (same_path p q) refl in
    ((λ e. λ i. record { steps = d.0 e i }), (λ e. d.1 (ap (λ (r : DocPath). r.steps) e)))

comparison_decides : (x y : Comparison) → Decides (same_comparison x y) (x ≡ y)
comparison_decides = decides same_comparison equal itself where
  equal : (x y : Comparison) → same_comparison x y ≡ true → x ≡ y
  equal comparison.Equal comparison.Equal e = refl
  equal comparison.Unequal comparison.Unequal e = refl
  equal comparison.Less comparison.Less e = refl
  equal comparison.AtMost comparison.AtMost e = refl
  equal comparison.More comparison.More e = refl
  equal comparison.AtLeast comparison.AtLeast e = refl
  equal x y e = cc

  itself : (x : Comparison) → same_comparison x x ≡ true
  itself comparison.Equal = refl
  itself comparison.Unequal = refl
  itself comparison.Less = refl
  itself comparison.AtMost = refl
  itself comparison.More = refl
  itself comparison.AtLeast = refl

pub operand_decides : (x y : Operand) → Decides (same_operand x y) (x ≡ y)
operand_decides = decides same_operand equal itself where
  equal : (x y : Operand) → same_operand x y ≡ true → x ≡ y
  equal (operand.Path p) (operand.Path q) e = ap (λ r. operand.Path r) ((path_decides p q).0 e)
  equal (operand.Value v) (operand.Value w) e = ap (λ n. operand.Value n) ((Decides-eqb v w).0 e)
  equal (operand.Size p) (operand.Size q) e = ap (λ r. operand.Size r) ((path_decides p q).0 e)
  equal x y e = cc

  itself : (x : Operand) → same_operand x x ≡ true
  itself (operand.Path p) = (path_decides p p).1 refl
  itself (operand.Value v) = (Decides-eqb v v).1 refl
  itself (operand.Size p) = (path_decides p p).1 refl

operands_decide : (xs ys : List Operand) → Decides (pointwise same_operand xs ys) (xs ≡ ys)
operands_decide xs ys = slice_eq-Decides operand_decides xs ys (pointwise same_operand xs ys) refl

-- two operands that are alike make one tree
two : (of : Operand → Operand → Tree) (x y u v : Operand) → (same_operand x u && same_operand y v) ≡ true → of x y ≡ of u v
two of x y u v e =
    let p = both (same_operand x u) (same_operand y v) e in
    ap (λ z. of z y) ((operand_decides x u).0 p.0) ∙ ap (of u) ((operand_decides y v).0 p.1)

two_themselves : (x y : Operand) → (same_operand x x && same_operand y y) ≡ true
two_themselves x y = all_true (same_operand x x) (same_operand y y) ((operand_decides x x).1 refl) ((operand_decides y y).1 refl)

equal_where_same : (t u : Tree) → same t u ≡ true → t ≡ u
equal_where_same (Disjunction s t) (Disjunction u v) e =
    let p = both (same s u) (same t v) e in
    ap (λ x. Disjunction x t) (equal_where_same s u p.0) ∙ ap (Disjunction u) (equal_where_same t v p.1)
equal_where_same (Conjunction s t) (Conjunction u v) e =
    let p = both (same s u) (same t v) e in
    ap (λ x. Conjunction x t) (equal_where_same s u p.0) ∙ ap (Conjunction u) (equal_where_same t v p.1)
equal_where_same (Negation t) (Negation u) e = ap Negation (equal_where_same t u e)
equal_where_same (Compared op x y) (Compared op' u v) e =
    let p = both (same_comparison op op') (same_operand x u && same_operand y v) e in
    ap (λ o. Compared o x y) ((comparison_decides op op').0 p.0) ∙ two (Compared op') x y u v p.1
equal_where_same (Range x y z) (Range u v w) e =
    let p = both (same_operand x u) (same_operand y v && same_operand z w) e in
    ap (λ o. Range o y z) ((operand_decides x u).0 p.0) ∙ two (Range u) y z v w p.1
equal_where_same (Choice x ys) (Choice u vs) e =
    let p = both (same_operand x u) (pointwise same_operand ys vs) e in
    ap (λ o. Choice o ys) ((operand_decides x u).0 p.0) ∙ ap (Choice u) ((operands_decide ys vs).0 p.1)
equal_where_same (Presence p) (Presence q) e = ap Presence ((path_decides p q).0 e)
equal_where_same (Absence p) (Absence q) e = ap Absence ((path_decides p q).0 e)
equal_where_same (KindTest p v) (KindTest q w) e =
    let h = both (same_path p q) (nat_eq v w) e in
    ap (λ r. KindTest r v) ((path_decides p q).0 h.0) ∙ ap (KindTest q) ((Decides-eqb v w).0 h.1)
equal_where_same (FrontTest x y) (FrontTest u v) e = two FrontTest x y u v e
equal_where_same (PartTest x y) (PartTest u v) e = two PartTest x y u v e
equal_where_same t u e = cc

same_itself : (t : Tree) → same t t ≡ true
same_itself (Disjunction s t) = all_true (same s s) (same t t) (same_itself s) (same_itself t)
same_itself (Conjunction s t) = all_true (same s s) (same t t) (same_itself s) (same_itself t)
same_itself (Negation t) = same_itself t
same_itself (Compared op x y) =
    all_true (same_comparison op op) (same_operand x x && same_operand y y) ((comparison_decides op op).1 refl) (two_themselves x y)
same_itself (Range x y z) = all_true (same_operand x x) (same_operand y y && same_operand z z) ((operand_decides x x).1 refl) (two_themselves y z)
same_itself (Choice x ys) = all_true (same_operand x x) (pointwise same_operand ys ys) ((operand_decides x x).1 refl) ((operands_decide ys ys).1 refl)
same_itself (Presence p) = (path_decides p p).1 refl
same_itself (Absence p) = (path_decides p p).1 refl
same_itself (KindTest p v) = all_true (same_path p p) (nat_eq v v) ((path_decides p p).1 refl) ((Decides-eqb v v).1 refl)
same_itself (FrontTest x y) = two_themselves x y
same_itself (PartTest x y) = two_themselves x y

equal_terms : (t u : TermTree) → same_term t u ≡ true → t ≡ u
equal_terms (Located p) (Located q) e = ap Located ((path_decides p q).0 e)
equal_terms (OfValue v) (OfValue w) e = ap OfValue ((Decides-eqb v w).0 e)
equal_terms (OrElse p t) (OrElse q u) e =
    let h = both (same_path p q) (same_term t u) e in
    ap (λ r. OrElse r t) ((path_decides p q).0 h.0) ∙ ap (OrElse q) (equal_terms t u h.1)
equal_terms (Appended s t) (Appended u v) e =
    let h = both (same_term s u) (same_term t v) e in
    ap (λ x. Appended x t) (equal_terms s u h.0) ∙ ap (Appended u) (equal_terms t v h.1)
equal_terms t u e = cc

term_itself : (t : TermTree) → same_term t t ≡ true
term_itself (Located p) = (path_decides p p).1 refl
term_itself (OfValue v) = (Decides-eqb v v).1 refl
term_itself (OrElse p t) = all_true (same_path p p) (same_term t t) ((path_decides p p).1 refl) (term_itself t)
term_itself (Appended s t) = all_true (same_term s s) (same_term t t) (term_itself s) (term_itself t)

-- the laws of ==
pub tree_decides : (t u : Tree) → Decides (same t u) (t ≡ u)
tree_decides = decides same equal_where_same same_itself

pub term_decides : (t u : TermTree) → Decides (same_term t u) (t ≡ u)
term_decides = decides same_term equal_terms term_itself

pub condition_laws : IsEquivalence (λ (one other : Condition). same (tree one) (tree other))
condition_laws = on_equiv tree (decided same tree_decides)

pub term_laws : IsEquivalence (λ (one other : code.Term). same_term (term_tree one) (term_tree other))
term_laws = on_equiv term_tree (decided same_term term_decides)
