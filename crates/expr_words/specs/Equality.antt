-- Whether two trees are equal.
use Rattle.std.specs.Prelude.{◌&&◌, ◌≡◌, ℕ, Bool, true, false, List, bytes_eq, nat_eq}
use Rattle.std.specs.Cmp.Lexicographic.{pointwise}
use Rattle.base_types.specs.declared.path.DocPath.{DocPath}
use Rattle.base_types.specs.declared.path.Step.{Step}
use Rattle.base_types.specs.declared.path.Step.TheVariants as step
use Rattle.expr_words.specs.declared.tree.Comparison.{Comparison}
use Rattle.expr_words.specs.declared.tree.Comparison.TheVariants as comparison
use Rattle.expr_words.specs.declared.tree.Operand.{Operand}
use Rattle.expr_words.specs.declared.tree.Operand.TheVariants as operand
use Rattle.expr_words.specs.Trees.{Tree, Disjunction, Conjunction, Negation, Compared, Range, Choice, Presence, Absence, KindTest, FrontTest, PartTest, TermTree, Located, OfValue, OrElse, Appended}

abbrev pub same_step : Step → Step → Bool
same_step (step.Name a) (step.Name b) = bytes_eq a b
same_step (step.Index i) (step.Index j) = nat_eq i j
same_step s t = false

abbrev pub same_path : DocPath → DocPath → Bool
same_path p q = pointwise same_step p.steps q.steps

abbrev pub same_comparison : Comparison → Comparison → Bool
same_comparison comparison.Equal comparison.Equal = true
same_comparison comparison.Unequal comparison.Unequal = true
same_comparison comparison.Less comparison.Less = true
same_comparison comparison.AtMost comparison.AtMost = true
same_comparison comparison.More comparison.More = true
same_comparison comparison.AtLeast comparison.AtLeast = true
same_comparison x y = false

abbrev pub same_operand : Operand → Operand → Bool
same_operand (operand.Path p) (operand.Path q) = same_path p q
same_operand (operand.Value v) (operand.Value w) = nat_eq v w
same_operand (operand.Size p) (operand.Size q) = same_path p q
same_operand x y = false

abbrev pub same : Tree → Tree → Bool
same (Disjunction s t) (Disjunction u v) = same s u && same t v
same (Conjunction s t) (Conjunction u v) = same s u && same t v
same (Negation t) (Negation u) = same t u
same (Compared op x y) (Compared op' u v) = same_comparison op op' && (same_operand x u && same_operand y v)
same (Range x y z) (Range u v w) = same_operand x u && (same_operand y v && same_operand z w)
same (Choice x ys) (Choice u vs) = same_operand x u && pointwise same_operand ys vs
same (Presence p) (Presence q) = same_path p q
same (Absence p) (Absence q) = same_path p q
same (KindTest p v) (KindTest q w) = same_path p q && nat_eq v w
same (FrontTest x y) (FrontTest u v) = same_operand x u && same_operand y v
same (PartTest x y) (PartTest u v) = same_operand x u && same_operand y v
same t u = false

abbrev pub same_term : TermTree → TermTree → Bool
same_term (Located p) (Located q) = same_path p q
same_term (OfValue v) (OfValue w) = nat_eq v w
same_term (OrElse p t) (OrElse q u) = same_path p q && same_term t u
same_term (Appended s t) (Appended u v) = same_term s u && same_term t v
same_term t u = false
