-- Conditions and updates as plain data, and the trees that those of the code stand for.
use Rattle.std.specs.Prelude.{ℕ, List, map}
use Rattle.base_types.specs.declared.path.DocPath.{DocPath}
use Rattle.expr_words.specs.declared.tree.Comparison.{Comparison}
use Rattle.expr_words.specs.declared.tree.Operand.{Operand}
use Rattle.expr_words.specs.declared.tree.Condition.{Condition}
use Rattle.expr_words.specs.declared.tree.Condition.TheVariants as condition
use Rattle.expr_words.specs.declared.tree.Term as code_term
use Rattle.expr_words.specs.declared.tree.Term.TheVariants as term
use Rattle.expr_words.specs.declared.tree.Sum as code_sum
use Rattle.expr_words.specs.declared.tree.Sum.TheVariants as sum
use Rattle.expr_words.specs.declared.tree.SetTo.{SetTo}
use Rattle.expr_words.specs.declared.tree.PathValue.{PathValue}
use Rattle.expr_words.specs.declared.tree.Section.{Section}
use Rattle.expr_words.specs.declared.tree.Section.TheVariants as section

-- a condition; a value is named by its place among the value names
pub data Tree : Type 0 where
  Disjunction : Tree → Tree → Tree
  Conjunction : Tree → Tree → Tree
  Negation : Tree → Tree
  Compared : Comparison → Operand → Operand → Tree
  Range : Operand → Operand → Operand → Tree
  Choice : Operand → List Operand → Tree
  Presence : DocPath → Tree
  Absence : DocPath → Tree
  KindTest : DocPath → ℕ → Tree
  FrontTest : Operand → Operand → Tree
  PartTest : Operand → Operand → Tree

-- the tree of a condition
abbrev pub tree : Condition → Tree
tree (condition.Or' p left q right) = Disjunction (tree left) (tree right)
tree (condition.And' p left q right) = Conjunction (tree left) (tree right)
tree (condition.Not' p inner) = Negation (tree inner)
tree (condition.Compare op left right) = Compared op left right
tree (condition.Between operand low high) = Range operand low high
tree (condition.Among operand choices) = Choice operand choices
tree (condition.Exists path) = Presence path
tree (condition.Absent path) = Absence path
tree (condition.OfKind path value) = KindTest path value
tree (condition.Begins operand front) = FrontTest operand front
tree (condition.Contains operand part) = PartTest operand part

-- a term of an update
pub data TermTree : Type 0 where
  -- what stands at a path; the value of this place
  Located : DocPath → TermTree
  OfValue : ℕ → TermTree
  -- what stands at the path, or else the term
  OrElse : DocPath → TermTree → TermTree
  -- one list behind the other
  Appended : TermTree → TermTree → TermTree

pub data SumTree : Type 0 where
  Alone : TermTree → SumTree
  Plus Minus : TermTree → TermTree → SumTree

-- path = sum
pub record SetTree : Type 0 where
  pub path : DocPath
  pub sum : SumTree

-- a clause of an update, with what it lists
pub data SectionTree : Type 0 where
  Sets : List SetTree → SectionTree
  Removes : List DocPath → SectionTree
  Adds Deletes : List PathValue → SectionTree

abbrev pub term_tree : code_term.Term → TermTree
term_tree (term.Path path) = Located path
term_tree (term.Value value) = OfValue value
term_tree (term.IfNotExists' path p other) = OrElse path (term_tree other)
term_tree (term.Append' p front q back) = Appended (term_tree front) (term_tree back)

abbrev pub sum_tree : code_sum.Sum → SumTree
sum_tree (sum.One t) = Alone (term_tree t)
sum_tree (sum.Plus left right) = Plus (term_tree left) (term_tree right)
sum_tree (sum.Minus left right) = Minus (term_tree left) (term_tree right)

abbrev pub set_tree : SetTo → SetTree
set_tree set = record { path = set.path; sum = sum_tree set.sum }

abbrev pub section_tree : Section → SectionTree
section_tree (section.Set sets) = Sets (map set_tree sets)
section_tree (section.Remove paths) = Removes paths
section_tree (section.Add pairs) = Adds pairs
section_tree (section.Delete pairs) = Deletes pairs
