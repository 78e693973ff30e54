-- The grammar of conditions, projections and updates (DynamoDB Developer Guide, "Comparison operator and function
-- reference", "Projection expressions", "Update expressions"). Each relation says which words spell which tree; k is the number of levels of parentheses and
-- NOT that may still be opened.
use Rattle.std.specs.Prelude.{◌≡◌, ◌≤◌, ◌⊎◌, ℕ, zero, suc, List, [], ◌∷◌, ◌++◌, length, codes}
use Rattle.base_types.specs.declared.path.DocPath.{DocPath}
use Rattle.base_types.specs.declared.path.Step.{Step}
use Rattle.base_types.specs.declared.path.Step.TheVariants as step
use Rattle.expr_lexer.specs.declared.token.TokenKind.TheVariants as sign
use Rattle.expr_words.specs.declared.tree.Comparison.{Comparison}
use Rattle.expr_words.specs.declared.tree.Comparison.TheVariants as comparison
use Rattle.expr_words.specs.declared.tree.Operand.{Operand}
use Rattle.expr_words.specs.declared.tree.Operand.TheVariants as operand
use Rattle.expr_words.specs.Trees.{Tree, Disjunction, Conjunction, Negation, Compared, Range, Choice, Presence, Absence, KindTest, FrontTest, PartTest, TermTree, Located, OfValue, OrElse, Appended, SumTree, Alone, Plus, Minus, SetTree, SectionTree, Sets, Removes, Adds, Deletes}
use Rattle.expr_words.specs.declared.tree.PathValue.{PathValue}
use Rattle.expr_words.specs.Words.{Word, Bare, Placed, Held, Number, Sign, Barred}

-- the most choices of an IN, and the most levels of parentheses and NOT
abbrev pub most_choices : ℕ
most_choices = 100

abbrev pub most_levels : ℕ
most_levels = 128

-- { "," item }
pub data AreMore {X : Type 0} (P : List Word → X → Type 0) : List Word → List X → Type 0 where
  no_more : AreMore P [] []
  one_more : {a ts : List Word} {x : X} {xs : List X} → P a x → AreMore P ts xs → AreMore P (Sign sign.Comma ∷ (a ++ ts)) (x ∷ xs)

-- item { "," item }
pub record AreListed {X : Type 0} (P : List Word → X → Type 0) (ts : List Word) (xs : List X) : Type 0 where
  pub front : List Word
  pub more : List Word
  pub first : X
  pub others : List X
  pub is_first : P front first
  pub are_more : AreMore P more others
  pub spelled : ts ≡ front ++ more
  pub listed : xs ≡ first ∷ others

-- step = name | #placeholder
pub data IsName : Word → List ℕ → Type 0 where
  written : {name : List ℕ} → IsName (Bare name) name
  placed : {name : List ℕ} → IsName (Placed name) name

-- { "." step | "[" index "]" }
pub data AreSteps : List Word → List Step → Type 0 where
  no_step : AreSteps [] []
  a_field : {w : Word} {name : List ℕ} {ts : List Word} {path : List Step} → IsName w name → AreSteps ts path
      → AreSteps (Sign sign.Dot ∷ w ∷ ts) (step.Name name ∷ path)
  an_element : {index : ℕ} {ts : List Word} {path : List Step} → AreSteps ts path
      → AreSteps (Sign sign.OpenBracket ∷ Number index ∷ Sign sign.CloseBracket ∷ ts) (step.Index index ∷ path)

-- path = step { "." step | "[" index "]" }
pub record IsPath (ts : List Word) (path : DocPath) : Type 0 where
  pub first : Word
  pub name : List ℕ
  pub more : List Word
  pub steps : List Step
  pub is_first : IsName first name
  pub are_more : AreSteps more steps
  pub spelled : ts ≡ first ∷ more
  pub path_is : path ≡ record { steps = step.Name name ∷ steps }

-- operand = path | :placeholder | size "(" path ")"
pub data IsOperand (k : ℕ) (ts : List Word) (x : Operand) : Type 0 where
  a_path : (path : DocPath) → IsPath ts path → x ≡ operand.Path path → IsOperand k ts x
  a_value : (value : ℕ) → ts ≡ Held value ∷ [] → x ≡ operand.Value value → IsOperand k ts x
  a_size : (path : DocPath) (inner : List Word) → 1 ≤ k → IsPath inner path
      → ts ≡ Bare (codes "size") ∷ Sign sign.OpenParenthesis ∷ (inner ++ Sign sign.CloseParenthesis ∷ [])
      → x ≡ operand.Size path → IsOperand k ts x

-- = <> < <= > >=
pub data IsComparison : Word → Comparison → Type 0 where
  equals : IsComparison (Sign sign.Equal) comparison.Equal
  differs : IsComparison (Sign sign.Unequal) comparison.Unequal
  is_less : IsComparison (Sign sign.Less) comparison.Less
  is_at_most : IsComparison (Sign sign.AtMost) comparison.AtMost
  is_more_than : IsComparison (Sign sign.More) comparison.More
  is_at_least : IsComparison (Sign sign.AtLeast) comparison.AtLeast

-- the functions of one path
pub data IsPathTest : List ℕ → (DocPath → Tree) → Type 0 where
  exists : IsPathTest (codes "attribute_exists") Presence
  not_exists : IsPathTest (codes "attribute_not_exists") Absence

-- the functions of two operands
pub data IsOperandTest : List ℕ → (Operand → Operand → Tree) → Type 0 where
  begins : IsOperandTest (codes "begins_with") FrontTest
  contains : IsOperandTest (codes "contains") PartTest

-- What has no OR, AND, NOT or condition in parentheses; the last two stand where a limit bars the way.
pub data IsFlat (k : ℕ) (ts : List Word) (t : Tree) : Type 0 where
  -- operand cmp operand
  a_comparison : (a b : List Word) (w : Word) (op : Comparison) (x y : Operand) → IsOperand k a x → IsComparison w op → IsOperand k b y
      → ts ≡ a ++ w ∷ b → t ≡ Compared op x y → IsFlat k ts t
  -- operand BETWEEN operand AND operand
  a_range : (a b c : List Word) (x y z : Operand) → IsOperand k a x → IsOperand k b y → IsOperand k c z
      → ts ≡ a ++ Sign sign.Between ∷ (b ++ Sign sign.And ∷ c) → t ≡ Range x y z → IsFlat k ts t
  -- operand IN "(" operand { "," operand } ")"
  a_choice : (a b more : List Word) (x y : Operand) (ys : List Operand) (j : ℕ) → k ≡ suc j → IsOperand k a x → IsOperand j b y
      → AreMore (IsOperand j) more ys → length (y ∷ ys) ≤ most_choices
      → ts ≡ a ++ Sign sign.In ∷ Sign sign.OpenParenthesis ∷ (b ++ (more ++ Sign sign.CloseParenthesis ∷ []))
      → t ≡ Choice x (y ∷ ys) → IsFlat k ts t
  -- attribute_exists "(" path ")" | attribute_not_exists "(" path ")"
  a_path_test : (name : List ℕ) (of : DocPath → Tree) (inner : List Word) (path : DocPath) → 1 ≤ k → IsPathTest name of → IsPath inner path
      → ts ≡ Bare name ∷ Sign sign.OpenParenthesis ∷ (inner ++ Sign sign.CloseParenthesis ∷ []) → t ≡ of path → IsFlat k ts t
  -- attribute_type "(" path "," :placeholder ")"
  a_kind_test : (inner : List Word) (path : DocPath) (value : ℕ) → 1 ≤ k → IsPath inner path
      → ts ≡ Bare (codes "attribute_type") ∷ Sign sign.OpenParenthesis ∷ (inner ++ Sign sign.Comma ∷ Held value ∷ Sign sign.CloseParenthesis ∷ [])
      → t ≡ KindTest path value → IsFlat k ts t
  -- begins_with "(" operand "," operand ")" | contains "(" operand "," operand ")"
  an_operand_test : (name : List ℕ) (of : Operand → Operand → Tree) (a b : List Word) (x y : Operand) (j : ℕ) → k ≡ suc j → IsOperandTest name of
      → IsOperand j a x → IsOperand j b y
      → ts ≡ Bare name ∷ Sign sign.OpenParenthesis ∷ (a ++ Sign sign.Comma ∷ (b ++ Sign sign.CloseParenthesis ∷ []))
      → t ≡ of x y → IsFlat k ts t
  -- operand IN, and no level left for its parenthesis
  a_barred_parenthesis : (a : List Word) (x : Operand) → k ≡ 0 → IsOperand k a x → ts ≡ a ++ Sign sign.In ∷ Barred ∷ []
      → t ≡ Choice x [] → IsFlat k ts t
  -- the most choices, and a comma
  a_barred_choice : (a b more : List Word) (x y : Operand) (ys : List Operand) (j : ℕ) → k ≡ suc j → IsOperand k a x → IsOperand j b y
      → AreMore (IsOperand j) more ys → length (y ∷ ys) ≡ most_choices
      → ts ≡ a ++ Sign sign.In ∷ Sign sign.OpenParenthesis ∷ (b ++ (more ++ Sign sign.Comma ∷ Barred ∷ []))
      → t ≡ Choice x (y ∷ ys) → IsFlat k ts t

-- Further parts, each behind its sign, joined from the left: `left` is the tree so far.
pub data IsTail (P : List Word → Tree → Type 0) (joint : Word) (join : Tree → Tree → Tree) : Tree → List Word → Tree → Type 0 where
  tail_ends : {left : Tree} → IsTail P joint join left [] left
  tail_goes : {a ts : List Word} {left right t : Tree} → P a right → IsTail P joint join (join left right) ts t
      → IsTail P joint join left (joint ∷ (a ++ ts)) t

-- part { joint part }
pub record IsChain (P : List Word → Tree → Type 0) (joint : Word) (join : Tree → Tree → Tree) (ts : List Word) (t : Tree) : Type 0 where
  pub first : List Word
  pub more : List Word
  pub left : Tree
  pub is_first : P first left
  pub is_more : IsTail P joint join left more t
  pub spelled : ts ≡ first ++ more

-- NOT part
pub record IsNegation (P : List Word → Tree → Type 0) (ts : List Word) (t : Tree) : Type 0 where
  pub inner : List Word
  pub negated : Tree
  pub is_inner : P inner negated
  pub spelled : ts ≡ Sign sign.Not ∷ inner
  pub tree_is : t ≡ Negation negated

-- "(" condition ")"
pub record IsGroup (P : List Word → Tree → Type 0) (ts : List Word) (t : Tree) : Type 0 where
  pub inner : List Word
  pub is_inner : P inner t
  pub spelled : ts ≡ Sign sign.OpenParenthesis ∷ (inner ++ Sign sign.CloseParenthesis ∷ [])

-- part { AND part } { OR part { AND part } }: AND binds tighter
abbrev pub IsJoined : (List Word → Tree → Type 0) → List Word → Tree → Type 0
IsJoined P = IsChain (IsChain P (Sign sign.And) Conjunction) (Sign sign.Or) Disjunction

-- part = NOT part | "(" condition ")" | what is flat; NOT and a parenthesis take a level
abbrev pub IsPart : ℕ → List Word → Tree → Type 0
IsPart zero ts t = IsFlat zero ts t
IsPart (suc k) ts t = IsFlat (suc k) ts t ⊎ (IsNegation (IsPart k) ts t ⊎ IsGroup (IsJoined (IsPart k)) ts t)

abbrev pub IsConjunction : ℕ → List Word → Tree → Type 0
IsConjunction k = IsChain (IsPart k) (Sign sign.And) Conjunction

abbrev pub IsCondition : ℕ → List Word → Tree → Type 0
IsCondition k = IsJoined (IsPart k)

-- paths = path { "," path }
abbrev pub ArePaths : List Word → List DocPath → Type 0
ArePaths = AreListed IsPath

-- path | :placeholder
pub data IsPlainTerm (ts : List Word) (t : TermTree) : Type 0 where
  located : (path : DocPath) → IsPath ts path → t ≡ Located path → IsPlainTerm ts t
  valued : (value : ℕ) → ts ≡ Held value ∷ [] → t ≡ OfValue value → IsPlainTerm ts t

-- if_not_exists "(" path "," term ")" | list_append "(" term "," term ")"
pub data IsTermCall (P : List Word → TermTree → Type 0) (ts : List Word) (t : TermTree) : Type 0 where
  an_or_else : (a b : List Word) (path : DocPath) (other : TermTree) → IsPath a path → P b other
      → ts ≡ Bare (codes "if_not_exists") ∷ Sign sign.OpenParenthesis ∷ (a ++ Sign sign.Comma ∷ (b ++ Sign sign.CloseParenthesis ∷ []))
      → t ≡ OrElse path other → IsTermCall P ts t
  an_append : (a b : List Word) (x y : TermTree) → P a x → P b y
      → ts ≡ Bare (codes "list_append") ∷ Sign sign.OpenParenthesis ∷ (a ++ Sign sign.Comma ∷ (b ++ Sign sign.CloseParenthesis ∷ []))
      → t ≡ Appended x y → IsTermCall P ts t

-- term; a function's parenthesis takes a level
abbrev pub IsTerm : ℕ → List Word → TermTree → Type 0
IsTerm zero ts t = IsPlainTerm ts t
IsTerm (suc k) ts t = IsPlainTerm ts t ⊎ IsTermCall (IsTerm k) ts t

-- what stands behind the first term of a sum: nothing, or a sign and a term
pub data IsSumEnd (k : ℕ) (t : TermTree) (ts : List Word) (s : SumTree) : Type 0 where
  alone : ts ≡ [] → s ≡ Alone t → IsSumEnd k t ts s
  plus : (a : List Word) (u : TermTree) → IsTerm k a u → ts ≡ Sign sign.Plus ∷ a → s ≡ Plus t u → IsSumEnd k t ts s
  minus : (a : List Word) (u : TermTree) → IsTerm k a u → ts ≡ Sign sign.Minus ∷ a → s ≡ Minus t u → IsSumEnd k t ts s

-- sum = term | term "+" term | term "-" term
pub record IsSum (k : ℕ) (ts : List Word) (s : SumTree) : Type 0 where
  pub front : List Word
  pub more : List Word
  pub first : TermTree
  pub is_first : IsTerm k front first
  pub is_end : IsSumEnd k first more s
  pub spelled : ts ≡ front ++ more

-- path "=" sum
pub record IsSet (k : ℕ) (ts : List Word) (x : SetTree) : Type 0 where
  pub front : List Word
  pub more : List Word
  pub is_path : IsPath front x.path
  pub is_sum : IsSum k more x.sum
  pub spelled : ts ≡ front ++ Sign sign.Equal ∷ more

-- path :placeholder
pub record IsPair (ts : List Word) (x : PathValue) : Type 0 where
  pub front : List Word
  pub is_path : IsPath front x.path
  pub spelled : ts ≡ front ++ Held x.value ∷ []

-- a clause: its keyword, and what it lists
pub data IsSection (k : ℕ) (ts : List Word) (c : SectionTree) : Type 0 where
  sets : (inner : List Word) (xs : List SetTree) → AreListed (IsSet k) inner xs → ts ≡ Sign sign.Set ∷ inner → c ≡ Sets xs → IsSection k ts c
  removes : (inner : List Word) (xs : List DocPath) → ArePaths inner xs → ts ≡ Sign sign.Remove ∷ inner → c ≡ Removes xs → IsSection k ts c
  adds : (inner : List Word) (xs : List PathValue) → AreListed IsPair inner xs → ts ≡ Sign sign.Add ∷ inner → c ≡ Adds xs → IsSection k ts c
  deletes : (inner : List Word) (xs : List PathValue) → AreListed IsPair inner xs → ts ≡ Sign sign.Delete ∷ inner → c ≡ Deletes xs → IsSection k ts c

-- { clause }
pub data AreSections (k : ℕ) : List Word → List SectionTree → Type 0 where
  no_section : AreSections k [] []
  a_section : {a ts : List Word} {c : SectionTree} {cs : List SectionTree} → IsSection k a c → AreSections k ts cs → AreSections k (a ++ ts) (c ∷ cs)

-- update = clause { clause }
pub record IsUpdate (k : ℕ) (ts : List Word) (cs : List SectionTree) : Type 0 where
  pub front : List Word
  pub more : List Word
  pub first : SectionTree
  pub others : List SectionTree
  pub is_first : IsSection k front first
  pub are_more : AreSections k more others
  pub spelled : ts ≡ front ++ more
  pub listed : cs ≡ first ∷ others
