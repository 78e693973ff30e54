-- How the parser reads, word by word: a list of what is owed, the nearest first, and a list of what is kept, the latest
-- first. No word is looked at twice, and each settles what is owed behind it. The grammar is apart from this: that the
-- machine reads exactly the sentences is proved.
use Rattle.std.specs.Prelude.{◌≡◌, ℕ, zero, suc, List, [], ◌∷◌, ◌++◌, length, Option, Some, None, Result, Ok, Err}
use Rattle.base_types.specs.declared.path.DocPath.{DocPath}
use Rattle.base_types.specs.declared.path.Step.{Step}
use Rattle.base_types.specs.declared.path.Step.TheVariants as step
use Rattle.expr_lexer.specs.declared.token.TokenKind.TheVariants as sign
use Rattle.expr_words.specs.declared.tree.Comparison.TheVariants as comparison
use Rattle.expr_words.specs.declared.tree.Operand.{Operand}
use Rattle.expr_words.specs.declared.tree.Operand.TheVariants as operand
use Rattle.expr_words.specs.declared.function.Function.{Function}
use Rattle.expr_words.specs.declared.function.Function.TheVariants as function
use Rattle.expr_words.specs.declared.stop.Stop.{Stop}
use Rattle.expr_words.specs.declared.stop.Stop.TheVariants as stop
use Rattle.expr_words.specs.Trees.{Tree, Disjunction, Conjunction, Negation, Compared, Range, Choice, Presence, Absence, KindTest, FrontTest, PartTest, TermTree, Located, OfValue, OrElse, Appended, SumTree, Alone, Plus, Minus, SetTree, SectionTree, Sets, Removes, Adds, Deletes}
use Rattle.expr_words.specs.declared.tree.PathValue.{PathValue}
use Rattle.expr_lexer.specs.declared.token.TokenKind.{TokenKind}
use Rattle.expr_words.specs.Words.{Word, Bare, Placed, Held, Number, Sign, Barred}
use Rattle.expr_words.specs.Functions.{function_of}

-- what was read
pub data Kept : Type 0 where
  Whole : Tree → Kept
  Side : Operand → Kept
  Sides : List Operand → Kept
  Steps : List Step → Kept
  Place : ℕ → Kept
  Listed : List DocPath → Kept
  Termed : TermTree → Kept
  Summed : SumTree → Kept
  Assigned : List SetTree → Kept
  Paired : List PathValue → Kept
  Sections : List SectionTree → Kept

-- what is made of the latest that are kept
pub data Effect : Type 0 where
  Joins : (Tree → Tree → Tree) → Effect
  Negates : Effect
  MakePath MakeSize : Effect
  OfPath : (DocPath → Tree) → Effect
  OfSides : (Operand → Operand → Tree) → Effect
  MakeRange : Effect
  FirstChoice NextChoice MakeChoice : Effect
  MakeKindTest : Effect
  FirstPath NextPath : Effect
  MakeTerm MakeOrElse MakeAppended : Effect
  OfTerms : (TermTree → TermTree → SumTree) → Effect
  NextSet NextPair : Effect
  -- nothing of an update is read yet; a clause more is
  NoSections EndSets EndRemoves : Effect
  EndPairs : (List PathValue → SectionTree) → Effect

-- what has to come; where a number k stands first, it is the levels that are left
pub data Owed : Type 0 where
  ACondition AConjunction APart MoreOr MoreAnd : ℕ → Owed
  -- what follows the first operand of a comparison, BETWEEN or IN
  ARest : ℕ → Owed
  AnOperand : ℕ → Owed
  -- the rest of a part, or of an operand, that begins with this bare name
  NamedPart NamedOperand : ℕ → List ℕ → Owed
  -- further choices of an IN, at most so many
  MoreChoices : ℕ → ℕ → Owed
  APath MoreSteps AField AnIndex AValue MorePaths : Owed
  ATerm ASum MoreSum MoreSets ASection MoreSections : ℕ → Owed
  -- the rest of a term that begins with this bare name
  NamedTerm : ℕ → List ℕ → Owed
  MorePairs : Owed
  -- this sign, and nothing else; what no text has
  ASign : TokenKind → Owed
  ABar : Owed
  Do : Effect → Owed

abbrev pub path_of : List Step → DocPath
path_of steps = record { steps = steps }

abbrev pub joined : (Tree → Tree → Tree) → List Kept → List Kept
joined join (Whole right ∷ Whole left ∷ ks) = Whole (join left right) ∷ ks
joined join ks = ks

abbrev pub negated : List Kept → List Kept
negated (Whole t ∷ ks) = Whole (Negation t) ∷ ks
negated ks = ks

-- what is made of a path
abbrev pub of_path : (DocPath → Kept) → List Kept → List Kept
of_path make (Steps p ∷ ks) = make (path_of p) ∷ ks
of_path make ks = ks

abbrev pub of_sides : (Operand → Operand → Tree) → List Kept → List Kept
of_sides make (Side y ∷ Side x ∷ ks) = Whole (make x y) ∷ ks
of_sides make ks = ks

abbrev pub range : List Kept → List Kept
range (Side z ∷ Side y ∷ Side x ∷ ks) = Whole (Range x y z) ∷ ks
range ks = ks

abbrev pub first_choice : List Kept → List Kept
first_choice (Side y ∷ ks) = Sides (y ∷ []) ∷ ks
first_choice ks = ks

abbrev pub next_choice : List Kept → List Kept
next_choice (Side y ∷ Sides ys ∷ ks) = Sides (ys ++ y ∷ []) ∷ ks
next_choice ks = ks

abbrev pub choice : List Kept → List Kept
choice (Sides ys ∷ Side x ∷ ks) = Whole (Choice x ys) ∷ ks
choice ks = ks

abbrev pub kind_test : List Kept → List Kept
kind_test (Place value ∷ Steps p ∷ ks) = Whole (KindTest (path_of p) value) ∷ ks
kind_test ks = ks

abbrev pub next_path : List Kept → List Kept
next_path (Steps p ∷ Listed paths ∷ ks) = Listed (paths ++ path_of p ∷ []) ∷ ks
next_path ks = ks

abbrev pub else_term : List Kept → List Kept
else_term (Termed t ∷ Steps p ∷ ks) = Termed (OrElse (path_of p) t) ∷ ks
else_term ks = ks

abbrev pub append_terms : List Kept → List Kept
append_terms (Termed back ∷ Termed front ∷ ks) = Termed (Appended front back) ∷ ks
append_terms ks = ks

-- a term by itself is a sum
abbrev pub sole_term : List Kept → List Kept
sole_term (Termed t ∷ ks) = Summed (Alone t) ∷ ks
sole_term ks = ks

abbrev pub of_terms : (TermTree → TermTree → SumTree) → List Kept → List Kept
of_terms make (Termed u ∷ Termed t ∷ ks) = Summed (make t u) ∷ ks
of_terms make ks = ks

-- the assignment of a sum to a path, and a path with a value
abbrev pub set_to : List Step → SumTree → SetTree
set_to p s = record { path = path_of p; sum = s }

abbrev pub pair_of : List Step → ℕ → PathValue
pair_of p value = record { path = path_of p; value = value }

abbrev pub next_set : List Kept → List Kept
next_set (Summed s ∷ Steps p ∷ Assigned xs ∷ ks) = Assigned (xs ++ set_to p s ∷ []) ∷ ks
next_set ks = ks

abbrev pub next_pair : List Kept → List Kept
next_pair (Place value ∷ Steps p ∷ Paired xs ∷ ks) = Paired (xs ++ pair_of p value ∷ []) ∷ ks
next_pair ks = ks

-- a clause more
abbrev pub add_section : SectionTree → List Kept → List Kept
add_section c (Sections cs ∷ ks) = Sections (cs ++ c ∷ []) ∷ ks
add_section c ks = ks

abbrev pub end_sets : List Kept → List Kept
end_sets (Assigned xs ∷ ks) = add_section (Sets xs) ks
end_sets ks = ks

abbrev pub end_removes : List Kept → List Kept
end_removes (Listed xs ∷ ks) = add_section (Removes xs) ks
end_removes ks = ks

abbrev pub end_pairs : (List PathValue → SectionTree) → List Kept → List Kept
end_pairs make (Paired xs ∷ ks) = add_section (make xs) ks
end_pairs make ks = ks

abbrev pub apply : Effect → List Kept → List Kept
apply (Joins join) = joined join
apply Negates = negated
apply MakePath = of_path (λ path. Side (operand.Path path))
apply MakeSize = of_path (λ path. Side (operand.Size path))
apply (OfPath test) = of_path (λ path. Whole (test path))
apply (OfSides test) = of_sides test
apply MakeRange = range
apply FirstChoice = first_choice
apply NextChoice = next_choice
apply MakeChoice = choice
apply MakeKindTest = kind_test
apply FirstPath = of_path (λ path. Listed (path ∷ []))
apply NextPath = next_path
apply MakeTerm = of_path (λ path. Termed (Located path))
apply MakeOrElse = else_term
apply MakeAppended = append_terms
apply (OfTerms make) = of_terms make
apply NextSet = next_set
apply NextPair = next_pair
apply NoSections = λ ks. Sections [] ∷ ks
apply EndSets = end_sets
apply EndRemoves = end_removes
apply (EndPairs make) = end_pairs make

-- a step more of the latest path
abbrev pub add_step : Step → List Kept → List Kept
add_step s (Steps p ∷ ks) = Steps (p ++ s ∷ []) ∷ ks
add_step s ks = ks

-- what the nearest that is owed does at a word, or at the end: it takes the word, and more is owed; it is done without it,
-- and the word is for what is owed next; or it refuses
pub data Action : Type 0 where
  Take : List Owed → List Kept → Action
  Pass : List Kept → Action
  Refuse : Action

-- more is owed behind what an action owes
abbrev pub also : List Owed → Action → Action
also more (Take new ks) = Take (new ++ more) ks
also more (Pass ks) = Refuse
also more Refuse = Refuse

-- a path that begins with this name
abbrev pub named : List ℕ → List Step
named name = step.Name name ∷ []

-- what follows a first operand
abbrev pub on_rest : ℕ → List Kept → Option Word → Action
on_rest k ks (Some (Sign sign.Equal)) = Take (AnOperand k ∷ Do (OfSides (Compared comparison.Equal)) ∷ []) ks
on_rest k ks (Some (Sign sign.Unequal)) = Take (AnOperand k ∷ Do (OfSides (Compared comparison.Unequal)) ∷ []) ks
on_rest k ks (Some (Sign sign.Less)) = Take (AnOperand k ∷ Do (OfSides (Compared comparison.Less)) ∷ []) ks
on_rest k ks (Some (Sign sign.AtMost)) = Take (AnOperand k ∷ Do (OfSides (Compared comparison.AtMost)) ∷ []) ks
on_rest k ks (Some (Sign sign.More)) = Take (AnOperand k ∷ Do (OfSides (Compared comparison.More)) ∷ []) ks
on_rest k ks (Some (Sign sign.AtLeast)) = Take (AnOperand k ∷ Do (OfSides (Compared comparison.AtLeast)) ∷ []) ks
on_rest k ks (Some (Sign sign.Between)) = Take (AnOperand k ∷ ASign sign.And ∷ AnOperand k ∷ Do MakeRange ∷ []) ks
on_rest (suc k) ks (Some (Sign sign.In)) = Take (ASign sign.OpenParenthesis ∷ AnOperand k ∷ Do FirstChoice ∷ MoreChoices k 99 ∷ []) ks
on_rest zero ks (Some (Sign sign.In)) = Take (ABar ∷ Do MakeChoice ∷ []) (Sides [] ∷ ks)
on_rest k ks o = Refuse

-- the parenthesis of a function, as the first of a part
abbrev pub on_call : Function → ℕ → List Kept → Action
on_call function.Size (suc k) ks = Take (APath ∷ ASign sign.CloseParenthesis ∷ Do MakeSize ∷ ARest (suc k) ∷ []) ks
on_call function.Exists (suc k) ks = Take (APath ∷ ASign sign.CloseParenthesis ∷ Do (OfPath Presence) ∷ []) ks
on_call function.NotExists (suc k) ks = Take (APath ∷ ASign sign.CloseParenthesis ∷ Do (OfPath Absence) ∷ []) ks
on_call function.HasType (suc k) ks = Take (APath ∷ ASign sign.Comma ∷ AValue ∷ ASign sign.CloseParenthesis ∷ Do MakeKindTest ∷ []) ks
on_call function.BeginsWith (suc k) ks = Take (AnOperand k ∷ ASign sign.Comma ∷ AnOperand k ∷ ASign sign.CloseParenthesis ∷ Do (OfSides FrontTest) ∷ []) ks
on_call function.Contains (suc k) ks = Take (AnOperand k ∷ ASign sign.Comma ∷ AnOperand k ∷ ASign sign.CloseParenthesis ∷ Do (OfSides PartTest) ∷ []) ks
on_call f k ks = Refuse

abbrev pub on_named_part : ℕ → List ℕ → List Kept → Option Word → Action
on_named_part k name ks (Some (Sign sign.OpenParenthesis)) = on_call (function_of name) k ks
on_named_part k name ks (Some (Sign sign.Dot)) = Take (AField ∷ MoreSteps ∷ Do MakePath ∷ ARest k ∷ []) (Steps (named name) ∷ ks)
on_named_part k name ks (Some (Sign sign.OpenBracket)) =
    Take (AnIndex ∷ ASign sign.CloseBracket ∷ MoreSteps ∷ Do MakePath ∷ ARest k ∷ []) (Steps (named name) ∷ ks)
on_named_part k name ks o = on_rest k (Side (operand.Path (path_of (named name))) ∷ ks) o

abbrev pub on_part : ℕ → List Kept → Option Word → Action
on_part k ks (Some (Bare name)) = Take (NamedPart k name ∷ []) ks
on_part k ks (Some (Placed name)) = Take (MoreSteps ∷ Do MakePath ∷ ARest k ∷ []) (Steps (named name) ∷ ks)
on_part k ks (Some (Held value)) = Take (ARest k ∷ []) (Side (operand.Value value) ∷ ks)
on_part (suc k) ks (Some (Sign sign.Not)) = Take (APart k ∷ Do Negates ∷ []) ks
on_part (suc k) ks (Some (Sign sign.OpenParenthesis)) = Take (ACondition k ∷ ASign sign.CloseParenthesis ∷ []) ks
on_part k ks o = Refuse

abbrev pub on_more_and : ℕ → List Kept → Option Word → Action
on_more_and k ks (Some (Sign sign.And)) = Take (APart k ∷ Do (Joins Conjunction) ∷ MoreAnd k ∷ []) ks
on_more_and k ks o = Pass ks

abbrev pub on_more_or : ℕ → List Kept → Option Word → Action
on_more_or k ks (Some (Sign sign.Or)) = Take (AConjunction k ∷ Do (Joins Disjunction) ∷ MoreOr k ∷ []) ks
on_more_or k ks o = Pass ks

-- the parenthesis of a function within an operand: size alone
abbrev pub on_operand_call : Function → ℕ → List Kept → Action
on_operand_call function.Size (suc k) ks = Take (APath ∷ ASign sign.CloseParenthesis ∷ Do MakeSize ∷ []) ks
on_operand_call f k ks = Refuse

abbrev pub on_named_operand : ℕ → List ℕ → List Kept → Option Word → Action
on_named_operand k name ks (Some (Sign sign.OpenParenthesis)) = on_operand_call (function_of name) k ks
on_named_operand k name ks (Some (Sign sign.Dot)) = Take (AField ∷ MoreSteps ∷ Do MakePath ∷ []) (Steps (named name) ∷ ks)
on_named_operand k name ks (Some (Sign sign.OpenBracket)) =
    Take (AnIndex ∷ ASign sign.CloseBracket ∷ MoreSteps ∷ Do MakePath ∷ []) (Steps (named name) ∷ ks)
on_named_operand k name ks o = Pass (Side (operand.Path (path_of (named name))) ∷ ks)

abbrev pub on_operand : ℕ → List Kept → Option Word → Action
on_operand k ks (Some (Bare name)) = Take (NamedOperand k name ∷ []) ks
on_operand k ks (Some (Placed name)) = Take (MoreSteps ∷ Do MakePath ∷ []) (Steps (named name) ∷ ks)
on_operand k ks (Some (Held value)) = Take [] (Side (operand.Value value) ∷ ks)
on_operand k ks o = Refuse

-- the comma behind a choice: another choice, or nothing where there are most_choices
abbrev pub on_another : ℕ → ℕ → List Kept → Action
on_another k (suc left) ks = Take (AnOperand k ∷ Do NextChoice ∷ MoreChoices k left ∷ []) ks
on_another k zero ks = Take (ABar ∷ Do MakeChoice ∷ []) ks

abbrev pub on_choices : ℕ → ℕ → List Kept → Option Word → Action
on_choices k left ks (Some (Sign sign.Comma)) = on_another k left ks
on_choices k left ks (Some (Sign sign.CloseParenthesis)) = Take (Do MakeChoice ∷ []) ks
on_choices k left ks o = Refuse

abbrev pub on_path : List Kept → Option Word → Action
on_path ks (Some (Bare name)) = Take (MoreSteps ∷ []) (Steps (named name) ∷ ks)
on_path ks (Some (Placed name)) = Take (MoreSteps ∷ []) (Steps (named name) ∷ ks)
on_path ks o = Refuse

abbrev pub on_steps : List Kept → Option Word → Action
on_steps ks (Some (Sign sign.Dot)) = Take (AField ∷ MoreSteps ∷ []) ks
on_steps ks (Some (Sign sign.OpenBracket)) = Take (AnIndex ∷ ASign sign.CloseBracket ∷ MoreSteps ∷ []) ks
on_steps ks o = Pass ks

abbrev pub on_field : List Kept → Option Word → Action
on_field ks (Some (Bare name)) = Take [] (add_step (step.Name name) ks)
on_field ks (Some (Placed name)) = Take [] (add_step (step.Name name) ks)
on_field ks o = Refuse

abbrev pub on_index : List Kept → Option Word → Action
on_index ks (Some (Number index)) = Take [] (add_step (step.Index index) ks)
on_index ks o = Refuse

abbrev pub on_value : List Kept → Option Word → Action
on_value ks (Some (Held value)) = Take [] (Place value ∷ ks)
on_value ks o = Refuse

abbrev pub on_more_paths : List Kept → Option Word → Action
on_more_paths ks (Some (Sign sign.Comma)) = Take (APath ∷ Do NextPath ∷ MorePaths ∷ []) ks
on_more_paths ks o = Pass ks

-- the parenthesis of a function within a term
abbrev pub on_term_call : Function → ℕ → List Kept → Action
on_term_call function.IfNotExists (suc k) ks =
    Take (APath ∷ ASign sign.Comma ∷ ATerm k ∷ ASign sign.CloseParenthesis ∷ Do MakeOrElse ∷ []) ks
on_term_call function.ListAppend (suc k) ks =
    Take (ATerm k ∷ ASign sign.Comma ∷ ATerm k ∷ ASign sign.CloseParenthesis ∷ Do MakeAppended ∷ []) ks
on_term_call f k ks = Refuse

abbrev pub on_named_term : ℕ → List ℕ → List Kept → Option Word → Action
on_named_term k name ks (Some (Sign sign.OpenParenthesis)) = on_term_call (function_of name) k ks
on_named_term k name ks (Some (Sign sign.Dot)) = Take (AField ∷ MoreSteps ∷ Do MakeTerm ∷ []) (Steps (named name) ∷ ks)
on_named_term k name ks (Some (Sign sign.OpenBracket)) =
    Take (AnIndex ∷ ASign sign.CloseBracket ∷ MoreSteps ∷ Do MakeTerm ∷ []) (Steps (named name) ∷ ks)
on_named_term k name ks o = Pass (Termed (Located (path_of (named name))) ∷ ks)

abbrev pub on_term : ℕ → List Kept → Option Word → Action
on_term k ks (Some (Bare name)) = Take (NamedTerm k name ∷ []) ks
on_term k ks (Some (Placed name)) = Take (MoreSteps ∷ Do MakeTerm ∷ []) (Steps (named name) ∷ ks)
on_term k ks (Some (Held value)) = Take [] (Termed (OfValue value) ∷ ks)
on_term k ks o = Refuse

abbrev pub on_more_sum : ℕ → List Kept → Option Word → Action
on_more_sum k ks (Some (Sign sign.Plus)) = Take (ATerm k ∷ Do (OfTerms Plus) ∷ []) ks
on_more_sum k ks (Some (Sign sign.Minus)) = Take (ATerm k ∷ Do (OfTerms Minus) ∷ []) ks
on_more_sum k ks o = Pass (sole_term ks)

-- an assignment, and a path with a value, with what may follow it
abbrev pub a_set : ℕ → List Owed
a_set k = APath ∷ ASign sign.Equal ∷ ASum k ∷ Do NextSet ∷ MoreSets k ∷ []

abbrev pub a_pair : List Owed
a_pair = APath ∷ AValue ∷ Do NextPair ∷ MorePairs ∷ []

abbrev pub on_more_sets : ℕ → List Kept → Option Word → Action
on_more_sets k ks (Some (Sign sign.Comma)) = Take (a_set k) ks
on_more_sets k ks o = Pass ks

abbrev pub on_more_pairs : List Kept → Option Word → Action
on_more_pairs ks (Some (Sign sign.Comma)) = Take a_pair ks
on_more_pairs ks o = Pass ks

-- all of an update
abbrev pub an_update : ℕ → List Owed
an_update k = Do NoSections ∷ ASection k ∷ MoreSections k ∷ []

-- a clause of an update, by its keyword
abbrev pub on_section : ℕ → List Kept → Option Word → Action
on_section k ks (Some (Sign sign.Set)) = Take (a_set k ++ Do EndSets ∷ []) (Assigned [] ∷ ks)
on_section k ks (Some (Sign sign.Remove)) = Take (APath ∷ Do FirstPath ∷ MorePaths ∷ Do EndRemoves ∷ []) ks
on_section k ks (Some (Sign sign.Add)) = Take (a_pair ++ Do (EndPairs Adds) ∷ []) (Paired [] ∷ ks)
on_section k ks (Some (Sign sign.Delete)) = Take (a_pair ++ Do (EndPairs Deletes) ∷ []) (Paired [] ∷ ks)
on_section k ks o = Refuse

-- what may do without the word at which an action refuses
abbrev pub or_pass : List Kept → Action → Action
or_pass ks Refuse = Pass ks
or_pass ks a = a

abbrev pub on_more_sections : ℕ → List Kept → Option Word → Action
on_more_sections k ks o = or_pass ks (also (MoreSections k ∷ []) (on_section k ks o))

-- the signs that may be owed by themselves, where the word is that sign
abbrev pub on_same : TokenKind → TokenKind → List Kept → Action
on_same sign.OpenParenthesis sign.OpenParenthesis ks = Take [] ks
on_same sign.CloseParenthesis sign.CloseParenthesis ks = Take [] ks
on_same sign.CloseBracket sign.CloseBracket ks = Take [] ks
on_same sign.And sign.And ks = Take [] ks
on_same sign.Comma sign.Comma ks = Take [] ks
on_same sign.Equal sign.Equal ks = Take [] ks
on_same s t ks = Refuse

abbrev pub on_sign : TokenKind → List Kept → Option Word → Action
on_sign s ks (Some (Sign t)) = on_same s t ks
on_sign s ks o = Refuse

abbrev pub on_bar : List Kept → Option Word → Action
on_bar ks (Some Barred) = Take [] ks
on_bar ks o = Refuse

abbrev pub act : Owed → List Kept → Option Word → Action
act (ACondition k) = λ ks o. also (MoreAnd k ∷ MoreOr k ∷ []) (on_part k ks o)
act (AConjunction k) = λ ks o. also (MoreAnd k ∷ []) (on_part k ks o)
act (APart k) = on_part k
act (MoreOr k) = on_more_or k
act (MoreAnd k) = on_more_and k
act (ARest k) = on_rest k
act (AnOperand k) = on_operand k
act (NamedPart k name) = on_named_part k name
act (NamedOperand k name) = on_named_operand k name
act (MoreChoices k left) = on_choices k left
act APath = on_path
act MoreSteps = on_steps
act AField = on_field
act AnIndex = on_index
act AValue = on_value
act MorePaths = on_more_paths
act (ATerm k) = on_term k
act (NamedTerm k name) = on_named_term k name
act (ASum k) = λ ks o. also (MoreSum k ∷ []) (on_term k ks o)
act (MoreSum k) = on_more_sum k
act (MoreSets k) = on_more_sets k
act MorePairs = on_more_pairs
act (ASection k) = on_section k
act (MoreSections k) = on_more_sections k
act (ASign s) = on_sign s
act ABar = on_bar
act (Do effect) = λ ks o. Pass (apply effect ks)

-- what is owed and kept behind a word
pub record Point : Type 0 where
  pub owed : List Owed
  pub kept : List Kept

abbrev pub after : List Owed → (List Kept → Option Point) → Action → Option Point
after os go (Take new ks) = Some (record { owed = new ++ os; kept = ks })
after os go (Pass ks) = go ks
after os go Refuse = None

abbrev pub next : List Owed → List Kept → Word → Option Point
next [] ks t = None
next (o ∷ os) ks t = after os (λ ks. next os ks t) (act o ks (Some t))

-- at the end only what can do without a word may be owed
abbrev pub ended : (List Kept → Result (List Kept) ℕ) → Action → Result (List Kept) ℕ
ended go (Take new ks) = Err 0
ended go (Pass ks) = go ks
ended go Refuse = Err 0

abbrev pub closing : List Owed → List Kept → Result (List Kept) ℕ
closing [] ks = Ok ks
closing (o ∷ os) ks = ended (λ ks. closing os ks) (act o ks None)

abbrev pub going : (List Owed → List Kept → Result (List Kept) ℕ) → ℕ → Option Point → Result (List Kept) ℕ
going go left None = Err left
going go left (Some point) = go point.owed point.kept

-- what is kept in the end; or how many words are left at the first that cannot follow
abbrev pub reads : List Word → List Owed → List Kept → Result (List Kept) ℕ
reads [] os ks = closing os ks
reads (t ∷ ts) os ks = going (reads ts) (length (t ∷ ts)) (next os ks t)

-- What a parser of a part answers, whatever is owed behind it and was kept before: on Ok, reading what was there is reading
-- the rest with the part kept; where it stops, the whole reading stops there.
abbrev pub Goes : {X : Type 0} → (List Owed → List Kept → Result (List Kept) ℕ) → (X → List Kept → List Kept) → (X → List Word)
    → Result X Stop → Type 0
Goes before keep rest (Ok x) = (os : List Owed) (ks : List Kept) → before os ks ≡ reads (rest x) os (keep x ks)
Goes before keep rest (Err (stop.Syntax left)) = (os : List Owed) (ks : List Kept) → before os ks ≡ Err left
Goes before keep rest (Err stop.NoMemory) = Unit {0}
