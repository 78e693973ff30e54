-- Updates as plain data: what their clauses come to, how many operators they have, and what they write.
use Rattle.std.specs.Prelude.{◌+◌, ℕ, Bool, true, false, List, [], ◌∷◌, ◌++◌, Option, Some, None, map, sum_by, if◌then◌else◌}
use Rattle.std.specs.List.{list_any}
use Rattle.base_types.specs.declared.path.DocPath.{DocPath}
use Rattle.expr_words.specs.declared.parse_end.Clause.{Clause}
use Rattle.expr_words.specs.declared.parse_end.Clause.TheVariants as clause
use Rattle.expr_words.specs.declared.tree.SetTo.{SetTo}
use Rattle.expr_words.specs.declared.tree.PathValue.{PathValue}
use Rattle.expr_words.specs.Trees.{TermTree, Located, OfValue, OrElse, Appended, SumTree, Alone, Plus, Minus, SetTree, set_tree, SectionTree, Sets, Removes, Adds, Deletes}

-- the most operators and functions of an update
abbrev pub most_operators : ℕ
most_operators = 300

-- an update: what it sets, removes, adds and deletes
pub record UpdateTree : Type 0 where
  pub sets : List SetTree
  pub removes : List DocPath
  pub adds : List PathValue
  pub deletes : List PathValue

-- what the first clause of each kind lists; where there is none, what else is given
abbrev pub sets_or : List SetTree → List SectionTree → List SetTree
sets_or other [] = other
sets_or other (Sets xs ∷ cs) = xs
sets_or other (c ∷ cs) = sets_or other cs

abbrev pub removes_or : List DocPath → List SectionTree → List DocPath
removes_or other [] = other
removes_or other (Removes xs ∷ cs) = xs
removes_or other (c ∷ cs) = removes_or other cs

abbrev pub adds_or : List PathValue → List SectionTree → List PathValue
adds_or other [] = other
adds_or other (Adds xs ∷ cs) = xs
adds_or other (c ∷ cs) = adds_or other cs

abbrev pub deletes_or : List PathValue → List SectionTree → List PathValue
deletes_or other [] = other
deletes_or other (Deletes xs ∷ cs) = xs
deletes_or other (c ∷ cs) = deletes_or other cs

-- the update that these clauses are; they hold each kind at most once where this is asked
abbrev pub update_of : List SectionTree → UpdateTree
update_of cs = record { sets = sets_or [] cs; removes = removes_or [] cs; adds = adds_or [] cs; deletes = deletes_or [] cs }

-- the kind of a clause
abbrev pub kind_of : SectionTree → Clause
kind_of (Sets xs) = clause.Set
kind_of (Removes xs) = clause.Remove
kind_of (Adds xs) = clause.Add
kind_of (Deletes xs) = clause.Delete

abbrev pub same_clause : Clause → Clause → Bool
same_clause clause.Set clause.Set = true
same_clause clause.Remove clause.Remove = true
same_clause clause.Add clause.Add = true
same_clause clause.Delete clause.Delete = true
same_clause c d = false

-- the first clause of a kind that stands before it already, where these kinds came before
abbrev pub first_twice : List Clause → List SectionTree → Option Clause
first_twice before [] = None
first_twice before (c ∷ cs) = if list_any (same_clause (kind_of c)) before then Some (kind_of c) else first_twice (kind_of c ∷ before) cs

-- how many operators and functions there are: plus, minus, if_not_exists and list_append
abbrev pub term_operators : TermTree → ℕ
term_operators (Located path) = 0
term_operators (OfValue value) = 0
term_operators (OrElse path other) = 1 + term_operators other
term_operators (Appended front back) = 1 + (term_operators front + term_operators back)

abbrev pub sum_operators : SumTree → ℕ
sum_operators (Alone t) = term_operators t
sum_operators (Plus left right) = 1 + (term_operators left + term_operators right)
sum_operators (Minus left right) = 1 + (term_operators left + term_operators right)

abbrev pub set_operators : SetTree → ℕ
set_operators x = sum_operators x.sum

abbrev pub operators : UpdateTree → ℕ
operators u = sum_by set_operators u.sets

-- the paths that an update writes
abbrev pub written : UpdateTree → List DocPath
written u = map (λ x. x.path) u.sets ++ u.removes ++ map (λ x. x.path) u.adds ++ map (λ x. x.path) u.deletes

-- the update of what the code's lists hold
abbrev pub tree_of : List SetTo → List DocPath → List PathValue → List PathValue → UpdateTree
tree_of sets removes adds deletes = record { sets = map set_tree sets; removes = removes; adds = adds; deletes = deletes }
