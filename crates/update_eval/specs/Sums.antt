-- What SET gives a path.
use Rattle.std.specs.Prelude.{ℤ, ◌+ℤ◌, ◌-ℤ◌, List, Result, Ok, Err}
use Rattle.number38.specs.Number.{fitted}
use Rattle.number38.specs.declared.number.NumberFault.{NumberFault}
use Rattle.attr_value.specs.Tree.{Tree, number, Attributes}
use Rattle.attr_value.specs.declared.value.Value.{Value}
use Rattle.expr_words.specs.Trees.{SumTree, Alone, Plus, Minus}
use Rattle.update_eval.specs.Answers.{Answer, after}
use Rattle.update_eval.specs.Terms.{term_of}
use Rattle.update_eval.specs.declared.fault.EvalFault.TheVariants.{OperandType, Number}

-- a sum's number, or its fault
abbrev pub number_of : Result ℤ NumberFault → Answer Tree
number_of (Ok z) = Ok (number z)
number_of (Err fault) = Err (Number fault)

abbrev pub number_in : Tree → Answer ℤ
number_in (number z) = Ok z
number_in _ = Err OperandType

-- exact, or a fault
abbrev pub added : Tree → Tree → Answer Tree
added left right = after (number_in left) (λ x. after (number_in right) (λ y. number_of (fitted (x +ℤ y))))

abbrev pub taken : Tree → Tree → Answer Tree
taken left right = after (number_in left) (λ x. after (number_in right) (λ y. number_of (fitted (x -ℤ y))))

abbrev pub sum_of : List Value → Attributes → SumTree → Answer Tree
sum_of values old (Alone t) = term_of values old t
sum_of values old (Plus left right) =
    after (term_of values old left) (λ l. after (term_of values old right) (λ r. added l r))
sum_of values old (Minus left right) =
    after (term_of values old left) (λ l. after (term_of values old right) (λ r. taken l r))
