-- The words of tests and changes, which are written exactly.
use Rattle.std.specs.Prelude.{ℕ, List, [], Bool, true, false, Option, None, Some, codes, bytes_eq, if◌then◌else◌}
use Rattle.expr_words.specs.declared.tree.Comparison.TheVariants.{Equal, Unequal, Less, AtMost, More, AtLeast}
use Rattle.legacy_params.specs.declared.operator.Operator.{Operator}
use Rattle.legacy_params.specs.declared.operator.Operator.TheVariants.{Compare, Exists, Absent, Contains, NotContains, BeginsWith, Among, Between}
use Rattle.legacy_params.specs.declared.operator.Action.{Action}
use Rattle.legacy_params.specs.declared.operator.Action.TheVariants.{Put, Add, Delete}

abbrev pub operator_named : List ℕ → Option Operator
operator_named word =
    if bytes_eq word (codes "EQ") then Some (Compare Equal)
    else (if bytes_eq word (codes "NE") then Some (Compare Unequal)
    else (if bytes_eq word (codes "LT") then Some (Compare Less)
    else (if bytes_eq word (codes "LE") then Some (Compare AtMost)
    else (if bytes_eq word (codes "GT") then Some (Compare More)
    else (if bytes_eq word (codes "GE") then Some (Compare AtLeast)
    else (if bytes_eq word (codes "NOT_NULL") then Some Exists
    else (if bytes_eq word (codes "NULL") then Some Absent
    else (if bytes_eq word (codes "CONTAINS") then Some Contains
    else (if bytes_eq word (codes "NOT_CONTAINS") then Some NotContains
    else (if bytes_eq word (codes "BEGINS_WITH") then Some BeginsWith
    else (if bytes_eq word (codes "IN") then Some Among
    else (if bytes_eq word (codes "BETWEEN") then Some Between
    else None))))))))))))

-- PUT is the default
abbrev pub action_named : List ℕ → Option Action
action_named word =
    if bytes_eq word [] then Some Put
    else (if bytes_eq word (codes "PUT") then Some Put
    else (if bytes_eq word (codes "ADD") then Some Add
    else (if bytes_eq word (codes "DELETE") then Some Delete
    else None)))

abbrev pub joins_by_or : List ℕ → Option Bool
joins_by_or word = if bytes_eq word (codes "AND") then Some false else (if bytes_eq word (codes "OR") then Some true else None)
