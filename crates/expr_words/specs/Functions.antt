-- The functions by their names, which are written exactly.
use Rattle.std.specs.Prelude.{ℕ, List, codes, bytes_eq, if◌then◌else◌}
use Rattle.expr_words.specs.declared.function.Function.{Function}
use Rattle.expr_words.specs.declared.function.Function.TheVariants.{Size, Exists, NotExists, HasType, BeginsWith, Contains, IfNotExists, ListAppend, Unknown}

abbrev pub function_of : List ℕ → Function
function_of name =
    if bytes_eq name (codes "size") then Size
    else (if bytes_eq name (codes "attribute_exists") then Exists
    else (if bytes_eq name (codes "attribute_not_exists") then NotExists
    else (if bytes_eq name (codes "attribute_type") then HasType
    else (if bytes_eq name (codes "begins_with") then BeginsWith
    else (if bytes_eq name (codes "contains") then Contains
    else (if bytes_eq name (codes "if_not_exists") then IfNotExists
    else (if bytes_eq name (codes "list_append") then ListAppend
    else Unknown)))))))
