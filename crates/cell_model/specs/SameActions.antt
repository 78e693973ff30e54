-- Whether two actions are the same (API Reference: TransactWriteItems, ClientRequestToken).
use Rattle.std.specs.Prelude.{List, Bool, false, ◌&&◌, bytes_eq, ◌==◌}
use Rattle.std.specs.Bool.{beq}
use Rattle.std.specs.Cmp.Lexicographic.{pointwise}
use Rattle.std.specs.Option.{option_eq}
use Rattle.attr_value.specs.Equality.{same as same_value, same_attributes}
use Rattle.attr_value.specs.View.{tree_of}
use Rattle.attr_value.specs.declared.value.Value.{Value}
use Rattle.expr_words.specs.Trees.{SumTree, Alone, Plus, Minus, SetTree}
use Rattle.expr_words.specs.declared.tree.PathValue.{PathValue}
use Rattle.expr_words.specs.Equality.{same_path, same_term, same as same_condition}
use Rattle.expr_parse.specs.UpdateTree.{UpdateTree}
use Rattle.cell_model.specs.Actions.{ItemChange, Put, Update, Delete, Check, ItemAction}
use Rattle.cell_model.specs.Keys.{same_key}

abbrev pub same_sum : SumTree → SumTree → Bool
same_sum (Alone t) (Alone u) = same_term t u
same_sum (Plus s t) (Plus u v) = same_term s u && same_term t v
same_sum (Minus s t) (Minus u v) = same_term s u && same_term t v
same_sum s t = false

abbrev pub same_set : SetTree → SetTree → Bool
same_set s t = same_path s.path t.path && same_sum s.sum t.sum

abbrev pub same_pair : PathValue → PathValue → Bool
same_pair p q = same_path p.path q.path && (p.value == q.value)

-- updates are the same by their trees
abbrev pub same_update : UpdateTree → UpdateTree → Bool
same_update u w =
    (pointwise same_set u.sets w.sets && pointwise same_path u.removes w.removes)
    && (pointwise same_pair u.adds w.adds && pointwise same_pair u.deletes w.deletes)

abbrev pub same_change : ItemChange → ItemChange → Bool
same_change (Put item) (Put other) = same_attributes item other
same_change (Update key u) (Update other w) = same_attributes key other && option_eq same_update u w
same_change (Delete key) (Delete other) = same_attributes key other
same_change (Check key) (Check other) = same_attributes key other
same_change x y = false

-- the values at one place are equal
abbrev pub same_values : List Value → List Value → Bool
same_values xs ys = pointwise (λ x y. same_value (tree_of x) (tree_of y)) xs ys

-- two actions are the same in every part: tables by their numbers, expressions by their trees, values by content
abbrev pub same_action : ItemAction → ItemAction → Bool
same_action a b =
    (same_key a.key b.key && bytes_eq a.table b.table)
    && ((same_change a.change b.change && option_eq same_condition a.condition b.condition)
    && (same_values a.values b.values && beq a.show_old b.show_old))
