-- What is inside a list or an item weighs no more than it does, so that a recursion over values ends.
use Rattle.std.specs.Prelude.{ℕ, ◌≤◌, max, List, [], ◌∷◌}
use Rattle.std.proofs.Common.{arith}
use Rattle.std.specs.Map.{values_of}
use denote.Param.Weighed.{most}
use Rattle.attr_value.specs.declared.value.Elements.TheDeep.{deep-Value}
use Rattle.attr_value.specs.declared.value.Value.{Value}
use Rattle.attr_value.specs.declared.value.Value.TheVariants.{S, N, B, Bool, Null, L, M, Ss, Ns, Bs}
use Rattle.attr_value.specs.Tree.{weight, tree_weight, trees_weight}
use Rattle.attr_value.specs.View.{tree_of, trees_of, attributes_of}

value_falls : (v : Value) → deep-Value v ≤ tree_weight (tree_of v)
value_falls (S s) = omega arith
value_falls (N z) = omega arith
value_falls (B s) = omega arith
value_falls (Bool b) = omega arith
value_falls Null = omega arith
value_falls (L inside) = omega arith
value_falls (M inside) = omega arith
value_falls (Ss s) = omega arith
value_falls (Ns s) = omega arith
value_falls (Bs s) = omega arith

no_list_more : (vs : List Value) → most deep-Value vs ≤ trees_weight (trees_of vs)
no_list_more [] = omega arith
no_list_more (v ∷ vs) = omega (arith, value_falls v, no_list_more vs)

pub list_falls : (vs : List Value) → max (most deep-Value vs) 0 ≤ trees_weight (trees_of vs)
list_falls vs = omega (arith, no_list_more vs)

no_item_more : (es : List (List ℕ × Value)) → most deep-Value (values_of es) ≤ weight (attributes_of es)
no_item_more [] = omega arith
no_item_more (e ∷ es) = omega (arith, value_falls e.1, no_item_more es)

pub item_falls : (es : List (List ℕ × Value)) → max (most deep-Value (values_of es)) 0 ≤ weight (attributes_of es)
item_falls es = omega (arith, no_item_more es)
