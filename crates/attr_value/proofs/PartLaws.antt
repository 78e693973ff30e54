-- Items and lists made part by part: what comes behind the parts before it, and what a part weighs.
use Rattle.std.proofs.Common.{◌≡◌, ℕ, zero, suc, ◌<◌, ◌≤◌, get_or, List, [], ◌∷◌, ◌++◌, Option, Some, None, Greater, Less, nat_cmp, length, refl, ap, ◌∙◌, arith}
use Rattle.std.proofs.lemmas.Cmp.{nat_list_cmp_total}
use Rattle.std.specs.Cmp.Lexicographic.{slice_cmp}
use Rattle.std.specs.Ordering.{ordering_reverse}
use Rattle.attr_value.specs.Tree as tree
use Rattle.attr_value.specs.Tree.{tree_weight, trees_weight, weight}
use Rattle.attr_value.specs.Tree.{Tree, Trees, no_trees, Attributes, no_attributes, IsBelowNames, AreInOrder}
use Rattle.attr_value.specs.Paths.{kept_attribute}
use Rattle.attr_value.specs.Parts.{put_some, onto}
use Rattle.attr_value.specs.View.{tree_of, trees_of, attributes_of}
use Rattle.attr_value.specs.declared.value.Value.{Value}
use Rattle.attr_value.proofs.Views.{Entry}

-- ---- attributes in order

below_middle : (name : List ℕ) (es : List Entry) (e : Entry) (more : List Entry) → IsBelowNames name (attributes_of (es ++ e ∷ more)) → slice_cmp nat_cmp name e.0 ≡ Less
below_middle name [] e more h = h.0
below_middle name (x ∷ es) e more h = below_middle name es e more h.1

-- where attributes are in order, a later name is above the first
pub above_first : (first : Entry) (done : List Entry) (e : Entry) (more : List Entry) → AreInOrder (attributes_of (first ∷ (done ++ e ∷ more)))
    → slice_cmp nat_cmp e.0 first.0 ≡ Greater
above_first first done e more up = nat_list_cmp_total.antisymm e.0 first.0 ∙ ap ordering_reverse (below_middle first.0 done e more up.0)

pub put_first : (name : List ℕ) (o : Option Tree) → kept_attribute name o no_attributes ≡ put_some name o no_attributes
put_first name None = refl
put_first name (Some t) = refl

-- a name that is above another goes behind it
pub put_behind : (name other : List ℕ) (o x : Option Tree) (item : Attributes) → slice_cmp nat_cmp name other ≡ Greater
    → kept_attribute other x (put_some name o item) ≡ put_some name o (kept_attribute other x item)
put_behind name other o None item above = refl
put_behind name other None (Some t) item above = refl
put_behind name other (Some u) (Some t) item above = rw above refl

-- ---- elements

-- one more element
pub onto_push : (vs : List Value) (v : Value) (us : Trees) → onto (trees_of (vs ++ v ∷ [])) us ≡ onto (trees_of vs) (tree.tree (tree_of v) us)
onto_push [] v us = refl
onto_push (w ∷ vs) v us = ap (tree.tree (tree_of w)) (onto_push vs v us)

pub onto_none : (ts : Trees) → onto ts no_trees ≡ ts
onto_none no_trees = refl
onto_none (tree.tree t ts) = ap (tree.tree t) (onto_none ts)

-- ---- what is in an item or a list weighs no more than it

pub attribute_weight : (done : List Entry) (e : Entry) (more : List Entry) → tree_weight (tree_of e.1) ≤ weight (attributes_of (done ++ e ∷ more))
attribute_weight [] e more = omega arith
attribute_weight (d ∷ done) e more = omega (arith, attribute_weight done e more)

pub element_weight : (vs : List Value) (i : ℕ) (v : Value) → i < length vs → v ≡ get_or vs i v → tree_weight (tree_of v) ≤ trees_weight (trees_of vs)
element_weight [] i v within is = absurd (omega arith)
element_weight (w ∷ vs) zero v within is = omega (arith, ap (λ (x : Value). tree_weight (tree_of x)) is)
element_weight (w ∷ vs) (suc i) v within is = omega (arith, element_weight vs i v (omega arith) is)
