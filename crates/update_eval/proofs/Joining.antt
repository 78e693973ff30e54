-- Lists behind one another, and the answers that need them.
use Rattle.std.proofs.Common.{◌≡◌, ℕ, ◌+◌, ◌-◌, ◌^◌, min, max, List, [], ◌∷◌, ◌++◌, Ok, refl, sym, ap, ◌∙◌, arith}
use Rattle.std.specs.Borrow.{Bor}
use Rattle.attr_value.specs.Tree.{Tree, text, number, binary, boolean, null, list, map, text_set, number_set, binary_set}
use Rattle.attr_value.specs.Tree.{Trees, no_trees, tree}
use Rattle.attr_value.specs.Parts.{onto}
use Rattle.attr_value.specs.Sizes.{depth, elements_depth}
use Rattle.item_writes.specs.Joined.{joined}
use Rattle.item_writes.proofs.Extents.{onto_levels}
use Rattle.update_eval.specs.Answers.{after}
use Rattle.update_eval.specs.Terms.{elements_in, lists_joined}

onto_assoc : (ts us vs : Trees) → onto (onto ts us) vs ≡ onto ts (onto us vs)
onto_assoc no_trees us vs = refl
onto_assoc (tree t ts) us vs = ap (tree t) (onto_assoc ts us vs)

joined_append : (xs ys : List (Bor Trees)) → joined (xs ++ ys) ≡ onto (joined xs) (joined ys)
joined_append [] ys = refl
joined_append (x ∷ xs) ys = ap (onto x.now) (joined_append xs ys) ∙ sym (onto_assoc x.now (joined xs) (joined ys))

list_levels : (t : Tree) (ts : Trees) → elements_in t ≡ Ok ts → depth t ≡ 1 + elements_depth ts
list_levels (list us) ts e = let same : us ≡ ts = cc in ap (λ vs. 1 + elements_depth vs) same
list_levels (map inside) ts e = cc
list_levels (text s) ts e = cc
list_levels (number z) ts e = cc
list_levels (binary s) ts e = cc
list_levels (boolean b) ts e = cc
list_levels null ts e = cc
list_levels (text_set s) ts e = cc
list_levels (number_set s) ts e = cc
list_levels (binary_set s) ts e = cc

-- lists behind one another nest as deep as the deepest
pub joined_levels : (s t : Tree) (xs ys zs : List (Bor Trees)) (front back new : ℕ) → elements_in s ≡ Ok (joined xs) → elements_in t ≡ Ok (joined ys)
    → zs ≡ xs ++ ys → front ≡ min (depth s) (2 ^ 32 - 1) → back ≡ min (depth t) (2 ^ 32 - 1) → new ≡ max front back
    → new ≡ min (1 + elements_depth (joined zs)) (2 ^ 32 - 1)
joined_levels s t xs ys zs front back new f b whole first second is =
    let deep : depth s ≡ 1 + elements_depth (joined xs) = list_levels s (joined xs) f in
    let deeper : depth t ≡ 1 + elements_depth (joined ys) = list_levels t (joined ys) b in
    let both : elements_depth (joined zs) ≡ max (elements_depth (joined xs)) (elements_depth (joined ys)) =
    ap (λ ws. elements_depth (joined ws)) whole ∙ ap elements_depth (joined_append xs ys) ∙ onto_levels (joined xs) (joined ys) in
    omega (arith, deep, deeper, first, second, both, is)

pub joined_is : (front back : Tree) (xs ys zs : List (Bor Trees)) → elements_in front ≡ Ok (joined xs) → elements_in back ≡ Ok (joined ys) → zs ≡ xs ++ ys
    → lists_joined front back ≡ Ok (list (joined zs))
joined_is front back xs ys zs f b whole =
    ap (λ a. after a (λ ts. after (elements_in back) (λ us. Ok (list (onto ts us))))) f
    ∙ ap (λ a. after a (λ us. Ok (list (onto (joined xs) us)))) b
    ∙ ap (λ ts. Ok (list ts)) (sym (joined_append xs ys) ∙ ap joined (sym whole))
