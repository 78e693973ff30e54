-- How trees are written in the logic's own tree of numbers, which a type that holds itself needs to be seen as a tree: each
-- kind by a number, and a function that reads what was written. Nothing that a caller relies on hangs on the numbers.
use Rattle.std.specs.Prelude.{◌≡◌, ℕ, zero, suc, ℤ, pos, negsuc, Bool, true, false, List, [], ◌∷◌, refl}
use Rattle.std.specs.Coded.{Coded, code_by}
use base.Stored.{Gv, gnil, gnum, gcons}
use denote.Struct.Codes.{itself}
use Rattle.attr_value.specs.Tree.{Tree, text, number, binary, boolean, null, list, map}
use Rattle.attr_value.specs.Tree.{text_set, number_set, binary_set}
use Rattle.attr_value.specs.Tree.{Trees, no_trees, tree, Attributes, no_attributes, attribute}

abbrev pub stored_bytes : List ℕ → Gv
stored_bytes [] = gnil
stored_bytes (x ∷ xs) = gcons (gnum x) (stored_bytes xs)

abbrev pub bytes_in : Gv → List ℕ
bytes_in (gcons (gnum x) rest) = x ∷ bytes_in rest
bytes_in _ = []

bytes_back : (xs : List ℕ) → bytes_in (stored_bytes xs) ≡ xs
bytes_back [] = refl
bytes_back (x ∷ xs) = λ i. x ∷ bytes_back xs i

abbrev pub stored_strings : List (List ℕ) → Gv
stored_strings [] = gnil
stored_strings (x ∷ xs) = gcons (stored_bytes x) (stored_strings xs)

abbrev pub strings_in : Gv → List (List ℕ)
strings_in (gcons x rest) = bytes_in x ∷ strings_in rest
strings_in _ = []

strings_back : (xs : List (List ℕ)) → strings_in (stored_strings xs) ≡ xs
strings_back [] = refl
strings_back (x ∷ xs) = λ i. bytes_back x i ∷ strings_back xs i

abbrev pub stored_number : ℤ → Gv
stored_number (pos n) = gcons (gnum 0) (gnum n)
stored_number (negsuc n) = gcons (gnum 1) (gnum n)

abbrev pub number_in : Gv → ℤ
number_in (gcons (gnum zero) (gnum n)) = pos n
number_in (gcons (gnum (suc one)) (gnum n)) = negsuc n
number_in _ = pos 0

number_back : (z : ℤ) → number_in (stored_number z) ≡ z
number_back (pos n) = refl
number_back (negsuc n) = refl

abbrev pub stored_numbers : List ℤ → Gv
stored_numbers [] = gnil
stored_numbers (z ∷ zs) = gcons (stored_number z) (stored_numbers zs)

abbrev pub numbers_in : Gv → List ℤ
numbers_in (gcons z rest) = number_in z ∷ numbers_in rest
numbers_in _ = []

numbers_back : (zs : List ℤ) → numbers_in (stored_numbers zs) ≡ zs
numbers_back [] = refl
numbers_back (z ∷ zs) = λ i. number_back z i ∷ numbers_back zs i

abbrev pub stored_flag : Bool → Gv
stored_flag false = gnum 0
stored_flag true = gnum 1

abbrev pub flag_in : Gv → Bool
flag_in (gnum zero) = false
flag_in _ = true

flag_back : (b : Bool) → flag_in (stored_flag b) ≡ b
flag_back false = refl
flag_back true = refl

abbrev mutual
  pub stored : Tree → Gv
  stored null = gcons (gnum 0) gnil
  stored (text s) = gcons (gnum 1) (stored_bytes s)
  stored (number z) = gcons (gnum 2) (stored_number z)
  stored (binary s) = gcons (gnum 3) (stored_bytes s)
  stored (boolean b) = gcons (gnum 4) (stored_flag b)
  stored (list inside) = gcons (gnum 5) (stored_list inside)
  stored (map inside) = gcons (gnum 6) (stored_item inside)
  stored (text_set s) = gcons (gnum 7) (stored_strings s)
  stored (number_set s) = gcons (gnum 8) (stored_numbers s)
  stored (binary_set s) = gcons (gnum 9) (stored_strings s)

  pub stored_list : Trees → Gv
  stored_list no_trees = gnil
  stored_list (tree t rest) = gcons (stored t) (stored_list rest)

  pub stored_item : Attributes → Gv
  stored_item no_attributes = gnil
  stored_item (attribute name t rest) = gcons (stored_bytes name) (gcons (stored t) (stored_item rest))

abbrev mutual
  pub tree_in : Gv → Tree
  tree_in (gcons (gnum zero) inside) = null
  tree_in (gcons (gnum (suc zero)) inside) = text (bytes_in inside)
  tree_in (gcons (gnum (suc (suc zero))) inside) = number (number_in inside)
  tree_in (gcons (gnum (suc (suc (suc zero)))) inside) = binary (bytes_in inside)
  tree_in (gcons (gnum (suc (suc (suc (suc zero))))) inside) = boolean (flag_in inside)
  tree_in (gcons (gnum (suc (suc (suc (suc (suc zero)))))) inside) = list (list_in inside)
  tree_in (gcons (gnum (suc (suc (suc (suc (suc (suc zero))))))) inside) = map (item_in inside)
  tree_in (gcons (gnum (suc (suc (suc (suc (suc (suc (suc zero)))))))) inside) = text_set (strings_in inside)
  tree_in (gcons (gnum (suc (suc (suc (suc (suc (suc (suc (suc zero))))))))) inside) = number_set (numbers_in inside)
  tree_in (gcons (gnum (suc (suc (suc (suc (suc (suc (suc (suc (suc n)))))))))) inside) = binary_set (strings_in inside)
  tree_in _ = null

  pub list_in : Gv → Trees
  list_in (gcons t rest) = tree (tree_in t) (list_in rest)
  list_in _ = no_trees

  pub item_in : Gv → Attributes
  item_in (gcons name (gcons t rest)) = attribute (bytes_in name) (tree_in t) (item_in rest)
  item_in _ = no_attributes

mutual
  pub tree_back : (t : Tree) → tree_in (stored t) ≡ t
  tree_back (text s) = λ i. text (bytes_back s i)
  tree_back (number z) = λ i. number (number_back z i)
  tree_back (binary s) = λ i. binary (bytes_back s i)
  tree_back (boolean b) = λ i. boolean (flag_back b i)
  tree_back null = refl
  tree_back (list inside) = λ i. list (list_back inside i)
  tree_back (map inside) = λ i. map (item_back inside i)
  tree_back (text_set s) = λ i. text_set (strings_back s i)
  tree_back (number_set s) = λ i. number_set (numbers_back s i)
  tree_back (binary_set s) = λ i. binary_set (strings_back s i)

  pub list_back : (ts : Trees) → list_in (stored_list ts) ≡ ts
  list_back no_trees = refl
  list_back (tree t rest) = λ i. tree (tree_back t i) (list_back rest i)

  pub item_back : (ts : Attributes) → item_in (stored_item ts) ≡ ts
  item_back no_attributes = refl
  item_back (attribute name t rest) = λ i. attribute (bytes_back name i) (tree_back t i) (item_back rest i)

-- the code of a list's elements
abbrev pub trees_code : Coded Trees
trees_code = code_by Gv itself stored_list list_in list_back

-- the code of an item's attributes
abbrev pub attributes_code : Coded Attributes
attributes_code = code_by Gv itself stored_item item_in item_back
