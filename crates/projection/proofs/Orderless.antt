-- What is picked hangs on which paths there are, and not on their order.
use Rattle.std.proofs.Common.{◌≡◌, ℕ, zero, suc, ◌+◌, List, [], ◌∷◌, Some, None, Bool, true, false, cond, ◌&&◌, ◌||◌, refl, sym, ap, ◌∙◌, arith}
use Rattle.std.specs.List.{count_by}
use Rattle.std.specs.List.Sorted.{IsPermutation}
use Rattle.std.proofs.lemmas.List.Sorted.{sum_by-IsPermutation}
use Rattle.std.proofs.lemmas.List.Sums.{sum_by-cons}
use Rattle.base_types.specs.declared.path.Step.{Step}
use Rattle.attr_value.specs.Tree as tree
use Rattle.attr_value.specs.Tree.{Tree, Trees, no_trees, Attributes, no_attributes, attribute}
use Rattle.attr_value.specs.Tree.{text, number, binary, boolean, null, text_set, number_set, binary_set}
use Rattle.attr_value.specs.Paths.{kept_attribute, kept_element}
use Rattle.path_entries.specs.Entries.{below, or_rest, is_name, is_place, entry_of, entries_of}
use Rattle.path_entries.specs.declared.key.PathEntry.{PathEntry}
use Rattle.projection.specs.Picked.{Asked, is_end, leads_here, some_list, some_map, picked_inside, picked_from, picked_item}

-- each test passes as many of the one list as of the other
abbrev pub AreSame : List Asked → List Asked → Type 0
AreSame ps qs = (p : Asked → Bool) → count_by p ps ≡ count_by p qs

counted : (p : Asked → Bool) (x : Asked) (xs : List Asked) → count_by p (x ∷ xs) ≡ cond (p x) 1 0 + count_by p xs
counted p x xs = sum_by-cons (λ y. cond (p y) 1 0) x xs

counted_entries : (p : Asked → Bool) (es : List (PathEntry (Unit {0}))) → count_by p (entries_of es) ≡ count_by (λ e. p (entry_of e)) es
counted_entries p [] = refl
counted_entries p (e ∷ es) =
    counted p (entry_of e) (entries_of es) ∙ ap (λ (n : ℕ). cond (p (entry_of e)) 1 0 + n) (counted_entries p es)
    ∙ sym (sum_by-cons (λ x. cond (p (entry_of x)) 1 0) e es)

-- entries in another order
pub same_entries : (es fs : List (PathEntry (Unit {0}))) → IsPermutation es fs → AreSame (entries_of es) (entries_of fs)
same_entries es fs moved p =
    counted_entries p es ∙ sym (sum_by-IsPermutation (λ e. cond (p (entry_of e)) 1 0) es fs moved) ∙ sym (counted_entries p fs)

-- ---- a path that ends

ends : Asked → Bool
ends p = is_end p.0

some_ends : ℕ → Bool
some_ends zero = false
some_ends (suc n) = true

one_ends : (b : Bool) (n : ℕ) (rest : Bool) → rest ≡ some_ends n → (b || rest) ≡ some_ends (cond b 1 0 + n)
unfolding some_ends
one_ends true n rest e = let one : 1 + n ≡ suc n = omega arith in rw one refl
one_ends false n rest e = let none : 0 + n ≡ n = omega arith in rw none e

leads_here-counted : (ps : List Asked) → leads_here ps ≡ some_ends (count_by ends ps)
unfolding ends some_ends
leads_here-counted [] = refl
leads_here-counted (p ∷ ps) = one_ends (is_end p.0) _ _ (leads_here-counted ps) ∙ ap some_ends (sym (counted ends p ps))

-- ---- the paths below a step

passes_on : (Step → Bool) → (Asked → Bool) → Asked → Bool
passes_on test p ([], v) = false
passes_on test p (s ∷ steps, v) = test s && p (steps, v)

one_below : (b : Bool) (p : Asked → Bool) (x : Asked) (rest : List Asked) (n : ℕ) → count_by p rest ≡ n
    → count_by p (or_rest (cond b (Some x) None) rest) ≡ cond (b && p x) 1 0 + n
one_below true p x rest n e = counted p x rest ∙ ap (λ (m : ℕ). cond (p x) 1 0 + m) e
one_below false p x rest n e = let none : 0 + n ≡ n = omega arith in e ∙ sym none

below-counted : (test : Step → Bool) (p : Asked → Bool) (ps : List Asked) → count_by p (below test ps) ≡ count_by (passes_on test p) ps
unfolding passes_on
below-counted test p [] = refl
below-counted test p (([], v) ∷ ps) = let none : 0 + count_by (passes_on test p) ps ≡ count_by (passes_on test p) ps = omega arith in below-counted test p ps ∙ sym none ∙ sym (counted (passes_on test p) ([], v) ps)
below-counted test p ((s ∷ steps, v) ∷ ps) = one_below (test s) p (steps, v) (below test ps) _ (below-counted test p ps) ∙ sym (counted (passes_on test p) (s ∷ steps, v) ps)

same_below : (test : Step → Bool) (ps qs : List Asked) → AreSame ps qs → AreSame (below test ps) (below test qs)
same_below test ps qs same p = below-counted test p ps ∙ same (passes_on test p) ∙ sym (below-counted test p qs)

same_here : (ps qs : List Asked) → AreSame ps qs → leads_here ps ≡ leads_here qs
same_here ps qs same = leads_here-counted ps ∙ ap some_ends (same ends) ∙ sym (leads_here-counted qs)

-- ---- what is picked

mutual
  same_inside : (t : Tree) (ps qs : List Asked) → AreSame ps qs → picked_inside t ps ≡ picked_inside t qs
  same_inside (tree.list inside) ps qs same = ap some_list (same_elements inside 0 ps qs same)
  same_inside (tree.map inside) ps qs same = ap some_map (same_item inside ps qs same)
  same_inside (text s) ps qs same = refl
  same_inside (number z) ps qs same = refl
  same_inside (binary s) ps qs same = refl
  same_inside (boolean b) ps qs same = refl
  same_inside null ps qs same = refl
  same_inside (text_set s) ps qs same = refl
  same_inside (number_set s) ps qs same = refl
  same_inside (binary_set s) ps qs same = refl

  same_elements : (inside : Trees) (place : ℕ) (ps qs : List Asked) → AreSame ps qs → picked_from inside place ps ≡ picked_from inside place qs
  same_elements no_trees place ps qs same = refl
  same_elements (tree.tree t rest) place ps qs same =
      let us = below (is_place place) ps in
      let vs = below (is_place place) qs in
      let deeper = same_below (is_place place) ps qs same in
      λ i. kept_element (cond (same_here us vs deeper i) (Some t) (same_inside t us vs deeper i)) (same_elements rest (suc place) ps qs same i)

  pub same_item : (inside : Attributes) (ps qs : List Asked) → AreSame ps qs → picked_item inside ps ≡ picked_item inside qs
  same_item no_attributes ps qs same = refl
  same_item (attribute name t rest) ps qs same =
      let us = below (is_name name) ps in
      let vs = below (is_name name) qs in
      let deeper = same_below (is_name name) ps qs same in
      λ i. kept_attribute name (cond (same_here us vs deeper i) (Some t) (same_inside t us vs deeper i)) (same_item rest ps qs same i)
