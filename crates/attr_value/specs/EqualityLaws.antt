-- `same` says of two values whether they are equal.
use Rattle.std.proofs.Common.{◌≡◌, ℕ, List, Bool as Flag, true, false, ◌&&◌, bytes_eq, refl, sym, ap, ◌∙◌, subst}
use Rattle.std.specs.Bool.{Decides}
use Rattle.std.specs.Cmp.{IsEquivalence, decided, booleans_Decides}
use Rattle.std.specs.Cmp.Lexicographic.{pointwise}
use Rattle.std.proofs.lemmas.Bool.Decides.{Decides-int_eq}
use Rattle.std.proofs.lemmas.Slice.Eq.{slice_eq-Decides, bytes_eq-Decides}
use Rattle.attr_value.specs.Tree.{Tree, text, number, binary, boolean, null, list, map}
use Rattle.attr_value.specs.Tree.{text_set, number_set, binary_set}
use Rattle.attr_value.specs.Tree.{Trees, no_trees, tree, Attributes, no_attributes, attribute}
use Rattle.attr_value.specs.View.{tree_of}
use Rattle.attr_value.specs.declared.value.Value.{Value}
use Rattle.attr_value.specs.declared.value.Value.TheVariants.{S, N, B, Bool, Null, L, M, Ss, Ns, Bs}
use Rattle.attr_value.specs.Equality.{same, same_elements, same_attributes}

both : (a b : Flag) → (a && b) ≡ true → (a ≡ true) × (b ≡ true)
both true b e = (refl, e)
both false b e = cc

texts : (s u : List (List ℕ)) → Decides (pointwise bytes_eq s u) (s ≡ u)
texts s u = slice_eq-Decides bytes_eq-Decides s u _ refl

mutual
  pub equal_where_same : (t u : Tree) → same t u ≡ true → t ≡ u
  equal_where_same (text s) (text u) e = ap text ((bytes_eq-Decides s u).0 e)
  equal_where_same (number x) (number y) e = ap number ((Decides-int_eq x y).0 e)
  equal_where_same (binary s) (binary u) e = ap binary ((bytes_eq-Decides s u).0 e)
  equal_where_same (boolean a) (boolean b) e = ap boolean ((booleans_Decides a b).0 e)
  equal_where_same null null e = refl
  equal_where_same (list ts) (list us) e = ap list (equal_elements ts us e)
  equal_where_same (map ts) (map us) e = ap map (equal_attributes ts us e)
  equal_where_same (text_set s) (text_set u) e = ap text_set ((texts s u).0 e)
  equal_where_same (number_set s) (number_set u) e =
      ap number_set ((slice_eq-Decides Decides-int_eq s u _ refl).0 e)
  equal_where_same (binary_set s) (binary_set u) e = ap binary_set ((texts s u).0 e)
  equal_where_same _ _ e = cc

  pub equal_elements : (ts us : Trees) → same_elements ts us ≡ true → ts ≡ us
  equal_elements no_trees no_trees e = refl
  equal_elements (tree t ts) (tree u us) e =
      let parts = both (same t u) (same_elements ts us) e in
      ap (λ x. tree x ts) (equal_where_same t u parts.0)
      ∙ ap (tree u) (equal_elements ts us parts.1)
  equal_elements _ _ e = cc

  equal_attributes : (ts us : Attributes) → same_attributes ts us ≡ true → ts ≡ us
  equal_attributes no_attributes no_attributes e = refl
  equal_attributes (attribute n t ts) (attribute m u us) e =
      let parts = both (bytes_eq n m && same t u) (same_attributes ts us) e in
      let first = both (bytes_eq n m) (same t u) parts.0 in
      ap (λ x. attribute x t ts) ((bytes_eq-Decides n m).0 first.0)
      ∙ ap (λ x. attribute m x ts) (equal_where_same t u first.1)
      ∙ ap (attribute m u) (equal_attributes ts us parts.1)
  equal_attributes _ _ e = cc

all_true : (a b : Flag) → a ≡ true → b ≡ true → (a && b) ≡ true
all_true true b p q = q
all_true false b p q = cc

mutual
  pub same_itself : (t : Tree) → same t t ≡ true
  same_itself (text s) = (bytes_eq-Decides s s).1 refl
  same_itself (number x) = (Decides-int_eq x x).1 refl
  same_itself (binary s) = (bytes_eq-Decides s s).1 refl
  same_itself (boolean a) = (booleans_Decides a a).1 refl
  same_itself null = refl
  same_itself (list ts) = elements_itself ts
  same_itself (map ts) = attributes_itself ts
  same_itself (text_set s) = (texts s s).1 refl
  same_itself (number_set s) = (slice_eq-Decides Decides-int_eq s s _ refl).1 refl
  same_itself (binary_set s) = (texts s s).1 refl

  pub elements_itself : (ts : Trees) → same_elements ts ts ≡ true
  elements_itself no_trees = refl
  elements_itself (tree t ts) =
      all_true (same t t) (same_elements ts ts) (same_itself t) (elements_itself ts)

  pub attributes_itself : (ts : Attributes) → same_attributes ts ts ≡ true
  attributes_itself no_attributes = refl
  attributes_itself (attribute n t ts) =
      let named = all_true (bytes_eq n n) (same t t) ((bytes_eq-Decides n n).1 refl) (same_itself t) in
      all_true (bytes_eq n n && same t t) (same_attributes ts ts) named (attributes_itself ts)

pub same-Decides : (t u : Tree) → Decides (same t u) (t ≡ u)
same-Decides t u = (equal_where_same t u, λ e. subst (λ x. same t x ≡ true) e (same_itself t))

pub same_laws : IsEquivalence same
same_laws = decided same same-Decides

-- the same of values, which are told apart as their trees are
abbrev value_in : Tree → Value
value_in (text s) = S s
value_in (number z) = N z
value_in (binary s) = B s
value_in (boolean b) = Bool b
value_in null = Null
value_in (list inside) = L inside
value_in (map inside) = M inside
value_in (text_set s) = Ss s
value_in (number_set s) = Ns s
value_in (binary_set s) = Bs s

value_back : (v : Value) → value_in (tree_of v) ≡ v
value_back (S s) = refl
value_back (N z) = refl
value_back (B s) = refl
value_back (Bool b) = refl
value_back Null = refl
value_back (L inside) = refl
value_back (M inside) = refl
value_back (Ss s) = refl
value_back (Ns s) = refl
value_back (Bs s) = refl

pub values_Decides : (v w : Value) → Decides (same (tree_of v) (tree_of w)) (v ≡ w)
values_Decides v w = (
  λ e. sym (value_back v) ∙ ap value_in (equal_where_same (tree_of v) (tree_of w) e) ∙ value_back w,
  λ e. subst (λ x. same (tree_of v) (tree_of x) ≡ true) e (same_itself (tree_of v)),
)

pub values_laws : IsEquivalence (λ (v w : Value). same (tree_of v) (tree_of w))
values_laws = decided (λ (v w : Value). same (tree_of v) (tree_of w)) values_Decides

-- the same of lists and items
pub elements_Decides : (ts us : Trees) → Decides (same_elements ts us) (ts ≡ us)
elements_Decides ts us = (equal_elements ts us, λ e. subst (λ x. same_elements ts x ≡ true) e (elements_itself ts))

pub elements_laws : IsEquivalence same_elements
elements_laws = decided same_elements elements_Decides

pub items_Decides : (ts us : Attributes) → Decides (same_attributes ts us) (ts ≡ us)
items_Decides ts us = (equal_attributes ts us, λ e. subst (λ x. same_attributes ts x ≡ true) e (attributes_itself ts))

pub items_laws : IsEquivalence same_attributes
items_laws = decided same_attributes items_Decides
