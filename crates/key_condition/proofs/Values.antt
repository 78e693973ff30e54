-- Key values and the trees that they were made of.
use Rattle.std.proofs.Common.{◌≡◌, ℕ, List, [], ◌∷◌, Bool, true, false, ◌==◌, ◌++◌, length, drop, Option, Some, Ok, Err, refl, sym, ap, ◌∙◌, rules}
use Rattle.std.specs.Prelude.{ℤ, if◌then◌else◌, nat_lt}
use Rattle.std.specs.Ordering.{nat_cmp, int_cmp, int_eq, is_eq, is_ge, ordering_then}
use Rattle.std.specs.Cmp.Rules.{comparing}
use Rattle.std.specs.Cmp.Lexicographic.{slice_cmp}
use Rattle.std.specs.List.{starts_with}
use Rattle.std.proofs.lemmas.Bool.Decides.{Decides-eqb}
use Rattle.std.proofs.lemmas.Cmp.{tied_itself, nat_cmp_total}
use Rattle.std.proofs.lemmas.Slice.Eq.{starts_is}
use Rattle.std.proofs.lemmas.Map.Text.{is_eq-slice_cmp}
use Rattle.attr_value.specs.Tree as tree
use Rattle.attr_value.specs.Equality.{same, order}
use Rattle.table_schema.specs.declared.definition.KeyKind.{KeyKind}
use Rattle.table_schema.specs.declared.definition.KeyKind.TheVariants as kinds
use Rattle.item_keys.specs.ItemKey.{within, typed}
use Rattle.item_keys.specs.Order.{value_order}
use Rattle.item_keys.specs.declared.fault.KeyFault.TheVariants.{Empty, TooLong}
use Rattle.item_keys.specs.declared.value.KeyValue.{KeyValue}
use Rattle.item_keys.specs.declared.value.KeyValue.TheVariants.{S, N, B}
use Rattle.condition_eval.specs.Truth.{front_stands}
use Rattle.key_condition.specs.KeyRange.{has_front}

-- the attribute value that a key value is, and its type
abbrev pub tree_of_key : KeyValue → tree.Tree
tree_of_key (S bytes) = tree.text bytes
tree_of_key (N number) = tree.number number
tree_of_key (B bytes) = tree.binary bytes

abbrev pub kind_of_key : KeyValue → KeyKind
kind_of_key (S bytes) = kinds.S
kind_of_key (N number) = kinds.N
kind_of_key (B bytes) = kinds.B

within_long : (long : Bool) (v k : KeyValue) → (if long then Err TooLong else Ok v) ≡ Ok k → v ≡ k
within_long true v k e = cc
within_long false v k e = cc

within_any : (empty long : Bool) (v k : KeyValue) → (if empty then Err Empty else (if long then Err TooLong else Ok v)) ≡ Ok k → v ≡ k
within_any true long v k e = cc
within_any false long v k e = within_long long v k e

within_same : (limit bytes : ℕ) (v k : KeyValue) → within limit bytes v ≡ Ok k → v ≡ k
within_same limit bytes v k e = within_any (bytes == 0) (nat_lt limit bytes) v k e

-- a value that was read as a key value is that value, and of the type that is defined
pub typed_tree : (limit : ℕ) (kind : Option KeyKind) (t : tree.Tree) (k : KeyValue) → typed limit kind t ≡ Ok k → t ≡ tree_of_key k
typed_tree limit (Some kinds.S) (tree.text bytes) k e = ap tree_of_key (within_same limit _ (S bytes) k e)
typed_tree limit (Some kinds.N) (tree.number z) k e = let same : N z ≡ k = cc in ap tree_of_key same
typed_tree limit (Some kinds.B) (tree.binary bytes) k e = ap tree_of_key (within_same limit _ (B bytes) k e)
typed_tree limit _ _ k e = cc

pub typed_kind : (limit : ℕ) (kind : Option KeyKind) (t : tree.Tree) (k : KeyValue) → typed limit kind t ≡ Ok k → kind ≡ Some (kind_of_key k)
typed_kind limit (Some kinds.S) (tree.text bytes) k e = ap (λ v. Some (kind_of_key v)) (within_same limit _ (S bytes) k e)
typed_kind limit (Some kinds.N) (tree.number z) k e = let same : N z ≡ k = cc in ap (λ v. Some (kind_of_key v)) same
typed_kind limit (Some kinds.B) (tree.binary bytes) k e = ap (λ v. Some (kind_of_key v)) (within_same limit _ (B bytes) k e)
typed_kind limit _ _ k e = cc

-- a tree is of one key value
pub one_key : (x y : KeyValue) → tree_of_key x ≡ tree_of_key y → x ≡ y
one_key (S a) (S b) e = cc
one_key (N a) (N b) e = cc
one_key (B a) (B b) e = cc
one_key _ _ e = cc

-- ---- comparisons of two key values of one type

is_eq-int_cmp : (a b : ℤ) → is_eq (int_cmp a b) ≡ int_eq a b
is_eq-int_cmp a b = search (comparing, rules)

pub keys_same : (x y : KeyValue) → kind_of_key x ≡ kind_of_key y → same (tree_of_key x) (tree_of_key y) ≡ is_eq (value_order x y)
unfolding value_order
keys_same (S a) (S b) e = sym (is_eq-slice_cmp a b)
keys_same (N a) (N b) e = sym (is_eq-int_cmp a b)
keys_same (B a) (B b) e = sym (is_eq-slice_cmp a b)
keys_same _ _ e = cc

pub keys_order : (x y : KeyValue) → kind_of_key x ≡ kind_of_key y → order (tree_of_key x) (tree_of_key y) ≡ Some (value_order x y)
unfolding value_order
keys_order (S a) (S b) e = refl
keys_order (N a) (N b) e = refl
keys_order (B a) (B b) e = refl
keys_order _ _ e = cc

pub keys_begin : (x y : KeyValue) → front_stands (tree_of_key x) (tree_of_key y) ≡ has_front x y
keys_begin (S a) (S b) = refl
keys_begin (S a) (N b) = refl
keys_begin (S a) (B b) = refl
keys_begin (N a) y = refl
keys_begin (B a) (S b) = refl
keys_begin (B a) (N b) = refl
keys_begin (B a) (B b) = refl

-- ---- fronts

-- what begins with a front is not below it
above_front : (front rest : List ℕ) → is_ge (slice_cmp nat_cmp (front ++ rest) front) ≡ true
above_front [] [] = refl
above_front [] (b ∷ rest) = refl
above_front (b ∷ front) rest =
    ap (λ o. is_ge (ordering_then o (slice_cmp nat_cmp (front ++ rest) front))) (tied_itself nat_cmp_total b) ∙ above_front front rest

front_below : (s front : List ℕ) → starts_with ◌==◌ s front ≡ true → is_ge (slice_cmp nat_cmp s front) ≡ true
front_below s front e =
    let split : s ≡ front ++ drop (length front) s = (starts_is Decides-eqb s front (starts_with ◌==◌ s front) refl).0 e in
    ap (λ l. is_ge (slice_cmp nat_cmp l front)) split ∙ above_front front (drop (length front) s)

pub front_at_least : (x y : KeyValue) → has_front x y ≡ true → is_ge (value_order x y) ≡ true
unfolding value_order
front_at_least (S a) (S b) e = front_below a b e
front_at_least (B a) (B b) e = front_below a b e
front_at_least _ _ e = cc
