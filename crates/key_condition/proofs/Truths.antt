-- A range has the keys of the items of which its condition is true.
use Rattle.std.proofs.Common.{◌≡◌, ℕ, List, [], ◌∷◌, Bool, true, false, ◌&&◌, ◌||◌, Option, Some, None, Result, Ok, Err, refl, sym, ap, ◌∙◌, subst, ◌⊎◌, inl, inr, ⊎_elim}
use Rattle.std.specs.Prelude.{if◌then◌else◌, option_and_then}
use Rattle.std.specs.Result.{result_map_both}
use Rattle.std.specs.Ordering.{is_eq, is_ge, is_lt, is_le, is_gt}
use Rattle.std.specs.declared.cmp.Ordering.{Ordering}
use Rattle.std.specs.declared.cmp.Ordering.TheVariants as ordering
use Rattle.std.proofs.lemmas.Slice.Eq.{bytes_eq-Decides}
use Rattle.base_types.specs.declared.path.Step.{Step}
use Rattle.base_types.specs.declared.path.Step.TheVariants.{Name, Index}
use Rattle.attr_value.specs.Tree as attribute
use Rattle.attr_value.specs.Tree.{Attributes}
use Rattle.attr_value.specs.Paths.{found, found_in, value_at}
use Rattle.attr_value.specs.declared.value.Value.{Value as Given}
use Rattle.expr_words.specs.declared.tree.Comparison.{Comparison}
use Rattle.expr_words.specs.declared.tree.Comparison.TheVariants.{Equal, Unequal, Less, AtMost, More, AtLeast}
use Rattle.expr_words.specs.declared.tree.Operand.TheVariants.{Path, Value}
use Rattle.expr_words.specs.Trees.{Tree, Conjunction, Compared, Range, FrontTest}
use Rattle.condition_eval.specs.Truth.{true_of, given, is_equal, order_of, passes, compared, is_between, begins}
use Rattle.table_schema.specs.Kind.{kind_of}
use Rattle.table_schema.specs.declared.definition.KeyKind.{KeyKind}
use Rattle.table_schema.specs.declared.keys.KeyNames.{KeyNames}
use Rattle.table_schema.specs.declared.schema.Schema.{Schema}
use Rattle.item_keys.specs.ItemKey as item_key
use Rattle.item_keys.specs.ItemKey.{part_of, part_in, sort_in, key_in, key_from}
use Rattle.item_keys.specs.Order.{value_order}
use Rattle.item_keys.specs.declared.fault.KeyFault.{KeyFault}
use Rattle.item_keys.specs.declared.key.Key.{Key}
use Rattle.item_keys.specs.declared.value.KeyValue.{KeyValue}
use Rattle.key_condition.specs.declared.fault.RangeFault.{RangeFault}
use Rattle.key_condition.specs.declared.key_range.Bound.{Bound}
use Rattle.key_condition.specs.declared.key_range.Bound.TheVariants as bound
use Rattle.key_condition.specs.declared.key_range.KeyRange.{KeyRange}
use Rattle.key_condition.specs.declared.condition.Bounds.{Bounds}
use Rattle.key_condition.specs.declared.asked.End.TheVariants.{Open, At, Past, BeforePrefixEnd}
use Rattle.key_condition.specs.declared.asked.Ends.{Ends}
use Rattle.key_condition.specs.declared.asked.Asked.{Asked}
use Rattle.key_condition.specs.Faults.{both, as_range_fault}
use Rattle.key_condition.specs.KeyRange.{has_front, is_from, is_up_to, lies_in}
use Rattle.key_condition.specs.Asked.{is_attribute, equality, between, compared_ends, ends_on, asking, joined, or_else, asked_by_two, asked}
use Rattle.key_condition.specs.Range.{key_value_of, front_kind, with_value, bound_of, bounds_from, bounds_of, range_from, in_order, sort_kind, range_asked, range_if, range_of}
use Rattle.key_condition.specs.Law.{HasKeysWhereTrue}
use Rattle.key_condition.proofs.Values.{tree_of_key, kind_of_key, typed_tree, typed_kind, one_key, keys_same, keys_order, keys_begin, front_at_least}

-- ---- tests

and_true : (b : Bool) → b ≡ (b && true)
and_true true = refl
and_true false = refl

and_turned : (a b : Bool) → (a && b) ≡ (b && a)
and_turned true true = refl
and_turned true false = refl
and_turned false true = refl
and_turned false false = refl

equal_both : (o : Ordering) → is_eq o ≡ (is_ge o && is_le o)
equal_both ordering.Less = refl
equal_both ordering.Equal = refl
equal_both ordering.Greater = refl

front_test : (o : Ordering) (front : Bool) → (front ≡ true → is_ge o ≡ true) → front ≡ (is_ge o && (is_lt o || front))
front_test ordering.Less true h = let no : false ≡ true = h refl in cc
front_test ordering.Less false h = refl
front_test ordering.Equal front h = refl
front_test ordering.Greater front h = refl

-- ---- what was had

if_there : {A : Type 0} (b : Bool) (o : Option A) (x : A) → (if b then o else None) ≡ Some x → (b ≡ true) × (o ≡ Some x)
if_there true o x e = (refl, e)
if_there false o x e = cc

then_there : {A : Type 0} (f : List ℕ → Option A) (o : Option (List ℕ)) (x : A) → option_and_then f o ≡ Some x → (name : List ℕ) × (o ≡ Some name) × (f name ≡ Some x)
then_there f None x e = cc
then_there f (Some name) x e = (name, refl, e)

or_there : {A : Type 0} (first second : Option A) (x : A) → or_else first second ≡ Some x → (first ≡ Some x) ⊎ (second ≡ Some x)
or_there (Some y) second x e = inl e
or_there None second x e = inr e

asking_there : (first : Bool) (p : Option ℕ) (e : Option Ends) (a : Asked) → asking first p e ≡ Some a → (p ≡ Some a.partition) × (e ≡ Some a.sort)
asking_there first (Some p) (Some e) a h =
    let same : record { partition = p; sort = e; sort_first = first } ≡ a = cc in
    (ap (λ x. Some x.partition) same, ap (λ x. Some x.sort) same)
asking_there first None e a h = cc
asking_there first (Some p) None a h = cc

key_parts : (a : Result KeyValue KeyFault) (b : Result (Option KeyValue) KeyFault) (key : Key) → item_key.both key_from a b ≡ Ok key → (a ≡ Ok key.partition) × (b ≡ Ok key.sort)
key_parts (Err f) b key e = cc
key_parts (Ok x) (Err f) key e = cc
key_parts (Ok x) (Ok y) key e = let same : key_from x y ≡ key = cc in (ap (λ k. Ok k.partition) same, ap (λ k. Ok k.sort) same)

key_in_parts : (schema : Schema) (keys : KeyNames) (item : Attributes) (key : Key) → key_in schema keys item ≡ Ok key → (part_in schema 2048 keys.partition item ≡ Ok key.partition) × (sort_in schema keys.sort item ≡ Ok key.sort)
unfolding key_in
key_in_parts schema keys item key e = key_parts (part_in schema 2048 keys.partition item) (sort_in schema keys.sort item) key e

sort_some : (r : Result KeyValue KeyFault) (s : Option KeyValue) → result_map_both Some (λ fault. fault) r ≡ Ok s → (x : KeyValue) × (r ≡ Ok x) × (Some x ≡ s)
sort_some (Ok x) s e = (x, refl, cc)
sort_some (Err f) s e = cc

bounds_had : (low high : Result Bound RangeFault) (b : Bounds) → both bounds_from low high ≡ Ok b → (low ≡ Ok b.low) × (high ≡ Ok b.high)
bounds_had (Ok l) (Ok h) b e = let same : bounds_from l h ≡ b = cc in (ap (λ x. Ok x.low) same, ap (λ x. Ok x.high) same)
bounds_had (Ok l) (Err f) b e = cc
bounds_had (Err f) (Ok h) b e = cc
bounds_had (Err f) (Err g) b e = cc

same_bounds : (a b c d : Bound) → both bounds_from (Ok a) (Ok b) ≡ Ok (bounds_from c d) → (a ≡ c) × (b ≡ d)
same_bounds a b c d e =
    let same : bounds_from a b ≡ bounds_from c d = cc in
    (ap (λ bounds. bounds.low) same, ap (λ bounds. bounds.high) same)

value_had : (make : KeyValue → Bound) (r : Result KeyValue RangeFault) (b : Bound) → with_value make r ≡ Ok b → (y : KeyValue) × (r ≡ Ok y) × (make y ≡ b)
value_had make (Ok y) b e = (y, refl, cc)
value_had make (Err f) b e = cc

range_had : (first : Bool) (p : Result KeyValue RangeFault) (bs : Result Bounds RangeFault) (r : KeyRange) → in_order first range_from p bs ≡ Ok r → (p ≡ Ok r.partition) × (bs ≡ Ok (bounds_from r.low r.high))
range_had false (Ok p) (Ok b) r e = let same : range_from p b ≡ r = cc in (ap (λ x. Ok x.partition) same, ap (λ x. Ok (bounds_from x.low x.high)) same)
range_had true (Ok p) (Ok b) r e = let same : range_from p b ≡ r = cc in (ap (λ x. Ok x.partition) same, ap (λ x. Ok (bounds_from x.low x.high)) same)
range_had false (Ok p) (Err f) r e = cc
range_had false (Err f) (Ok b) r e = cc
range_had false (Err f) (Err g) r e = cc
range_had true (Ok p) (Err f) r e = cc
range_had true (Err f) (Ok b) r e = cc
range_had true (Err f) (Err g) r e = cc

-- ---- values as key values

part_tree : (limit : ℕ) (kind : Option KeyKind) (o : Option attribute.Tree) (x : KeyValue) → part_of limit kind o ≡ Ok x → (o ≡ Some (tree_of_key x)) × (kind ≡ Some (kind_of_key x))
part_tree limit kind None x e = cc
part_tree limit kind (Some t) x e = (ap Some (typed_tree limit kind t x e), typed_kind limit kind t x e)

read_typed : (r : Result KeyValue KeyFault) (x : KeyValue) → result_map_both (λ k. k) as_range_fault r ≡ Ok x → r ≡ Ok x
read_typed (Ok y) x e = cc
read_typed (Err f) x e = cc

read_tree : (limit : ℕ) (kind : Option KeyKind) (o : Option attribute.Tree) (x : KeyValue) → key_value_of limit kind o ≡ Ok x → (o ≡ Some (tree_of_key x)) × (kind ≡ Some (kind_of_key x))
read_tree limit kind None x e = cc
read_tree limit kind (Some t) x e =
    let typed_is = read_typed (item_key.typed limit kind t) x e in
    (ap Some (typed_tree limit kind t x typed_is), typed_kind limit kind t x typed_is)

found_here : (o : Option attribute.Tree) → option_and_then (found_in []) o ≡ o
found_here None = refl
found_here (Some t) = refl

attribute_found : (name : List ℕ) (steps : List Step) (item : Attributes) → is_attribute name steps ≡ true → found steps item ≡ value_at name item
attribute_found name [] item e = cc
attribute_found name (Name n ∷ []) item e = found_here (value_at n item) ∙ ap (λ s. value_at s item) ((bytes_eq-Decides n name).0 e)
attribute_found name (Name n ∷ (step ∷ more)) item e = cc
attribute_found name (Index place ∷ more) item e = cc

-- ---- an equality, and a test of the sort key

module _ (values : List Given) (item : Attributes) (name : List ℕ) (limit : ℕ) (kind : Option KeyKind) (x : KeyValue) (has : part_of limit kind (value_at name item) ≡ Ok x) where
  here : (steps : List Step) → is_attribute name steps ≡ true → found steps item ≡ Some (tree_of_key x)
  here steps e = attribute_found name steps item e ∙ (part_tree limit kind (value_at name item) x has).0

  one_kind : (y : KeyValue) → kind ≡ Some (kind_of_key y) → kind_of_key x ≡ kind_of_key y
  one_kind y e = let mine : kind ≡ Some (kind_of_key x) = (part_tree limit kind (value_at name item) x has).1 in cc

  equal_here : (t given_one : Option attribute.Tree) (y : KeyValue) → t ≡ Some (tree_of_key x) → given_one ≡ Some (tree_of_key y) → kind ≡ Some (kind_of_key y) → is_equal t given_one ≡ is_eq (value_order x y)
  equal_here t given_one y e f k = (λ i. is_equal (e i) (f i)) ∙ keys_same x y (one_kind y k)

  order_here : (t given_one : Option attribute.Tree) (y : KeyValue) → t ≡ Some (tree_of_key x) → given_one ≡ Some (tree_of_key y) → kind ≡ Some (kind_of_key y) → order_of t given_one ≡ Some (value_order x y)
  order_here t given_one y e f k = (λ i. order_of (e i) (f i)) ∙ keys_order x y (one_kind y k)

  pub equality_true : (t : Tree) (place : ℕ) (most : ℕ) (p : KeyValue) → equality name t ≡ Some place → key_value_of most kind (given values place) ≡ Ok p → true_of values item t ≡ is_eq (value_order x p)
  equality_true (Compared Equal (Path path) (Value v)) place most p e r =
      let at = if_there (is_attribute name path.steps) (Some v) place e in
      let same : v ≡ place = let s = at.1 in cc in
      let had = read_tree most kind (given values v) p (subst (λ n. key_value_of most kind (given values n) ≡ Ok p) (sym same) r) in
      equal_here (found path.steps item) (given values v) p (here path.steps at.0) had.0 had.1
  equality_true _ place most p e r = cc

  in_bounds : (low high : Bound) (b : Bounds) (c : Bool) → low ≡ b.low → high ≡ b.high → c ≡ (is_from low (Some x) && is_up_to high (Some x)) → c ≡ (is_from b.low (Some x) && is_up_to b.high (Some x))
  in_bounds low high b c l h e = e ∙ (λ i. is_from (l i) (Some x) && is_up_to (h i) (Some x))

  open_end : (b : Bound) → Ok bound.Open ≡ (let r : Result Bound RangeFault = Ok b in r) → bound.Open ≡ b
  open_end b e = cc

  compared_true : (op : Comparison) (t : Option attribute.Tree) (v : ℕ) (ends : Ends) (b : Bounds) → t ≡ Some (tree_of_key x) → compared_ends op v ≡ Some ends → bounds_of kind values ends ≡ Ok b → compared op t (given values v) ≡ (is_from b.low (Some x) && is_up_to b.high (Some x))
  compared_true Equal t v ends b e c r =
      let same : between (At v) (At v) ≡ ends = cc in
      let had = bounds_had (bound_of kind values (At v)) (bound_of kind values (At v)) b (subst (λ n. bounds_of kind values n ≡ Ok b) (sym same) r) in
      let low = value_had bound.At (key_value_of 1024 kind (given values v)) b.low had.0 in
      let y = low.0 in
      let is = read_tree 1024 kind (given values v) y low.1 in
      let high : bound.At y ≡ b.high = let l = low.1 in let h = had.1 in let g : with_value bound.At (Ok y) ≡ Ok b.high = ap (with_value bound.At) (sym l) ∙ h in cc in
      in_bounds (bound.At y) (bound.At y) b _ low.2 high (equal_here t (given values v) y e is.0 is.1 ∙ equal_both (value_order x y))
  compared_true Unequal t v ends b e c r = cc
  compared_true Less t v ends b e c r =
      let same : between Open (Past v) ≡ ends = cc in
      let had = bounds_had (bound_of kind values Open) (bound_of kind values (Past v)) b (subst (λ n. bounds_of kind values n ≡ Ok b) (sym same) r) in
      let high = value_had bound.Past (key_value_of 1024 kind (given values v)) b.high had.1 in
      let is = read_tree 1024 kind (given values v) high.0 high.1 in
      in_bounds bound.Open (bound.Past high.0) b _ (open_end b.low had.0) high.2 (ap (passes Less) (order_here t (given values v) high.0 e is.0 is.1))
  compared_true AtMost t v ends b e c r =
      let same : between Open (At v) ≡ ends = cc in
      let had = bounds_had (bound_of kind values Open) (bound_of kind values (At v)) b (subst (λ n. bounds_of kind values n ≡ Ok b) (sym same) r) in
      let high = value_had bound.At (key_value_of 1024 kind (given values v)) b.high had.1 in
      let is = read_tree 1024 kind (given values v) high.0 high.1 in
      in_bounds bound.Open (bound.At high.0) b _ (open_end b.low had.0) high.2 (ap (passes AtMost) (order_here t (given values v) high.0 e is.0 is.1))
  compared_true More t v ends b e c r =
      let same : between (Past v) Open ≡ ends = cc in
      let had = bounds_had (bound_of kind values (Past v)) (bound_of kind values Open) b (subst (λ n. bounds_of kind values n ≡ Ok b) (sym same) r) in
      let low = value_had bound.Past (key_value_of 1024 kind (given values v)) b.low had.0 in
      let is = read_tree 1024 kind (given values v) low.0 low.1 in
      in_bounds (bound.Past low.0) bound.Open b _ low.2 (open_end b.high had.1) (ap (passes More) (order_here t (given values v) low.0 e is.0 is.1) ∙ and_true (is_gt (value_order x low.0)))
  compared_true AtLeast t v ends b e c r =
      let same : between (At v) Open ≡ ends = cc in
      let had = bounds_had (bound_of kind values (At v)) (bound_of kind values Open) b (subst (λ n. bounds_of kind values n ≡ Ok b) (sym same) r) in
      let low = value_had bound.At (key_value_of 1024 kind (given values v)) b.low had.0 in
      let is = read_tree 1024 kind (given values v) low.0 low.1 in
      in_bounds (bound.At low.0) bound.Open b _ low.2 (open_end b.high had.1) (ap (passes AtLeast) (order_here t (given values v) low.0 e is.0 is.1) ∙ and_true (is_ge (value_order x low.0)))

  between_true : (t : Option attribute.Tree) (l h : ℕ) (ends : Ends) (b : Bounds) → t ≡ Some (tree_of_key x) → between (At l) (At h) ≡ ends → bounds_of kind values ends ≡ Ok b → is_between t (given values l) (given values h) ≡ (is_from b.low (Some x) && is_up_to b.high (Some x))
  between_true t l h ends b e same r =
      let had = bounds_had (bound_of kind values (At l)) (bound_of kind values (At h)) b (subst (λ n. bounds_of kind values n ≡ Ok b) (sym same) r) in
      let low = value_had bound.At (key_value_of 1024 kind (given values l)) b.low had.0 in
      let high = value_had bound.At (key_value_of 1024 kind (given values h)) b.high had.1 in
      let is = read_tree 1024 kind (given values l) low.0 low.1 in
      let ih = read_tree 1024 kind (given values h) high.0 high.1 in
      let first = ap (passes AtLeast) (order_here t (given values l) low.0 e is.0 is.1) in
      let second = ap (passes AtMost) (order_here t (given values h) high.0 e ih.0 ih.1) in
      in_bounds (bound.At low.0) (bound.At high.0) b _ low.2 high.2 (λ i. first i && second i)

  front_true : (t : Option attribute.Tree) (v : ℕ) (ends : Ends) (b : Bounds) → t ≡ Some (tree_of_key x) → between (At v) (BeforePrefixEnd v) ≡ ends → bounds_of kind values ends ≡ Ok b → begins t (given values v) ≡ (is_from b.low (Some x) && is_up_to b.high (Some x))
  front_true t v ends b e same r =
      let had = bounds_had (bound_of kind values (At v)) (bound_of kind values (BeforePrefixEnd v)) b (subst (λ n. bounds_of kind values n ≡ Ok b) (sym same) r) in
      let low = value_had bound.At (key_value_of 1024 kind (given values v)) b.low had.0 in
      let high = value_had bound.BeforePrefixEnd (key_value_of 1024 (front_kind kind) (given values v)) b.high had.1 in
      let is = read_tree 1024 kind (given values v) low.0 low.1 in
      let ih = read_tree 1024 (front_kind kind) (given values v) high.0 high.1 in
      let trees : tree_of_key high.0 ≡ tree_of_key low.0 = let p = is.0 in let q = ih.0 in cc in
      let y : high.0 ≡ low.0 = one_key high.0 low.0 trees in
      let up : bound.BeforePrefixEnd low.0 ≡ b.high = ap bound.BeforePrefixEnd (sym y) ∙ high.2 in
      let f : begins t (given values v) ≡ has_front x low.0 = let fs = is.0 in (λ i. begins (e i) (fs i)) ∙ keys_begin x low.0 in
      in_bounds (bound.At low.0) (bound.BeforePrefixEnd low.0) b _ low.2 up
      (f ∙ front_test (value_order x low.0) (has_front x low.0) (front_at_least x low.0))

  pub ends_true : (t : Tree) (ends : Ends) (b : Bounds) → ends_on name t ≡ Some ends → bounds_of kind values ends ≡ Ok b → true_of values item t ≡ (is_from b.low (Some x) && is_up_to b.high (Some x))
  ends_true (Compared op (Path path) (Value v)) ends b e r =
      let at = if_there (is_attribute name path.steps) (compared_ends op v) ends e in
      compared_true op (found path.steps item) v ends b (here path.steps at.0) at.1 r
  ends_true (Range (Path path) (Value l) (Value h)) ends b e r =
      let at = if_there (is_attribute name path.steps) (Some (between (At l) (At h))) ends e in
      let same : between (At l) (At h) ≡ ends = let s = at.1 in cc in
      between_true (found path.steps item) l h ends b (here path.steps at.0) same r
  ends_true (FrontTest (Path path) (Value v)) ends b e r =
      let at = if_there (is_attribute name path.steps) (Some (between (At v) (BeforePrefixEnd v))) ends e in
      let same : between (At v) (BeforePrefixEnd v) ≡ ends = let s = at.1 in cc in
      front_true (found path.steps item) v ends b (here path.steps at.0) same r
  ends_true _ ends b e r = cc

-- ---- whole conditions

module _ (schema : Schema) (keys : KeyNames) (values : List Given) (range : KeyRange) (item : Attributes) (key : Key) (has : key_in schema keys item ≡ Ok key) where
  kind : Option KeyKind
  kind = kind_of keys.partition schema.definitions

  sort_true : (sort : Option (List ℕ)) (t : Tree) (ends : Ends) (b : Bounds) → sort_in schema sort item ≡ Ok key.sort → option_and_then (λ name. ends_on name t) sort ≡ Some ends → bounds_of (option_and_then (λ name. kind_of name schema.definitions) sort) values ends ≡ Ok b → true_of values item t ≡ (is_from b.low key.sort && is_up_to b.high key.sort)
  sort_true None t ends b s e r = cc
  sort_true (Some name) t ends b s e r =
      let value = sort_some (part_in schema 1024 name item) key.sort s in
      let truth = ends_true values item name 1024 (kind_of name schema.definitions) value.0 value.1 t ends b e r in
      truth ∙ ap (λ x. is_from b.low x && is_up_to b.high x) value.2

  partition_true : (t : Tree) (place : ℕ) → equality keys.partition t ≡ Some place → key_value_of 2048 (kind_of keys.partition schema.definitions) (given values place) ≡ Ok range.partition → true_of values item t ≡ is_eq (value_order key.partition range.partition)
  partition_true t place e r =
      equality_true values item keys.partition 2048 (kind_of keys.partition schema.definitions) key.partition (key_in_parts schema keys item key has).0 t place 2048 range.partition e r

  joined_true : (first : Bool) (p s : Tree) (a : Asked) → joined keys first p s ≡ Some a → range_asked schema keys values a ≡ Ok range → lies_in range key ≡ (true_of values item p && true_of values item s)
  unfolding range_asked
  joined_true first p s a e r =
      let asks = asking_there first (equality keys.partition p) (option_and_then (λ name. ends_on name s) keys.sort) a e in
      let had = range_had a.sort_first (key_value_of 2048 (kind_of keys.partition schema.definitions) (given values a.partition)) (bounds_of (sort_kind schema keys) values a.sort) range r in
      let one = partition_true p a.partition asks.0 had.0 in
      let two = sort_true keys.sort s a.sort (bounds_from range.low range.high) (key_in_parts schema keys item key has).1 asks.1 had.1 in
      λ i. sym one i && sym two i

  alone_true : (t : Tree) (a : Asked) → asking false (equality keys.partition t) (Some (between Open Open)) ≡ Some a → range_asked schema keys values a ≡ Ok range → lies_in range key ≡ true_of values item t
  unfolding range_asked
  alone_true t a e r =
      let asks = asking_there false (equality keys.partition t) (Some (between Open Open)) a e in
      let had = range_had a.sort_first (key_value_of 2048 (kind_of keys.partition schema.definitions) (given values a.partition)) (bounds_of (sort_kind schema keys) values a.sort) range r in
      let one = partition_true t a.partition asks.0 had.0 in
      let ends : between Open Open ≡ a.sort = let s = asks.1 in cc in
      let all : bounds_of (sort_kind schema keys) values (between Open Open) ≡ Ok (bounds_from range.low range.high) = ap (bounds_of (sort_kind schema keys) values) ends ∙ had.1 in
      let bounds = same_bounds bound.Open bound.Open range.low range.high all in
      let low : bound.Open ≡ range.low = bounds.0 in
      let high : bound.Open ≡ range.high = bounds.1 in
      (λ i. is_eq (value_order key.partition range.partition) && (is_from (sym low i) key.sort && is_up_to (sym high i) key.sort))
      ∙ sym (and_true (is_eq (value_order key.partition range.partition))) ∙ sym one

  two_true : (t : Tree) (a : Asked) → asked_by_two keys t ≡ Some a → range_asked schema keys values a ≡ Ok range → lies_in range key ≡ true_of values item t
  two_true (Conjunction l r) a e made =
      ⊎_elim
      (λ f. joined_true false l r a f made)
      (λ f. joined_true true r l a f made ∙ and_turned (true_of values item r) (true_of values item l))
      (or_there (joined keys false l r) (joined keys true r l) a e)
  two_true _ a e made = cc

  asked_true : (t : Tree) (a : Asked) → asked keys t ≡ Some a → range_asked schema keys values a ≡ Ok range → lies_in range key ≡ true_of values item t
  unfolding asked
  asked_true t a e made =
      ⊎_elim (λ f. alone_true t a f made) (λ f. two_true t a f made)
      (or_there (asking false (equality keys.partition t) (Some (between Open Open))) (asked_by_two keys t) a e)

  if_true : (t : Tree) (o : Option Asked) → asked keys t ≡ o → range_if schema keys values t o ≡ Ok range → lies_in range key ≡ true_of values item t
  if_true t None e made = cc
  if_true t (Some a) e made = asked_true t a e made

pub has_keys_where_true : (schema : Schema) (keys : KeyNames) (values : List Given) (t : Tree) (range : KeyRange) → range_of schema keys values t ≡ Ok range → HasKeysWhereTrue schema keys values t range
unfolding range_of
has_keys_where_true schema keys values t range made item key has = if_true schema keys values range item key has t (asked keys t) refl made
