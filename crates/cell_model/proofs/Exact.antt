-- Keys that pass the test are equal; so are actions.
use Rattle.std.specs.Prelude.{bytes_eq, ◌==◌}
use Rattle.std.specs.Bool.{beq}
use Rattle.std.specs.Option.{option_eq}
use Rattle.std.specs.Cmp.{Equal-is, eq_by_cmp_equiv, decided, booleans_Decides, IsEquivalence}
use Rattle.std.specs.Cmp.Lexicographic.{pointwise}
use Rattle.std.specs.Ordering.{nat_cmp, ordering_then}
use Rattle.std.specs.declared.cmp.Ordering.{Ordering}
use Rattle.std.specs.declared.cmp.Ordering.TheVariants as order
use Rattle.std.proofs.Common.{◌≡◌, Bool, true, ◌&&◌, List, Option, Some, None, Decides, refl, ap, subst}
use Rattle.std.proofs.lemmas.Bool.{and_parts, and_from}
use Rattle.std.proofs.lemmas.Bool.Decides.{Decides-eqb}
use Rattle.std.proofs.lemmas.Slice.Eq.{slice_eq-Decides, bytes_eq-Decides}
use Rattle.std.proofs.lemmas.Map.Lookups.{CmpEqualImpliesEq, exact_unsigned}
use Rattle.attr_value.specs.Equality.{same_attributes}
use Rattle.attr_value.specs.EqualityLaws.{items_Decides, values_Decides}
use Rattle.expr_words.specs.declared.tree.PathValue.{PathValue}
use Rattle.expr_words.specs.Equality.{same_path, same_term, same as same_condition}
use Rattle.expr_words.specs.EqualityLaws.{path_decides, tree_decides, term_decides}
use Rattle.expr_words.specs.Trees.{SumTree, Alone, Plus, Minus, SetTree}
use Rattle.expr_parse.specs.UpdateTree.{UpdateTree}
use Rattle.row_keys.specs.Keys.{row_order, position_order}
use Rattle.table_rows.proofs.Exact.{row_exact, position_exact}
use Rattle.cell_model.specs.declared.key.CellKey.{CellKey}
use Rattle.cell_model.specs.declared.key.CellKey.TheVariants.{Item, Row}
use Rattle.cell_model.specs.Keys.{item_order, index_row_order, key_order, same_key}
use Rattle.cell_model.specs.KeyLaws.{key_total}
use Rattle.cell_model.specs.Actions.{ItemChange, Put, Update, Delete, Check, ItemAction}
use Rattle.cell_model.specs.SameActions.{same_sum, same_set, same_pair, same_update, same_change, same_values, same_action}

-- ---- keys

first_ties : (o p : Ordering) → ordering_then o p ≡ order.Equal → o ≡ order.Equal
first_ties order.Less p e = absurd (cc)
first_ties order.Equal p e = refl
first_ties order.Greater p e = absurd (cc)

rest_ties : (o p : Ordering) → ordering_then o p ≡ order.Equal → p ≡ order.Equal
rest_ties order.Less p e = absurd (cc)
rest_ties order.Equal p e = e
rest_ties order.Greater p e = absurd (cc)

items_exact : CmpEqualImpliesEq item_order
items_exact a b e =
    let table = exact_unsigned a.table b.table (first_ties (nat_cmp a.table b.table) (row_order a.key b.key) e) in
    let key = row_exact a.key b.key (rest_ties (nat_cmp a.table b.table) (row_order a.key b.key) e) in
    λ i. record { table = table i; key = key i }

rows_exact : CmpEqualImpliesEq index_row_order
rows_exact a b e =
    let rest = ordering_then (nat_cmp a.index b.index) (position_order a.at b.at) in
    let table = exact_unsigned a.table b.table (first_ties (nat_cmp a.table b.table) rest e) in
    let more = rest_ties (nat_cmp a.table b.table) rest e in
    let index = exact_unsigned a.index b.index (first_ties (nat_cmp a.index b.index) (position_order a.at b.at) more) in
    let at = position_exact a.at b.at (rest_ties (nat_cmp a.index b.index) (position_order a.at b.at) more) in
    λ i. record { table = table i; index = index i; at = at i }

pub key_exact : CmpEqualImpliesEq key_order
unfolding key_order
key_exact (Item a) (Item b) e = ap Item (items_exact a b e)
key_exact (Row a) (Row b) e = ap Row (rows_exact a b e)
key_exact (Item a) (Row b) e = absurd (cc)
key_exact (Row a) (Item b) e = absurd (cc)

pub same_is : (x y : CellKey) → same_key x y ≡ true → x ≡ y
same_is x y h = key_exact x y ((Equal-is (key_order x y)).0 h)

pub same_itself : (x : CellKey) → same_key x x ≡ true
same_itself x = (eq_by_cmp_equiv key_total).refl x

-- ---- actions

-- a test that is true of equal values, and of no others, decides whether they are equal
decides : {X : Type 0} (test : X → X → Bool) → ((x y : X) → test x y ≡ true → x ≡ y) → ((x : X) → test x x ≡ true) → (x y : X) → Decides (test x y) (x ≡ y)
decides test equal itself x y = (equal x y, λ e. subst (λ z. test x z ≡ true) e (itself x))

-- so it does of lists, and of what may be absent
listed : {X : Type 0} {test : X → X → Bool} → ((x y : X) → Decides (test x y) (x ≡ y)) → (xs ys : List X) → Decides (pointwise test xs ys) (xs ≡ ys)
listed {test = test} d xs ys = slice_eq-Decides d xs ys (pointwise test xs ys) refl

optional : {X : Type 0} {test : X → X → Bool} → ((x y : X) → Decides (test x y) (x ≡ y)) → (x y : Option X) → Decides (option_eq test x y) (x ≡ y)
optional {X} {test} d = decides (option_eq test) equal itself where
  equal : (x y : Option X) → option_eq test x y ≡ true → x ≡ y
  equal None None e = refl
  equal None (Some y) e = absurd (cc)
  equal (Some x) None e = absurd (cc)
  equal (Some x) (Some y) e = ap Some ((d x y).0 e)

  itself : (x : Option X) → option_eq test x x ≡ true
  itself None = refl
  itself (Some x) = (d x x).1 refl

sum_decides : (s t : SumTree) → Decides (same_sum s t) (s ≡ t)
sum_decides = decides same_sum equal itself where
  equal : (s t : SumTree) → same_sum s t ≡ true → s ≡ t
  equal (Alone t) (Alone u) e = ap Alone ((term_decides t u).0 e)
  equal (Plus s t) (Plus u v) e =
      let p = and_parts (same_term s u) (same_term t v) e in
      let left = (term_decides s u).0 p.0 in
      let right = (term_decides t v).0 p.1 in
      λ i. Plus (left i) (right i)
  equal (Minus s t) (Minus u v) e =
      let p = and_parts (same_term s u) (same_term t v) e in
      let left = (term_decides s u).0 p.0 in
      let right = (term_decides t v).0 p.1 in
      λ i. Minus (left i) (right i)
  equal s t e = absurd (cc)

  itself : (s : SumTree) → same_sum s s ≡ true
  itself (Alone t) = (term_decides t t).1 refl
  itself (Plus s t) = and_from (same_term s s) (same_term t t) ((term_decides s s).1 refl) ((term_decides t t).1 refl)
  itself (Minus s t) = and_from (same_term s s) (same_term t t) ((term_decides s s).1 refl) ((term_decides t t).1 refl)

set_decides : (s t : SetTree) → Decides (same_set s t) (s ≡ t)
set_decides = decides same_set equal itself where
  equal : (s t : SetTree) → same_set s t ≡ true → s ≡ t
  equal s t e =
      let p = and_parts (same_path s.path t.path) (same_sum s.sum t.sum) e in
      let path = (path_decides s.path t.path).0 p.0 in
      let sum = (sum_decides s.sum t.sum).0 p.1 in
      λ i. record { path = path i; sum = sum i }

  itself : (s : SetTree) → same_set s s ≡ true
  itself s = and_from (same_path s.path s.path) (same_sum s.sum s.sum) ((path_decides s.path s.path).1 refl) ((sum_decides s.sum s.sum).1 refl)

pair_decides : (p q : PathValue) → Decides (same_pair p q) (p ≡ q)
pair_decides = decides same_pair equal itself where
  equal : (s t : PathValue) → same_pair s t ≡ true → s ≡ t
  equal s t e =
      let p = and_parts (same_path s.path t.path) (s.value == t.value) e in
      let path = (path_decides s.path t.path).0 p.0 in
      let value = (Decides-eqb s.value t.value).0 p.1 in
      λ i. record { path = path i; value = value i }

  itself : (s : PathValue) → same_pair s s ≡ true
  itself s = and_from (same_path s.path s.path) (s.value == s.value) ((path_decides s.path s.path).1 refl) ((Decides-eqb s.value s.value).1 refl)

update_decides : (u w : UpdateTree) → Decides (same_update u w) (u ≡ w)
update_decides = decides same_update equal itself where
  equal : (u w : UpdateTree) → same_update u w ≡ true → u ≡ w
  equal u w e =
      let p = and_parts (pointwise same_set u.sets w.sets && pointwise same_path u.removes w.removes) _ e in
      let q = and_parts (pointwise same_set u.sets w.sets) (pointwise same_path u.removes w.removes) p.0 in
      let r = and_parts (pointwise same_pair u.adds w.adds) (pointwise same_pair u.deletes w.deletes) p.1 in
      let sets = (listed set_decides u.sets w.sets).0 q.0 in
      let removes = (listed path_decides u.removes w.removes).0 q.1 in
      let adds = (listed pair_decides u.adds w.adds).0 r.0 in
      let deletes = (listed pair_decides u.deletes w.deletes).0 r.1 in
      λ i. record { sets = sets i; removes = removes i; adds = adds i; deletes = deletes i }

  itself : (u : UpdateTree) → same_update u u ≡ true
  itself u =
      and_from _ _
      (and_from _ _ ((listed set_decides u.sets u.sets).1 refl) ((listed path_decides u.removes u.removes).1 refl))
      (and_from _ _ ((listed pair_decides u.adds u.adds).1 refl) ((listed pair_decides u.deletes u.deletes).1 refl))

change_decides : (x y : ItemChange) → Decides (same_change x y) (x ≡ y)
change_decides = decides same_change equal itself where
  equal : (x y : ItemChange) → same_change x y ≡ true → x ≡ y
  equal (Put a) (Put b) e = ap Put ((items_Decides a b).0 e)
  equal (Update a u) (Update b w) e =
      let p = and_parts (same_attributes a b) (option_eq same_update u w) e in
      let key = (items_Decides a b).0 p.0 in
      let update = (optional update_decides u w).0 p.1 in
      λ i. Update (key i) (update i)
  equal (Delete a) (Delete b) e = ap Delete ((items_Decides a b).0 e)
  equal (Check a) (Check b) e = ap Check ((items_Decides a b).0 e)
  equal x y e = absurd (cc)

  itself : (x : ItemChange) → same_change x x ≡ true
  itself (Put a) = (items_Decides a a).1 refl
  itself (Update a u) = and_from (same_attributes a a) (option_eq same_update u u) ((items_Decides a a).1 refl) ((optional update_decides u u).1 refl)
  itself (Delete a) = (items_Decides a a).1 refl
  itself (Check a) = (items_Decides a a).1 refl

-- actions that are the same are equal
pub same_action_decides : (a b : ItemAction) → Decides (same_action a b) (a ≡ b)
same_action_decides = decides same_action equal itself where
  equal : (a b : ItemAction) → same_action a b ≡ true → a ≡ b
  equal a b e =
      let p = and_parts (same_key a.key b.key && bytes_eq a.table b.table) _ e in
      let q = and_parts (same_key a.key b.key) (bytes_eq a.table b.table) p.0 in
      let r = and_parts (same_change a.change b.change && option_eq same_condition a.condition b.condition) _ p.1 in
      let s = and_parts (same_change a.change b.change) (option_eq same_condition a.condition b.condition) r.0 in
      let t = and_parts (same_values a.values b.values) (beq a.show_old b.show_old) r.1 in
      let key = same_is a.key b.key q.0 in
      let table = (bytes_eq-Decides a.table b.table).0 q.1 in
      let change = (change_decides a.change b.change).0 s.0 in
      let condition = (optional tree_decides a.condition b.condition).0 s.1 in
      let values = (listed values_Decides a.values b.values).0 t.0 in
      let shown = (booleans_Decides a.show_old b.show_old).0 t.1 in
      λ i. record { key = key i; table = table i; change = change i; condition = condition i; values = values i; show_old = shown i }

  itself : (a : ItemAction) → same_action a a ≡ true
  itself a =
      and_from _ _
      (and_from _ _ (same_itself a.key) ((bytes_eq-Decides a.table a.table).1 refl))
      (and_from _ _
      (and_from _ _ ((change_decides a.change a.change).1 refl) ((optional tree_decides a.condition a.condition).1 refl))
      (and_from _ _ ((listed values_Decides a.values a.values).1 refl) ((booleans_Decides a.show_old a.show_old).1 refl)))

-- lists of actions are the same where they are equal
pub same_actions_decide : (xs ys : List ItemAction) → Decides (pointwise same_action xs ys) (xs ≡ ys)
same_actions_decide = listed same_action_decides

pub same_actions_equiv : IsEquivalence (pointwise same_action)
same_actions_equiv = decided (pointwise same_action) same_actions_decide
