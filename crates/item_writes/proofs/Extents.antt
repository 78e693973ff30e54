-- Bytes and levels of what is made are those of its parts.
use Rattle.std.proofs.Common.{◌≡◌, ℕ, suc, ◌+◌, max, length, List, [], ◌∷◌, nat_lt, nat_cmp, Option, Some, None, option_and_then, Bool, true, false, ◌==◌, cond, ◌&&◌, bytes_eq, Ordering, Less, Equal, Greater, is_eq, sum_by, refl, sym, ap, ◌∙◌, subst, arith}
use Rattle.std.proofs.Math.Logic.{inl, inr}
use Rattle.std.proofs.lemmas.Bool.Decides.{Decides-eqb}
use Rattle.std.proofs.lemmas.List.Sums.{sum_by-cons}
use Rattle.std.proofs.lemmas.Map.Text.{is_eq-slice_cmp}
use Rattle.std.proofs.lemmas.Slice.Eq.{bytes_eq-Decides}
use Rattle.std.specs.Cmp.Lexicographic.{slice_cmp}
use Rattle.std.specs.List.{AllByRecursion}
use Rattle.std.specs.Ordering.{match_ordering}
use Rattle.base_types.specs.declared.path.Step.{Step}
use Rattle.base_types.specs.declared.path.Step.TheVariants.{Name, Index}
use Rattle.attr_value.specs.Parts.{onto}
use Rattle.attr_value.specs.Paths.{put, kept_attribute, kept_element, value_at}
use Rattle.attr_value.specs.Sizes.{size, depth, list_size, elements_depth, attribute_count, item_size, item_depth}
use Rattle.attr_value.specs.Tree.{Tree, text, number, binary, boolean, null, list, map, text_set, number_set, binary_set}
use Rattle.attr_value.specs.Tree.{Trees, no_trees, tree, Attributes, no_attributes, attribute, AreInOrder as AreNamesInOrder}
use Rattle.attr_value.specs.View.{tree_of, trees_of}
use Rattle.attr_value.specs.declared.value.Value.{Value}
use Rattle.path_entries.specs.Entries.{below, behind, is_name, is_place, or_rest}
use Rattle.item_writes.specs.Apart.{same_step, overlap, AreApart, paths_of}
use Rattle.item_writes.specs.NewTree.{Written}
use Rattle.item_writes.specs.Edits.{append_one, element, elements_from, inside, item_with_all, kept, kept_attributes, put_one, put_all}
use Rattle.item_writes.specs.Extents.{attributes_bytes, puts_bytes, puts_levels, written_here}
use Rattle.item_writes.proofs.ByName.{put_found, kept_found}
use Rattle.item_writes.proofs.Sets.{In, all_in}

-- ---- values without writes inside them

elements_none : (ts : Trees) (place : ℕ) → elements_from ts place [] ≡ ts
elements_none no_trees place = refl
elements_none (tree t rest) place = ap (tree t) (elements_none rest (suc place))

attributes_none : (item : Attributes) → kept_attributes item [] ≡ item
attributes_none no_attributes = refl
attributes_none (attribute name t rest) = ap (attribute name t) (attributes_none rest)

pub inside_none : (t : Tree) → inside t [] ≡ t
inside_none (list ts) = ap list (elements_none ts 0)
inside_none (map item) = ap map (attributes_none item)
inside_none (text s) = refl
inside_none (number z) = refl
inside_none (binary s) = refl
inside_none (boolean b) = refl
inside_none null = refl
inside_none (text_set s) = refl
inside_none (number_set s) = refl
inside_none (binary_set s) = refl

-- what stays of an attribute, and what stands where an element stood, by whether a write ends here
pub kept_gone : (t : Tree) (ws : List Written) (value : Option Tree) → written_here ws ≡ Some value → kept t ws ≡ None
kept_gone t [] value e = cc
kept_gone t (([], v) ∷ ws) value e = refl
kept_gone t ((s ∷ p, v) ∷ ws) value e = cc

pub kept_inside : (t : Tree) (ws : List Written) → written_here ws ≡ None → kept t ws ≡ Some (inside t ws)
kept_inside t [] e = ap Some (sym (inside_none t))
kept_inside t (([], v) ∷ ws) e = cc
kept_inside t ((s ∷ p, v) ∷ ws) e = refl

pub element_new : (t : Tree) (ws : List Written) (value : Option Tree) → written_here ws ≡ Some value → element t ws ≡ value
element_new t [] value e = cc
element_new t (([], v) ∷ ws) value e = cc
element_new t ((s ∷ p, v) ∷ ws) value e = cc

pub element_inside : (t : Tree) (ws : List Written) → written_here ws ≡ None → element t ws ≡ Some (inside t ws)
element_inside t [] e = ap Some (sym (inside_none t))
element_inside t (([], v) ∷ ws) e = cc
element_inside t ((s ∷ p, v) ∷ ws) e = refl

-- a list without items
pub no_items : {X : Type 0} (xs : List X) → (length xs == 0) ≡ true → xs ≡ []
no_items [] e = refl
no_items (x ∷ xs) e = let none : length (x ∷ xs) ≡ 0 = (Decides-eqb (length (x ∷ xs)) 0).0 e in absurd (omega (arith, none))

-- ---- bytes of an item and of a map

pub item_bytes : (item : Attributes) → attributes_bytes 0 item ≡ item_size item
item_bytes no_attributes = refl
item_bytes (attribute name t rest) = omega (arith, item_bytes rest)

pub map_bytes : (item : Attributes) → attributes_bytes 1 item ≡ attribute_count item + item_size item
map_bytes no_attributes = refl
map_bytes (attribute name t rest) = omega (arith, map_bytes rest)

-- ---- one part and the rest

pub attribute_rest : (each : ℕ) (name : List ℕ) (o : Option Tree) (rest : Attributes)
    → attributes_bytes each (kept_attribute name o rest) ≡ attributes_bytes each (kept_attribute name o no_attributes) + attributes_bytes each rest
attribute_rest each name None rest = omega arith
attribute_rest each name (Some t) rest = omega arith

pub attribute_levels : (name : List ℕ) (o : Option Tree) (rest : Attributes) → item_depth (kept_attribute name o rest) ≡ max (item_depth (kept_attribute name o no_attributes)) (item_depth rest)
attribute_levels name None rest = omega arith
attribute_levels name (Some t) rest = omega arith

pub element_rest : (o : Option Tree) (rest : Trees) → list_size (kept_element o rest) ≡ list_size (kept_element o no_trees) + list_size rest
element_rest None rest = omega arith
element_rest (Some t) rest = omega arith

pub element_levels : (o : Option Tree) (rest : Trees) → elements_depth (kept_element o rest) ≡ max (elements_depth (kept_element o no_trees)) (elements_depth rest)
element_levels None rest = omega arith
element_levels (Some t) rest = omega arith

past_rest : (b : Bool) (t : Tree) (rest : Trees) → list_size (cond b rest (tree t rest)) ≡ list_size (cond b no_trees (tree t no_trees)) + list_size rest
past_rest true t rest = omega arith
past_rest false t rest = omega arith

pub append_rest : (end : ℕ) (steps : List Step) (o : Option Tree) (rest : Trees) → list_size (append_one end steps o rest) ≡ list_size (append_one end steps o no_trees) + list_size rest
append_rest end [] o rest = omega arith
append_rest end (Name name ∷ steps) o rest = omega arith
append_rest end (Index place ∷ []) None rest = omega arith
append_rest end (Index place ∷ []) (Some t) rest = past_rest (nat_lt place end) t rest
append_rest end (Index place ∷ next ∷ steps) o rest = omega arith

past_levels : (b : Bool) (t : Tree) (rest : Trees) → elements_depth (cond b rest (tree t rest)) ≡ max (elements_depth (cond b no_trees (tree t no_trees))) (elements_depth rest)
past_levels true t rest = omega arith
past_levels false t rest = omega arith

pub append_levels : (end : ℕ) (steps : List Step) (o : Option Tree) (rest : Trees) → elements_depth (append_one end steps o rest) ≡ max (elements_depth (append_one end steps o no_trees)) (elements_depth rest)
append_levels end [] o rest = omega arith
append_levels end (Name name ∷ steps) o rest = omega arith
append_levels end (Index place ∷ []) None rest = omega arith
append_levels end (Index place ∷ []) (Some t) rest = past_levels (nat_lt place end) t rest
append_levels end (Index place ∷ next ∷ steps) o rest = omega arith

pub onto_size : (ts us : Trees) → list_size (onto ts us) ≡ list_size ts + list_size us
onto_size no_trees us = omega arith
onto_size (tree t ts) us = omega (arith, onto_size ts us)

-- the bytes of a list, element by element
pub elements_sum : (vs : List Value) → sum_by (λ v. 1 + size (tree_of v)) vs ≡ list_size (trees_of vs)
elements_sum [] = refl
elements_sum (v ∷ vs) = omega (arith, sum_by-cons (λ u. 1 + size (tree_of u)) v vs, elements_sum vs)

pub onto_levels : (ts us : Trees) → elements_depth (onto ts us) ≡ max (elements_depth ts) (elements_depth us)
onto_levels no_trees us = omega arith
onto_levels (tree t ts) us = omega (arith, onto_levels ts us)

-- ---- writes below a step

all_below : (test : Step → Bool) → ((s t : Step) → test s ≡ true → test t ≡ true → same_step s t ≡ true) → (s : Step) (p : List Step) → test s ≡ true
    → (ws : List Written) → AllByRecursion (λ q. overlap (s ∷ p) q ≡ false) (paths_of ws) → AllByRecursion (λ q. overlap p q ≡ false) (paths_of (below test ws))
all_below test same s p first [] all = tt
all_below test same s p first (([], v) ∷ ws) all = all_below test same s p first ws all.1
all_below test same s p first ((t ∷ q, v) ∷ ws) all = one (test t) refl (all_below test same s p first ws all.1)
  where
    one : (b : Bool) → test t ≡ b → AllByRecursion (λ r. overlap p r ≡ false) (paths_of (below test ws))
        → AllByRecursion (λ r. overlap p r ≡ false) (paths_of (or_rest (cond b (Some (q, v)) None) (below test ws)))
    one true e later = (subst (λ b. (b && overlap p q) ≡ false) (same s t first e) all.0, later)
    one false e later = later

-- writes below a step are apart where all are
apart_below : (test : Step → Bool) → ((s t : Step) → test s ≡ true → test t ≡ true → same_step s t ≡ true) → (ws : List Written) → AreApart (paths_of ws) → AreApart (paths_of (below test ws))
apart_below test same [] apart = tt
apart_below test same (([], v) ∷ ws) apart = apart_below test same ws apart.1
apart_below test same ((s ∷ p, v) ∷ ws) apart = one (test s) refl (apart_below test same ws apart.1)
  where
    one : (b : Bool) → test s ≡ b → AreApart (paths_of (below test ws)) → AreApart (paths_of (or_rest (cond b (Some (p, v)) None) (below test ws)))
    one true e later = (all_below test same s p e ws apart.0, later)
    one false e later = later

names_same : (name : List ℕ) (s t : Step) → is_name name s ≡ true → is_name name t ≡ true → same_step s t ≡ true
names_same name (Name n) (Name m) e f = (bytes_eq-Decides m n).1 ((bytes_eq-Decides m name).0 f ∙ sym ((bytes_eq-Decides n name).0 e))
names_same name (Name n) (Index j) e f = cc
names_same name (Index i) t e f = cc

places_same : (place : ℕ) (s t : Step) → is_place place s ≡ true → is_place place t ≡ true → same_step s t ≡ true
places_same place (Index i) (Index j) e f = (Decides-eqb j i).1 ((Decides-eqb j place).0 f ∙ sym ((Decides-eqb i place).0 e))
places_same place (Index i) (Name m) e f = cc
places_same place (Name n) t e f = cc

pub apart_name : (name : List ℕ) (ws : List Written) → AreApart (paths_of ws) → AreApart (paths_of (below (is_name name) ws))
apart_name name ws apart = apart_below (is_name name) (names_same name) ws apart

pub apart_place : (place : ℕ) (ws : List Written) → AreApart (paths_of ws) → AreApart (paths_of (below (is_place place) ws))
apart_place place ws apart = apart_below (is_place place) (places_same place) ws apart

-- ---- a name that a write puts is not among those that stay

-- a write ends here
abbrev HasEnd : List Written → Type 0
HasEnd [] = ⊥
HasEnd (([], v) ∷ ws) = Unit {0}
HasEnd ((s ∷ p, v) ∷ ws) = HasEnd ws

no_end : (s : Step) (p : List Step) (ws : List Written) → AllByRecursion (λ q. overlap (s ∷ p) q ≡ false) (paths_of ws) → HasEnd ws → ⊥
no_end s p [] all h = h
no_end s p (([], v) ∷ ws) all h = let e : true ≡ false = all.0 in cc
no_end s p ((t ∷ q, v) ∷ ws) all h = no_end s p ws all.1 h

gone : (t : Tree) (ws : List Written) → AreApart (paths_of ws) → HasEnd ws → kept t ws ≡ None
gone t [] apart h = absurd h
gone t (([], v) ∷ ws) apart h = refl
gone t ((s ∷ p, v) ∷ ws) apart h = absurd (no_end s p ws apart.0 h)

end_behind : (w : Written) (ws : List Written) → HasEnd ws → HasEnd (w ∷ ws)
end_behind ([], v) ws h = tt
end_behind (s ∷ p, v) ws h = h

end_after : (o : Option Written) (ws : List Written) → HasEnd ws → HasEnd (or_rest o ws)
end_after None ws h = h
end_after (Some w) ws h = end_behind w ws h

end_first : (name : List ℕ) (v : Option Tree) (ws : List Written) → HasEnd (below (is_name name) ((Name name ∷ [], v) ∷ ws))
end_first name v ws = subst (λ b. HasEnd (or_rest (cond b (Some ([], v)) None) (below (is_name name) ws))) (sym ((bytes_eq-Decides name name).1 refl)) tt

ends_below : (name : List ℕ) (v : Option Tree) (ws : List Written) → In (Name name ∷ [], v) ws → HasEnd (below (is_name name) ws)
ends_below name v [] h = absurd h
ends_below name v (w ∷ ws) (inl e) = subst (λ x. HasEnd (below (is_name name) (x ∷ ws))) e (end_first name v ws)
ends_below name v (w ∷ ws) (inr h) = end_after (behind (is_name name) w.0 w.1) (below (is_name name) ws) (ends_below name v ws h)

-- the name that a write puts right here is not in the item
abbrev IsAbsent : List Step → Attributes → Type 0
IsAbsent (Name name ∷ []) item = value_at name item ≡ None
IsAbsent _ item = Unit {0}

none_stays : (o : Option Tree) (ws : List Written) → AreApart (paths_of ws) → HasEnd ws → option_and_then (λ t. kept t ws) o ≡ None
none_stays None ws apart h = refl
none_stays (Some t) ws apart h = gone t ws apart h

absent_where : (item : Attributes) (ws : List Written) → AreNamesInOrder item → AreApart (paths_of ws) → (w : Written) → In w ws → IsAbsent w.0 (kept_attributes item ws)
absent_where item ws up apart ([], v) h = tt
absent_where item ws up apart (Index place ∷ steps, v) h = tt
absent_where item ws up apart (Name name ∷ next ∷ steps, v) h = tt
absent_where item ws up apart (Name name ∷ [], v) h =
    kept_found name ws item up ∙ none_stays (value_at name item) (below (is_name name) ws) (apart_name name ws apart) (ends_below name v ws h)

all_absent : (item : Attributes) (ws : List Written) → AreNamesInOrder item → AreApart (paths_of ws) → AllByRecursion (λ w. IsAbsent w.0 (kept_attributes item ws)) ws
all_absent item ws up apart = all_in (λ w. IsAbsent w.0 (kept_attributes item ws)) ws (absent_where item ws up apart)

still_absent : (steps : List Step) (o : Option Tree) (q : List Step) (item : Attributes) → overlap steps q ≡ false → IsAbsent q item → IsAbsent q (put_one steps o item)
still_absent steps o [] item e h = tt
still_absent steps o (Index place ∷ q) item e h = tt
still_absent steps o (Name name ∷ next ∷ q) item e h = tt
still_absent [] o (Name name ∷ []) item e h = cc
still_absent (Index place ∷ steps) o (Name name ∷ []) item e h = h
still_absent (Name here ∷ next ∷ steps) o (Name name ∷ []) item e h = h
still_absent (Name here ∷ []) None (Name name ∷ []) item e h = h
still_absent (Name here ∷ []) (Some v) (Name name ∷ []) item e h = put_found name here v item ∙ other (bytes_eq name here) e
  where
    other : (b : Bool) → (b && true) ≡ false → cond b (Some v) (value_at name item) ≡ None
    other true f = cc
    other false f = h

absent_behind : (steps : List Step) (o : Option Tree) (ws : List Written) (item : Attributes) → AllByRecursion (λ q. overlap steps q ≡ false) (paths_of ws)
    → AllByRecursion (λ w. IsAbsent w.0 item) ws → AllByRecursion (λ w. IsAbsent w.0 (put_one steps o item)) ws
absent_behind steps o [] item apart all = tt
absent_behind steps o (w ∷ ws) item apart all = (still_absent steps o w.0 item apart.0 all.0, absent_behind steps o ws item apart.1 all.1)

-- ---- a measure of attributes that joins what each has

module _ (join : ℕ → ℕ → ℕ) (one : List ℕ → Tree → ℕ) (measure : Attributes → ℕ) (puts : List Written → ℕ)
    (nothing : measure no_attributes ≡ 0) (first : (name : List ℕ) (t : Tree) (rest : Attributes) → measure (attribute name t rest) ≡ join (one name t) (measure rest))
    (none : puts [] ≡ 0) (more : (w : Written) (ws : List Written) → puts (w ∷ ws) ≡ join (measure (put_one w.0 w.1 no_attributes)) (puts ws))
    (right : (a : ℕ) → join a 0 ≡ a) (left : (a : ℕ) → join 0 a ≡ a) (swap : (a b c : ℕ) → join a (join b c) ≡ join b (join a c)) (turn : (a b c : ℕ) → join (join a b) c ≡ join b (join a c)) where
  put_step : (o : Ordering) (b : Bool) (name other : List ℕ) (v t : Tree) (rest later : Attributes) → is_eq o ≡ b → cond b (Some t) (value_at name rest) ≡ None
      → (value_at name rest ≡ None → measure later ≡ join (one name v) (measure rest))
      → measure (match_ordering o (attribute name v (attribute other t rest)) (attribute other v rest) (attribute other t later)) ≡ join (one name v) (measure (attribute other t rest))
  put_step Less true name other v t rest later e f h = cc
  put_step Less false name other v t rest later e f h = first name v (attribute other t rest)
  put_step Equal true name other v t rest later e f h = cc
  put_step Equal false name other v t rest later e f h = cc
  put_step Greater true name other v t rest later e f h = cc
  put_step Greater false name other v t rest later e f h =
      first other t later ∙ ap (join (one other t)) (h f) ∙ swap (one other t) (one name v) (measure rest) ∙ ap (join (one name v)) (sym (first other t rest))

  put_new : (name : List ℕ) (v : Tree) (item : Attributes) → value_at name item ≡ None → measure (put name v item) ≡ join (one name v) (measure item)
  put_new name v no_attributes e = first name v no_attributes
  put_new name v (attribute other t rest) e =
      put_step (slice_cmp nat_cmp name other) (bytes_eq name other) name other v t rest (put name v rest) (is_eq-slice_cmp name other) e (put_new name v rest)

  put_one_new : (steps : List Step) (o : Option Tree) (item : Attributes) → IsAbsent steps item → measure (put_one steps o item) ≡ join (measure (put_one steps o no_attributes)) (measure item)
  put_one_new [] o item e = sym (left (measure item)) ∙ ap (λ n. join n (measure item)) (sym nothing)
  put_one_new (Index place ∷ steps) o item e = sym (left (measure item)) ∙ ap (λ n. join n (measure item)) (sym nothing)
  put_one_new (Name name ∷ next ∷ steps) o item e = sym (left (measure item)) ∙ ap (λ n. join n (measure item)) (sym nothing)
  put_one_new (Name name ∷ []) None item e = sym (left (measure item)) ∙ ap (λ n. join n (measure item)) (sym nothing)
  put_one_new (Name name ∷ []) (Some v) item e =
      put_new name v item e ∙ ap (λ n. join n (measure item)) (sym (first name v no_attributes ∙ ap (join (one name v)) nothing ∙ right (one name v)))

  all_new : (ws : List Written) (item : Attributes) → AreApart (paths_of ws) → AllByRecursion (λ w. IsAbsent w.0 item) ws → measure (put_all ws item) ≡ join (measure item) (puts ws)
  all_new [] item apart absent = sym (right (measure item)) ∙ ap (join (measure item)) (sym none)
  all_new (w ∷ ws) item apart absent =
      all_new ws (put_one w.0 w.1 item) apart.1 (absent_behind w.0 w.1 ws item apart.0 absent.1)
      ∙ ap (λ n. join n (puts ws)) (put_one_new w.0 w.1 item absent.0)
      ∙ turn (measure (put_one w.0 w.1 no_attributes)) (measure item) (puts ws)
      ∙ ap (join (measure item)) (sym (more w ws))

-- the item with all writes has what stays and what is put
pub whole_bytes : (each : ℕ) (item : Attributes) (ws : List Written) → AreNamesInOrder item → AreApart (paths_of ws)
    → attributes_bytes each (item_with_all item ws) ≡ attributes_bytes each (kept_attributes item ws) + puts_bytes each ws
whole_bytes each item ws up apart =
    all_new (λ a b. a + b) (λ name t. each + length name + size t) (attributes_bytes each) (puts_bytes each) refl (λ name t rest. refl) refl (λ w ws. refl)
    (λ a. omega arith) (λ a. omega arith) (λ a b c. omega arith) (λ a b c. omega arith) ws (kept_attributes item ws) apart (all_absent item ws up apart)

pub whole_levels : (item : Attributes) (ws : List Written) → AreNamesInOrder item → AreApart (paths_of ws)
    → item_depth (item_with_all item ws) ≡ max (item_depth (kept_attributes item ws)) (puts_levels ws)
whole_levels item ws up apart =
    all_new max (λ name t. depth t) item_depth puts_levels refl (λ name t rest. refl) refl (λ w ws. refl)
    (λ a. omega arith) (λ a. omega arith) (λ a b c. omega arith) (λ a b c. omega arith) ws (kept_attributes item ws) apart (all_absent item ws up apart)
