-- The texts of legacy parameters are sentences of their trees.
use Rattle.std.proofs.Common.{◌≡◌, ◌≤◌, ◌↔◌, ℕ, ◌+◌, zero, suc, List, [], ◌∷◌, ◌++◌, length, map, Bool, true, false, not, ◌&&◌, nat_le, Option, None, Some, unwrap_or, cond, refl, sym, ap, ◌∙◌, subst, arith, append-nil, append_assoc}
use Rattle.std.proofs.Math.Logic.{inl, inr}
use Rattle.std.specs.List.{range_with_len}
use Rattle.std.specs.Option.{option_to_list, is_some}
use Rattle.std.proofs.lemmas.List.FromFn.{length-map-range_with_len}
use Rattle.base_types.specs.declared.path.DocPath.{DocPath}
use Rattle.expr_lexer.specs.declared.token.TokenKind.TheVariants as sign
use Rattle.expr_words.specs.declared.parse_end.Clause.{Clause}
use Rattle.expr_words.specs.declared.parse_end.Clause.TheVariants as clause
use Rattle.expr_words.specs.declared.tree.Comparison.{Comparison}
use Rattle.expr_words.specs.declared.tree.Comparison.TheVariants as comparison
use Rattle.expr_words.specs.declared.tree.Operand.TheVariants as operand
use Rattle.expr_words.specs.declared.tree.PathValue.{PathValue}
use Rattle.expr_words.specs.Words.{Word, Placed, Held, Sign}
use Rattle.expr_words.specs.Trees.{Tree, OfValue, Alone, SetTree, SectionTree, Sets, Removes, Adds, Deletes}
use Rattle.expr_words.specs.Grammar.{AreMore, no_more, one_more, AreListed, placed, no_step, IsPath, IsOperand, a_path, a_value, IsComparison, equals, differs, is_less, is_at_most, is_more_than, is_at_least, exists, not_exists, begins, contains, IsFlat, a_comparison, a_range, a_choice, a_path_test, an_operand_test, IsTail, tail_ends, tail_goes, IsChain, IsPart, IsConjunction, IsCondition, ArePaths, valued, IsTerm, alone, IsSet, IsPair, IsSection, sets, removes, adds, deletes, AreSections, no_section, a_section, IsUpdate, most_choices}
use Rattle.expr_parse.specs.UpdateTree.{UpdateTree, first_twice, same_clause}
use Rattle.expr_parse.specs.UpdateTree.{update_of as parsed}
use Rattle.legacy_params.specs.declared.part.LegacyTest.{LegacyTest}
use Rattle.legacy_params.specs.declared.part.LegacyChange.{LegacyChange}
use Rattle.legacy_params.specs.declared.fault.LegacyFault.{LegacyFault}
use Rattle.legacy_params.specs.declared.operator.Operator.{Operator}
use Rattle.legacy_params.specs.declared.operator.Operator.TheVariants.{Compare, Exists, Absent, Contains, NotContains, BeginsWith, Among, Between}
use Rattle.legacy_params.specs.declared.operator.Action.{Action}
use Rattle.legacy_params.specs.declared.operator.Action.TheVariants.{Put, Add, Delete}
use Rattle.legacy_params.specs.Tests.{values_of, operator_of, asked, takes, is_for_keys}
use Rattle.legacy_params.specs.Changes.{done}
use Rattle.legacy_params.specs.Faults.{number, least, fault_if_known, fault_of, faults_of}
use Rattle.legacy_params.specs.Trees.{path_to, asked_of, part_of, parts_of, join, joined, condition_of, done_at, followed, changed, update_of}
use Rattle.legacy_params.specs.Texts.{further, between, sign_of, values_from, asked_text, test_text, test_texts, joint, condition_text, clause_of, done_text, change_texts, clause_text, keyword, update_text, paths_text}
use Rattle.legacy_params.specs.Sentences.{SpellsUpdate}

-- ---- one test

is_path : (name : List ℕ) → IsPath (Placed name ∷ []) (path_to name)
is_path name = record { first = Placed name; name = name; more = []; steps = []; is_first = placed; are_more = no_step; spelled = refl; path_is = refl }

path_is : (k : ℕ) (name : List ℕ) → IsOperand k (Placed name ∷ []) (operand.Path (path_to name))
path_is k name = a_path (path_to name) (is_path name) refl

value_is : (k place : ℕ) → IsOperand k (Held place ∷ []) (operand.Value place)
value_is k place = a_value place refl refl

comparison_is : (op : Comparison) → IsComparison (Sign (sign_of op)) op
comparison_is comparison.Equal = equals
comparison_is comparison.Unequal = differs
comparison_is comparison.Less = is_less
comparison_is comparison.AtMost = is_at_most
comparison_is comparison.More = is_more_than
comparison_is comparison.AtLeast = is_at_least

-- what is said of each of a list, and so of the list
more_values : (k : ℕ) (places : List ℕ) → AreMore (IsOperand k) (further sign.Comma (map (λ place. Held place ∷ []) places)) (map (λ place. operand.Value place) places)
more_values k [] = no_more
more_values k (place ∷ places) = one_more {a = Held place ∷ []} (value_is k place) (more_values k places)

within : (n : ℕ) → (nat_le 1 n && nat_le n most_choices) ≡ true → n ≤ most_choices
within n fits = grind arith

choice_is : (j first count : ℕ) (name : List ℕ) → takes Among count ≡ true
    → IsFlat (suc j) (asked_text Among name first count) (asked_of Among (path_to name) first count)
choice_is j first zero name fits = absurd (cc)
choice_is j first (suc n) name fits =
    a_choice (Placed name ∷ []) (Held first ∷ []) (further sign.Comma (values_from (first + 1) n)) (operand.Path (path_to name)) (operand.Value first)
    (map (λ place. operand.Value place) (range_with_len (first + 1) n)) j refl (path_is (suc j) name) (value_is j first) (more_values j (range_with_len (first + 1) n))
    (subst (λ (m : ℕ). suc m ≤ most_choices) (sym (length-map-range_with_len (λ place. operand.Value place) (first + 1) n)) (within (suc n) fits)) refl refl

part_is : (j : ℕ) (op : Operator) (name : List ℕ) (first count : ℕ) → takes op count ≡ true
    → IsPart (suc (suc j)) (asked_text op name first count) (asked_of op (path_to name) first count)
part_is j (Compare op) name first count fits =
    inl (a_comparison (Placed name ∷ []) (Held first ∷ []) (Sign (sign_of op)) op (operand.Path (path_to name)) (operand.Value first) (path_is _ name) (comparison_is op)
    (value_is _ first) refl refl)
part_is j Exists name first count fits = inl (a_path_test _ _ (Placed name ∷ []) (path_to name) (omega arith) exists (is_path name) refl refl)
part_is j Absent name first count fits = inl (a_path_test _ _ (Placed name ∷ []) (path_to name) (omega arith) not_exists (is_path name) refl refl)
part_is j Contains name first count fits =
    inl (an_operand_test _ _ (Placed name ∷ []) (Held first ∷ []) (operand.Path (path_to name)) (operand.Value first) (suc j) refl contains (path_is _ name)
    (value_is _ first) refl refl)
part_is j NotContains name first count fits =
    inr (inl (record {
      inner = _;
      negated = _;
      is_inner =
          inl (an_operand_test _ _ (Placed name ∷ []) (Held first ∷ []) (operand.Path (path_to name)) (operand.Value first) j refl contains (path_is _ name)
          (value_is _ first) refl refl);
      spelled = refl;
      tree_is = refl;
    }))
part_is j BeginsWith name first count fits =
    inl (an_operand_test _ _ (Placed name ∷ []) (Held first ∷ []) (operand.Path (path_to name)) (operand.Value first) (suc j) refl begins (path_is _ name)
    (value_is _ first) refl refl)
part_is j Among name first count fits = inl (choice_is (suc j) first count name fits)
part_is j Between name first count fits =
    inl (a_range (Placed name ∷ []) (Held first ∷ []) (Held (first + 1) ∷ []) (operand.Path (path_to name)) (operand.Value first) (operand.Value (first + 1))
    (path_is _ name) (value_is _ first) (value_is _ (first + 1)) refl refl)

-- ---- tests without a fault

taken : (b : Bool) (fault : LegacyFault) (rest : Option LegacyFault) → cond (not b) (Some fault) rest ≡ None → b ≡ true
taken true fault rest e = refl
taken false fault rest e = absurd (cc)

past : (b : Bool) (fault : LegacyFault) (rest : Option LegacyFault) → cond b (Some fault) rest ≡ None → rest ≡ None
past true fault rest e = absurd (cc)
past false fault rest e = e

takes_them : (o : Option Operator) (for_keys : Bool) (t : LegacyTest) → fault_if_known o for_keys t ≡ None
    → takes (unwrap_or o (Compare comparison.Equal)) (length (values_of t)) ≡ true
takes_them None for_keys t e = absurd (cc)
takes_them (Some op) for_keys t e = taken (takes op (length (values_of t))) _ _ (past (for_keys && not (is_for_keys op)) _ _ e)

neither : (t : Bool) (a b : LegacyFault) → cond t (Some a) (Some b) ≡ None → ⊥
neither true a b e = cc
neither false a b e = cc

first_none : (a b : Option LegacyFault) → least a b ≡ None → a ≡ None
first_none None b e = refl
first_none (Some a) None e = absurd (cc)
first_none (Some a) (Some b) e = absurd (neither (nat_le (number a) (number b)) a b e)

second_none : (a b : Option LegacyFault) → least a b ≡ None → b ≡ None
second_none None b e = e
second_none (Some a) None e = refl
second_none (Some a) (Some b) e = absurd (neither (nat_le (number a) (number b)) a b e)

fits : (for_keys : Bool) (t : LegacyTest) → fault_of for_keys t ≡ None → takes (asked t) (length (values_of t)) ≡ true
fits for_keys t e = takes_them (operator_of t) for_keys t e

test_is : (j first : ℕ) (for_keys : Bool) (t : LegacyTest) → fault_of for_keys t ≡ None → IsPart (suc (suc j)) (test_text first t) (part_of first t)
test_is j first for_keys t e = part_is j (asked t) t.name first (length (values_of t)) (fits for_keys t e)

-- ---- all tests

-- a chain of one, and its further parts
chain_of_one : {P : List Word → Tree → Type 0} {sep : Word} {join_all : Tree → Tree → Tree} (ts : List Word) (t : Tree) → P ts t → IsChain P sep join_all ts t
chain_of_one ts t is = record { first = ts; more = []; left = t; is_first = is; is_more = tail_ends; spelled = sym (append-nil ts) }

module _ (for_keys any : Bool) (P : List Word → Tree → Type 0)
    (each : (first : ℕ) (t : LegacyTest) → fault_of for_keys t ≡ None → P (test_text first t) (part_of first t)) where
  tail : (first : ℕ) (left t : Tree) (tests : List LegacyTest) → faults_of for_keys tests ≡ None → joined any (Some left) (parts_of first tests) ≡ Some t
      → IsTail P (Sign (joint any)) (join any) left (further (joint any) (test_texts first tests)) t
  tail first left t [] none is = subst (λ (u : Tree). IsTail P (Sign (joint any)) (join any) left [] u) (ap (λ (o : Option Tree). unwrap_or o left) is) tail_ends
  tail first left t (x ∷ xs) none is =
      tail_goes (each first x (first_none (fault_of for_keys x) (faults_of for_keys xs) none))
      (tail (first + length (values_of x)) (join any left (part_of first x)) t xs (second_none (fault_of for_keys x) (faults_of for_keys xs) none) is)

  all_tests : (first : ℕ) (t : Tree) (x : LegacyTest) (xs : List LegacyTest) → faults_of for_keys (x ∷ xs) ≡ None → condition_of any first (x ∷ xs) ≡ Some t
      → IsChain P (Sign (joint any)) (join any) (condition_text any first (x ∷ xs)) t
  all_tests first t x xs none is = record {
    first = test_text first x;
    more = further (joint any) (test_texts (first + length (values_of x)) xs);
    left = part_of first x;
    is_first = each first x (first_none (fault_of for_keys x) (faults_of for_keys xs) none);
    is_more = tail (first + length (values_of x)) (part_of first x) t xs (second_none (fault_of for_keys x) (faults_of for_keys xs) none) is;
    spelled = refl;
  }

condition_at : (j first : ℕ) (any for_keys : Bool) (x : LegacyTest) (xs : List LegacyTest) (t : Tree) → faults_of for_keys (x ∷ xs) ≡ None
    → condition_of any first (x ∷ xs) ≡ Some t → IsCondition (suc (suc j)) (condition_text any first (x ∷ xs)) t
condition_at j first true for_keys x xs t none is =
    all_tests for_keys true (IsConjunction (suc (suc j))) (λ k y e. chain_of_one (test_text k y) (part_of k y) (test_is j k for_keys y e)) first t x xs none is
condition_at j first false for_keys x xs t none is =
    chain_of_one (condition_text false first (x ∷ xs)) t
    (all_tests for_keys false (IsPart (suc (suc j))) (λ k y e. test_is j k for_keys y e) first t x xs none is)

pub condition_says : (levels first : ℕ) (any for_keys : Bool) (x : LegacyTest) (xs : List LegacyTest) (t : Tree) → 2 ≤ levels → faults_of for_keys (x ∷ xs) ≡ None
    → condition_of any first (x ∷ xs) ≡ Some t → IsCondition levels (condition_text any first (x ∷ xs)) t
condition_says zero first any for_keys x xs t two none is = absurd (omega arith)
condition_says (suc zero) first any for_keys x xs t two none is = absurd (omega arith)
condition_says (suc (suc j)) first any for_keys x xs t two none is = condition_at j first any for_keys x xs t none is

-- ---- changes

-- each of these words says one of these things
data Say {X : Type 0} (P : List Word → X → Type 0) : List (List Word) → List X → Type 0 where
  none : Say P [] []
  one : {ws : List Word} {x : X} {more : List (List Word)} {xs : List X} → P ws x → Say P more xs → Say P (ws ∷ more) (x ∷ xs)

module _ {X : Type 0} (P : List Word → X → Type 0) where
  said_behind : {more : List (List Word)} {xs : List X} → Say P more xs → AreMore P (further sign.Comma more) xs
  said_behind none = no_more
  said_behind (one {ws = ws} is rest) = one_more {a = ws} is (said_behind rest)

  said : (ws : List Word) (more : List (List Word)) (x : X) (xs : List X) → P ws x → Say P more xs → AreListed P (between sign.Comma (ws ∷ more)) (x ∷ xs)
  said ws more x xs is rest = record {
    front = ws;
    more = further sign.Comma more;
    first = x;
    others = xs;
    is_first = is;
    are_more = said_behind rest;
    spelled = refl;
    listed = refl;
  }

  both : {a b : List (List Word)} {xs ys : List X} → Say P a xs → Say P b ys → Say P (a ++ b) (xs ++ ys)
  both none rest = rest
  both (one is more) rest = one is (both more rest)

pub paths_say : (name : List ℕ) (names : List (List ℕ)) → ArePaths (paths_text (name ∷ names)) (map path_to (name ∷ names))
paths_say name names = said IsPath _ _ _ _ (is_path name) (all names) where
  all : (ns : List (List ℕ)) → Say IsPath (map (λ n. Placed n ∷ []) ns) (map path_to ns)
  all [] = none
  all (n ∷ ns) = one (is_path n) (all ns)

-- a clause that lists nothing is none
abbrev listed : {X : Type 0} → (List X → SectionTree) → List X → List SectionTree
listed of [] = []
listed of (x ∷ xs) = of (x ∷ xs) ∷ []

abbrev sections_of : UpdateTree → List SectionTree
sections_of u = listed Sets u.sets ++ (listed Removes u.removes ++ (listed Adds u.adds ++ listed Deletes u.deletes))

module _ (k : ℕ) where
  set_is : (name : List ℕ) (place : ℕ) → IsSet k (Placed name ∷ Sign sign.Equal ∷ Held place ∷ []) (record { path = path_to name; sum = Alone (OfValue place) })
  set_is name place = record {
    front = Placed name ∷ [];
    more = Held place ∷ [];
    is_path = is_path name;
    is_sum = record { front = Held place ∷ []; more = []; first = OfValue place; is_first = term_is k; is_end = alone refl refl; spelled = refl };
    spelled = refl;
  } where
    term_is : (levels : ℕ) → IsTerm levels (Held place ∷ []) (OfValue place)
    term_is zero = valued place refl refl
    term_is (suc n) = inl (valued place refl refl)

  pair_is : (name : List ℕ) (place : ℕ) → IsPair (Placed name ∷ Held place ∷ []) (record { path = path_to name; value = place })
  pair_is name place = record { front = Placed name ∷ []; is_path = is_path name; spelled = refl }

  -- what a change says in each clause
  set_piece : (a : Action) (b : Bool) (name : List ℕ) (place : ℕ)
      → Say (IsSet k) (cond (same_clause (clause_of a b) clause.Set) (done_text clause.Set name place ∷ []) []) (done_at a (path_to name) place b).sets
  set_piece Put b name place = one (set_is name place) none
  set_piece Add b name place = none
  set_piece Delete false name place = none
  set_piece Delete true name place = none

  remove_piece : (a : Action) (b : Bool) (name : List ℕ) (place : ℕ)
      → Say IsPath (cond (same_clause (clause_of a b) clause.Remove) (done_text clause.Remove name place ∷ []) []) (done_at a (path_to name) place b).removes
  remove_piece Put b name place = none
  remove_piece Add b name place = none
  remove_piece Delete false name place = one (is_path name) none
  remove_piece Delete true name place = none

  add_piece : (a : Action) (b : Bool) (name : List ℕ) (place : ℕ)
      → Say IsPair (cond (same_clause (clause_of a b) clause.Add) (done_text clause.Add name place ∷ []) []) (done_at a (path_to name) place b).adds
  add_piece Put b name place = none
  add_piece Add b name place = one (pair_is name place) none
  add_piece Delete false name place = none
  add_piece Delete true name place = none

  delete_piece : (a : Action) (b : Bool) (name : List ℕ) (place : ℕ)
      → Say IsPair (cond (same_clause (clause_of a b) clause.Delete) (done_text clause.Delete name place ∷ []) []) (done_at a (path_to name) place b).deletes
  delete_piece Put b name place = none
  delete_piece Add b name place = none
  delete_piece Delete false name place = none
  delete_piece Delete true name place = one (pair_is name place) none

  -- what all changes say in each clause
  set_texts : (first : ℕ) (cs : List LegacyChange) → Say (IsSet k) (change_texts clause.Set first cs) (changed first cs).sets
  set_texts first [] = none
  set_texts first (c ∷ cs) =
      both (IsSet k) (set_piece (done c) (is_some c.value) c.name first) (set_texts (first + length (option_to_list c.value)) cs)

  remove_texts : (first : ℕ) (cs : List LegacyChange) → Say IsPath (change_texts clause.Remove first cs) (changed first cs).removes
  remove_texts first [] = none
  remove_texts first (c ∷ cs) =
      both IsPath (remove_piece (done c) (is_some c.value) c.name first) (remove_texts (first + length (option_to_list c.value)) cs)

  add_texts : (first : ℕ) (cs : List LegacyChange) → Say IsPair (change_texts clause.Add first cs) (changed first cs).adds
  add_texts first [] = none
  add_texts first (c ∷ cs) =
      both IsPair (add_piece (done c) (is_some c.value) c.name first) (add_texts (first + length (option_to_list c.value)) cs)

  delete_texts : (first : ℕ) (cs : List LegacyChange) → Say IsPair (change_texts clause.Delete first cs) (changed first cs).deletes
  delete_texts first [] = none
  delete_texts first (c ∷ cs) =
      both IsPair (delete_piece (done c) (is_some c.value) c.name first) (delete_texts (first + length (option_to_list c.value)) cs)

  last_section : (a : List Word) (c : SectionTree) → IsSection k a c → AreSections k a (c ∷ [])
  last_section a c is = subst (λ (ts : List Word). AreSections k ts (c ∷ [])) (append-nil a) (a_section is no_section)

  sections_join : (a b : List Word) (cs ds : List SectionTree) → AreSections k a cs → AreSections k b ds → AreSections k (a ++ b) (cs ++ ds)
  sections_join a b [] ds no_section rest = rest
  sections_join ts b (c ∷ cs) ds (a_section {a = a} {ts = more} is others) rest =
      subst (λ (ws : List Word). AreSections k ws (c ∷ cs ++ ds)) (sym (append_assoc a more b)) (a_section is (sections_join more b cs ds others rest))

  -- a clause with what it lists
  section_is : {X : Type 0} (P : List Word → X → Type 0) (kind : Clause) (of : List X → SectionTree)
      → ((inner : List Word) (xs : List X) → AreListed P inner xs → IsSection k (Sign (keyword kind) ∷ inner) (of xs))
      → {texts : List (List Word)} {xs : List X} → Say P texts xs → AreSections k (clause_text kind texts) (listed of xs)
  section_is P kind of make none = no_section
  section_is P kind of make (one {ws = ws} {x = x} {more = more} {xs = xs} is rest) =
      last_section (clause_text kind (ws ∷ more)) (of (x ∷ xs)) (make (between sign.Comma (ws ∷ more)) (x ∷ xs) (said P ws more x xs is rest))

  all_sections : (first : ℕ) (cs : List LegacyChange) → AreSections k (update_text first cs) (sections_of (changed first cs))
  all_sections first cs =
      sections_join _ _ _ _ (section_is (IsSet k) clause.Set Sets (λ inner xs is. sets inner xs is refl refl) (set_texts first cs))
      (sections_join _ _ _ _ (section_is IsPath clause.Remove Removes (λ inner xs is. removes inner xs is refl refl) (remove_texts first cs))
      (sections_join _ _ _ _ (section_is IsPair clause.Add Adds (λ inner xs is. adds inner xs is refl refl) (add_texts first cs))
      (section_is IsPair clause.Delete Deletes (λ inner xs is. deletes inner xs is refl refl) (delete_texts first cs))))

  whole : (ts : List Word) (ds : List SectionTree) → (ds ≡ [] → ⊥) → AreSections k ts ds → IsUpdate k ts ds
  whole ts [] some are = absurd (some refl)
  whole ts (d ∷ ds) some (a_section {a = a} {ts = more} is others) =
      record { front = a; more = more; first = d; others = ds; is_first = is; are_more = others; spelled = refl; listed = refl }

-- some clause lists what a change does
nil_right : {X : Type 0} (xs ys : List X) → xs ++ ys ≡ [] → ys ≡ []
nil_right [] ys e = e
nil_right (x ∷ xs) ys e = absurd (cc)

some_section : (a : Action) (b : Bool) (path : DocPath) (place : ℕ) (v : UpdateTree) → sections_of (followed (done_at a path place b) v) ≡ [] → ⊥
some_section Put b path place v e = cc
some_section Add b path place v e =
    let less = nil_right (listed Removes v.removes) _ (nil_right (listed Sets v.sets) _ e) in cc
some_section Delete false path place v e =
    let less = nil_right (listed Sets v.sets) _ e in cc
some_section Delete true path place v e =
    let less = nil_right (listed Adds v.adds) _ (nil_right (listed Removes v.removes) _ (nil_right (listed Sets v.sets) _ e)) in cc

-- the clauses come to the update, each once
comes_back : (s : List SetTree) (r : List DocPath) (a d : List PathValue) → let u : UpdateTree = record { sets = s; removes = r; adds = a; deletes = d } in
    (parsed (sections_of u) ≡ u) × (first_twice [] (sections_of u) ≡ None)
comes_back [] [] [] [] = (refl, refl)
comes_back [] [] [] (d ∷ ds) = (refl, refl)
comes_back [] [] (a ∷ as1) [] = (refl, refl)
comes_back [] [] (a ∷ as1) (d ∷ ds) = (refl, refl)
comes_back [] (r ∷ rs) [] [] = (refl, refl)
comes_back [] (r ∷ rs) [] (d ∷ ds) = (refl, refl)
comes_back [] (r ∷ rs) (a ∷ as1) [] = (refl, refl)
comes_back [] (r ∷ rs) (a ∷ as1) (d ∷ ds) = (refl, refl)
comes_back (s ∷ ss) [] [] [] = (refl, refl)
comes_back (s ∷ ss) [] [] (d ∷ ds) = (refl, refl)
comes_back (s ∷ ss) [] (a ∷ as1) [] = (refl, refl)
comes_back (s ∷ ss) [] (a ∷ as1) (d ∷ ds) = (refl, refl)
comes_back (s ∷ ss) (r ∷ rs) [] [] = (refl, refl)
comes_back (s ∷ ss) (r ∷ rs) [] (d ∷ ds) = (refl, refl)
comes_back (s ∷ ss) (r ∷ rs) (a ∷ as1) [] = (refl, refl)
comes_back (s ∷ ss) (r ∷ rs) (a ∷ as1) (d ∷ ds) = (refl, refl)

pub update_says : (levels first : ℕ) (c : LegacyChange) (cs : List LegacyChange) (u : UpdateTree) → update_of first (c ∷ cs) ≡ Some u
    → SpellsUpdate levels (update_text first (c ∷ cs)) u
update_says levels first c cs u is =
    let v = changed first (c ∷ cs) in
    let back = comes_back v.sets v.removes v.adds v.deletes in record {
      clauses = sections_of v;
      sentence =
          whole levels _ _ (some_section (done c) (is_some c.value) (path_to c.name) first (changed (first + length (option_to_list c.value)) cs))
          (all_sections levels first (c ∷ cs));
      once = back.1;
      update = back.0 ∙ ap (λ (o : Option UpdateTree). unwrap_or o v) is;
    }

-- ---- of one tree, and no other

some_tree : (any : Bool) (left : Tree) (parts : List Tree) → (t : Tree) × (joined any (Some left) parts ≡ Some t)
some_tree any left [] = (left, refl)
some_tree any left (part ∷ parts) = some_tree any (join any left part) parts

pub condition_exact : ((k : ℕ) (ts : List Word) (t u : Tree) → IsCondition k ts t → IsCondition k ts u → t ≡ u)
    → (levels first : ℕ) (any for_keys : Bool) (x : LegacyTest) (xs : List LegacyTest) (t : Tree) → 2 ≤ levels → faults_of for_keys (x ∷ xs) ≡ None
    → IsCondition levels (condition_text any first (x ∷ xs)) t ↔ (condition_of any first (x ∷ xs) ≡ Some t)
condition_exact unique levels first any for_keys x xs t two clear =
    let made = some_tree any (part_of first x) (parts_of (first + length (values_of x)) xs) in (
      (λ is.
          made.1
          ∙ ap (λ (u : Tree). Some u)
          (unique levels (condition_text any first (x ∷ xs)) made.0 t (condition_says levels first any for_keys x xs made.0 two clear made.1) is)),
      condition_says levels first any for_keys x xs t two clear,
    )

pub update_exact : ((k : ℕ) (ts : List Word) (cs ds : List SectionTree) → IsUpdate k ts cs → IsUpdate k ts ds → cs ≡ ds)
    → (levels first : ℕ) (c : LegacyChange) (cs : List LegacyChange) (u : UpdateTree)
    → SpellsUpdate levels (update_text first (c ∷ cs)) u ↔ (update_of first (c ∷ cs) ≡ Some u)
update_exact unique levels first c cs u =
    let own = update_says levels first c cs (changed first (c ∷ cs)) refl in (
      (λ says.
          ap (λ (v : UpdateTree). Some v)
          (sym own.update ∙ ap parsed (unique levels (update_text first (c ∷ cs)) own.clauses says.clauses own.sentence says.sentence) ∙ says.update)),
      update_says levels first c cs u,
    )

pub paths_exact : ((ts : List Word) (ps qs : List DocPath) → ArePaths ts ps → ArePaths ts qs → ps ≡ qs)
    → (name : List ℕ) (names : List (List ℕ)) (paths : List DocPath)
    → ArePaths (paths_text (name ∷ names)) paths ↔ (paths ≡ map path_to (name ∷ names))
paths_exact unique name names paths = (
  (λ are. unique (paths_text (name ∷ names)) paths (map path_to (name ∷ names)) are (paths_say name names)),
  (λ is. subst (λ (ps : List DocPath). ArePaths (paths_text (name ∷ names)) ps) (sym is) (paths_say name names)),
)
