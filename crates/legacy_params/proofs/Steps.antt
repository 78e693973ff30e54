-- One test or change after another.
use Rattle.std.proofs.Common.{◌≡◌, ◌+◌, List, [], ◌∷◌, ◌++◌, length, Bool, Option, None, Some, refl, sym, ap, ◌∙◌, subst, append_assoc, append-nil, length-append}
use Rattle.std.specs.Option.{option_to_list}
use Rattle.attr_value.specs.declared.value.Value.{Value}
use Rattle.expr_words.specs.Trees.{Tree}
use Rattle.expr_parse.specs.UpdateTree.{UpdateTree, tree_of}
use Rattle.legacy_params.specs.declared.changes.Draft.{Draft}
use Rattle.legacy_params.specs.Drafts.{draft_tree}
use Rattle.legacy_params.specs.declared.part.LegacyTest.{LegacyTest}
use Rattle.legacy_params.specs.declared.part.LegacyChange.{LegacyChange}
use Rattle.legacy_params.specs.Tests.{values_of, test_values}
use Rattle.legacy_params.specs.Changes.{change_values}
use Rattle.legacy_params.specs.Trees.{part_of, parts_of, joined_to, joined, condition_of, nothing, followed, change_of, changed}

-- ---- tests

pub record Joining (any : Bool) (before : List Value) (tests : List LegacyTest) (tree : Option Tree) (values : List Value) (left : List LegacyTest) : Type 0 where
  pub condition : joined any tree (parts_of (length values) left) ≡ condition_of any (length before) tests
  pub values_are : values ++ test_values left ≡ before ++ test_values tests

pub at_first : (any : Bool) (before : List Value) (tests : List LegacyTest) → Joining any before tests None before tests
at_first any before tests = record { condition = refl; values_are = refl }

pub one_test : (any : Bool) (before : List Value) (tests : List LegacyTest) (tree : Option Tree) (now more : List Value) (test : LegacyTest) (left rest : List LegacyTest) (part whole : Tree)
    → left ≡ test ∷ rest → part ≡ part_of (length now) test → more ≡ now ++ values_of test → whole ≡ joined_to any tree part
    → Joining any before tests tree now left → Joining any before tests (Some whole) more rest
one_test any before tests tree now more test left rest part whole is asked put joins was = record {
  condition =
      (λ i. joined any (Some (joins i)) (parts_of (length (put i)) rest))
      ∙ (λ i. joined any (Some (joined_to any tree (asked i))) (parts_of (length-append now (values_of test) i) rest))
      ∙ ap (λ ts. joined any tree (parts_of (length now) ts)) (sym is) ∙ was.condition;
  values_are =
      ap (λ vs. vs ++ test_values rest) put ∙ append_assoc now (values_of test) (test_values rest) ∙ ap (λ ts. now ++ test_values ts) (sym is) ∙ was.values_are;
}

pub all_tests : (any : Bool) (before : List Value) (tests : List LegacyTest) (tree : Option Tree) (values : List Value) (left : List LegacyTest) → left ≡ []
    → Joining any before tests tree values left → (tree ≡ condition_of any (length before) tests) × (values ≡ before ++ test_values tests)
all_tests any before tests tree values left none was = (
  ap (λ ts. joined any tree (parts_of (length values) ts)) (sym none) ∙ was.condition,
  sym (append-nil values) ∙ ap (λ ts. values ++ test_values ts) (sym none) ∙ was.values_are,
)

-- ---- changes

pub followed_assoc : (u v w : UpdateTree) → followed (followed u v) w ≡ followed u (followed v w)
followed_assoc u v w = λ i. record {
  sets = append_assoc u.sets v.sets w.sets i;
  removes = append_assoc u.removes v.removes w.removes i;
  adds = append_assoc u.adds v.adds w.adds i;
  deletes = append_assoc u.deletes v.deletes w.deletes i;
}

pub followed_nothing : (u : UpdateTree) → followed u nothing ≡ u
followed_nothing u = λ i. record {
  sets = append-nil u.sets i;
  removes = append-nil u.removes i;
  adds = append-nil u.adds i;
  deletes = append-nil u.deletes i;
}

pub record Changing (changes : List LegacyChange) (tree : UpdateTree) (values : List Value) (left : List LegacyChange) : Type 0 where
  pub update : followed tree (changed (length values) left) ≡ changed 0 changes
  pub values_are : values ++ change_values left ≡ change_values changes

-- in the draft and the list that are empty
pub none_changed : (changes left : List LegacyChange) (d : Draft) (values : List Value) → left ≡ changes → d.sets ≡ [] → d.removes ≡ [] → d.adds ≡ []
    → d.deletes ≡ [] → values ≡ [] → Changing changes (draft_tree d) values left
none_changed changes left d values is no_sets no_removes no_adds no_deletes no_values =
    subst (λ (cs : List LegacyChange). Changing changes (draft_tree d) values cs) (sym is)
    (subst (λ (vs : List Value). Changing changes (draft_tree d) vs changes) (sym no_values)
    (subst (λ (u : UpdateTree). Changing changes u [] changes) (sym empty) (record { update = refl; values_are = refl })))
  where
    empty : draft_tree d ≡ nothing
    empty = λ i. tree_of (no_sets i) (no_removes i) (no_adds i) (no_deletes i)

pub one_change : (changes : List LegacyChange) (tree whole : UpdateTree) (now more : List Value) (change : LegacyChange) (left rest : List LegacyChange)
    → left ≡ change ∷ rest → whole ≡ followed tree (change_of (length now) change) → more ≡ now ++ option_to_list change.value
    → Changing changes tree now left → Changing changes whole more rest
one_change changes tree whole now more change left rest is done put was = record {
  update =
      (λ i. followed (done i) (changed (length (put i)) rest))
      ∙ ap (λ n. followed (followed tree (change_of (length now) change)) (changed n rest)) (length-append now (option_to_list change.value))
      ∙ followed_assoc tree (change_of (length now) change) (changed (length now + length (option_to_list change.value)) rest)
      ∙ ap (λ cs. followed tree (changed (length now) cs)) (sym is) ∙ was.update;
  values_are =
      ap (λ vs. vs ++ change_values rest) put ∙ append_assoc now (option_to_list change.value) (change_values rest)
      ∙ ap (λ cs. now ++ change_values cs) (sym is) ∙ was.values_are;
}

pub all_changes : (changes : List LegacyChange) (tree : UpdateTree) (values : List Value) (left : List LegacyChange) → left ≡ []
    → Changing changes tree values left → (tree ≡ changed 0 changes) × (values ≡ change_values changes)
all_changes changes tree values left none was = (
  sym (followed_nothing tree) ∙ ap (λ cs. followed tree (changed (length values) cs)) (sym none) ∙ was.update,
  sym (append-nil values) ∙ ap (λ cs. values ++ change_values cs) (sym none) ∙ was.values_are,
)
