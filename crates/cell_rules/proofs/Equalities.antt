-- What `==` says of two values is whether they are equal, as contracts see them.
use Rattle.std.proofs.Common.{◌≡◌, Bool, false, ◌&&◌, List, [], ◌∷◌, map, Some, bytes_eq, nat_eq, refl, ap, sym, ◌∙◌}
use Rattle.std.specs.Prelude.{◌↔◌, IsTrue}
use Rattle.std.specs.Bool.{Decides}
use Rattle.std.specs.Cmp.Lexicographic.{pointwise}
use Rattle.std.proofs.lemmas.Bool.Decides.{Decides-and, Decides-like, Decides-eqb, Decides-at}
use Rattle.std.proofs.lemmas.Slice.Eq.{slice_eq-Decides, bytes_eq-Decides}
use Rattle.attr_value.specs.declared.value.Value.{Value}
use Rattle.attr_value.specs.Equality.{same}
use Rattle.attr_value.specs.EqualityLaws.{values_Decides}
use Rattle.attr_value.specs.View.{tree_of}
use Rattle.base_types.specs.declared.path.DocPath.{DocPath}
use Rattle.base_types.specs.declared.path.Step.{Step}
use Rattle.base_types.specs.declared.path.Step.TheVariants as step
use Rattle.base_types.specs.contracts.path.DocPathPartialEq.TheImpl as path_eq
use Rattle.base_types.specs.contracts.path.StepPartialEq.TheImpl as step_eq
use Rattle.expr_words.specs.declared.tree.SetTo.{SetTo}
use Rattle.expr_words.specs.declared.tree.PathValue.{PathValue}
use Rattle.expr_words.specs.declared.tree.Sum as code
use Rattle.expr_words.specs.declared.tree.Sum.TheVariants as code_sum
use Rattle.expr_words.specs.contracts.tree.SetToPartialEq.TheImpl as set_eq
use Rattle.expr_words.specs.contracts.tree.SumPartialEq.TheImpl as sum_eq
use Rattle.expr_words.specs.contracts.tree.PathValuePartialEq.TheImpl as pair_eq
use Rattle.expr_words.specs.Trees.{Tree, TermTree, SumTree, Alone, Plus, Minus, term_tree, sum_tree, set_tree}
use Rattle.expr_words.specs.Equality.{same as same_tree, same_term}
use Rattle.expr_words.specs.EqualityLaws.{tree_decides, term_decides}
use Rattle.expr_parse.specs.declared.tree.Update.{Update}
use Rattle.expr_parse.specs.Update.{update_tree}
use Rattle.expr_parse.specs.contracts.tree.UpdatePartialEq.TheImpl as update_eq
use Rattle.cell_model.specs.declared.action.Statement.{Statement}
use Rattle.cell_model.specs.declared.key.CellKey.{CellKey}
use Rattle.cell_model.specs.Actions.{ItemAction, action_of}

-- lists of which each two elements that stand at one place are alike
module _ {X Y : Type 0} (f : X → Y) (test : X → X → Bool) (tests : (x y : X) → Decides (test x y) (f x ≡ f y)) where
  pub lists_decide : (xs ys : List X) → Decides (pointwise test xs ys) (map f xs ≡ map f ys)
  lists_decide [] [] = (λ e. refl, λ e. refl)
  lists_decide [] (y ∷ ys) = (λ e. absurd (cc), λ e. absurd (cc))
  lists_decide (x ∷ xs) [] = (λ e. absurd (cc), λ e. absurd (cc))
  lists_decide (x ∷ xs) (y ∷ ys) =
      Decides-like (test x y && pointwise test xs ys) (λ h i. h.0 i ∷ h.1 i) (λ e. (cc, cc))
      (Decides-and (test x y) (pointwise test xs ys) (tests x y) (lists_decide xs ys))

pub values_decide : (xs ys : List Value) → Decides (pointwise (λ v w. same (tree_of v) (tree_of w)) xs ys) (xs ≡ ys)
values_decide xs ys = slice_eq-Decides values_Decides xs ys _ refl

alone : (s : TermTree) → SumTree → TermTree
alone s (Alone t) = t
alone s other = s

left_of : TermTree → SumTree → TermTree
left_of s (Plus t u) = t
left_of s (Minus t u) = t
left_of s other = s

right_of : TermTree → SumTree → TermTree
right_of s (Plus t u) = u
right_of s (Minus t u) = u
right_of s other = s

two : (of : TermTree → TermTree → SumTree) → ((s t u : TermTree) → left_of u (of s t) ≡ s) → ((s t u : TermTree) → right_of u (of s t) ≡ t) → (s t u v : TermTree) → Decides (same_term s u && same_term t v) (of s t ≡ of u v)
two of left right s t u v =
    Decides-like (same_term s u && same_term t v) (λ h i. of (h.0 i) (h.1 i))
    (λ e. (sym (left s t s) ∙ ap (left_of s) e ∙ left u v s, sym (right s t s) ∙ ap (right_of s) e ∙ right u v s))
    (Decides-and (same_term s u) (same_term t v) (term_decides s u) (term_decides t v))

sum_decides : (a b : code.Sum) → Decides (sum_eq.ghosts.eq a b) (sum_tree a ≡ sum_tree b)
unfolding alone left_of right_of
sum_decides (code_sum.One s) (code_sum.One t) =
    Decides-like (same_term (term_tree s) (term_tree t)) (λ e. ap Alone e) (λ e. ap (alone (term_tree s)) e)
    (term_decides (term_tree s) (term_tree t))
sum_decides (code_sum.Plus s t) (code_sum.Plus u v) =
    two Plus (λ _ _ _. refl) (λ _ _ _. refl) (term_tree s) (term_tree t) (term_tree u) (term_tree v)
sum_decides (code_sum.Minus s t) (code_sum.Minus u v) =
    two Minus (λ _ _ _. refl) (λ _ _ _. refl) (term_tree s) (term_tree t) (term_tree u) (term_tree v)
sum_decides a b = (λ e. absurd (cc), λ e. absurd (cc))

step_decides : (a b : Step) → Decides (step_eq.ghosts.eq a b) (a ≡ b)
step_decides (step.Name a) (step.Name b) =
    Decides-like (bytes_eq a b) (λ e. ap (λ n. step.Name n) e) (λ e. cc) (bytes_eq-Decides a b)
step_decides (step.Index a) (step.Index b) =
    Decides-like (nat_eq a b) (λ e. ap (λ n. step.Index n) e) (λ e. cc) (Decides-eqb a b)
step_decides a b = (λ e. absurd (cc), λ e. absurd (cc))

path_decides : (a b : DocPath) → Decides (path_eq.ghosts.eq a b) (a ≡ b)
path_decides a b =
    Decides-like (path_eq.ghosts.eq a b) (λ e i. record { steps = e i }) (λ e. ap (λ p. p.steps) e)
    (slice_eq-Decides step_decides a.steps b.steps _ refl)

set_decides : (a b : SetTo) → Decides (set_eq.ghosts.eq a b) (set_tree a ≡ set_tree b)
set_decides a b =
    Decides-like _ (λ h i. record { path = h.0 i; sum = h.1 i }) (λ e. (ap (λ s. s.path) e, ap (λ s. s.sum) e))
    (Decides-and _ _ (path_decides a.path b.path) (sum_decides a.sum b.sum))

pair_decides : (a b : PathValue) → Decides (pair_eq.ghosts.eq a b) (a ≡ b)
pair_decides a b =
    Decides-like _ (λ h i. record { path = h.0 i; value = h.1 i }) (λ e. (ap (λ s. s.path) e, ap (λ s. s.value) e))
    (Decides-and _ _ (path_decides a.path b.path) (Decides-eqb a.value b.value))

update_decides : (a b : Update) → Decides (update_eq.ghosts.eq a b) (update_tree a ≡ update_tree b)
update_decides a b =
    Decides-like _ (λ h i. record { sets = h.0 i; removes = h.1.0 i; adds = h.1.1.0 i; deletes = h.1.1.1 i })
    (λ e. (ap (λ u. u.sets) e, (ap (λ u. u.removes) e, (ap (λ u. u.adds) e, ap (λ u. u.deletes) e))))
    (Decides-and _ _ (lists_decide set_tree _ set_decides a.sets b.sets)
    (Decides-and _ _ (slice_eq-Decides path_decides a.removes b.removes _ refl)
    (Decides-and _ _ (slice_eq-Decides pair_decides a.adds b.adds _ refl) (slice_eq-Decides pair_decides a.deletes b.deletes _ refl))))

-- the same of updates and conditions that may not be there
pub updates_decide : (r : Bool) (a b : Update) → r ≡ update_eq.ghosts.eq a b → IsTrue r ↔ (Some (update_tree a) ≡ Some (update_tree b))
updates_decide r a b is =
    Decides-at r (update_eq.ghosts.eq a b) is (Decides-like (update_eq.ghosts.eq a b) (λ e. ap Some e) (λ e. cc) (update_decides a b))

pub conditions_decide : (r : Bool) (a b : Tree) → r ≡ same_tree a b → IsTrue r ↔ (Some a ≡ Some b)
conditions_decide r a b is =
    Decides-at r (same_tree a b) is (Decides-like (same_tree a b) (λ e. ap Some e) (λ e. cc) (tree_decides a b))

-- a part differs, so the whole does
pub differs : {P Q : Type 0} (r : Bool) → IsTrue r ↔ P → r ≡ false → (Q → P) → IsTrue false ↔ Q
differs r is e part = (λ passes. absurd (cc), λ whole. let passes = is.1 (part whole) in absurd (cc))

-- actions are equal where their keys are, and what they say of one item
pub actions_decide :
    (r : Bool) (a b : ItemAction) (x y : Statement) → a ≡ action_of a.key x → b ≡ action_of b.key y → a.key ≡ b.key
    → ((key : CellKey) → IsTrue r ↔ (action_of key x ≡ action_of key y)) → IsTrue r ↔ (a ≡ b)
actions_decide r a b x y is_a is_b keys same = (
  λ passes. is_a ∙ ap (λ key. action_of key x) keys ∙ (same b.key).0 passes ∙ sym is_b,
  λ e. (same a.key).1 (sym is_a ∙ e ∙ is_b ∙ ap (λ key. action_of key y) (sym keys)),
)
