-- Attributes and elements that stay, one after another.
use Rattle.std.proofs.Common.{◌≡◌, ℕ, suc, List, [], ◌∷◌, ◌++◌, Option, Some, None, false, Greater, nat_cmp, is_gt, length, refl, ap, ◌∙◌, subst, arith}
use Rattle.std.specs.Cmp.Lexicographic.{slice_cmp}
use Rattle.base_types.specs.declared.path.Step.{Step}
use Rattle.attr_value.specs.Tree as tree
use Rattle.attr_value.specs.Tree.{Tree, Trees, no_trees, Attributes, no_attributes, attribute, AreInOrder as AreNamesInOrder}
use Rattle.attr_value.specs.Tree.{text, number, binary, boolean, null, text_set, number_set, binary_set}
use Rattle.attr_value.specs.Paths.{kept_attribute, kept_element}
use Rattle.attr_value.specs.Parts.{put_some}
use Rattle.attr_value.specs.View.{tree_of, attributes_of}
use Rattle.attr_value.proofs.PartLaws.{above_first, put_first, put_behind}
use Rattle.attr_value.proofs.Views.{Entry}
use Rattle.path_entries.specs.Entries.{below, is_name, entries_of}
use Rattle.path_entries.specs.declared.key.PathEntry.{PathEntry}
use Rattle.path_entries.specs.Order.{AreInOrder, path_order}
use Rattle.projection.specs.Picked.{Asked, is_end, leads_here, some_list, some_map, picked, picked_inside, picked_from, picked_item}

-- what is picked of the attributes and one more, whose name is above theirs
pub picked_last : (done : List Entry) (e : Entry) (more : List Entry) (ps : List Asked) → AreNamesInOrder (attributes_of (done ++ e ∷ more))
    → picked_item (attributes_of (done ++ e ∷ [])) ps ≡ put_some e.0 (picked (tree_of e.1) (below (is_name e.0) ps)) (picked_item (attributes_of done) ps)
picked_last [] e more ps up = put_first e.0 (picked (tree_of e.1) (below (is_name e.0) ps))
picked_last (d ∷ done) e more ps up =
    let above : slice_cmp nat_cmp e.0 d.0 ≡ Greater = above_first d done e more up in
    let stays = picked (tree_of d.1) (below (is_name d.0) ps) in
    ap (kept_attribute d.0 stays) (picked_last done e more ps up.1)
    ∙ put_behind e.0 d.0 (picked (tree_of e.1) (below (is_name e.0) ps)) stays (picked_item (attributes_of done) ps) above

-- ---- no path picks nothing

kept_none : (name : List ℕ) (rest : Attributes) (o : Option Tree) → o ≡ None → rest ≡ no_attributes → kept_attribute name o rest ≡ no_attributes
kept_none name rest None e f = f
kept_none name rest (Some t) e f = cc

element_none : (rest : Trees) (o : Option Tree) → o ≡ None → rest ≡ no_trees → kept_element o rest ≡ no_trees
element_none rest None e f = f
element_none rest (Some t) e f = cc

mutual
  pub nothing_inside : (t : Tree) → picked_inside t [] ≡ None
  nothing_inside (tree.list inside) = ap some_list (nothing_from inside 0)
  nothing_inside (tree.map inside) = ap some_map (nothing_item inside)
  nothing_inside (text s) = refl
  nothing_inside (number z) = refl
  nothing_inside (binary s) = refl
  nothing_inside (boolean b) = refl
  nothing_inside null = refl
  nothing_inside (text_set s) = refl
  nothing_inside (number_set s) = refl
  nothing_inside (binary_set s) = refl

  nothing_from : (inside : Trees) (place : ℕ) → picked_from inside place [] ≡ no_trees
  nothing_from no_trees place = refl
  nothing_from (tree.tree t rest) place = element_none _ (picked_inside t []) (nothing_inside t) (nothing_from rest (suc place))

  nothing_item : (inside : Attributes) → picked_item inside [] ≡ no_attributes
  nothing_item no_attributes = refl
  nothing_item (attribute name t rest) = kept_none name _ (picked_inside t []) (nothing_inside t) (nothing_item rest)

-- ---- where the first of some paths in order leads on, so do all

one_leads_on : (s : Step) (steps : List Step) (p : List Step) → is_gt (path_order (s ∷ steps) p) ≡ false → is_end p ≡ false
one_leads_on s steps [] h = cc
one_leads_on s steps (t ∷ p) h = refl

pub all_lead_on : (s : Step) (steps : List Step) (v : Unit {0}) (ps : List Asked) → AreInOrder ((s ∷ steps, v) ∷ ps) → leads_here ((s ∷ steps, v) ∷ ps) ≡ false
all_lead_on s steps v [] up = refl
all_lead_on s steps v ((p, w) ∷ ps) up = rw (one_leads_on s steps p up.0.0) (all_lead_on s steps v ps (up.0.1, up.1.1))

pub leads_on : (es : List (PathEntry (Unit {0}))) (first : PathEntry (Unit {0})) (rest : List (PathEntry (Unit {0}))) → es ≡ first ∷ rest → (first.steps.now ≡ [] → ⊥)
    → AreInOrder (entries_of es) → leads_here (entries_of es) ≡ false
leads_on es first rest e some up =
    ap (λ xs. leads_here (entries_of xs)) e ∙ first_leads_on first.steps.now (entries_of rest) some (subst (λ xs. AreInOrder (entries_of xs)) e up)
  where
    first_leads_on : (steps : List Step) (ps : List Asked) → (steps ≡ [] → ⊥) → AreInOrder ((steps, tt) ∷ ps) → leads_here ((steps, tt) ∷ ps) ≡ false
    first_leads_on [] ps some up = absurd (some refl)
    first_leads_on (s ∷ steps) ps some up = all_lead_on s steps tt ps up

-- a list without items
pub no_items : {X : Type 0} (xs : List X) → length xs ≡ 0 → xs ≡ []
no_items [] e = refl
no_items (x ∷ xs) e = absurd (omega arith)
