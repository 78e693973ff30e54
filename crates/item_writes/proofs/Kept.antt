-- Attributes that stay, one after another, and the writes below a step.
use Rattle.std.proofs.Common.{◌≡◌, List, [], ◌∷◌, ◌++◌, map, Option, Some, None, Bool, true, false, cond, refl, ap, ◌∙◌}
use Rattle.std.specs.Borrow.{Bor}
use Rattle.base_types.specs.declared.path.Step.{Step}
use Rattle.attr_value.specs.Tree.{AreInOrder as AreNamesInOrder}
use Rattle.attr_value.specs.Parts.{put_some}
use Rattle.attr_value.specs.Paths.{kept_attribute}
use Rattle.attr_value.specs.View.{tree_of, attributes_of}
use Rattle.attr_value.proofs.PartLaws.{above_first, put_first, put_behind}
use Rattle.attr_value.proofs.Views.{Entry}
use Rattle.path_entries.specs.Entries.{below, is_name, or_rest}
use Rattle.item_writes.specs.NewTree.{Written, see, seen}
use Rattle.item_writes.specs.Edits.{kept, kept_attributes}
use Rattle.item_writes.specs.declared.new_value.NewValue.{NewValue}

-- what stays of the attributes and one more, whose name is above theirs
pub kept_last : (done : List Entry) (e : Entry) (more : List Entry) (ws : List Written) → AreNamesInOrder (attributes_of (done ++ e ∷ more))
    → kept_attributes (attributes_of (done ++ e ∷ [])) ws ≡ put_some e.0 (kept (tree_of e.1) (below (is_name e.0) ws)) (kept_attributes (attributes_of done) ws)
kept_last [] e more ws up = put_first e.0 (kept (tree_of e.1) (below (is_name e.0) ws))
kept_last (d ∷ done) e more ws up =
    let stays = kept (tree_of d.1) (below (is_name d.0) ws) in
    ap (kept_attribute d.0 stays) (kept_last done e more ws up.1)
    ∙ put_behind e.0 d.0 (kept (tree_of e.1) (below (is_name e.0) ws)) stays (kept_attributes (attributes_of done) ws) (above_first d done e more up)

see_one : (b : Bool) (steps : List Step) (v : Option (Bor NewValue)) (es : List (List Step × Option (Bor NewValue))) (ws : List Written) → ws ≡ map see es
    → or_rest (cond b (Some (see (steps, v))) None) ws ≡ map see (or_rest (cond b (Some (steps, v)) None) es)
see_one true steps v es ws e = ap (λ l. see (steps, v) ∷ l) e
see_one false steps v es ws e = e

-- the writes below a step, each with the tree of its value
pub below_seen : (test : Step → Bool) (es : List (List Step × Option (Bor NewValue))) → below test (seen es) ≡ seen (below test es)
below_seen test [] = refl
below_seen test (([], v) ∷ es) = below_seen test es
below_seen test ((s ∷ steps, v) ∷ es) = see_one (test s) steps v (below test es) (below test (seen es)) (below_seen test es)
