-- Lists that are copied item by item.
use Rattle.std.proofs.Common.{◌≡◌, List, [], ◌∷◌, map, refl, ap, ◌∙◌}
use Rattle.std.specs.List.{AllZip}
use Rattle.base_types.specs.declared.path.DocPath.{DocPath}
use Rattle.expr_words.specs.declared.tree.SetTo.{SetTo}
use Rattle.expr_words.specs.declared.tree.PathValue.{PathValue}
use Rattle.expr_parse.specs.UpdateTree.{tree_of}
use Rattle.expr_words.specs.Trees.{set_tree}

sets_copied : (sets copies : List SetTo) → AllZip (λ set copy. set_tree copy ≡ set_tree set) sets copies → map set_tree copies ≡ map set_tree sets
sets_copied [] [] h = refl
sets_copied (x ∷ xs) (y ∷ ys) h = ap (λ t. t ∷ map set_tree ys) h.0 ∙ ap (λ l. set_tree x ∷ l) (sets_copied xs ys h.1)
sets_copied [] (y ∷ ys) h = absurd h
sets_copied (x ∷ xs) [] h = absurd h

same_copied : {X : Type 0} (xs ys : List X) → AllZip (λ x y. y ≡ x) xs ys → ys ≡ xs
same_copied [] [] h = refl
same_copied (x ∷ xs) (y ∷ ys) h = ap (λ z. z ∷ ys) h.0 ∙ ap (λ l. x ∷ l) (same_copied xs ys h.1)
same_copied [] (y ∷ ys) h = absurd h
same_copied (x ∷ xs) [] h = absurd h

-- an update whose lists are copied is the same update
pub copied_tree : (sets sets' : List SetTo) (removes removes' : List DocPath) (adds adds' deletes deletes' : List PathValue)
    → AllZip (λ set copy. set_tree copy ≡ set_tree set) sets sets' → AllZip (λ path copy. copy ≡ path) removes removes'
    → AllZip (λ pair copy. copy ≡ pair) adds adds' → AllZip (λ pair copy. copy ≡ pair) deletes deletes'
    → tree_of sets' removes' adds' deletes' ≡ tree_of sets removes adds deletes
copied_tree sets sets' removes removes' adds adds' deletes deletes' s r a d = λ i. record {
  sets = sets_copied sets sets' s i;
  removes = same_copied removes removes' r i;
  adds = same_copied adds adds' a i;
  deletes = same_copied deletes deletes' d i;
}
