-- The written paths, kind by kind.
use Rattle.std.proofs.Common.{◌≡◌, ℕ, List, ◌++◌, map, ◌||◌, ap, ◌∙◌, append_assoc}
use Rattle.std.proofs.lemmas.List.Folds.{list_any-append}
use Rattle.std.specs.List.{list_any}
use Rattle.expr_parse.specs.UpdateTree.{UpdateTree}
use Rattle.update_eval.specs.Places.{begins_with, touches, touches_by_kind}

-- four lists behind one another
pub grouped : {X : Type 0} (ws xs ys zs : List X) → ((ws ++ xs) ++ ys) ++ zs ≡ ws ++ (xs ++ (ys ++ zs))
grouped ws xs ys zs = append_assoc (ws ++ xs) ys zs ∙ append_assoc ws xs (ys ++ zs)

pub by_kind : (u : UpdateTree) (name : List ℕ) → touches u name ≡ touches_by_kind u name
by_kind u name =
    let sets = map (λ x. x.path) u.sets in
    let adds = map (λ x. x.path) u.adds in
    let deletes = map (λ x. x.path) u.deletes in
    let test = begins_with name in
    ap (list_any test) (grouped sets u.removes adds deletes)
    ∙ list_any-append test sets (u.removes ++ (adds ++ deletes))
    ∙ ap (λ b. list_any test sets || b) (list_any-append test u.removes (adds ++ deletes) ∙ ap (λ b. list_any test u.removes || b) (list_any-append test adds deletes))
