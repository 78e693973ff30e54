use Rattle.std.proofs.Common.{◌≡◌, [], ◌∷◌, drop, suc, Some, None, sym, ap, ◌∙◌, add-one}
use Rattle.std.proofs.Math.Seq.{drop-cons}
use Rattle.std.proofs.lemmas.List.{drop_all}
use Rattle.serde_json.specs.View.{view, items_view}
use Rattle.api_request.specs.Tables.{change_in, first_change}
use Rattle.api_request.proofs.Changes.{change_found, change_passed}
use Rattle.api_request.proofs.change.first_change.Goals as goal

pub returns-in-Some : goal.returns-in-Some
returns-in-Some c =
    let l = c.loop-item in
    let xs = c.args.items.now in
    let x = c.item-item.result in
    let rest = drop (suc l.item-index) xs in
    let here : drop l.item-index xs ≡ x ∷ rest = drop-cons xs l.item-index x c.loop-item-test.true ∙ ap (λ y. y ∷ rest) (sym c.item-item.is) in
    let found : Some c.in-Some.change ≡ change_in (view x) = sym c.in-Some.is ∙ c.in_ok-change.ensures in
    change_found (view x) (items_view rest) c.in-Some.change found ∙ ap (λ ys. first_change (items_view ys)) (sym here) ∙ l.invariant

pub loop-item-preserved : goal.loop-item-preserved
loop-item-preserved c =
    let l = c.loop-item in
    let xs = c.args.items.now in
    let x = c.item-item.result in
    let rest = drop (suc l.item-index) xs in
    let here : drop l.item-index xs ≡ x ∷ rest = drop-cons xs l.item-index x c.loop-item-test.true ∙ ap (λ y. y ∷ rest) (sym c.item-item.is) in
    let none : None ≡ change_in (view x) = sym c.in_default.is ∙ c.in_ok-change.ensures in
    ap (λ n. first_change (items_view (drop n xs))) (add-one l.item-index) ∙ change_passed (view x) (items_view rest) none
    ∙ ap (λ ys. first_change (items_view ys)) (sym here) ∙ l.invariant

pub returns : goal.returns
returns c =
    let l = c.loop-item in
    let xs = c.args.items.now in
    let none : drop l.item-index xs ≡ [] = drop_all l.item-index xs c.loop-item-test.false in
    ap (λ ys. first_change (items_view ys)) (sym none) ∙ l.invariant
