use Rattle.std.proofs.Common.{◌≡◌, [], ◌∷◌, drop, suc, sym, ap, ◌∙◌, subst, add-one}
use Rattle.std.proofs.Math.Seq.{drop-cons}
use Rattle.std.proofs.lemmas.List.{drop_all}
use Rattle.std.proofs.lemmas.Result.{err_from_is_err_and}
use Rattle.serde_json.specs.Data.{item}
use Rattle.serde_json.specs.View.{view, items_view}
use Rattle.request_parts.specs.Members.{each}
use Rattle.request_parts.specs.Asks.{EachStates}
use Rattle.api_request.proofs.Parts.{Along, along_step, along_end, parts_told}
use Rattle.api_request.proofs.part.read_parts.Goals as goal

pub returns-in_err-read : goal.returns-in_err-read
returns-in_err-read g c =
    let l = c.loop-item in
    let xs = c.args.items.now in
    let x = c.item-item.result in
    let rest = drop (suc l.item-index) xs in
    let asks = g.T.Part.asks in
    let States = g.T.Part.states in
    let all = items_view xs in
    let here : drop l.item-index xs ≡ x ∷ rest = drop-cons xs l.item-index x c.loop-item-test.true ∙ ap (λ y. y ∷ rest) (sym c.item-item.is) in
    let p = err_from_is_err_and c.from_residual-in_err-read.result c.from_residual-in_err-read.ensures.1 in
    rw (p.1, p.2)
    (parts_told asks States all (asks (view x)) (each asks (items_view rest)) (EachStates States (item (view x) (items_view rest))) (States (view x)) l.parts
    c.in_err-read.field-0.0
    (subst (λ ys. Along (EachStates States (items_view ys)) (EachStates States all) (each asks (items_view ys)) (each asks all) l.parts) here l.invariant)
    c.in_err-read.ensures)

pub returns : goal.returns
returns g c =
    let l = c.loop-item in
    let xs = c.args.items.now in
    let asks = g.T.Part.asks in
    let States = g.T.Part.states in
    let all = items_view xs in
    let none : drop l.item-index xs ≡ [] = drop_all l.item-index xs c.loop-item-test.false in
    along_end (EachStates States (items_view [])) (EachStates States all) (each asks all) l.parts tt
    (subst (λ ys. Along (EachStates States (items_view ys)) (EachStates States all) (each asks (items_view ys)) (each asks all) l.parts) none l.invariant)

pub loop-item-preserved : goal.loop-item-preserved
loop-item-preserved g c =
    let l = c.loop-item in
    let xs = c.args.items.now in
    let x = c.item-item.result in
    let rest = drop (suc l.item-index) xs in
    let asks = g.T.Part.asks in
    let States = g.T.Part.states in
    let all = items_view xs in
    let here : drop l.item-index xs ≡ x ∷ rest = drop-cons xs l.item-index x c.loop-item-test.true ∙ ap (λ y. y ∷ rest) (sym c.item-item.is) in
    let next = along_step (EachStates States (item (view x) (items_view rest))) (EachStates States (items_view rest)) (EachStates States all)
    (asks (view x)) (each asks (items_view rest)) (each asks all) l.parts c.in_ok-read.field-0
    (λ rs stated. (c.in_ok-read.ensures.0, stated)) c.in_ok-read.ensures.1
    (subst (λ ys. Along (EachStates States (items_view ys)) (EachStates States all) (each asks (items_view ys)) (each asks all) l.parts) here l.invariant) in
    subst (λ n. Along (EachStates States (items_view (drop n xs))) (EachStates States all) (each asks (items_view (drop n xs))) (each asks all) c.push.new.self)
    (sym (add-one l.item-index))
    (subst (λ ps. Along (EachStates States (items_view rest)) (EachStates States all) (each asks (items_view rest)) (each asks all) ps)
    (sym c.in_ok-push.ensures.ok) next)
