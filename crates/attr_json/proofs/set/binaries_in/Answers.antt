use Rattle.std.proofs.Common.{◌≡◌, ◌∷◌, ◌++◌, drop, suc, sym, ap, ◌∙◌, add-one}
use Rattle.std.proofs.Math.Seq.{drop-cons}
use Rattle.serde_json.specs.View.{view, items_view}
use Rattle.attr_json.specs.Steps.{mapped}
use Rattle.attr_json.specs.Scalars.{bytes_of}
use Rattle.attr_json.specs.Values.{each, strings_in, string_in}
use Rattle.attr_json.proofs.Reading.{each_step}
use Rattle.attr_json.proofs.set.binaries_in.Goals as goal

pub loop-item-preserved : goal.loop-item-preserved
loop-item-preserved c =
    let l = c.loop-item in
    let xs = c.args.items.now in
    let x = c.item-item.result in
    let rest = drop (suc l.item-index) xs in
    let here : drop l.item-index xs ≡ x ∷ rest = drop-cons xs l.item-index x c.loop-item-test.true ∙ ap (λ y. y ∷ rest) (sym c.item-item.is) in
    let read : bytes_of (string_in (view x)) ≡ _ = ap bytes_of (sym c.string_in.ensures) ∙ c.in_ok-bytes_from.ensures in
    ap (λ n. mapped (λ more. c.push.new.self ++ more) (each bytes_of (strings_in (items_view (drop n xs))))) (add-one l.item-index)
    ∙ ap (λ bs. mapped (λ more. bs ++ more) (each bytes_of (strings_in (items_view rest)))) c.in_ok-push.ensures.ok
    ∙ each_step bytes_of l.binaries (string_in (view x)) (strings_in (items_view rest)) c.in_ok-bytes_from.field-0 read
    ∙ ap (λ ys. mapped (λ more. l.binaries ++ more) (each bytes_of (strings_in (items_view ys)))) (sym here)
    ∙ l.invariant
