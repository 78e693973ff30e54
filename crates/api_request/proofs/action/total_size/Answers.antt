use Rattle.std.proofs.Common.{◌≡◌, ◌-◌, ◌^◌, [], drop, min, ap, arith}
use Rattle.std.proofs.lemmas.List.{drop_all}
use Rattle.serde_json.specs.View.{items_view}
use Rattle.api_request.specs.Transactions.{total_size}
use Rattle.api_request.proofs.action.total_size.Goals as goal

pub returns : goal.returns
returns c =
    let l = c.loop-item in
    let xs = c.args.items.now in
    let none : drop l.item-index xs ≡ [] = drop_all l.item-index xs c.loop-item-test.false in
    let rest : total_size (items_view (drop l.item-index xs)) ≡ 0 = ap (λ vs. total_size (items_view vs)) none in
    let all : l.total ≡ min (total_size (items_view xs)) (2 ^ 64 - 1) = omega (arith, rest, l.invariant.sum) in
    all
