use Rattle.std.proofs.Common.{◌≡◌, ◌+◌, ◌∷◌, [], sum_by, drop, sym, ap, ◌∙◌, arith}
use Rattle.std.proofs.lemmas.List.{drop_all, drop_more}
use Rattle.std.proofs.lemmas.List.Sums.{sum_by-cons}
use Rattle.batch_calls.specs.Writes.{halves_used}
use Rattle.batch_calls.proofs.told.halves_in.Goals as goal

pub loop-wrote-preserved : goal.loop-wrote-preserved
loop-wrote-preserved c =
    let l = c.loop-wrote in
    let xs = c.args.wrotes.now in
    let x = c.wrote-item.result in
    let rest = drop (l.wrote-index + 1) xs in
    let here : drop l.wrote-index xs ≡ x ∷ rest = drop_more xs l.wrote-index x c.loop-wrote-test.true ∙ ap (λ y. y ∷ rest) (sym c.wrote-item.is) in
    let split : sum_by halves_used (drop l.wrote-index xs) ≡ halves_used x + sum_by halves_used rest =
    ap (sum_by halves_used) here ∙ sum_by-cons halves_used x rest in record {
      sum = omega (arith, split, c.halves_used.ensures, c.saturating_add-halves.ensures, l.invariant.sum);
      within = omega (arith, c.saturating_add-halves.ensures);
    }

pub returns : goal.returns
returns c =
    let l = c.loop-wrote in
    let xs = c.args.wrotes.now in
    let none : drop l.wrote-index xs ≡ [] = drop_all l.wrote-index xs c.loop-wrote-test.false in
    let rest : sum_by halves_used (drop l.wrote-index xs) ≡ 0 = ap (sum_by halves_used) none in
    omega (arith, rest, l.invariant.sum, l.invariant.within)
