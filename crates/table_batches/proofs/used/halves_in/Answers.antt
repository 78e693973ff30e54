use Rattle.std.proofs.Common.{◌≡◌, ◌+◌, ◌∷◌, [], ℕ, sum_by, drop, sym, ap, ◌∙◌, arith}
use Rattle.std.proofs.lemmas.List.{drop_all, drop_more}
use Rattle.std.proofs.lemmas.List.Sums.{sum_by-cons}
use Rattle.table_request.specs.declared.batches.WriteRequest.{WriteRequest}
use Rattle.table_model.specs.Batches.{write_halves_in}
use Rattle.numbered_tables.specs.Tables.{table_in}
use Rattle.table_batches.proofs.used.halves_in.Goals as goal

pub loop-write-preserved : goal.loop-write-preserved
loop-write-preserved c =
    let l = c.loop-write in
    let f : WriteRequest → ℕ = write_halves_in (table_in c.args.table.now) in
    let xs = c.args.writes.now in
    let x = c.write-item.result in
    let rest = drop (l.write-index + 1) xs in
    let here : drop l.write-index xs ≡ x ∷ rest = drop_more xs l.write-index x c.loop-write-test.true ∙ ap (λ y. y ∷ rest) (sym c.write-item.is) in
    let split : sum_by f (drop l.write-index xs) ≡ f x + sum_by f rest = ap (sum_by f) here ∙ sum_by-cons f x rest in record {
      sum = omega (arith, split, c.in_ok-one.ensures, c.saturating_add-halves.ensures, l.invariant.sum);
      within = omega (arith, c.saturating_add-halves.ensures);
    }

pub returns : goal.returns
returns c =
    let l = c.loop-write in
    let f : WriteRequest → ℕ = write_halves_in (table_in c.args.table.now) in
    let xs = c.args.writes.now in
    let none : drop l.write-index xs ≡ [] = drop_all l.write-index xs c.loop-write-test.false in
    let rest : sum_by f (drop l.write-index xs) ≡ 0 = ap (sum_by f) none in
    omega (arith, rest, l.invariant.sum, l.invariant.within)
