use Rattle.std.proofs.Common.{◌≡◌, ◌+◌, ◌∷◌, [], ℕ, Option, map, sum_by, drop, sym, ap, ◌∙◌, arith}
use Rattle.std.specs.Option.{option_copied}
use Rattle.std.proofs.lemmas.List.{drop_all, drop_more}
use Rattle.std.proofs.lemmas.List.Sums.{sum_by-cons}
use Rattle.attr_value.specs.Tree.{Attributes}
use Rattle.capacity.specs.Units.{read_halves}
use Rattle.table_model.specs.Consumed.{bytes_of}
use Rattle.table_batches.proofs.read.halves_read.Goals as goal

pub loop-item-preserved : goal.loop-item-preserved
loop-item-preserved c =
    let l = c.loop-item in
    let f : Option Attributes → ℕ = λ item. read_halves c.args.mode (bytes_of item) in
    let xs = c.args.items.now in
    let x = c.item-item.result in
    let rest = drop (l.item-index + 1) xs in
    let here : drop l.item-index xs ≡ x ∷ rest = drop_more xs l.item-index x c.loop-item-test.true ∙ ap (λ y. y ∷ rest) (sym c.item-item.is) in
    let split : sum_by f (map option_copied (drop l.item-index xs)) ≡ f (option_copied x) + sum_by f (map option_copied rest) =
    ap (λ ys. sum_by f (map option_copied ys)) here ∙ sum_by-cons f (option_copied x) (map option_copied rest) in
    let one : c.read_halves.result ≡ f (option_copied x) =
    c.read_halves.ensures ∙ ap (read_halves c.args.mode) (c.bytes_of-bytes.ensures ∙ ap bytes_of c.lent.ensures) in record {
      sum = omega (arith, split, one, c.saturating_add-halves.ensures, l.invariant.sum);
      within = omega (arith, c.saturating_add-halves.ensures);
    }

pub returns : goal.returns
returns c =
    let l = c.loop-item in
    let f : Option Attributes → ℕ = λ item. read_halves c.args.mode (bytes_of item) in
    let xs = c.args.items.now in
    let none : drop l.item-index xs ≡ [] = drop_all l.item-index xs c.loop-item-test.false in
    let rest : sum_by f (map option_copied (drop l.item-index xs)) ≡ 0 = ap (λ ys. sum_by f (map option_copied ys)) none in
    omega (arith, rest, l.invariant.sum, l.invariant.within)
