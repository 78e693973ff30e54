use Rattle.std.proofs.Common.{◌≡◌, ◌+◌, [], length, refl, sym, ap, ◌∙◌, subst, arith}
use Rattle.std.specs.Prelude.{ℕ, Some, slice_get}
use Rattle.std.proofs.lemmas.List.{length_push}
use Rattle.txn_replay.specs.Standing.{StandsAs}
use Rattle.txn_replay.proofs.Lists.{one_more}
use Rattle.txn_replay.proofs.cells.first_partitions.Goals as goal

pub loop-place-preserved : goal.loop-place-preserved
loop-place-preserved g c =
    let n = c.args.partitions in
    let S = g.R.Rules.protocol n in
    let L = g.R.CellRules.locals in
    let inv = c.loop-place.invariant in
    let old = c.loop-place.cells.items in
    let items = c.in_ok-push.ensures.items in
    let fresh = c.in_ok-cell.ensures in
    record {
      count = ap length items ∙ (length_push old c.in_ok-cell.cell ∙ ap (λ k. k + 1) inv.count);
      stand =
          subst (λ xs. (i : ℕ) (x : _) → slice_get xs i ≡ Some x → StandsAs S L i x []) (sym items)
          (one_more (λ k x. StandsAs S L k x []) old c.in_ok-cell.cell inv.stand (fresh.stands n (length old) refl, fresh.in_step n));
    }

pub returns : goal.returns
returns g c =
    let n = c.args.partitions in
    let end = c.loop-place.auto._place-end in
    let test = c.loop-place-test.false in
    let inv = c.loop-place.invariant in
    let many : length c.loop-place.cells.items ≡ n = let count = inv.count in omega arith in
    record { count = many ∙ sym (g.met.R.Rules.numbered n); each = inv.stand }
