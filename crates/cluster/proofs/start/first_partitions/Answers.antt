use Rattle.std.proofs.Common.{◌<◌, ◌+◌, [], length, ap, ◌∙◌, refl, arith}
use Rattle.std.proofs.lemmas.List.{length_push}
use Rattle.cluster.specs.Standing.{StandsFor}
use Rattle.cluster.proofs.Starting.{one_more, partition_stands}
use Rattle.cluster.proofs.start.first_partitions.Goals as goal

pub loop-place-preserved : goal.loop-place-preserved
loop-place-preserved g c =
    let n = c.args.partitions in
    let S = g.R.Rules.protocol n in
    let i = c.loop-place.invariant in
    let count = i.count in
    let numbered = g.met.R.Rules.numbered n in
    let test = c.loop-place-test.true in
    let items = c.in_ok-push.ensures.items in
    let below : length c.loop-place.cells.items < S.control = omega arith in
    record {
      count = ap length items ∙ (length_push c.loop-place.cells.items c.in_ok-boxed.boxed ∙ ap (λ k. k + 1) count);
      stand =
          one_more (λ k b. StandsFor S g.R.CellRules.locals k b.value []) c.loop-place.cells.items c.in_ok-boxed.boxed c.push.new.self.items items i.stand
          (partition_stands S g.R.CellRules.locals (length c.loop-place.cells.items) c.in_ok-boxed.boxed.value c.in_ok-partition.partition [] c.in_ok-boxed.ensures.ok below
          (c.in_ok-partition.ensures.stands n (length c.loop-place.cells.items) refl) (c.in_ok-partition.ensures.in_step n));
    }
