use Rattle.std.proofs.Common.{◌≡◌, ℕ, ◌-◌, [], length, subst, arith}
use Rattle.cluster.specs.Standing.{StandsFor}
use Rattle.cluster.proofs.cluster.Cluster.make.Goals as goal

pub make-requires-clause-stand : goal.make-requires-clause-stand
make-requires-clause-stand g c = λ i x at.
    let count = c.in_ok-cells.ensures.count in
    let one : c.args.partitions ≡ length c.in_ok-cells.cells - 1 = omega arith in
    subst (λ (k : ℕ). StandsFor (g.R.Rules.protocol k) g.R.CellRules.locals i x.value []) one (c.in_ok-cells.ensures.stand i x at)
