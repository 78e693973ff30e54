use Rattle.std.proofs.Common.{[], length, sym, ◌∙◌}
use Rattle.cluster.specs.Standing.{StandsFor}
use Rattle.cluster.proofs.Starting.{control_stands, one_more}
use Rattle.cluster.proofs.start.first_cells.Goals as goal

pub returns-clause-stand : goal.returns-clause-stand
returns-clause-stand g c =
    let n = c.args.partitions in
    let S = g.R.Rules.protocol n in
    one_more (λ k b. StandsFor S g.R.CellRules.locals k b.value []) c.in_ok-cells.cells c.in_ok-boxed.boxed c.push.new.self c.in_ok-push.ensures.ok c.in_ok-cells.ensures.stand
    (control_stands S g.R.CellRules.locals (length c.in_ok-cells.cells) c.in_ok-boxed.boxed.value c.in_ok-control.control [] c.in_ok-boxed.ensures.ok
    (c.in_ok-cells.ensures.count ∙ sym (g.met.R.Rules.numbered n)) (c.in_ok-control.ensures n))
