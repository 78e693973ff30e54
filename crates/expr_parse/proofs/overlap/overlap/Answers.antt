use Rattle.expr_parse.specs.Overlaps.{pointees}
use Rattle.expr_parse.proofs.Ordered.{neighbours, of_neighbours}
use Rattle.expr_parse.proofs.Permuted.{overlap_sorted, in_order}
use Rattle.expr_parse.proofs.overlap.overlap.Goals as goal

pub returns : goal.returns
returns c =
    let moves = overlap_sorted c.args.paths.now c.sort_unstable.new.self c.sort_unstable.ensures.permutation in
    let n = c.neighbours_overlap.ensures in (
      (λ t. moves.1 (of_neighbours (pointees c.sort_unstable.new.self) (n.0 t))),
      (λ h. n.1 (neighbours (pointees c.sort_unstable.new.self) (in_order c.sort_unstable.new.self c.sort_unstable.ensures.sorted) (moves.0 h))),
    )
