use Rattle.std.proofs.Common.{ap}
use Rattle.table_items.specs.Touched.{steps_of}
use Rattle.table_items.proofs.Named.{written_in_turn}
use Rattle.table_items.proofs.touched.written.Goals as goal

pub returns : goal.returns
returns c =
    written_in_turn c.args.update.now _ _ _ _ _ _ _ _ _ (ap steps_of c.new-paths.ensures.items) c.as_slice.ensures c.as_slice-2.ensures
    c.as_slice-3.ensures c.as_slice-4.ensures c.in_ok-push_sets.ensures c.in_ok-push_paths.ensures c.in_ok-push_pairs.ensures
    c.in_ok-push_pairs-2.ensures
