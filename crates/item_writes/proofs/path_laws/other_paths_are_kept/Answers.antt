use Rattle.item_writes.proofs.Paths.{keeps_other_paths, moves_other_paths}
use Rattle.item_writes.proofs.path_laws.other_paths_are_kept.Goals as goal

pub returns-clause-in_place : goal.returns-clause-in_place
returns-clause-in_place c = keeps_other_paths

pub returns-clause-moved : goal.returns-clause-moved
returns-clause-moved c = moves_other_paths
