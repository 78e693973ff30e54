use Rattle.item_writes.proofs.Paths.{puts_written, puts_moved}
use Rattle.item_writes.proofs.Ends.{appends_along_paths}
use Rattle.item_writes.proofs.path_laws.written_values_stand.Goals as goal

pub returns-clause-in_place : goal.returns-clause-in_place
returns-clause-in_place c = puts_written

pub returns-clause-moved : goal.returns-clause-moved
returns-clause-moved c = puts_moved

pub returns-clause-appended : goal.returns-clause-appended
returns-clause-appended c = appends_along_paths
