use Rattle.legacy_params.proofs.Readings.{condition_reads, update_reads, paths_read}
use Rattle.legacy_params.proofs.laws.spelled_texts_read.Goals as goal

pub returns : goal.returns
returns c = record { condition = condition_reads; update = update_reads; paths = paths_read }
