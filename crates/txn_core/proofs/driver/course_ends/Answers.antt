use Rattle.txn_core.proofs.CourseEnds.{ended, prepared, decided, done, left}
use Rattle.txn_core.proofs.driver.course_ends.Goals as goal

pub returns : goal.returns
returns c = record { ended = ended; prepared = prepared; decided = decided; done = done; left = left }
