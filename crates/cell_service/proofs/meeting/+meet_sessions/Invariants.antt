use Rattle.std.proofs.Common.{length}
use Rattle.cell_service.proofs.meeting.+meet_sessions.Given as goal

abbrev pub decreases-meet_sessions : goal.decreases-meet_sessions
decreases-meet_sessions l = length l.others.now
