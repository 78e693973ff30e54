use Rattle.std.proofs.Common.{length}
use Rattle.cell_service.proofs.meeting.+meet_helpers.Given as goal

abbrev pub decreases-meet_helpers : goal.decreases-meet_helpers
decreases-meet_helpers l = length l.helpers.now
