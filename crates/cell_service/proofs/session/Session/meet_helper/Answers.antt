use Rattle.cell_service.proofs.Told.{told_seen}
use Rattle.cell_service.proofs.session.Session.meet_helper.Goals as goal

pub invariant_of-self : goal.invariant_of-self
invariant_of-self c = told_seen c.self.inside.pass _ c.meet.new.pass.front c.meet.ensures.trail c.self.inside.looks c.self.invariant
