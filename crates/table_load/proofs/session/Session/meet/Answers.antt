use Rattle.table_load.proofs.Seen.{told_seen}
use Rattle.table_load.proofs.session.Session.meet.Goals as goal

pub invariant_of-self : goal.invariant_of-self
invariant_of-self c = told_seen c.self.inside.pass _ c.meet.new.pass.front c.meet.ensures.trail c.self.inside.looks c.self.invariant

pub invariant_of-other : goal.invariant_of-other
invariant_of-other c =
    rw c.meet.ensures.other (told_seen c.other.inside.pass _ c.meet.new.pass.front c.meet.ensures.other_trail c.other.inside.looks c.other.invariant)
