use Rattle.std.proofs.Common.{◌∙◌}
use Rattle.coordinator.proofs.reasons.make_ready.Goals as goal

pub returns-in_default-clause-ready : goal.returns-in_default-clause-ready
returns-in_default-clause-ready g c = λ told so e. absurd (c.in_default.not-Cancel (c.next.ensures told so ∙ e))
