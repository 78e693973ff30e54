use Rattle.std.proofs.Common.{sym}
use Rattle.recovery_manager.proofs.Expired.{not_expired}
use Rattle.recovery_manager.proofs.expiring.is_expired.Goals as goal

pub returns-in_default : goal.returns-in_default
returns-in_default g c = sym (not_expired c.args.answer.now c.in_default.not-Expired)
