use Rattle.std.proofs.Common.{sym, subst, reverse}
use Rattle.std.specs.Prelude.{◌↔◌, IsTrue}
use Rattle.txn_core.specs.Breaks.{ReleasesLate}
use Rattle.txn_core.proofs.Duties.{releases_other}
use Rattle.txn_core.proofs.order.releases_late.Goals as goal

pub returns-in-Release : goal.returns-in-Release
returns-in-Release g c = λ n pass. subst (λ m. IsTrue c.may_release.result ↔ ReleasesLate (g.R.Rules.protocol n) (reverse c.args.past.now) pass m) (sym c.in-Release.is) (c.may_release.ensures)

pub returns-in_default : goal.returns-in_default
returns-in_default g c = λ n pass. releases_other (g.R.Rules.protocol n) (reverse c.args.past.now) pass c.args.message.now c.in_default.not-Release
