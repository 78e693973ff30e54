use Rattle.std.proofs.Common.{◌≡◌, subst}
use Rattle.std.specs.Prelude.{◌↔◌, IsTrue}
use Rattle.txn_core.proofs.order.has_stamp.Goals as goal

pub returns : goal.returns
returns g c = subst (λ s. IsTrue c.are_equal_stamps.result ↔ (c.args.stamp ≡ s)) c.stamp_of.ensures c.are_equal_stamps.ensures
