use Rattle.std.proofs.Common.{sym, ◌∙◌, subst}
use Rattle.txn_core.specs.Legal.{ArePendings}
use Rattle.partition.proofs.Holders.{are_pendings}
use Rattle.partition.proofs.held_items.pendings.Goals as goal

pub returns : goal.returns
returns g c = λ n i w f here.
    let S = g.R.Rules.protocol n in
    subst (λ held. ArePendings S w i held) (sym (c.from.ensures ∙ c.in_ok-held.ensures.held))
    (are_pendings S (g.met.R.Rules.lawful n) (g.met.R.CellRules.ordered n) g.met.R.Key.Ord.total i c.args.cell.now w f here c.in_ok-held.ensures.order)
