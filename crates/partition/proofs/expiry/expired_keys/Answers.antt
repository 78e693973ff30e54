use Rattle.std.proofs.Common.{sym, ap, ◌∙◌, take}
use Rattle.txn_core.specs.declared.answer.Answer.{Answer}
use Rattle.partition.proofs.Expired.{at_home, due_is}
use Rattle.partition.proofs.expiry.expired_keys.Goals as goal

pub returns : goal.returns
returns g c = λ n i w f here lists.
    let S = g.R.Rules.protocol n in
    let law = g.met.R.Rules.lawful n in
    let order = g.met.R.CellRules.ordered n in
    let total = g.met.R.Key.Ord.total in
    let cell = c.args.cell.now in
    let sorted = c.in_ok-keys.ensures.order in
    ap (λ ks. Answer.ExpiredList ks)
    (c.from.ensures ∙ c.in_ok-keys.ensures.due n (at_home S law order total i cell w f here c.args.moment sorted)
    ∙ ap (λ ks. take c.args.limit ks) (sym (due_is S law order total i cell w f here c.args.moment sorted lists)))
