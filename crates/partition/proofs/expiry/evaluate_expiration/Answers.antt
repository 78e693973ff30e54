use Rattle.std.proofs.Common.{rules, ◌≡◌, None, ap, ◌∙◌}
use Rattle.std.proofs.lemmas.Result.{IfOk-weaker}
use Rattle.std.specs.Option.{option_copied}
use Rattle.item_store.specs.Slots.{holder_of}
use Rattle.txn_core.specs.Legal.{only_expired}
use Rattle.partition.proofs.Evaluated.{expire_evaluated, found}
use Rattle.partition.proofs.expiry.evaluate_expiration.Goals as goal

pub returns : goal.returns
returns g c =
    let none : holder_of (option_copied c.slot-slot.result) ≡ None = first_of (cc, search rules) in
    IfOk-weaker c.evaluate_removal.result _ _
    (λ made is n.
    let S = g.R.Rules.protocol n in
    let cell = c.args.cell.now in
    let row = option_copied c.row_of.result in
    expire_evaluated S cell c.args.action.now g.R.CellRules.locals c.args.moment row (option_copied c.only_expired-over.result)
    (found S cell c.args.action.now c.key_of-key.result.now (c.key_of-key.ensures n) c.table_of.result (c.table_of.ensures n)
    (option_copied c.slot-slot.result) c.slot-slot.ensures c.is_there.result (c.is_there.ensures n) c.if-not-is_there.false none row c.row_of.ensures)
    (c.only_expired-over.ensures n ∙ ap (λ k. only_expired S cell.catalog k c.args.moment row) (c.key_of-key.ensures n))
    made (is n))
    c.evaluate_removal.ensures
