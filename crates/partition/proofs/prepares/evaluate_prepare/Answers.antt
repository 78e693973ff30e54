use Rattle.std.proofs.Common.{rules, ◌≡◌, None}
use Rattle.std.proofs.lemmas.Result.{IfOk-weaker}
use Rattle.std.specs.Option.{option_copied}
use Rattle.item_store.specs.Slots.{holder_of}
use Rattle.partition.proofs.Evaluated.{found, is_early, prepare_evaluated}
use Rattle.partition.proofs.prepares.evaluate_prepare.Goals as goal

pub returns : goal.returns
returns g c =
    let cell = c.args.cell.now in
    let none : holder_of (option_copied c.slot-slot.result) ≡ None = first_of (cc, search rules) in
    IfOk-weaker c.evaluate.result _ _
    (λ made is n.
    let S = g.R.Rules.protocol n in
    prepare_evaluated S cell c.args.action.now g.R.CellRules.locals c.args.number c.args.stamp (option_copied c.row_of.result)
    (found S cell c.args.action.now c.key_of-key.result.now (c.key_of-key.ensures n) c.table_of.result (c.table_of.ensures n)
    (option_copied c.slot-slot.result) c.slot-slot.ensures c.is_there.result (c.is_there.ensures n) c.if-not-is_there.false none (option_copied c.row_of.result) c.row_of.ensures)
    (is_early S cell c.args.action.now c.key_of-key.result.now (c.key_of-key.ensures n) c.table_of.result (c.table_of.ensures n)
    (option_copied c.slot-slot.result) c.slot-slot.ensures c.last_change-last.result c.args.stamp c.last_change-last.ensures c.is_earlier.result c.is_earlier.ensures c.if-not-is_earlier.false)
    made (is n))
    c.evaluate.ensures
