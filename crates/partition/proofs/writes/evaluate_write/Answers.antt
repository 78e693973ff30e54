use Rattle.std.proofs.Common.{rules, ◌≡◌, None}
use Rattle.std.proofs.lemmas.Result.{IfOk-weaker}
use Rattle.std.specs.Option.{option_copied}
use Rattle.item_store.specs.Slots.{holder_of}
use Rattle.partition.proofs.Evaluated.{found, write_evaluated}
use Rattle.partition.proofs.writes.evaluate_write.Goals as goal

pub returns : goal.returns
returns g c =
    let none : holder_of (option_copied c.slot-slot.result) ≡ None = first_of (cc, search rules) in
    IfOk-weaker c.evaluate.result _ _
    (λ made is n.
    let S = g.R.Rules.protocol n in
    write_evaluated S c.args.cell.now c.args.action.now g.R.CellRules.locals (option_copied c.row_of.result)
    (found S c.args.cell.now c.args.action.now c.key_of-key.result.now (c.key_of-key.ensures n) c.table_of.result (c.table_of.ensures n)
    (option_copied c.slot-slot.result) c.slot-slot.ensures c.is_there.result (c.is_there.ensures n) c.if-not-is_there.false none (option_copied c.row_of.result) c.row_of.ensures)
    made (is n))
    c.evaluate.ensures
