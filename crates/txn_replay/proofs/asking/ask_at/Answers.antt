use Rattle.std.proofs.Common.{◌<◌, length, refl, sym, ◌∙◌, arith}
use Rattle.std.specs.Vec.{with_item}
use Rattle.partition.proofs.Moved.{if_ok_with}
use Rattle.txn_replay.proofs.Asked.{beside_leads, beside_tells, partition_tells, partitions_lead}
use Rattle.txn_replay.proofs.asking.ask_at.Goals as goal

pub returns-then-not-is_served-clause-tells : goal.returns-then-not-is_served-clause-tells
returns-then-not-is_served-clause-tells g c =
    let n = c.args.partitions in
    let cells = c.args.cells.now in
    let count = c.requires.count in
    let within = c.requires.within in
    let below : c.args.place < length cells.partitions.items = omega arith in
    if_ok_with c.ask_beside.result c.ask_beside.ensures
    (λ answer t.
    beside_tells (g.R.Rules.protocol n) g.R.CellRules.locals (g.met.R.Rules.lawful n) cells c.args.message.now c.args.moment c.args.place
    c.index_mut-cell.result.now below c.index_mut-cell.ensures.value c.requires.sent c.requires.elsewhere
    (sym c.is_served.ensures ∙ c.if-not-is_served.true) answer (t n c.requires.some))

pub returns-then-not-is_served-clause-leads : goal.returns-then-not-is_served-clause-leads
returns-then-not-is_served-clause-leads g c =
    let n = c.args.partitions in
    let cells = c.args.cells.now in
    let count = c.requires.count in
    let within = c.requires.within in
    let below : c.args.place < length cells.partitions.items = omega arith in
    let old = c.index_mut-cell.result.now in
    if_ok_with c.ask_beside.result c.ask_beside.ensures
    (λ answer t.
    beside_leads (g.R.Rules.protocol n) g.R.CellRules.locals (g.met.R.Rules.lawful n) cells c.args.message.now c.args.moment c.args.place
    old below c.index_mut-cell.ensures.value c.requires.sent c.requires.elsewhere
    (sym c.is_served.ensures ∙ c.if-not-is_served.true) answer (t n c.requires.some)
    record { partitions = with_item cells.partitions c.args.place old; control = cells.control; catalog = cells.catalog })

pub returns-clause-tells : goal.returns-clause-tells
returns-clause-tells g c =
    let n = c.args.partitions in
    let cells = c.args.cells.now in
    let count = c.requires.count in
    let within = c.requires.within in
    let below : c.args.place < length cells.partitions.items = omega arith in
    partition_tells (g.R.Rules.protocol n) g.R.CellRules.locals (g.met.R.Rules.lawful n) cells c.args.message.now c.args.moment c.args.place
    c.index_mut-cell.result.now below c.index_mut-cell.ensures.value c.requires.sent c.in_ok-answer.answer (c.in_ok-answer.ensures.answers n)

pub returns-clause-leads : goal.returns-clause-leads
returns-clause-leads g c =
    let n = c.args.partitions in
    let cells = c.args.cells.now in
    let count = c.requires.count in
    let within = c.requires.within in
    let below : c.args.place < length cells.partitions.items = omega arith in
    let new = c.ask_partition.new.cell in
    partitions_lead (g.R.Rules.protocol n) g.R.CellRules.locals (g.met.R.Rules.lawful n) cells c.args.message.now c.args.moment c.args.place
    c.index_mut-cell.result.now below c.index_mut-cell.ensures.value c.requires.sent (c.others_leave_it.ensures n) c.requires.elsewhere
    c.in_ok-answer.answer new
    record { partitions = with_item cells.partitions c.args.place new; control = cells.control; catalog = cells.catalog } refl refl refl
    (c.in_ok-answer.ensures.stands n) (c.ask_partition.ensures.in_step n)
