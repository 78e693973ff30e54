use Rattle.std.proofs.Common.{◌≡◌, sym, ◌∙◌, arith}
use Rattle.txn_core.proofs.Basics.{some_is}
use Rattle.txn_replay.proofs.Asked.{tells_none}
use Rattle.txn_replay.proofs.asking.ask_one.Goals as goal

pub ask_ledger-requires : goal.ask_ledger-requires
ask_ledger-requires g c = λ n. sym (c.is_of_control.ensures n) ∙ c.if-is_of_control.true

pub returns-then-place-partitions-clause-tells : goal.returns-then-place-partitions-clause-tells
returns-then-place-partitions-clause-tells g c =
    let n = c.args.partitions in
    let S = g.R.Rules.protocol n in
    let numbered = g.met.R.Rules.numbered n in
    let some = c.requires.some in
    let beyond = c.if-place-partitions.true in
    let is = c.in-Some.is in
    tells_none S g.R.CellRules.locals (g.met.R.Rules.lawful n) c.args.cells.now c.args.message.now c.args.moment (omega arith) c.requires.one
    (sym (c.is_of_control.ensures n) ∙ c.if-is_of_control.false)
    (λ i sent below. let same : c.in-Some.place ≡ i = some_is c.in-Some.place i (sym is ∙ (c.sent_to.ensures ∙ sent)) in omega arith)
