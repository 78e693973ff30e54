use Rattle.txn_replay.proofs.Single.{told_in_any_order, told_so}
use Rattle.txn_replay.proofs.answers.is_told_so.Goals as goal

pub returns-in-Pendings : goal.returns-in-Pendings
returns-in-Pendings g c = λ n.
    told_in_any_order (g.R.Rules.protocol n) c.args.message.now c.in-Pendings._cell c.in-Pendings.is c.args.given.now c.args.told.now
    c.are_same_pendings.result (c.are_same_pendings.ensures n)

pub returns-in_default : goal.returns-in_default
returns-in_default g c = λ n.
    told_so (g.R.Rules.protocol n) c.args.message.now c.args.given.now c.args.told.now c.are_equal_answers.result c.in_default.not-Pendings
    c.are_equal_answers.ensures
