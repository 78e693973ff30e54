use Rattle.std.proofs.Common.{◌∙◌, ◌&&◌}
use Rattle.txn_replay.specs.Held.{are_among, are_once}
use Rattle.txn_replay.proofs.Holding.{both_lists, no_list}
use Rattle.txn_replay.proofs.pendings.are_same_pendings.Goals as goal

pub returns-in-PendingList-told : goal.returns-in-PendingList-told
returns-in-PendingList-told g c = λ n.
    let P = (g.R.Rules.protocol n).core in
    let xs = c.as_slice.ensures in
    let ys = c.as_slice-in-PendingList-told.ensures in
    both_lists (g.R.Rules.protocol n) (g.met.R.Rules.lawful n) c.args.given.now c.args.told.now c.in-PendingList.pendings
    c.in-PendingList-told.others c.in-PendingList.is c.in-PendingList-told.is c.are_same.result
    (c.are_same.ensures n ∙ (λ j. are_among P (ys j) (xs j) && (are_among P (xs j) (ys j) && are_once P (ys j))))

pub returns-in_default-told : goal.returns-in_default-told
returns-in_default-told g c = λ n.
    no_list (g.R.Rules.protocol n) c.args.given.now c.args.told.now (λ xs ys is at. c.in_default-told.not-PendingList ys at)
