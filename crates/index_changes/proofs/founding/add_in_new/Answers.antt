use Rattle.std.proofs.Common.{◌≡◌, ◌++◌, [], None, Some, false, if◌then◌else◌, sym, ap, ◌∙◌}
use Rattle.std.proofs.lemmas.Result.{IfOk-weaker}
use Rattle.index_feed.specs.Feed.{change_of, row_in}
use Rattle.txn_core.specs.Indexing.{indexed}
use Rattle.index_changes.specs.Commands.{is_in}
use Rattle.index_changes.proofs.founding.add_in_new.Goals as goal

pub returns : goal.returns
returns g c =
    let new : is_in c.args.old.now c.args.index ≡ false = sym c.is_one_of.ensures ∙ c.if-is_one_of.false in
    IfOk-weaker c.add_new.result _ _
    (λ x h n.
    let I = indexed (g.R.Rules.protocol n).core (g.R.Rules.protocol n).index in
    h n
    ∙ ap (λ r. c.args.changes.now.items ++ change_of I c.args.index None r) (c.in_ok-row.ensures n)
    ∙ sym (λ j. c.args.changes.now.items ++ (if new j then [] else change_of I c.args.index None (row_in I c.args.after.now c.args.index c.args.key.now (Some c.args.item.now)))))
    c.add_new.ensures
