use Rattle.std.proofs.Common.{◌++◌, None, sym, ap, ◌∙◌}
use Rattle.std.proofs.lemmas.Result.{IfOk-weaker}
use Rattle.index_feed.specs.Feed.{change_of}
use Rattle.txn_core.specs.Indexing.{indexed}
use Rattle.index_changes.proofs.row_changes.add_new.Goals as goal

pub returns-in-Some : goal.returns-in-Some
returns-in-Some g c =
    IfOk-weaker c.add_row.result _ _
    (λ u h n. h n ∙ ap (λ o. c.args.changes.now.items ++ change_of (indexed (g.R.Rules.protocol n).core (g.R.Rules.protocol n).index) c.args.index None o) (sym c.in-Some.is))
    c.add_row.ensures
