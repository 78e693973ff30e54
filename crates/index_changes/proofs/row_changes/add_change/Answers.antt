use Rattle.std.proofs.Common.{◌++◌, sym, ap, ◌∙◌}
use Rattle.std.proofs.lemmas.Result.{IfOk-weaker}
use Rattle.index_feed.specs.Feed.{change_of}
use Rattle.txn_core.specs.Indexing.{indexed}
use Rattle.index_changes.proofs.row_changes.add_change.Goals as goal

pub returns-in_default : goal.returns-in_default
returns-in_default g c =
    IfOk-weaker c.add_new.result _ _
    (λ u h n. h n ∙ ap (λ o. c.args.changes.now.items ++ change_of (indexed (g.R.Rules.protocol n).core (g.R.Rules.protocol n).index) c.args.index o c.args.new) (sym c.in_default.is))
    c.add_new.ensures

pub returns-in_default-new : goal.returns-in_default-new
returns-in_default-new g c =
    IfOk-weaker c.add_removal.result _ _
    (λ u h n. h n ∙ (λ j. c.args.changes.now.items ++ change_of (indexed (g.R.Rules.protocol n).core (g.R.Rules.protocol n).index) c.args.index (sym c.in-Some.is j) (sym c.in_default-new.is j)))
    c.add_removal.ensures

pub returns : goal.returns
returns g c =
    IfOk-weaker c.add_both.result _ _
    (λ u h n. h n ∙ (λ j. c.args.changes.now.items ++ change_of (indexed (g.R.Rules.protocol n).core (g.R.Rules.protocol n).index) c.args.index (sym c.in-Some.is j) (sym c.in-Some-new.is j)))
    c.add_both.ensures
