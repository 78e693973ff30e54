use Rattle.std.proofs.Common.{sym, ◌∙◌}
use Rattle.std.proofs.lemmas.Result.{IfOk-weaker}
use Rattle.txn_core.specs.Indexing.{indexed}
use Rattle.index_changes.proofs.Adding.{moved_apart, moved_over}
use Rattle.index_changes.proofs.row_changes.add_both.Goals as goal

pub returns-then-not-is_same : goal.returns-then-not-is_same
returns-then-not-is_same g c =
    IfOk-weaker c.add_row.result _ _
    (λ u h n. moved_apart (indexed (g.R.Rules.protocol n).core (g.R.Rules.protocol n).index) c.args.index c.args.old c.args.new c.args.changes.now.items c.add_removal.new.changes.items c.add_row.new.changes.items (sym (c.is_same.ensures n) ∙ c.if-not-is_same.true) (c.in_ok-add_removal.ensures n) (h n))
    c.add_row.ensures

pub returns : goal.returns
returns g c =
    IfOk-weaker c.add_row-2.result _ _
    (λ u h n. moved_over (indexed (g.R.Rules.protocol n).core (g.R.Rules.protocol n).index) c.args.index c.args.old c.args.new c.args.changes.now.items c.add_row-2.new.changes.items (sym (c.is_same.ensures n) ∙ c.if-not-is_same.false) (sym (c.are_equal.ensures n) ∙ c.if-are_equal.false) (h n))
    c.add_row-2.ensures
