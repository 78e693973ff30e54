use Rattle.std.proofs.Common.{sym, ◌∙◌}
use Rattle.txn_replay.proofs.Commanded.{carries_here}
use Rattle.txn_replay.proofs.commands.carry_out_in.Goals as goal

pub returns : goal.returns
returns g c = λ n.
    carries_here (g.R.Rules.protocol n) g.R.CellRules.locals g.R.CommandRules.target g.R.CommandRules.numbers c.args.here c.args.cell.now
    c.plan_catalog.new.cell c.commit_catalog.new.cell c.args.command.now c.args.moment
    (λ many. c.in_ok-plan_catalog.ensures.planned n (sym (many ∙ g.met.R.Rules.numbered n))) (λ i. c.in_ok-plan_catalog.ensures.kept n i)
    (c.in_ok-plan_catalog.ensures.in_step n) (c.commit_catalog.ensures.own n c.args.here c.args.moment)
    (c.commit_catalog.ensures.own_in_step n c.args.here c.args.moment)
