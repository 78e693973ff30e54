use Rattle.std.proofs.Common.{sym, ◌∙◌}
use Rattle.partition.proofs.Starting.{bare_holds, bare_in_step}
use Rattle.partition.proofs.start.under.Goals as goal

pub returns-clause-holds : goal.returns-clause-holds
returns-clause-holds g c = λ n i same.
    bare_holds (g.R.Rules.protocol n) i _
    (record {
      tables = c.new-2.ensures.tables;
      numbers = c.new-2.ensures.counts;
      prepared = c.new-5.ensures.lists;
      waiting = c.new-4.ensures.waiting;
      sent = c.new-4.ensures.sent;
      marks = c.in_ok-marks.ensures.marks;
      rows = c.new-6.ensures;
    })
    (sym same ∙ sym (g.met.R.Rules.numbered n))

pub returns-clause-in_step : goal.returns-clause-in_step
returns-clause-in_step g c = λ n.
    bare_in_step (g.R.Rules.protocol n) g.R.CellRules.locals g.R.LocalEntry.Ord.cmp c.args.catalog c.new-2.result c.new-5.result.lists c.new-3.result.tables
    c.new-2.ensures.tables c.new-5.ensures.moves c.new-3.ensures
