use Rattle.std.proofs.Common.{◌≡◌, Some, sym, ap, ◌∙◌}
use Rattle.std.specs.Option.{option_copied}
use Rattle.index_changes.specs.Commands.{subject}
use Rattle.partition.proofs.InTheWay.{tells}
use Rattle.partition.proofs.in_the_way.first_holder.Goals as goal

pub returns : goal.returns
returns g c = λ n i.
    let its : subject (g.R.CommandRules.target c.args.command.now c.args.cell.now.catalog) ≡ Some c.in_ok-number.number =
    sym c.subject_of.ensures ∙ c.in_ok-number.was in
    tells (g.R.Rules.protocol n) g.met.R.Key.Ord.total (g.met.R.CommandRules.commands n) i c.args.command.now c.args.cell.now c.in_ok-number.number its
    c.in_ok-table.field-0.now (sym c.table.ensures ∙ ap (λ o. option_copied o) c.in_ok-table.was) c.least_holder.ensures.order c.least_holder.result c.least_holder.ensures.least
