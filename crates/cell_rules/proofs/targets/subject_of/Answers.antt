use Rattle.std.proofs.Common.{sym, ◌∙◌}
use Rattle.cell_rules.specs.TargetLaws.{same_subject}
use Rattle.cell_rules.proofs.targets.subject_of.Goals as goal

pub returns : goal.returns
returns c = c.waits_for.ensures ∙ sym (same_subject c.args.command.now c.args.catalog.now)
