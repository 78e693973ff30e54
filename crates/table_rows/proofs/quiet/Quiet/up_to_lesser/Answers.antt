use Rattle.std.proofs.Common.{sym, ◌∙◌, subst}
use Rattle.table_rows.specs.Quiet.{NarrowsTo}
use Rattle.table_rows.proofs.Quiets.{stays, ends_earlier}
use Rattle.table_rows.proofs.quiet.Quiet.up_to_lesser.Goals as goal

pub returns-then-lt : goal.returns-then-lt
returns-then-lt c = stays c.args.number c.args.until c.args.self c.requires (sym c.lt.ensures ∙ c.if-lt.true)

pub returns-else-lt : goal.returns-else-lt
returns-else-lt c =
    subst (NarrowsTo c.args.number c.args.self) (sym c.ending.ensures)
    (ends_earlier c.args.number c.args.self c.args.until c.requires (sym c.lt.ensures ∙ c.if-lt.false))
