use Rattle.std.proofs.Common.{rules, ◌≡◌, None, Some, sym, subst}
use Rattle.std.specs.Option.{option_copied}
use Rattle.table_rows.specs.Quiet.{IsQuietFor}
use Rattle.table_rows.proofs.Quiets.{same_seconds, nothing_quiet, never_quiet, after_quiet}
use Rattle.table_rows.proofs.quiet.Quiet.with.Goals as goal

pub returns-in_default-clause-narrower : goal.returns-in_default-clause-narrower
returns-in_default-clause-narrower c = same_seconds c.args.self

pub returns-in_default-clause-quiet : goal.returns-in_default-clause-quiet
returns-in_default-clause-quiet c =
    let none : option_copied c.args.item ≡ None = search rules in
    nothing_quiet c.args.self c.args.schema.now (option_copied c.args.item) none

pub returns-in-Never-clause-narrower : goal.returns-in-Never-clause-narrower
returns-in-Never-clause-narrower c = same_seconds c.args.self

pub returns-in-Never-clause-quiet : goal.returns-in-Never-clause-quiet
returns-in-Never-clause-quiet c =
    let some : option_copied c.args.item ≡ Some c.item.result.now = search rules in
    subst (IsQuietFor c.args.self c.args.schema.now) (sym some)
    (never_quiet c.args.self c.args.schema.now c.item.result.now c.in-Never.ensures.later)

pub returns-in-After-clause-quiet : goal.returns-in-After-clause-quiet
returns-in-After-clause-quiet c =
    let some : option_copied c.args.item ≡ Some c.item.result.now = search rules in
    subst (IsQuietFor c.up_to.result c.args.schema.now) (sym some)
    (after_quiet c.args.self c.up_to.result c.args.schema.now c.item.result.now c.in-After.number c.up_to.ensures c.in-After.ensures.later)
