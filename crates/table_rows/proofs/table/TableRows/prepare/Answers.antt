use Rattle.std.proofs.Common.{rules, ◌≡◌, Option, IfSome, sym, subst}
use Rattle.std.specs.Option.{option_copied}
use Rattle.attr_value.specs.Tree.{Attributes}
use Rattle.table_schema.specs.declared.schema.Schema.{Schema}
use Rattle.table_rows.specs.declared.change.RowChange.{RowChange}
use Rattle.table_rows.specs.declared.quiet.Quiet.{Quiet}
use Rattle.table_rows.specs.Quiet.{IsQuiet, IsWatched}
use Rattle.table_rows.proofs.Quiets.{watched_quiet}
use Rattle.table_rows.proofs.table.TableRows.prepare.Goals as goal

pub invariant_of-self : goal.invariant_of-self
invariant_of-self c = λ quiet is. subst (IsQuiet quiet) (sym c.in_err-prepare.ensures.err) (c.self.invariant quiet is)

pub invariant_of-self-2 : goal.invariant_of-self-2
invariant_of-self-2 c = λ quiet is.
    let t = c.self.inside.rows in
    let change : RowChange = record { key = c.args.key; new = c.args.new } in
    let same : option_copied c.as_ref.result ≡ c.args.new = search rules in
    let lent : IsWatched c.self.inside.quiet c.schema.result.now (option_copied c.as_ref.result) quiet =
    subst (λ (q : Option Quiet). IfSome q (IsWatched c.self.inside.quiet c.schema.result.now (option_copied c.as_ref.result))) is c.watched-quiet.ensures in
    let of_schema : IsWatched c.self.inside.quiet t.schema (option_copied c.as_ref.result) quiet =
    subst (λ (s : Schema). IsWatched c.self.inside.quiet s (option_copied c.as_ref.result) quiet) c.schema.ensures lent in
    let watched : IsWatched c.self.inside.quiet t.schema change.new quiet =
    subst (λ (item : Option Attributes). IsWatched c.self.inside.quiet t.schema item quiet) same of_schema in
    subst (IsQuiet quiet) (sym c.in_ok-prepare.ensures.ok) (watched_quiet c.self.inside.quiet quiet t change c.self.invariant watched)
