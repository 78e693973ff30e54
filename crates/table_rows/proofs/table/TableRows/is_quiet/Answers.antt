use Rattle.std.proofs.Common.{rules, ◌≡◌, [], None, sym, subst, ◌∙◌}
use Rattle.table_rows.specs.View.{TableView}
use Rattle.table_rows.specs.Quiet.{expired_rows}
use Rattle.table_rows.proofs.Quiets.{none_expired, never_expired}
use Rattle.table_rows.proofs.table.TableRows.is_quiet.Goals as goal

pub returns-then-is_none : goal.returns-then-is_none
returns-then-is_none c =
    let t = c.args.self.now in
    let none : t.schema.ttl ≡ None = search rules in
    λ quiet. never_expired t.schema c.args.second none t.rows

pub returns-in-Some : goal.returns-in-Some
returns-in-Some c =
    let t = c.self.inside.rows in
    let known = c.self.invariant c.in-Some.quiet c.in-Some.is in
    λ quiet.
    let within = sym c.has.ensures ∙ quiet in
    subst (λ (v : TableView). expired_rows v.schema c.args.second v.rows ≡ []) c.self.view_is
    (none_expired t.schema c.args.second c.in-Some.quiet within t.rows known.rows)
