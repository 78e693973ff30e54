use Rattle.std.proofs.Common.{ap, ◌∙◌, subst}
use Rattle.numbered_tables.specs.Tables.{tables_in}
use Rattle.numbered_tables.specs.Changes.{IsChanged, has_repeat}
use Rattle.numbered_tables.proofs.Removals.{removed_once, removed_all}
use Rattle.numbered_tables.proofs.expired.sweep.Goals as goal

pub change_all-requires-clause-apart : goal.change_all-requires-clause-apart
change_all-requires-clause-apart c =
    ap has_repeat c.in_ok-changes.ensures.changes
    ∙ removed_once c.args.second c.args.tables.now.entries c.in_ok-changes.ensures.names c.in_ok-changes.ensures.rows

pub returns-clause-ok : goal.returns-clause-ok
returns-clause-ok c =
    let es = c.args.tables.now.entries in
    let new = c.change_all.new.tables.entries in
    ap tables_in c.look_out.ensures
    ∙ removed_all c.args.second es new c.in_ok-changes.ensures.names c.in_ok-changes.ensures.rows
    (subst (λ (changes : _). IsChanged es changes new) c.in_ok-changes.ensures.changes c.in_ok-change_all.ensures.ok)
