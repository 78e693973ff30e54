use Rattle.std.specs.Map.{lookup}
use Rattle.std.proofs.Common.{rules, ◌≡◌, None, Some, ap, ◌∙◌, subst}
use Rattle.table_model.specs.declared.reply.Reply.TheVariants as answer
use Rattle.table_model.specs.declared.refusal.Refusal.TheVariants.{NoTable}
use Rattle.table_model.specs.Database.{Database}
use Rattle.table_model.specs.Catalog.{delete_table, without_table}
use Rattle.numbered_tables.specs.Tables.{table_in, tables_in, database_in}
use Rattle.numbered_tables.proofs.Kept.{at, absent, there, no_table, the_table, removed_in, idle_removed}
use Rattle.plain_database.proofs.Sound.{keyed_removed}
use Rattle.plain_database.proofs.database.SlowDb.delete_table.Goals as goal

pub returns-in_default-clause-ok : goal.returns-in_default-clause-ok
returns-in_default-clause-ok c =
    let t = c.self.inside in
    let name = c.args.request.table in
    let db : Database = database_in t.tables.entries t.tokens t.made in
    let none : lookup (at name) t.tables.entries ≡ None = search rules in
    subst (λ (d : Database). (d, answer.Refused (NoTable name)) ≡ delete_table d c.args.request) c.self.view_is
    (no_table db name (λ table. (without_table db name, answer.Described table.schema)) (absent t.tables.entries t.tokens t.made name none))

pub invariant_of-self : goal.invariant_of-self
invariant_of-self c =
    let name = c.args.request.table in
    let es = c.self.inside.tables.entries in
    rw c.remove.ensures.entries (record {
      idle = idle_removed (at name) es c.self.invariant.idle;
      keyed = keyed_removed (at name) es c.self.invariant.keyed;
    })

pub returns-clause-ok : goal.returns-clause-ok
returns-clause-ok c =
    let t = c.self.inside in
    let x = c.in-Some.table.now in
    let name = c.args.request.table in
    let db : Database = database_in t.tables.entries t.tokens t.made in
    let found : lookup (at name) t.tables.entries ≡ Some x = search rules in
    let schema : c.in_ok-described.described ≡ x.rows.schema = search rules in
    (λ i. (
      (let d : Database = record { tables = (ap tables_in c.remove.ensures.entries ∙ removed_in (at name) t.tables.entries) i; tokens = t.tokens; made = t.made } in d),
      answer.Described (schema i),
    ))
    ∙ the_table db name (λ table. (without_table db name, answer.Described table.schema)) (table_in x) (there t.tables.entries t.tokens t.made name x found)
    ∙ ap (λ (d : Database). delete_table d c.args.request) c.self.view_is
