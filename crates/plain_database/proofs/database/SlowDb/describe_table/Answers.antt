use Rattle.std.specs.Map.{lookup}
use Rattle.std.proofs.Common.{rules, ◌≡◌, None, Some, ◌∙◌, subst}
use Rattle.table_model.specs.declared.reply.Reply.TheVariants as answer
use Rattle.table_model.specs.declared.refusal.Refusal.TheVariants.{NoTable}
use Rattle.table_model.specs.Database.{Database}
use Rattle.table_model.specs.Catalog.{describe_table}
use Rattle.numbered_tables.specs.Tables.{table_in, database_in}
use Rattle.numbered_tables.proofs.Kept.{at, absent, there, no_table, the_table}
use Rattle.plain_database.proofs.database.SlowDb.describe_table.Goals as goal

pub returns-in_default : goal.returns-in_default
returns-in_default c =
    let t = c.self.inside in
    let name = c.args.request.table in
    let db : Database = database_in t.tables.entries t.tokens t.made in
    let none : lookup (at name) t.tables.entries ≡ None = search rules in
    subst (λ (d : Database). (d, answer.Refused (NoTable name)) ≡ describe_table d c.args.request) c.self.view_is
    (no_table db name (λ table. (db, answer.Table table.schema)) (absent t.tables.entries t.tokens t.made name none))

pub returns : goal.returns
returns c =
    let t = c.self.inside in
    let x = c.in-Some.table.now in
    let name = c.args.request.table in
    let db : Database = database_in t.tables.entries t.tokens t.made in
    let found : lookup (at name) t.tables.entries ≡ Some x = search rules in
    let schema : c.in_ok-description.description ≡ x.rows.schema = search rules in
    subst (λ (d : Database). (d, answer.Table c.in_ok-description.description) ≡ describe_table d c.args.request) c.self.view_is
    ((λ i. (db, answer.Table (schema i)))
    ∙ the_table db name (λ table. (db, answer.Table table.schema)) (table_in x) (there t.tables.entries t.tokens t.made name x found))
