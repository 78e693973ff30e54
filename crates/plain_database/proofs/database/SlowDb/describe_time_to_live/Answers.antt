use Rattle.std.specs.Map.{lookup}
use Rattle.std.proofs.Common.{rules, ◌≡◌, None, Some, ◌∙◌, subst}
use Rattle.table_model.specs.declared.reply.Reply.TheVariants as answer
use Rattle.table_model.specs.declared.refusal.Refusal.TheVariants.{NoTable}
use Rattle.table_model.specs.Database.{Database}
use Rattle.table_model.specs.Catalog.{describe_time_to_live}
use Rattle.numbered_tables.specs.Tables.{table_in, database_in}
use Rattle.numbered_tables.proofs.Kept.{at, absent, there, no_table, the_table}
use Rattle.plain_database.proofs.database.SlowDb.describe_time_to_live.Goals as goal

pub returns-in_default : goal.returns-in_default
returns-in_default c =
    let t = c.self.inside in
    let name = c.args.request.table in
    let db : Database = database_in t.tables.entries t.tokens t.made in
    let none : lookup (at name) t.tables.entries ≡ None = search rules in
    subst (λ (d : Database). (d, answer.Refused (NoTable name)) ≡ describe_time_to_live d c.args.request) c.self.view_is
    (no_table db name (λ table. (db, answer.TimeToLive table.schema.ttl)) (absent t.tables.entries t.tokens t.made name none))

pub returns : goal.returns
returns c =
    let t = c.self.inside in
    let x = c.in-Some.table.now in
    let name = c.args.request.table in
    let db : Database = database_in t.tables.entries t.tokens t.made in
    let found : lookup (at name) t.tables.entries ≡ Some x = search rules in
    let name_is : c.match-schema.name ≡ x.rows.schema.ttl = search rules in
    subst (λ (d : Database). (d, answer.TimeToLive c.match-schema.name) ≡ describe_time_to_live d c.args.request) c.self.view_is
    ((λ i. (db, answer.TimeToLive (name_is i)))
    ∙ the_table db name (λ table. (db, answer.TimeToLive table.schema.ttl)) (table_in x) (there t.tables.entries t.tokens t.made name x found))
