use Rattle.std.specs.Map.{lookup}
use Rattle.std.proofs.Common.{rules, ◌≡◌, None, Some, sym, subst}
use Rattle.item_keys.specs.ItemKey.{key_alone}
use Rattle.table_model.specs.declared.reply.Reply.TheVariants as answer
use Rattle.table_model.specs.declared.refusal.Refusal.TheVariants.{NoTable}
use Rattle.table_model.specs.Database.{Database, at_key}
use Rattle.table_model.specs.Writes.{old_at}
use Rattle.table_model.specs.Reads.{get_item, told_read}
use Rattle.numbered_tables.specs.Tables.{database_in}
use Rattle.numbered_tables.proofs.Kept.{at, absent, there, no_table}
use Rattle.plain_database.proofs.database.SlowDb.get_item.Goals as goal

pub returns-in_default : goal.returns-in_default
returns-in_default c =
    let t = c.self.inside in
    let r = c.args.request in
    let db : Database = database_in t.tables.entries t.tokens t.made in
    let none : lookup (at r.table) t.tables.entries ≡ None = search rules in
    subst (λ (d : Database). (d, answer.Refused (NoTable r.table)) ≡ get_item d r) c.self.view_is
    (no_table db r.table
    (λ table. at_key db (key_alone table.schema table.schema.keys r.key) (λ key. (db, told_read r (old_at table key))))
    (absent t.tables.entries t.tokens t.made r.table none))

pub returns : goal.returns
returns c =
    let t = c.self.inside in
    let r = c.args.request in
    let x = c.in-Some.table.now in
    let db : Database = database_in t.tables.entries t.tokens t.made in
    let found : lookup (at r.table) t.tables.entries ≡ Some x = search rules in
    subst (λ (d : Database). (d, c.in_ok-reply.reply) ≡ get_item d r) c.self.view_is
    (sym (c.in_ok-reply.ensures db x.number (there t.tables.entries t.tokens t.made r.table x found)))
