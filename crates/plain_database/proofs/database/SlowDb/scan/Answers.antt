use Rattle.std.specs.Map.{lookup}
use Rattle.std.proofs.Common.{rules, ◌≡◌, Option, None, Some, sym, ap, subst}
use Rattle.table_model.specs.declared.reply.Reply.TheVariants as answer
use Rattle.table_model.specs.declared.refusal.Refusal.TheVariants.{NoTable}
use Rattle.table_model.specs.Database.{Database, Table}
use Rattle.table_model.specs.Pages.{source_of, IsInTable, IsFrom, IsScannedFrom, IsScan}
use Rattle.numbered_tables.proofs.Kept.{at, absent, there, idle_at}
use Rattle.plain_database.proofs.Sound.{keyed_at}
use Rattle.plain_database.proofs.database.SlowDb.scan.Goals as goal

pub returns-in_default : goal.returns-in_default
returns-in_default c =
    let t = c.self.inside in
    let r = c.args.request.now in
    let none : lookup (at r.page.table) t.tables.entries ≡ None = search rules in
    subst (λ (d : Database). IsScan d r (answer.Refused (NoTable c.in_ok-name.name))) c.self.view_is
    (subst (λ (o : Option Table). IsInTable r.page.table o (answer.Refused (NoTable c.in_ok-name.name))
    (λ table. IsFrom r.page.index (source_of table.schema r.page.index) (answer.Refused (NoTable c.in_ok-name.name))
    (λ source. IsScannedFrom table r source (answer.Refused (NoTable c.in_ok-name.name)))))
    (sym (absent t.tables.entries t.tokens t.made r.page.table none)) (ap (λ n. answer.Refused (NoTable n)) c.in_ok-name.ensures))

pub scan_table-requires-clause-idle : goal.scan_table-requires-clause-idle
scan_table-requires-clause-idle c =
    let es = c.self.inside.tables.entries in
    let x = c.in-Some.table.now in
    let name = c.args.request.now.page.table in
    let found : lookup (at name) es ≡ Some x = search rules in
    idle_at (at name) es x found c.self.invariant.idle

pub scan_table-requires-clause-keyed : goal.scan_table-requires-clause-keyed
scan_table-requires-clause-keyed c =
    let es = c.self.inside.tables.entries in
    let x = c.in-Some.table.now in
    let name = c.args.request.now.page.table in
    let found : lookup (at name) es ≡ Some x = search rules in
    keyed_at es name x found c.self.invariant.keyed

pub returns : goal.returns
returns c =
    let t = c.self.inside in
    let r = c.args.request.now in
    let x = c.in-Some.table.now in
    let found : lookup (at r.page.table) t.tables.entries ≡ Some x = search rules in
    subst (λ (d : Database). IsScan d r c.in_ok-reply.reply) c.self.view_is
    (subst (λ (o : Option Table). IsInTable r.page.table o c.in_ok-reply.reply
    (λ table. IsFrom r.page.index (source_of table.schema r.page.index) c.in_ok-reply.reply (λ source. IsScannedFrom table r source c.in_ok-reply.reply)))
    (sym (there t.tables.entries t.tokens t.made r.page.table x found)) (c.in_ok-reply.ensures x.number))
