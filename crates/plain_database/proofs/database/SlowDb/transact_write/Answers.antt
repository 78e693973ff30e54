use Rattle.std.proofs.Common.{sym, ap, ◌∙◌}
use Rattle.table_request.specs.declared.request.Request.TheVariants as request
use Rattle.table_model.specs.Database.{Database}
use Rattle.table_model.specs.Transactions.{transact_write}
use Rattle.plain_database.proofs.Requests.{stays_keyed}
use Rattle.numbered_tables.specs.Tables.{database_in}
use Rattle.plain_database.proofs.database.SlowDb.transact_write.Goals as goal

pub invariant_of-self-2 : goal.invariant_of-self-2
invariant_of-self-2 c =
    let t = c.self.inside in
    record {
      idle = c.in_ok-reply.ensures.idle;
      keyed = stays_keyed (database_in t.tables.entries t.tokens t.made) (request.TransactWrite c.args.request) c.args.moment
          (database_in c.transact_write.new.tables.entries c.transact_write.new.tokens t.made) c.in_ok-reply.reply c.self.invariant.keyed
          (sym (c.in_ok-reply.ensures.ok t.made));
    }

pub returns-clause-ok : goal.returns-clause-ok
returns-clause-ok c =
    let t = c.self.inside in
    sym (c.in_ok-reply.ensures.ok t.made) ∙ ap (λ (d : Database). transact_write d c.args.request c.args.moment) c.self.view_is
