use Rattle.std.proofs.Common.{◌≡◌, sym, subst}
use Rattle.table_model.specs.Database.{Database}
use Rattle.table_model.specs.Transactions.{transact_get}
use Rattle.plain_database.proofs.database.SlowDb.transact_get.Goals as goal

pub returns : goal.returns
returns c =
    let t = c.self.inside in
    subst (λ (d : Database). (d, c.in_ok-reply.reply) ≡ transact_get d c.args.request) c.self.view_is (sym (c.in_ok-reply.ensures t.tokens t.made))
