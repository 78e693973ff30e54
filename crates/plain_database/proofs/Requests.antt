-- Every request leaves rows at their keys.
use Rattle.std.proofs.Common.{◌≡◌, ℕ, sym, ap, subst}
use Rattle.table_request.specs.declared.request.Request.{Request}
use Rattle.table_request.specs.declared.request.Request.TheVariants as request
use Rattle.table_model.specs.declared.reply.Reply.{Reply}
use Rattle.table_model.specs.Database.{Database, Effect}
use Rattle.table_model.specs.Effect.{IsEffect}
use Rattle.plain_database.specs.Keyed.{HasRowsAtKeys}
use Rattle.plain_database.proofs.Singles.{put_keyed, get_keyed, update_keyed, delete_keyed}
use Rattle.plain_database.proofs.KeyedCatalog.{create_keyed, drop_keyed, describe_keyed, change_keyed, ttl_keyed, describe_ttl_keyed}
use Rattle.plain_database.proofs.Batches.{batch_get_keyed, batch_write_keyed}
use Rattle.plain_database.proofs.Transactions.{transact_write_keyed, transact_get_keyed}

along : (new : Database) (reply : Reply) (effect : Effect) → (new, reply) ≡ effect → HasRowsAtKeys effect.0 → HasRowsAtKeys new
along new reply effect is h = subst HasRowsAtKeys (sym (ap (λ (e : Effect). e.0) is)) h

pub stays_keyed : (db : Database) (r : Request) (moment : ℕ) (new : Database) (reply : Reply) → HasRowsAtKeys db → IsEffect db r moment new reply → HasRowsAtKeys new
stays_keyed db (request.CreateTable r) moment new reply all is = along new reply _ is (create_keyed db r moment all)
stays_keyed db (request.DeleteTable r) moment new reply all is = along new reply _ is (drop_keyed db r all)
stays_keyed db (request.UpdateTable r) moment new reply all is = change_keyed db new r reply all is
stays_keyed db (request.DescribeTable r) moment new reply all is = along new reply _ is (describe_keyed db r all)
stays_keyed db (request.ListTables r) moment new reply all is = along new reply _ is all
stays_keyed db (request.UpdateTimeToLive r) moment new reply all is = along new reply _ is (ttl_keyed db r all)
stays_keyed db (request.DescribeTimeToLive r) moment new reply all is = along new reply _ is (describe_ttl_keyed db r all)
stays_keyed db (request.PutItem r) moment new reply all is = along new reply _ is (put_keyed db r all)
stays_keyed db (request.GetItem r) moment new reply all is = along new reply _ is (get_keyed db r all)
stays_keyed db (request.UpdateItem r) moment new reply all is = along new reply _ is (update_keyed db r all)
stays_keyed db (request.DeleteItem r) moment new reply all is = along new reply _ is (delete_keyed db r all)
stays_keyed db (request.BatchGet r) moment new reply all is = along new reply _ is (batch_get_keyed db r all)
stays_keyed db (request.BatchWrite r) moment new reply all is = along new reply _ is (batch_write_keyed db r all)
stays_keyed db (request.Query r) moment new reply all is = subst HasRowsAtKeys (sym is.0) all
stays_keyed db (request.Scan r) moment new reply all is = subst HasRowsAtKeys (sym is.0) all
stays_keyed db (request.TransactWrite r) moment new reply all is = along new reply _ is (transact_write_keyed db r moment all)
stays_keyed db (request.TransactGet r) moment new reply all is = along new reply _ is (transact_get_keyed db r all)
