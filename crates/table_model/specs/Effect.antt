-- What a request does to the database at a moment, and what it is answered.
use Rattle.std.specs.Prelude.{◌≡◌, ℕ}
use Rattle.table_request.specs.declared.request.Request.{Request}
use Rattle.table_request.specs.declared.request.Request.TheVariants as request
use Rattle.table_model.specs.declared.reply.Reply.{Reply}
use Rattle.table_model.specs.Database.{Database}
use Rattle.table_model.specs.Writes.{put_item, update_item, delete_item}
use Rattle.table_model.specs.Reads.{get_item}
use Rattle.table_model.specs.Batches.{batch_get, batch_write}
use Rattle.table_model.specs.Pages.{IsQuery, IsScan}
use Rattle.table_model.specs.Transactions.{transact_write, transact_get}
use Rattle.table_model.specs.Catalog.{create_table, delete_table, describe_table, list_tables, IsUpdateTable}
use Rattle.table_model.specs.Catalog.{update_time_to_live, describe_time_to_live}

-- a read changes nothing
abbrev pub Reads : Database → Database → Type 0 → Type 0
Reads db new P = (new ≡ db) × P

-- [Effect]
abbrev pub IsEffect : Database → Request → ℕ → Database → Reply → Type 0
IsEffect db (request.CreateTable r) moment new reply = (new, reply) ≡ create_table db r moment
IsEffect db (request.DeleteTable r) moment new reply = (new, reply) ≡ delete_table db r
IsEffect db (request.UpdateTable r) moment new reply = IsUpdateTable db r new reply
IsEffect db (request.DescribeTable r) moment new reply = (new, reply) ≡ describe_table db r
IsEffect db (request.ListTables r) moment new reply = (new, reply) ≡ list_tables db r
IsEffect db (request.UpdateTimeToLive r) moment new reply = (new, reply) ≡ update_time_to_live db r
IsEffect db (request.DescribeTimeToLive r) moment new reply = (new, reply) ≡ describe_time_to_live db r
IsEffect db (request.PutItem r) moment new reply = (new, reply) ≡ put_item db r
IsEffect db (request.GetItem r) moment new reply = (new, reply) ≡ get_item db r
IsEffect db (request.UpdateItem r) moment new reply = (new, reply) ≡ update_item db r
IsEffect db (request.DeleteItem r) moment new reply = (new, reply) ≡ delete_item db r
IsEffect db (request.BatchGet r) moment new reply = (new, reply) ≡ batch_get db r
IsEffect db (request.BatchWrite r) moment new reply = (new, reply) ≡ batch_write db r
IsEffect db (request.Query r) moment new reply = Reads db new (IsQuery db r reply)
IsEffect db (request.Scan r) moment new reply = Reads db new (IsScan db r reply)
IsEffect db (request.TransactWrite r) moment new reply = (new, reply) ≡ transact_write db r moment
IsEffect db (request.TransactGet r) moment new reply = (new, reply) ≡ transact_get db r
