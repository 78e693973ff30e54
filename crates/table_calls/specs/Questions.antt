-- What a question about the catalog came to.
use Rattle.std.specs.Prelude.{ℕ, List, Option}
use Rattle.table_request.specs.declared.request.Request.{Request}
use Rattle.table_request.specs.declared.request.Request.TheVariants as request
use Rattle.table_request.specs.declared.tables.DescribeTable.{DescribeTable}
use Rattle.table_request.specs.declared.tables.ListTables.{ListTables}
use Rattle.table_request.specs.declared.time_to_live.DescribeTimeToLive.{DescribeTimeToLive}
use Rattle.table_model.specs.declared.reply.Reply.{Reply}
use Rattle.table_model.specs.Database.{Database}
use Rattle.table_model.specs.Effect.{IsEffect}
use Rattle.turnstile.specs.Passes.{PassView}
use Rattle.txn_core.specs.declared.message.Message.{Message}
use Rattle.cell_model.specs.declared.answer.NameList.{NameList}
use Rattle.cell_model.specs.declared.answer.TableLook.{TableLook}
use Rattle.cell_model.specs.declared.question.CatalogQuestion.TheVariants.{Look, Names}
use Rattle.table_history.specs.Entries.{TableEvent}
use Rattle.table_history.specs.Standing.{HasTables}
use Rattle.cell_asks.specs.Steps.{One, past_of}
use Rattle.cell_asks.specs.Answers.{look_answer, names_answer}

module _ (n : ℕ) (p : PassView TableEvent) where
  -- the pass had its own Look of this name answered, once, and the reply is that of [Effect] on the tables before it
  pub record ByLook (asked : Request) (name : List ℕ) (reply : Reply) (q : PassView TableEvent) : Type 0 where
    pub told : Option TableLook
    pub own : One n p (Message.Ask (Look name)) (look_answer told) q
    pub is : (db : Database) → HasTables n (past_of own) db → IsEffect db asked p.moment db reply

  -- its own Names
  pub record ByNames (asked : Request) (after : Option (List ℕ)) (limit : ℕ) (reply : Reply) (q : PassView TableEvent) : Type 0 where
    pub told : NameList
    pub own : One n p (Message.Ask (Names after limit)) (names_answer told) q
    pub is : (db : Database) → HasTables n (past_of own) db → IsEffect db asked p.moment db reply

  abbrev pub DescribesTable : DescribeTable → Reply → PassView TableEvent → Type 0
  DescribesTable r reply q = ByLook (request.DescribeTable r) r.table reply q

  abbrev pub DescribesTimeToLive : DescribeTimeToLive → Reply → PassView TableEvent → Type 0
  DescribesTimeToLive r reply q = ByLook (request.DescribeTimeToLive r) r.table reply q

  abbrev pub ListsTables : ListTables → Reply → PassView TableEvent → Type 0
  ListsTables r reply q = ByNames (request.ListTables r) r.after r.limit reply q
