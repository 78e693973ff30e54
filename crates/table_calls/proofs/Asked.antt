-- What a question about the catalog is told, and the table of a name by it.
use Rattle.std.proofs.Common.{◌≡◌, ℕ, List, Option, None, Some, MatchOption, sym, ap, subst, ◌∙◌}
use Rattle.table_schema.specs.declared.schema.Schema.{Schema}
use Rattle.table_request.specs.declared.request.Request.TheVariants as request
use Rattle.table_request.specs.declared.tables.DescribeTable.{DescribeTable}
use Rattle.table_request.specs.declared.time_to_live.DescribeTimeToLive.{DescribeTimeToLive}
use Rattle.table_model.specs.declared.reply.Reply.{Reply}
use Rattle.table_model.specs.declared.reply.Reply.TheVariants as model
use Rattle.table_model.specs.declared.refusal.Refusal.TheVariants.{NoTable}
use Rattle.table_model.specs.Database.{Database, Table, in_table, table_named}
use Rattle.turnstile.specs.Passes.{PassView}
use Rattle.txn_core.specs.declared.message.Message.{Message}
use Rattle.cell_model.specs.declared.answer.TableLook.{TableLook}
use Rattle.cell_model.specs.declared.question.CatalogQuestion.TheVariants.{Look}
use Rattle.table_history.specs.Entries.{TableEvent}
use Rattle.cell_asks.specs.Answers.{look_answer}
use Rattle.cell_asks.specs.Steps.{One}
use Rattle.table_calls.specs.Questions.{ByLook}
use Rattle.cell_asks.proofs.Histories.{Sees, sees}

-- what is answered by the table of a name, where it is there
answered_in : (db : Database) (name : List ℕ) (tell : Schema → Reply) (told : Option TableLook) (reply : Reply) → Sees name db told
    → MatchOption told (reply ≡ model.Refused (NoTable name)) (λ look. reply ≡ tell look.schema)
    → (db, reply) ≡ in_table db name (table_named db name) (λ table. (db, tell table.schema))
answered_in db name tell None reply none is =
    (λ i. (db, is i)) ∙ sym (ap (λ o. in_table db name o (λ table. (db, tell table.schema))) none)
answered_in db name tell (Some look) reply (table, there, same) is =
    (λ i. (db, is i)) ∙ ap (λ s. (db, tell s)) (sym same) ∙ sym (ap (λ o. in_table db name o (λ table. (db, tell table.schema))) there)

module _ (n : ℕ) (p : PassView TableEvent) (q : PassView TableEvent) where
  renamed : (asked name : List ℕ) (told : Option TableLook) → asked ≡ name → One n p (Message.Ask (Look asked)) (look_answer told) q
      → One n p (Message.Ask (Look name)) (look_answer told) q
  renamed asked name told same = subst (λ z. One n p (Message.Ask (Look z)) (look_answer told) q) same

  pub describes : (r : DescribeTable) (asked : List ℕ) (told : Option TableLook) (reply : Reply) → asked ≡ r.table
      → One n p (Message.Ask (Look asked)) (look_answer told) q
      → MatchOption told (reply ≡ model.Refused (NoTable r.table)) (λ look. reply ≡ model.Table look.schema)
      → ByLook n p (request.DescribeTable r) r.table reply q
  describes r asked told reply same own is =
      let mine = renamed asked r.table told same own in record {
        told = told;
        own = mine;
        is = λ db stands. answered_in db r.table (λ s. model.Table s) told reply (sees n p q r.table told mine db stands) is;
      }

  pub describes_ttl : (r : DescribeTimeToLive) (asked : List ℕ) (told : Option TableLook) (reply : Reply) → asked ≡ r.table
      → One n p (Message.Ask (Look asked)) (look_answer told) q
      → MatchOption told (reply ≡ model.Refused (NoTable r.table)) (λ look. reply ≡ model.TimeToLive look.schema.ttl)
      → ByLook n p (request.DescribeTimeToLive r) r.table reply q
  describes_ttl r asked told reply same own is =
      let mine = renamed asked r.table told same own in record {
        told = told;
        own = mine;
        is = λ db stands. answered_in db r.table (λ s. model.TimeToLive s.ttl) told reply (sees n p q r.table told mine db stands) is;
      }
