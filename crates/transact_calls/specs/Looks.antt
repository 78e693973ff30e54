-- Looks for several tables, and the databases that agree with what they told.
use Rattle.std.specs.Prelude.{◌≡◌, ℕ, List, [], ◌∷◌, Option, Some, option_map}
use Rattle.std.specs.List.{AllByRecursion}
use Rattle.turnstile.specs.Passes.{PassView}
use Rattle.txn_core.specs.declared.message.Message.{Message}
use Rattle.table_request.specs.declared.request.Request.{Request}
use Rattle.table_model.specs.declared.reply.Reply.{Reply}
use Rattle.table_model.specs.declared.reply.Reply.TheVariants.{Refused}
use Rattle.table_model.specs.declared.refusal.Refusal.{Refusal}
use Rattle.table_model.specs.Database.{Database, table_named}
use Rattle.table_model.specs.Effect.{IsEffect}
use Rattle.cell_model.specs.declared.answer.TableLook.{TableLook}
use Rattle.cell_model.specs.declared.question.CatalogQuestion.TheVariants.{Look}
use Rattle.table_history.specs.Entries.{TableEvent}
use Rattle.cell_asks.specs.Steps.{One}
use Rattle.cell_asks.specs.Answers.{look_answer}

-- names, each with what a Look told of it
abbrev pub Told : Type 0
Told = List (List ℕ × Option TableLook)

-- from p to q the tables of these names were asked for, one after the other, and this was told
abbrev pub LookedAll : ℕ → PassView TableEvent → Told → PassView TableEvent → Type 0
LookedAll n p [] q = q ≡ p
LookedAll n p (look ∷ looks) q =
    (mid : PassView TableEvent) × One n p (Message.Ask (Look look.0)) (look_answer look.1) mid × LookedAll n mid looks q

-- a database has, of each name, a table of the schema that was told, or none where none was
abbrev pub AgreesWith : Told → Database → Type 0
AgreesWith told db =
    AllByRecursion (λ look. option_map (λ table. table.schema) (table_named db look.0) ≡ option_map (λ l. l.schema) look.1) told

-- own Looks told what refuses a request: so every database refuses it that agrees with them
pub record FindsRefusal (n : ℕ) (p : PassView TableEvent) (refusal : Database → Option Refusal) (why : Refusal) (q : PassView TableEvent) : Type 0 where
  pub told : Told
  pub looks : LookedAll n p told q
  pub is : (db : Database) → AgreesWith told db → refusal db ≡ Some why

-- refused by what the own Looks told, as every database refuses it that agrees with them
pub record RefusedByLooks (n : ℕ) (p : PassView TableEvent) (request : Request) (reply : Reply) (q : PassView TableEvent) : Type 0 where
  pub told : Told
  pub looks : LookedAll n p told q
  pub why : Refusal
  pub reply_is : reply ≡ Refused why
  pub is : (db : Database) → AgreesWith told db → IsEffect db request p.moment db reply
