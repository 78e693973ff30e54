-- What Looks tell of the tables of a request on many items.
use Rattle.std.specs.Prelude.{◌≡◌, ◌⊎◌, ℕ, List, [], ◌∷◌, map, Option, None, Some, option_map}
use Rattle.std.specs.List.{AllZip}
use Rattle.turnstile.specs.Passes.{PassView}
use Rattle.txn_core.specs.declared.message.Message.{Message}
use Rattle.table_request.specs.declared.request.Request.{Request}
use Rattle.table_model.specs.declared.reply.Reply.{Reply}
use Rattle.table_model.specs.declared.reply.Reply.TheVariants.{Refused}
use Rattle.table_model.specs.declared.refusal.Refusal.{Refusal}
use Rattle.table_model.specs.Database.{Database, table_named}
use Rattle.table_model.specs.Effect.{IsEffect}
use Rattle.cell_model.specs.declared.answer.TableLook.{TableLook}
use Rattle.cell_model.specs.declared.question.CatalogQuestion.TheVariants.{Look}
use Rattle.table_history.specs.Entries.{TableEvent}
use Rattle.cell_asks.specs.Steps.{One}
use Rattle.cell_asks.specs.Answers.{look_answer}
use Rattle.cell_asks.specs.Told.{WasTold}

-- the database has under the name a table of the schema that is told, or none where none is told
abbrev pub HasSchema : Database → List ℕ → Option TableLook → Type 0
HasSchema db name told = option_map (λ t. t.schema) (table_named db name) ≡ option_map (λ look. look.schema) told

-- so it is of each of these names
abbrev pub AgreesWith : Database → List (List ℕ) → List (Option TableLook) → Type 0
AgreesWith db names told = AllZip (HasSchema db) names told

-- own Looks of these names, one after another, were told this
abbrev pub AreLooked : ℕ → PassView TableEvent → List (List ℕ) → List (Option TableLook) → PassView TableEvent → Type 0
AreLooked n p [] [] q = q ≡ p
AreLooked n p (name ∷ names) (told ∷ more) q =
    (mid : PassView TableEvent) × One n p (Message.Ask (Look name)) (look_answer told) mid × AreLooked n mid names more q
AreLooked n p _ _ q = ⊥

-- nothing was asked, or all of these tables were looked up
abbrev pub LookedAll : ℕ → PassView TableEvent → List (List ℕ) → PassView TableEvent → Type 0
LookedAll n p names q = (q ≡ p) ⊎ ((told : List (Option TableLook)) × AreLooked n p names told q)

-- Looks of this history, each at some time, told of tables by which nothing refuses the request
pub record Admits (refusal : Database → Option Refusal) (names : List (List ℕ)) (es : List TableEvent) : Type 0 where
  pub looks : List TableLook
  pub told : AllZip (WasTold es) names looks
  pub free : (db : Database) → AgreesWith db names (map (λ look. Some look) looks) → refusal db ≡ None

module _ (n : ℕ) (p : PassView TableEvent) (names : List (List ℕ)) (asked : Request) where
  -- refused by what own Looks of all its tables told, as every database is that agrees with them
  pub record RefusedByLooks (reply : Reply) (q : PassView TableEvent) : Type 0 where
    pub told : List (Option TableLook)
    pub looks : AreLooked n p names told q
    pub why : Refusal
    pub reply_is : reply ≡ Refused why
    pub is : (db : Database) → AgreesWith db names told → IsEffect db asked p.moment db reply
