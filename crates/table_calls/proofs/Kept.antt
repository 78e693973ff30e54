-- What was told before a request on tables was told after it: so what is kept of Looks stays told.
use Rattle.std.proofs.Common.{ℕ, List, Option, reverse, inl, inr}
use Rattle.table_request.specs.declared.request.Request.{Request}
use Rattle.table_request.specs.declared.tables.CreateTable.{CreateTable}
use Rattle.table_model.specs.declared.reply.Reply.{Reply}
use Rattle.turnstile.specs.Passes.{PassView}
use Rattle.cluster.specs.declared.step.StepError.{StepError}
use Rattle.table_history.specs.Entries.{TableMessage, TableAnswer, TableEvent}
use Rattle.cell_asks.specs.declared.looks.Looks.{Looks}
use Rattle.cell_asks.specs.Steps.{One, GivesUp}
use Rattle.cell_asks.specs.Told.{AreTold}
use Rattle.cell_asks.proofs.Trails.{told_gives_up, told_one}
use Rattle.table_calls.specs.Commands.{IsCommanded, CreatesTable}
use Rattle.table_calls.specs.Questions.{ByLook, ByNames}

module _ (n : ℕ) (p : PassView TableEvent) (q : PassView TableEvent) (looks : Looks) (told : AreTold (reverse p.front) looks) where
  one_keeps : (m : TableMessage) (a : TableAnswer) → One n p m a q → AreTold (reverse q.front) looks
  one_keeps m a own = told_one n p m a q own looks told

  pub look_keeps : (asked : Request) (name : List ℕ) (reply : Reply) → ByLook n p asked name reply q → AreTold (reverse q.front) looks
  look_keeps asked name reply by = one_keeps _ _ by.own

  pub names_keep : (asked : Request) (after : Option (List ℕ)) (limit : ℕ) (reply : Reply) → ByNames n p asked after limit reply q
      → AreTold (reverse q.front) looks
  names_keep asked after limit reply by = one_keeps _ _ by.own

  pub command_keeps : (asked : Request) (name : List ℕ) (reply : Reply) → IsCommanded n p asked name reply q → AreTold (reverse q.front) looks
  command_keeps asked name reply by = one_keeps _ _ by.own

  pub create_keeps : (r : CreateTable) (reply : Reply) → CreatesTable n p r reply q → AreTold (reverse q.front) looks
  create_keeps r reply (inl by) = one_keeps _ _ by.own
  create_keeps r reply (inr by) = one_keeps _ _ by.own

  pub end_keeps : (why : StepError) → GivesUp n p why q → AreTold (reverse q.front) looks
  end_keeps why by = told_gives_up n p why q by looks told
