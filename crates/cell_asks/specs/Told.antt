-- What is kept of Looks.
use Rattle.std.specs.Prelude.{◌≡◌, ◌⊎◌, ℕ, List, ◌∷◌, ◌++◌, Option, Some}
use Rattle.std.specs.Ordering.{nat_cmp}
use Rattle.std.specs.Cmp.Lexicographic.{slice_cmp}
use Rattle.std.specs.BTreeMap.{get}
use Rattle.turnstile.specs.Passes.{PassView}
use Rattle.txn_core.specs.declared.message.Message.{Message}
use Rattle.cell_model.specs.declared.question.CatalogQuestion.TheVariants.{Look}
use Rattle.cell_model.specs.declared.answer.TableLook.{TableLook}
use Rattle.table_history.specs.Entries.{TableEvent}
use Rattle.cell_asks.specs.declared.looks.Looks.{Looks}
use Rattle.cell_asks.specs.Steps.{One}
use Rattle.cell_asks.specs.Answers.{look_answer}

-- in this history, of which the newest entry stands first, a Look of the name was told of this table
pub record WasTold (es : List TableEvent) (name : List ℕ) (look : TableLook) : Type 0 where
  pub newer : List TableEvent
  pub entry : TableEvent
  pub older : List TableEvent
  pub is : newer ++ entry ∷ older ≡ es
  pub message : entry.message ≡ Message.Ask (Look name)
  pub answer : entry.answer ≡ look_answer (Some look)

-- what is kept of a name
abbrev pub kept_of : Looks → List ℕ → Option TableLook
kept_of looks name = get (slice_cmp nat_cmp) looks.tables name

-- all that is kept was told in this history
abbrev pub AreTold : List TableEvent → Looks → Type 0
AreTold es looks = (name : List ℕ) (look : TableLook) → kept_of looks name ≡ Some look → WasTold es name look

-- from p to q nothing was asked, or only for the table of the name
abbrev pub Looked : ℕ → PassView TableEvent → List ℕ → PassView TableEvent → Type 0
Looked n p name q = (q ≡ p) ⊎ ((told : Option TableLook) × One n p (Message.Ask (Look name)) (look_answer told) q)
