-- What a message to these cells adds, and how it is answered.
use Rattle.std.proofs.Common.{◌≡◌, ℕ, List, [], ◌∷◌, Bool, true, false, Option, Some, None, reverse, sym, subst, ⊎_elim}
use Rattle.attr_value.specs.Tree.{Attributes}
use Rattle.turnstile.specs.Passes.{PassView}
use Rattle.update_eval.specs.declared.fault.EvalFault.{EvalFault}
use Rattle.txn_core.specs.declared.message.Message.{Message}
use Rattle.txn_core.specs.declared.answer.Answer.{Answer}
use Rattle.txn_core.specs.declared.outcome.Outcome.{Outcome}
use Rattle.txn_core.specs.declared.outcome.Outcome.TheVariants.{New, Unmet, Fails}
use Rattle.txn_core.specs.declared.ruling.Ruling.{Ruling}
use Rattle.txn_core.specs.declared.ruling.Ruling.TheVariants.{Carries, Refuses}
use Rattle.txn_core.specs.Answers.{get_answer, write_answer, page_answer}
use Rattle.txn_core.specs.Legal.{IsAnswer, IsRuled, ruling_answer, sent_to, state}
use Rattle.cluster.specs.declared.step.StepError.{StepError}
use Rattle.cluster.specs.Events.{event_of}
use Rattle.cluster.specs.Steps.{Adds, IsLater}
use Rattle.cluster.specs.Counts.{Counts, CountsUntil}
use Rattle.cell_model.specs.declared.catalog.CatalogTable.{CatalogTable}
use Rattle.cell_model.specs.declared.answer.CatalogAnswer.{CatalogAnswer}
use Rattle.cell_model.specs.declared.answer.CatalogAnswer.TheVariants as catalog
use Rattle.cell_model.specs.declared.question.CatalogQuestion.TheVariants.{Look, Names, Page}
use Rattle.cell_model.specs.declared.question.PageQuestion.{PageQuestion}
use Rattle.cell_model.specs.declared.command.CatalogCommand.{CatalogCommand}
use Rattle.cell_model.specs.Catalogs.{named}
use Rattle.cell_model.specs.Pages.{told_table}
use Rattle.cell_model.specs.Service.{service}
use Rattle.table_history.specs.Entries.{TableMessage, TableAnswer, TableEvent}
use Rattle.cell_asks.specs.Steps.{One, Stops, past_of}
use Rattle.cell_asks.proofs.Trails.{one_legal}
use Rattle.table_cells.specs.Kinds.{IsOfCommand, IsOfGet, IsOfLook, IsOfNames, IsOfPage, IsOfWrite}
use Rattle.table_cells.proofs.Adding.{adds_of}

module _ (n : ℕ) (p q : PassView TableEvent) where
  -- what was counted where the message goes
  pub one_of :
      (cell : Option ℕ) (m : TableMessage) (a : TableAnswer) → sent_to (service n) m ≡ cell
      → IsLater (service n) (reverse p.front) (event_of p cell m a) (reverse q.front)
      → Counts (service n) p (event_of p cell m a ∷ []) 0 q → One n p m a q
  one_of cell m a sent later counts =
      record { adds = subst (λ c. Adds (service n) p c m a q) (sym sent) (adds_of (service n) p q cell m a later counts) }

  -- and the answer that is handed on is that one
  pub told_of :
      (cell : Option ℕ) (m : TableMessage) (a b : TableAnswer) → b ≡ a → sent_to (service n) m ≡ cell
      → IsLater (service n) (reverse p.front) (event_of p cell m a) (reverse q.front)
      → Counts (service n) p (event_of p cell m a ∷ []) 0 q → One n p m b q
  told_of cell m a b same sent later counts = subst (λ x. One n p m x q) (sym same) (one_of cell m a sent later counts)

  pub stops_of : (why : StepError) → CountsUntil (service n) p [] why q → Stops n p why q
  stops_of why counts = record { counts = counts }

  -- its answer is the one that its cell gives
  answer_of : (m : TableMessage) (a : TableAnswer) (one : One n p m a q) → IsAnswer (service n) (reverse (past_of one)) p.moment m a
  answer_of m a one = (one_legal n p m a q one).1.answer

-- ---- which answers these are

got_kind : (b : Bool) (v : Option Attributes) (a : TableAnswer) → a ≡ get_answer b v → IsOfGet a
got_kind false v a is = subst IsOfGet (sym is) tt
got_kind true v a is = subst IsOfGet (sym is) tt

wrote_kind : (b : Bool) (h : Option ℕ) (v : Option Attributes) (o : Outcome Attributes EvalFault) (a : TableAnswer) → a ≡ write_answer b h v o → IsOfWrite a
wrote_kind false h v o a is = subst IsOfWrite (sym is) tt
wrote_kind true (Some n) v o a is = subst IsOfWrite (sym is) tt
wrote_kind true None v (New x) a is = subst IsOfWrite (sym is) tt
wrote_kind true None v Unmet a is = subst IsOfWrite (sym is) tt
wrote_kind true None v (Fails f) a is = subst IsOfWrite (sym is) tt

look_kind : (o : Option CatalogTable) (a : TableAnswer) → a ≡ Answer.Told (told_table o) → IsOfLook a
look_kind None a is = subst IsOfLook (sym is) tt
look_kind (Some t) a is = subst IsOfLook (sym is) tt

module _ (n : ℕ) (p q : PassView TableEvent) where
  pub of_get : (key : _) (a : TableAnswer) → One n p (Message.Get key) a q → IsOfGet a
  of_get key a one = got_kind _ _ a (answer_of n p q (Message.Get key) a one)

  pub of_write : (action : _) (a : TableAnswer) → One n p (Message.Write action) a q → IsOfWrite a
  of_write action a one = wrote_kind _ _ _ _ a (answer_of n p q (Message.Write action) a one)

  pub of_look : (name : List ℕ) (a : TableAnswer) → One n p (Message.Ask (Look name)) a q → IsOfLook a
  of_look name a one =
      look_kind (named (state (service n) (reverse (past_of one))).catalog.tables name) a (answer_of n p q (Message.Ask (Look name)) a one)

  pub of_names : (after : Option (List ℕ)) (limit : ℕ) (a : TableAnswer) → One n p (Message.Ask (Names after limit)) a q → IsOfNames a
  of_names after limit a one = subst IsOfNames (sym (answer_of n p q (Message.Ask (Names after limit)) a one)) tt

page_kind : (b : Bool) (rows room stopped : _) (a : TableAnswer) → a ≡ page_answer b (catalog.Part rows room stopped) → IsOfPage a
page_kind false rows room stopped a is = subst IsOfPage (sym is) tt
page_kind true rows room stopped a is = subst IsOfPage (sym is) tt

ruling_kind : (r : Ruling CatalogAnswer) (a : TableAnswer) (n : ℕ) → a ≡ ruling_answer (service n) r → IsOfCommand a
ruling_kind (Carries told) a n is = subst IsOfCommand (sym is) tt
ruling_kind (Refuses told) a n is = subst IsOfCommand (sym is) tt

ruled_kind : (n : ℕ) (w : _) (command : CatalogCommand) (moment : ℕ) (first : Option CatalogAnswer) (a : TableAnswer)
    → IsRuled (service n) w command moment first a → IsOfCommand a
ruled_kind n w command moment (Some told) a is = subst IsOfCommand (sym is) tt
ruled_kind n w command moment None a is =
    ⊎_elim (λ held. subst IsOfCommand (sym held.1) tt) (λ ruled. ruling_kind ((service n).rules command moment w.catalog) a n ruled.0) is

module _ (n : ℕ) (p q : PassView TableEvent) where
  pub of_page : (page : PageQuestion) (a : TableAnswer) → One n p (Message.ScanPage (Page page)) a q → IsOfPage a
  of_page page a one = page_kind _ _ _ _ a (answer_of n p q (Message.ScanPage (Page page)) a one)

  pub of_command : (command : CatalogCommand) (a : TableAnswer) → One n p (Message.Command command) a q → IsOfCommand a
  of_command command a one = ruled_kind n _ command p.moment _ a (answer_of n p q (Message.Command command) a one)
