-- What each call counted.
use Rattle.std.specs.Prelude.{◌⊎◌, Option}
use Rattle.std.proofs.Common.{◌≡◌, ℕ, List, [], ◌∷◌, reverse, sym, ◌∙◌, inl, inr}
use Rattle.attr_value.specs.Tree.{Attributes}
use Rattle.turnstile.specs.Passes.{PassView, most_units}
use Rattle.cluster.specs.declared.step.StepError.{StepError}
use Rattle.coordinator.specs.declared.transact_end.TransactEnd.{TransactEnd}
use Rattle.cell_model.specs.Actions.{ItemAction}
use Rattle.cell_model.specs.Parts.{PagePart}
use Rattle.cell_model.specs.declared.answer.TableLook.{TableLook}
use Rattle.table_request.specs.declared.consumed.Consumed.{Consumed}
use Rattle.table_request.specs.declared.request.Request.{Request}
use Rattle.table_request.specs.declared.request.Request.TheVariants as request
use Rattle.table_request.specs.declared.items.GetItem.{GetItem}
use Rattle.table_request.specs.declared.batches.BatchGet.{BatchGet}
use Rattle.table_request.specs.declared.batches.BatchWrite.{BatchWrite}
use Rattle.table_request.specs.declared.batches.WriteRequest.{WriteRequest}
use Rattle.table_request.specs.declared.transactions.TransactWrite.{TransactWrite}
use Rattle.table_request.specs.declared.transactions.TransactGet.{TransactGet}
use Rattle.table_request.specs.declared.tables.CreateTable.{CreateTable}
use Rattle.table_model.specs.declared.reply.Reply.{Reply}
use Rattle.table_history.specs.Entries.{TableEvent}
use Rattle.cell_asks.specs.declared.asks.Wrote.{Wrote}
use Rattle.cell_asks.specs.declared.tried.Tried.{Tried}
use Rattle.cell_asks.specs.declared.looks.Looks.{Looks}
use Rattle.cell_asks.specs.Told.{AreTold}
use Rattle.table_calls.specs.Commands.{IsCommanded, CreatesTable}
use Rattle.table_calls.specs.Questions.{ByLook, ByNames}
use Rattle.item_calls.specs.Items.{IsReadTry, IsWriteTry, WriteGivesUp}
use Rattle.batch_calls.specs.Looks.{AreLooked, LookedAll}
use Rattle.batch_calls.specs.Batches.{AreGot, IsBatchGetTry}
use Rattle.batch_calls.specs.Writes.{AreWritten, IsBatchWriteTry, BatchWriteGivesUp}
use Rattle.page_calls.specs.Asked.{PageAsked, a_scan, a_query}
use Rattle.page_calls.specs.Pages.{AreOwnParts, IsPageTry}
use Rattle.transact_asks.specs.Several.{WritesEnd}
use Rattle.transact_calls.specs.declared.write.Transacted.{Transacted}
use Rattle.transact_calls.specs.Looks.{Told, LookedAll as AllLooked}
use Rattle.transact_calls.specs.Ends.{FindsGone, IsGone, IsToldEnd}
use Rattle.transact_calls.specs.Transactions.{IsTransactWriteTry}
use Rattle.transact_calls.specs.Gets.{ReadsTogether, ReadsApart, IsTransactGetTry}
use Rattle.transact_calls.proofs.Looking.{own_looks}
use Rattle.request_calls.specs.Requests.{Replies, IsTry, IsGivenUp, Tries, Stops}
use Rattle.request_calls.proofs.Counted.{Stretch, Counted, none_counted, one_counted, looked_counted, stretch_on, is_counted, counted_after, counted_before, gives_up_counted, gives_up_spent, stops_counted, stops_spent, vain_counted, told_counted}

-- ---- tables

module _ (n : ℕ) (p : PassView TableEvent) where
  commanded : (asked : Request) (name : List ℕ) (reply : Reply) (q : PassView TableEvent) → IsCommanded n p asked name reply q → Counted n p q
  commanded asked name reply q it = is_counted n p q (one_counted n p _ _ q it.own)

  created : (r : CreateTable) (reply : Reply) (q : PassView TableEvent) → CreatesTable n p r reply q → Counted n p q
  created r reply q (inl it) = commanded _ _ reply q it
  created r reply q (inr it) = is_counted n p q (one_counted n p _ _ q it.own)

  by_look : (asked : Request) (name : List ℕ) (reply : Reply) (q : PassView TableEvent) → ByLook n p asked name reply q → Counted n p q
  by_look asked name reply q it = is_counted n p q (one_counted n p _ _ q it.own)

  by_names : (asked : Request) (after : Option (List ℕ)) (limit : ℕ) (reply : Reply) (q : PassView TableEvent) → ByNames n p asked after limit reply q → Counted n p q
  by_names asked after limit reply q it = is_counted n p q (one_counted n p _ _ q it.own)

  -- of a call that is never tried again
  replied : (P : Reply → Type 0) (q : PassView TableEvent) → ((reply : Reply) → P reply → Counted n p q) → (tried : Tried) → Replies P tried → Counted n p q
  replied P q all (Tried.Reply reply) it = all reply it
  replied P q all Tried.Again it = absurd it

  -- ---- items

  read : (r : GetItem) (tried : Tried) (q : PassView TableEvent) → IsReadTry n p r tried q → Counted n p q
  read r (Tried.Reply reply) q (inl refused) = is_counted n p q (one_counted n p _ _ q refused.look)
  read r (Tried.Reply reply) q (inr it) =
      is_counted n p q (stretch_on n p it.mid q (looked_counted n p r.table it.mid it.looked) (one_counted n it.mid _ _ q it.got))
  read r Tried.Again q it = vain_counted n p q it

  wrote : (asked : Request) (tried : Tried) (q : PassView TableEvent) → IsWriteTry n p asked tried q → Counted n p q
  wrote asked (Tried.Reply reply) q (inl refused) = is_counted n p q (one_counted n p _ _ q refused.look)
  wrote asked (Tried.Reply reply) q (inr it) =
      is_counted n p q (stretch_on n p it.mid q (looked_counted n p _ it.mid it.looked) (one_counted n it.mid _ _ q it.wrote))
  wrote asked Tried.Again q it = vain_counted n p q it

  write_stopped : (asked : Request) (why : StepError) (q : PassView TableEvent) → WriteGivesUp n p asked why q → Counted n p q
  write_stopped asked why q (inl gives) = gives_up_counted n p why q gives
  write_stopped asked why q (inr (memory, it)) =
      is_counted n p q (stretch_on n p it.mid q (looked_counted n p _ it.mid it.looked) (one_counted n it.mid _ _ q it.wrote))

  write_spent : (asked : Request) (why : StepError) (q : PassView TableEvent) → WriteGivesUp n p asked why q → why ≡ StepError.Spent → q.used ≡ most_units
  write_spent asked why q (inl gives) spent = gives_up_spent n p why q gives spent
  write_spent asked why q (inr (memory, it)) spent = absurd (let clash = sym memory ∙ spent in cc)

-- ---- batches

module _ (n : ℕ) where
  all_looked : (p : PassView TableEvent) (names : List (List ℕ)) (told : List (Option TableLook)) (q : PassView TableEvent) → AreLooked n p names told q → Stretch n p q
  all_looked p [] [] q same = none_counted n p q same
  all_looked p [] (t ∷ told) q it = absurd it
  all_looked p (name ∷ names) [] q it = absurd it
  all_looked p (name ∷ names) (t ∷ told) q (mid, one, rest) = stretch_on n p mid q (one_counted n p _ _ mid one) (all_looked mid names told q rest)

  pub looked_or_not : (p : PassView TableEvent) (names : List (List ℕ)) (q : PassView TableEvent) → LookedAll n p names q → Stretch n p q
  looked_or_not p names q (inl same) = none_counted n p q same
  looked_or_not p names q (inr (told, looks)) = all_looked p names told q looks

  all_got : (p : PassView TableEvent) (rs : List GetItem) (items : List (Option Attributes)) (q : PassView TableEvent) → AreGot n p rs items q → Stretch n p q
  all_got p rs [] q same = none_counted n p q same
  all_got p [] (item ∷ items) q it = absurd it
  all_got p (r ∷ rs) (item ∷ items) q (mid, got, rest) = stretch_on n p mid q (one_counted n p _ _ mid got.got) (all_got mid rs items q rest)

  batch_read : (p : PassView TableEvent) (r : BatchGet) (tried : Tried) (q : PassView TableEvent) → IsBatchGetTry n p r tried q → Counted n p q
  batch_read p r (Tried.Reply reply) q (inl refused) = is_counted n p q (all_looked p _ refused.told q refused.looks)
  batch_read p r (Tried.Reply reply) q (inr it) =
      is_counted n p q (stretch_on n p it.mid q (looked_or_not p _ it.mid it.looked) (all_got it.mid _ it.items q it.gets))
  batch_read p r Tried.Again q it = vain_counted n p q it

  pub all_written : (p : PassView TableEvent) (ws : List (List ℕ × WriteRequest)) (wrotes : List Wrote) (q : PassView TableEvent) → AreWritten n p ws wrotes q → Stretch n p q
  all_written p ws [] q same = none_counted n p q same
  all_written p [] (wrote ∷ wrotes) q it = absurd it
  all_written p (w ∷ ws) (wrote ∷ wrotes) q (mid, one, rest) = stretch_on n p mid q (one_counted n p _ _ mid one.one) (all_written mid ws wrotes q rest)

  batch_wrote : (p : PassView TableEvent) (r : BatchWrite) (tried : Tried) (q : PassView TableEvent) → IsBatchWriteTry n p r tried q → Counted n p q
  batch_wrote p r (Tried.Reply reply) q (inl refused) = is_counted n p q (all_looked p _ refused.told q refused.looks)
  batch_wrote p r (Tried.Reply reply) q (inr it) =
      is_counted n p q (stretch_on n p it.mid q (looked_or_not p _ it.mid it.looked) (all_written it.mid _ it.wrotes q it.writes))
  batch_wrote p r Tried.Again q it = absurd it

  batch_stopped : (p : PassView TableEvent) (r : BatchWrite) (why : StepError) (q : PassView TableEvent) → BatchWriteGivesUp n p r why q → Counted n p q
  batch_stopped p r why q (inl gives) = gives_up_counted n p why q gives
  batch_stopped p r why q (inr it) =
      counted_after n p it.after q
      (stretch_on n p it.mid it.after (looked_or_not p _ it.mid it.looked) (all_written it.mid _ it.wrotes it.after it.writes))
      (stops_counted n it.after why q it.stops)

  batch_spent : (p : PassView TableEvent) (r : BatchWrite) (why : StepError) (q : PassView TableEvent) → BatchWriteGivesUp n p r why q → why ≡ StepError.Spent → q.used ≡ most_units
  batch_spent p r why q (inl gives) spent = gives_up_spent n p why q gives spent
  batch_spent p r why q (inr it) spent = stops_spent n it.after why q it.stops spent

  -- ---- pages

  all_parts : (p : PassView TableEvent) (parts : List PagePart) (q : PassView TableEvent) → AreOwnParts n p parts q → Stretch n p q
  all_parts p [] q same = none_counted n p q same
  all_parts p (part ∷ parts) q (mid, own, rest) = stretch_on n p mid q (one_counted n p _ _ mid own.one) (all_parts mid parts q rest)

  paged : (p : PassView TableEvent) (asked : PageAsked) (tried : Tried) (q : PassView TableEvent) → IsPageTry n p asked tried q → Counted n p q
  paged p asked (Tried.Reply reply) q (inl refused) = is_counted n p q (one_counted n p _ _ q refused.look)
  paged p asked (Tried.Reply reply) q (inr it) =
      is_counted n p q (stretch_on n p it.mid q (looked_counted n p _ it.mid it.looked) (all_parts it.mid it.page.parts q it.page.own))
  paged p asked Tried.Again q it = vain_counted n p q it

  -- ---- transactions

  pub looks_counted : (p : PassView TableEvent) (told : Told) (q : PassView TableEvent) → AllLooked n p told q → Stretch n p q
  looks_counted p told q looks = let own = own_looks n p told q looks in record { own = own.own; counts = own.counts }

  finding : (p : PassView TableEvent) (actions : List ItemAction) (name : List ℕ) (q : PassView TableEvent) → FindsGone n p actions name q → Stretch n p q
  finding p [] name q it = absurd it
  finding p (action ∷ actions) name q (inl found) = one_counted n p _ _ q found.0
  finding p (action ∷ actions) name q (inr (row, mid, one, rest)) = stretch_on n p mid q (one_counted n p _ _ mid one) (finding mid actions name q rest)

  gone : (p : PassView TableEvent) (actions : List ItemAction) (place : Option ℕ) (name : List ℕ) (q : PassView TableEvent) → IsGone n p actions place name q → Stretch n p q
  gone p actions place name q (inl at) = none_counted n p q at.1
  gone p actions place name q (inr finds) = finding p actions name q finds

  pub told_end : (p : PassView TableEvent) (actions : List ItemAction) (consumed : Option (List Consumed)) (end : WritesEnd) (reply : Reply) (q : PassView TableEvent)
      → IsToldEnd n p actions consumed end reply q → Stretch n p q
  told_end p actions consumed TransactEnd.Committed reply q it = none_counted n p q it.0
  told_end p actions consumed (TransactEnd.Cancelled reasons) reply q it = none_counted n p q it.0
  told_end p actions consumed (TransactEnd.Mismatch number) reply q it = none_counted n p q it.0
  told_end p actions consumed (TransactEnd.NoTable place) reply q (name, is, told) = gone p actions place name q is
  told_end p actions consumed _ reply q it = absurd it

  transacted : (p : PassView TableEvent) (r : TransactWrite) (tried : Tried) (q : PassView TableEvent) → IsTransactWriteTry n p r (Transacted.Tried tried) q → Counted n p q
  transacted p r (Tried.Reply reply) q (inl refused) = is_counted n p q (looks_counted p refused.told q refused.looks)
  transacted p r (Tried.Reply reply) q (inr it) =
      counted_before n p it.after q
      (counted_after n p it.mid it.after (looks_counted p it.told it.mid it.looks) (record { own = it.wrote.adds.own; added = it.wrote.adds.added }))
      (told_end it.after it.actions r.consumed it.end reply q it.is)
  transacted p r Tried.Again q it = vain_counted n p q it

  got_together : (p : PassView TableEvent) (r : TransactGet) (tried : Tried) (q : PassView TableEvent) → IsTransactGetTry n p r tried q → Counted n p q
  got_together p r (Tried.Reply reply) q (inl refused) = is_counted n p q (looks_counted p refused.told q refused.looks)
  got_together p r (Tried.Reply reply) q (inr it) = is_counted n p q (stretch_on n p it.mid q (looks_counted p it.told it.mid it.looks) (by_end it.ends))
    where
      by_end : ReadsTogether n p r it.mid it.keys reply q ⊎ ReadsApart n p r it.mid it.keys reply q → Stretch n it.mid q
      by_end (inl both) = record { own = _; counts = both.read.adds.counts }
      by_end (inr apart) = record { own = _; counts = apart.read.adds.counts }
  got_together p r Tried.Again q it = vain_counted n p q it

-- ---- any request

module _ (n : ℕ) (p : PassView TableEvent) where
  counted : (asked : Request) (tried : Tried) (q : PassView TableEvent) → IsTry n p asked tried q → Counted n p q
  counted (request.CreateTable r) tried q it = replied n p (λ reply. CreatesTable n p r reply q) q (λ reply c. created n p r reply q c) tried it
  counted (request.DeleteTable r) tried q it = replied n p _ q (λ reply c. commanded n p _ _ reply q c) tried it
  counted (request.UpdateTable r) tried q it = replied n p _ q (λ reply c. commanded n p _ _ reply q c) tried it
  counted (request.DescribeTable r) tried q it = replied n p _ q (λ reply c. by_look n p _ _ reply q c) tried it
  counted (request.ListTables r) tried q it = replied n p _ q (λ reply c. by_names n p _ _ _ reply q c) tried it
  counted (request.UpdateTimeToLive r) tried q it = replied n p _ q (λ reply c. commanded n p _ _ reply q c) tried it
  counted (request.DescribeTimeToLive r) tried q it = replied n p _ q (λ reply c. by_look n p _ _ reply q c) tried it
  counted (request.GetItem r) tried q it = read n p r tried q it
  counted (request.PutItem r) tried q it = wrote n p _ tried q it
  counted (request.UpdateItem r) tried q it = wrote n p _ tried q it
  counted (request.DeleteItem r) tried q it = wrote n p _ tried q it
  counted (request.BatchGet r) tried q it = batch_read n p r tried q it
  counted (request.BatchWrite r) tried q it = batch_wrote n p r tried q it
  counted (request.Query r) tried q it = paged n p (a_query r) tried q it
  counted (request.Scan r) tried q it = paged n p (a_scan r) tried q it
  counted (request.TransactWrite r) tried q it = transacted n p r tried q it
  counted (request.TransactGet r) tried q it = got_together n p r tried q it

  pub tries : (asked : Request) (tried : Tried) (q : PassView TableEvent) → IsTry n p asked tried q → Tries n p asked tried q
  tries asked tried q it = let c = counted asked tried q it in record { own = c.own; added = c.added; is = it }

  given_up : (asked : Request) (why : StepError) (q : PassView TableEvent) → IsGivenUp n p asked why q → Counted n p q
  given_up (request.PutItem r) why q it = write_stopped n p _ why q it
  given_up (request.UpdateItem r) why q it = write_stopped n p _ why q it
  given_up (request.DeleteItem r) why q it = write_stopped n p _ why q it
  given_up (request.BatchWrite r) why q it = batch_stopped n p r why q it
  given_up (request.TransactWrite r) why q it = record { own = it.leaves.own; added = it.leaves.added }
  given_up _ why q it = gives_up_counted n p why q it

  spent : (asked : Request) (why : StepError) (q : PassView TableEvent) → IsGivenUp n p asked why q → why ≡ StepError.Spent → q.used ≡ most_units
  spent (request.PutItem r) why q it = write_spent n p _ why q it
  spent (request.UpdateItem r) why q it = write_spent n p _ why q it
  spent (request.DeleteItem r) why q it = write_spent n p _ why q it
  spent (request.BatchWrite r) why q it = batch_spent n p r why q it
  spent (request.TransactWrite r) why q it = it.spent
  spent _ why q it = gives_up_spent n p why q it

  pub stops : (asked : Request) (why : StepError) (q : PassView TableEvent) → IsGivenUp n p asked why q → Stops n p asked why q
  stops asked why q it =
      let c = given_up asked why q it in
      record { own = c.own; added = c.added; is = it; spent = spent asked why q it }

  -- what is kept of Looks stays told
  pub told_tries : (asked : Request) (tried : Tried) (q : PassView TableEvent) → IsTry n p asked tried q → (looks : Looks) → AreTold (reverse p.front) looks
      → AreTold (reverse q.front) looks
  told_tries asked tried q it = told_counted n p q (counted asked tried q it)

  pub told_stops : (asked : Request) (why : StepError) (q : PassView TableEvent) → IsGivenUp n p asked why q → (looks : Looks) → AreTold (reverse p.front) looks
      → AreTold (reverse q.front) looks
  told_stops asked why q it = told_counted n p q (given_up asked why q it)
