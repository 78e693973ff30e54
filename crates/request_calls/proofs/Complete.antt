-- [Completeness], by the kinds of requests.
use Rattle.std.specs.List.{AllByRecursion}
use Rattle.std.proofs.Common.{◌≡◌, ◌≢◌, ◌⊎◌, inl, inr, ℕ, zero, suc, true, false, ◌||◌, List, [], ◌∷◌, ◌++◌, Any, length, take, drop, reverse, Option, None, Some, refl, sym, ap, ◌∙◌, subst, arith}
use Rattle.std.proofs.lemmas.Bool.{or_left}
use Rattle.attr_value.specs.Tree.{Attributes}
use Rattle.update_eval.specs.declared.fault.EvalFault.{EvalFault}
use Rattle.turnstile.specs.Passes.{PassView}
use Rattle.turnstile.proofs.Histories.{begins_on}
use Rattle.txn_core.specs.declared.message.Message.{Message}
use Rattle.txn_core.specs.declared.answer.Answer.{Answer}
use Rattle.txn_core.specs.declared.reason.Reason.{Reason}
use Rattle.txn_core.specs.declared.ruling.Ruling.{Ruling}
use Rattle.txn_core.specs.declared.ruling.Ruling.TheVariants.{Carries, Refuses}
use Rattle.txn_core.specs.State.{State}
use Rattle.txn_core.specs.Legal.{IsLegal, IsRuled as RuledSo, ruling_answer, state}
use Rattle.txn_core.proofs.Basics.{true_false}
use Rattle.txn_core.proofs.Exports.{had_stays, had_more}
use Rattle.cluster.proofs.OwnEntries.{counts_on}
use Rattle.coordinator.proofs.Moving.{added_by}
use Rattle.table_request.specs.declared.request.Request.{Request}
use Rattle.table_request.specs.declared.request.Request.TheVariants as request
use Rattle.table_request.specs.declared.items.GetItem.{GetItem}
use Rattle.table_request.specs.declared.batches.BatchWrite.{BatchWrite}
use Rattle.table_request.specs.declared.batches.TableWrites.{TableWrites}
use Rattle.table_request.specs.declared.batches.WriteRequest.{WriteRequest}
use Rattle.table_request.specs.declared.tables.CreateTable.{CreateTable}
use Rattle.table_request.specs.declared.time_to_live.UpdateTimeToLive.{UpdateTimeToLive}
use Rattle.table_request.specs.declared.transactions.TransactWrite.{TransactWrite}
use Rattle.table_request.specs.declared.transactions.TransactGet.{TransactGet}
use Rattle.table_model.specs.declared.reply.Reply.{Reply}
use Rattle.table_model.specs.declared.reply.Reply.TheVariants.{BatchWritten, Refused}
use Rattle.table_model.specs.declared.refusal.Refusal.TheVariants as refusal
use Rattle.table_model.specs.Consumed.{where_asked}
use Rattle.table_model.specs.Database.{Database}
use Rattle.table_model.specs.Effect.{IsEffect}
use Rattle.cell_model.specs.Actions.{ItemAction}
use Rattle.cell_model.specs.Commands.{waits_for, is_number, refusal as refuses, ruling}
use Rattle.cell_model.specs.Keys.{table_of}
use Rattle.cell_model.specs.Service.{service}
use Rattle.cell_model.specs.declared.answer.CatalogAnswer.{CatalogAnswer}
use Rattle.cell_model.specs.declared.catalog.Catalog.{Catalog}
use Rattle.cell_model.specs.declared.key.CellKey.{CellKey}
use Rattle.cell_model.specs.declared.command.CatalogCommand.TheVariants.{Create, TimeToLive}
use Rattle.cell_model.specs.declared.command.CatalogCommand.{CatalogCommand}
use Rattle.table_history.specs.Entries.{TableMessage, TableAnswer, TableEvent}
use Rattle.table_history.specs.Standing.{HasTables, HasShown}
use Rattle.table_history.specs.CommandEffects.{HasEffect}
use Rattle.cell_asks.specs.declared.asks.Wrote.{Wrote}
use Rattle.cell_asks.specs.declared.tried.Tried.{Tried}
use Rattle.cell_asks.specs.Answers.{wrote_answer}
use Rattle.cell_asks.specs.Steps.{answered, One, past_of}
use Rattle.cell_asks.proofs.Histories.{is_answer}
use Rattle.cell_asks.proofs.Trails.{one_counts}
use Rattle.table_calls.specs.Commands.{IsRuledReply, IsCommanded, CreatesTable, UpdatesTimeToLive}
use Rattle.table_calls.specs.Questions.{ByLook, ByNames}
use Rattle.item_calls.specs.Items.{IsWriteReply, RefusedByLook, IsReadTry, IsWriteTry}
use Rattle.batch_calls.specs.Looks.{RefusedByLooks}
use Rattle.batch_calls.specs.Writes.{names_written, AreWritten, CanBe, is_made, unmade, unwritten_in, unwritten, used_among, IsBatchWriteTry}
use Rattle.page_calls.specs.Asked.{PageAsked, a_scan, a_query, request_of}
use Rattle.page_calls.specs.Pages.{IsPageTry}
use Rattle.txn_reader.specs.Reads.{round}
use Rattle.transact_calls.specs.declared.write.Transacted.{Transacted}
use Rattle.transact_calls.specs.Looks.{RefusedByLooks as LooksRefuse}
use Rattle.transact_calls.specs.Gets.{ReadsTogether, ReadsApart, IsTransactGetTry}
use Rattle.transact_calls.specs.Transactions.{IsTransactWriteTry}
use Rattle.request_calls.specs.Requests.{IsTry}
use Rattle.request_calls.specs.Complete.{in_the_way, Meets, TransactionMeets, MeetsObstacle, FoundTwo, IsRuled, StatesFault, TellsAt, DoesAt, IsOfOneWrite, IsOfPage, WritesEach, IsOfTransaction, IsOfTables, RepliesAreComplete, CancelsAreReasoned, IsReasoned}
use Rattle.request_calls.proofs.Counted.{Stretch, Counted, none_counted, looked_counted}
use Rattle.request_calls.proofs.Trying.{looked_or_not, all_written, looks_counted}
use Rattle.request_calls.proofs.Transacted.{reasoned_all, transacted}
use Rattle.request_calls.proofs.Obstacles.{Found, same_own, reads_meet, both_meet}

-- one stretch after another, with what was met in them
behind : (P : List TableEvent → Type 0) (n : ℕ) (p mid q : PassView TableEvent) (s : Stretch n p mid) (t : Stretch n mid q) → P (s.own ++ t.own) → Found P n p q
behind P n p mid q s t met = (
  record {
    own = s.own ++ t.own;
    added = added_by (service n) 1 0 p (s.own ++ t.own) q (omega arith) (counts_on (service n) p s.own 0 mid t.own 0 q s.counts t.counts);
  },
  met,
)

-- ---- one entry

module _ (n : ℕ) (p : PassView TableEvent) (reply : Reply) (asked : Request) (mid : PassView TableEvent) (s : Stretch n p mid) (m : TableMessage) (a : TableAnswer) (q : PassView TableEvent) (one : One n mid m a q) where
  tells_at : (S : List TableEvent → Database → Type 0) → ((db : Database) → S (past_of one) db → IsEffect db asked p.moment db reply) → TellsAt n p reply q asked S
  tells_at S is = record {
    log = past_of one;
    after = begins_on p.front mid.front (past_of one) (s.counts.trail.rest, s.counts.trail.is) (one.adds.ends.none.rest, one.adds.ends.none.is);
    before = (answered n mid m a ∷ [], one.adds.ends.is);
    is = is;
  }

  does_at : ((db : Database) → HasTables n (past_of one) db → HasEffect n (past_of one) (answered n mid m a) asked reply db) → DoesAt n p reply q asked
  does_at is = record {
    log = past_of one;
    entry = answered n mid m a;
    after = begins_on p.front mid.front (past_of one) (s.counts.trail.rest, s.counts.trail.is) (one.adds.ends.none.rest, one.adds.ends.none.is);
    last = one.adds.ends.is;
    mine = ap (λ (z : PassView TableEvent). z.number) s.counts.pass;
    moment = ap (λ (z : PassView TableEvent). z.moment) s.counts.pass;
    is = is;
  }

  -- it met what stood in its way
  met_one : in_the_way a ≡ true → Found Meets n p q
  met_one met =
      behind Meets n p mid q s (record { own = answered n mid m a ∷ []; counts = one_counts n mid m a q one })
      (had_stays (λ x b. in_the_way b) s.own (answered n mid m a ∷ []) (ap (λ b. b || false) met))

-- ---- tables

module _ (n : ℕ) (p : PassView TableEvent) where
  here : Stretch n p p
  here = none_counted n p p refl

  commanded : (asked : Request) (name : List ℕ) (reply : Reply) (q : PassView TableEvent) → IsCommanded n p asked name reply q
      → DoesAt n p reply q asked ⊎ Found Meets n p q
  commanded asked name reply q it = by_answer it.answer it.own it.is
    where
      by_answer : (a : TableAnswer) (own : One n p (Message.Command it.command) a q) → IsRuledReply n p asked name it.command (past_of own) a reply
          → DoesAt n p reply q asked ⊎ Found Meets n p q
      by_answer (Answer.Held number) own is = inr (met_one n p reply asked p (none_counted n p p refl) _ _ q own refl)
      by_answer _ own is = inl (does_at n p reply asked p (none_counted n p p refl) _ _ q own is)

  -- no transaction stands in the way of a command that waits for no table
  module _ (command : CatalogCommand) (free : (catalog : Catalog) → waits_for command catalog ≡ None) where
    not_ruled : (r : Ruling CatalogAnswer) (number : ℕ) → (let a : TableAnswer = Answer.Held number in a) ≡ ruling_answer (service n) r → ⊥
    not_ruled (Carries told) number is = cc
    not_ruled (Refuses told) number is = cc

    not_held : (number : ℕ) (q : PassView TableEvent) → One n p (Message.Command command) (Answer.Held number) q → ⊥
    not_held number q own = by_refusal (refuses command w.catalog) (is_answer n p (Message.Command command) (Answer.Held number) q own)
      where
        w : State CellKey Attributes ItemAction Catalog
        w = state (service n) (reverse (past_of own))

        by_refusal : (o : Option CatalogAnswer) → RuledSo (service n) w command p.moment o (Answer.Held number) → ⊥
        by_refusal (Some told) is = cc
        by_refusal None (inl (m, is, way)) =
            true_false ((service n).concerns command w.catalog way.item) way.concerned (ap (λ o. is_number o (table_of way.item)) (free w.catalog))
        by_refusal None (inr (is, clear)) = not_ruled (ruling command w.catalog) number is

  -- such a command is carried out, or refused by the tables
  commanded_free : (asked : Request) (name : List ℕ) (reply : Reply) (q : PassView TableEvent) → (it : IsCommanded n p asked name reply q)
      → ((catalog : Catalog) → waits_for it.command catalog ≡ None) → DoesAt n p reply q asked
  commanded_free asked name reply q it free = by_answer it.answer it.own it.is
    where
      by_answer : (a : TableAnswer) (own : One n p (Message.Command it.command) a q) → IsRuledReply n p asked name it.command (past_of own) a reply → DoesAt n p reply q asked
      by_answer (Answer.Held number) own is = absurd (not_held it.command free number q own)
      by_answer _ own is = does_at n p reply asked p (none_counted n p p refl) _ _ q own is

  its_command : (asked : CatalogCommand) (command : CatalogCommand) → Some asked ≡ Some command → asked ≡ command
  its_command asked command is = cc

  created : (r : CreateTable) (reply : Reply) (q : PassView TableEvent) → CreatesTable n p r reply q → DoesAt n p reply q (request.CreateTable r) ⊎ StatesFault r reply
  created r reply q (inl it) =
      inl (commanded_free (request.CreateTable r) r.schema.name reply q it
      (λ catalog. ap (λ (c : CatalogCommand). waits_for c catalog) (sym (its_command (Create r.schema) it.command it.its))))
  created r reply q (inr it) = inr (record { fault = it.fault; first = it.first; is = it.is })

  timed : (r : UpdateTimeToLive) (reply : Reply) (q : PassView TableEvent) → UpdatesTimeToLive n p r reply q → DoesAt n p reply q (request.UpdateTimeToLive r)
  timed r reply q it =
      commanded_free (request.UpdateTimeToLive r) r.table reply q it
      (λ catalog. ap (λ (c : CatalogCommand). waits_for c catalog) (sym (its_command (TimeToLive r.table r.name r.enabled) it.command it.its)))

  by_look : (asked : Request) (name : List ℕ) (reply : Reply) (q : PassView TableEvent) → ByLook n p asked name reply q → TellsAt n p reply q asked (HasTables n)
  by_look asked name reply q it = tells_at n p reply asked p here _ _ q it.own (HasTables n) it.is

  by_names : (asked : Request) (after : Option (List ℕ)) (limit : ℕ) (reply : Reply) (q : PassView TableEvent) → ByNames n p asked after limit reply q
      → TellsAt n p reply q asked (HasTables n)
  by_names asked after limit reply q it = tells_at n p reply asked p here _ _ q it.own (HasTables n) it.is

  refused : (asked : Request) (reply : Reply) (q : PassView TableEvent) → RefusedByLook n p asked reply q → TellsAt n p reply q asked (HasTables n)
  refused asked reply q it = tells_at n p reply asked p here _ _ q it.look (HasTables n) it.is

  -- ---- items

  read : (r : GetItem) (reply : Reply) (q : PassView TableEvent) → IsReadTry n p r (Tried.Reply reply) q
      → TellsAt n p reply q (request.GetItem r) (HasTables n) ⊎ TellsAt n p reply q (request.GetItem r) (HasShown n)
  read r reply q (inl it) = inl (refused (request.GetItem r) reply q it)
  read r reply q (inr it) = inr (tells_at n p reply (request.GetItem r) it.mid (looked_counted n p r.table it.mid it.looked) _ _ q it.got (HasShown n) it.is)

  wrote : (asked : Request) (reply : Reply) (q : PassView TableEvent) → IsWriteTry n p asked (Tried.Reply reply) q
      → IsOfOneWrite n p reply q asked ⊎ Found Meets n p q
  wrote asked reply q (inl it) = inl (inl (refused asked reply q it))
  wrote asked reply q (inr it) = by_answer it.answer it.wrote it.is
    where
      by_answer : (a : TableAnswer) (own : One n it.mid (Message.Write it.action) a q)
          → IsWriteReply n (past_of own) (answered n it.mid (Message.Write it.action) a) asked reply a → IsOfOneWrite n p reply q asked ⊎ Found Meets n p q
      by_answer (Answer.Held number) own is = inr (met_one n p reply asked it.mid (looked_counted n p _ it.mid it.looked) _ _ q own refl)
      by_answer Answer.Stale own is = absurd is
      by_answer _ own is = inl (inr (does_at n p reply asked it.mid (looked_counted n p _ it.mid it.looked) _ _ q own is))

  -- ---- pages

  paged : (page : PageAsked) (reply : Reply) (q : PassView TableEvent) → IsPageTry n p page (Tried.Reply reply) q → IsOfPage n p reply q (request_of page) page
  paged page reply q (inl it) = inl (refused (request_of page) reply q it)
  paged page reply q (inr it) = inr it

-- ---- writes of a batch

all_taken : (P : Wrote → Type 0) (k : ℕ) (wrotes : List Wrote) → AllByRecursion P wrotes → AllByRecursion P (take k wrotes)
all_taken P zero wrotes all = tt
all_taken P (suc k) [] all = tt
all_taken P (suc k) (w ∷ wrotes) all = (all.0, all_taken P k wrotes all.1)

all_left : (P : Wrote → Type 0) (k : ℕ) (wrotes : List Wrote) → AllByRecursion P wrotes → AllByRecursion P (drop k wrotes)
all_left P zero wrotes all = all
all_left P (suc k) [] all = tt
all_left P (suc k) (w ∷ wrotes) all = all_left P k wrotes all.1

abbrev AreMade : List Wrote → Type 0
AreMade wrotes = AllByRecursion (λ wrote. is_made wrote ≡ true) wrotes

none_unmade : (wrotes : List Wrote) (ws : List WriteRequest) → AreMade wrotes → unmade wrotes ws ≡ []
none_unmade [] ws made = refl
none_unmade (wrote ∷ wrotes) [] made = refl
none_unmade (wrote ∷ wrotes) (w ∷ ws) made = by_first wrote made.0 (none_unmade wrotes ws made.1)
  where
    by_first : (wrote : Wrote) → is_made wrote ≡ true → unmade wrotes ws ≡ [] → unmade (wrote ∷ wrotes) (w ∷ ws) ≡ []
    by_first (Wrote.Written old new) is none = none
    by_first _ is none = absurd (cc)

none_unwritten : (ts : List TableWrites) (wrotes : List Wrote) → AreMade wrotes → unwritten ts wrotes ≡ []
none_unwritten [] wrotes made = refl
none_unwritten (t ∷ ts) wrotes made =
    let many = length t.writes in
    let mine = none_unmade (take many wrotes) t.writes (all_taken _ many wrotes made) in
    let rest = none_unwritten ts (drop many wrotes) (all_left _ many wrotes made) in
    λ i. unwritten_in t.table (mine i) ++ rest i

module _ (n : ℕ) where
  -- each was ruled, or one met what stood in its way
  abbrev Ruled : List Wrote → PassView TableEvent → PassView TableEvent → Type 0
  Ruled wrotes p q = AllByRecursion IsRuled wrotes ⊎ ((s : Stretch n p q) × Meets s.own)

  each_ruled : (p : PassView TableEvent) (ws : List (List ℕ × WriteRequest)) (wrotes : List Wrote) (q : PassView TableEvent) → AreWritten n p ws wrotes q → Ruled wrotes p q
  each_ruled p ws [] q it = inl tt
  each_ruled p [] (wrote ∷ wrotes) q it = absurd it
  each_ruled p (w ∷ ws) (now ∷ wrotes) q (mid, first, rest) = by_answer now first.one first.can (each_ruled mid ws wrotes q rest)
    where
      with_first : (a : TableAnswer) → One n p (Message.Write first.action) a mid → (s : Stretch n mid q)
          → Meets (answered n p (Message.Write first.action) a ∷ s.own) → (t : Stretch n p q) × Meets t.own
      with_first a one s h =
          let e = answered n p (Message.Write first.action) a in (
            record { own = e ∷ s.own; counts = counts_on (service n) p (e ∷ []) 0 mid s.own 0 q (one_counts n p (Message.Write first.action) a mid one) s.counts },
            h,
          )

      met : (a : TableAnswer) → One n p (Message.Write first.action) a mid → in_the_way a ≡ true → (s : Stretch n p q) × Meets s.own
      met a one is = let later = all_written n mid ws wrotes q rest in with_first a one later (or_left _ _ is)

      met_later : (a : TableAnswer) → One n p (Message.Write first.action) a mid → (s : Stretch n mid q) × Meets s.own → (s : Stretch n p q) × Meets s.own
      met_later a one (s, h) = with_first a one s (had_more (λ m b. in_the_way b) (answered n p (Message.Write first.action) a) s.own h)

      ruled : (wrote : Wrote) → One n p (Message.Write first.action) (wrote_answer wrote) mid → IsRuled wrote
          → Ruled wrotes mid q → Ruled (wrote ∷ wrotes) p q
      ruled wrote one is (inl all) = inl (is, all)
      ruled wrote one is (inr later) = inr (met_later (wrote_answer wrote) one later)

      by_answer : (wrote : Wrote) → One n p (Message.Write first.action) (wrote_answer wrote) mid → CanBe wrote
          → Ruled wrotes mid q → Ruled (wrote ∷ wrotes) p q
      by_answer (Wrote.Written old new) one can more = ruled (Wrote.Written old new) one tt more
      by_answer (Wrote.Invalid fault) one can more = ruled (Wrote.Invalid fault) one can more
      by_answer (Wrote.CondFalse old) one can more = absurd can
      by_answer (Wrote.Held number) one can more = inr (met (Answer.Held number) one refl)
      by_answer Wrote.Stale one can more = inr (met Answer.Stale one refl)

module _ (n : ℕ) (p : PassView TableEvent) where
  batch_wrote : (r : BatchWrite) (reply : Reply) (q : PassView TableEvent) → IsBatchWriteTry n p r (Tried.Reply reply) q
      → (RefusedByLooks n p (names_written r) (request.BatchWrite r) reply q ⊎ WritesEach n p reply q r) ⊎ Found Meets n p q
  batch_wrote r reply q (inl it) = inl (inl it)
  batch_wrote r reply q (inr it) = by_writes (each_ruled n it.mid _ it.wrotes q it.writes)
    where
      by_writes : Ruled n it.wrotes it.mid q
          → (RefusedByLooks n p (names_written r) (request.BatchWrite r) reply q ⊎ WritesEach n p reply q r) ⊎ Found Meets n p q
      by_writes (inl ruled) =
          inl (inr (record {
            all = it;
            ruled = ruled;
            made = λ made. it.is ∙ ap (λ left. BatchWritten left (where_asked r.capacity (used_among r.tables it.wrotes))) (none_unwritten r.tables it.wrotes made);
          }))
      by_writes (inr (s, met)) =
          let before = looked_or_not n p _ it.mid it.looked in
          inr (behind Meets n p it.mid q before s (had_stays (λ m a. in_the_way a) before.own s.own met))

  -- ---- reads of several items at one point

  got : (r : TransactGet) (reply : Reply) (q : PassView TableEvent) → IsTransactGetTry n p r (Tried.Reply reply) q
      → (LooksRefuse n p (request.TransactGet r) reply q ⊎ TellsAt n p reply q (request.TransactGet r) (HasTables n))
      ⊎ Found (λ own. Meets own ⊎ FoundTwo own) n p q
  got r reply q (inl it) = inl (inl it)
  got r reply q (inr it) = by_end (looks_counted n p it.told it.mid it.looks) it.ends
    where
      by_end : Stretch n p it.mid → ReadsTogether n p r it.mid it.keys reply q ⊎ ReadsApart n p r it.mid it.keys reply q
          → (LooksRefuse n p (request.TransactGet r) reply q ⊎ TellsAt n p reply q (request.TransactGet r) (HasTables n))
          ⊎ Found (λ own. Meets own ⊎ FoundTwo own) n p q
      by_end looks (inl both) =
          let point = both.read.point in
          inl (inr (record {
            log = point.log;
            after = begins_on p.front it.mid.front point.log (looks.counts.trail.rest, looks.counts.trail.is) (point.before.rest, point.before.is);
            before = (point.after.rest, point.after.is);
            is = both.is;
          }))
      by_end looks (inr apart) =
          let reads = apart.read.adds in
          let one = round (service n) it.mid it.keys reads.first in
          let two = round (service n) it.mid it.keys reads.second in
          let some = subst (λ rs. Any (λ (r : Reason Attributes EvalFault). r ≢ Reason.None) rs) reads.ruled.0 reads.ruled.1 in
          inr (
          behind (λ own. Meets own ⊎ FoundTwo own) n p it.mid q looks (record { own = one ++ two; counts = reads.counts })
          (both_meet n it.mid looks.own one two (reads_meet n it.mid it.keys reads.first reads.second reads.each_first reads.each_second some))
          )

-- ---- any request

-- what was met among what was counted was met among the own entries
met_own : (P : List TableEvent → Type 0) (n : ℕ) (p q : PassView TableEvent) (c : Counted n p q) → Found P n p q → P c.own
met_own P n p q c (d, met) = subst P (same_own n p q d c) met

or_met : (X : Type 0) (P : List TableEvent → Type 0) (n : ℕ) (p q : PassView TableEvent) (c : Counted n p q) → X ⊎ Found P n p q → X ⊎ P c.own
or_met X P n p q c (inl it) = inl it
or_met X P n p q c (inr found) = inr (met_own P n p q c found)

module _ (n : ℕ) (p q : PassView TableEvent) (legal : IsLegal (service n) (reverse q.front)) (reply : Reply) (c : Counted n p q) where
  transaction : (r : TransactWrite) → IsTransactWriteTry n p r (Transacted.Tried (Tried.Reply reply)) q
      → IsOfTransaction n p reply q r ⊎ TransactionMeets c.own (reverse q.front)
  transaction r (inl it) = inl (inl it)
  transaction r (inr it) = or_met _ _ n p q c (transacted n p r reply q legal it)

  complete : (asked : Request) → IsTry n p asked (Tried.Reply reply) q → IsOfTables n p reply q asked ⊎ MeetsObstacle asked c.own (reverse q.front)
  complete (request.CreateTable r) it = inl (created n p r reply q it)
  complete (request.DeleteTable r) it = or_met _ Meets n p q c (commanded n p _ _ reply q it)
  complete (request.UpdateTable r) it = or_met _ Meets n p q c (commanded n p _ _ reply q it)
  complete (request.UpdateTimeToLive r) it = inl (timed n p r reply q it)
  complete (request.DescribeTable r) it = inl (by_look n p _ _ reply q it)
  complete (request.ListTables r) it = inl (by_names n p _ _ _ reply q it)
  complete (request.DescribeTimeToLive r) it = inl (by_look n p _ _ reply q it)
  complete (request.GetItem r) it = inl (read n p r reply q it)
  complete (request.PutItem r) it = or_met _ Meets n p q c (wrote n p _ reply q it)
  complete (request.UpdateItem r) it = or_met _ Meets n p q c (wrote n p _ reply q it)
  complete (request.DeleteItem r) it = or_met _ Meets n p q c (wrote n p _ reply q it)
  complete (request.Query r) it = inl (paged n p (a_query r) reply q it)
  complete (request.Scan r) it = inl (paged n p (a_scan r) reply q it)
  complete (request.BatchGet r) it = inl it
  complete (request.BatchWrite r) it = or_met _ Meets n p q c (batch_wrote n p r reply q it)
  complete (request.TransactWrite r) it = transaction r it
  complete (request.TransactGet r) it = or_met _ _ n p q c (got n p r reply q it)

pub replies_are_complete : (n : ℕ) → RepliesAreComplete n
replies_are_complete n p q legal asked reply tries = complete n p q legal reply (record { own = tries.own; added = tries.added }) asked tries.is

pub cancels_are_reasoned : (n : ℕ) → CancelsAreReasoned n
cancels_are_reasoned n p q legal r reasons tries = by_end tries.is
  where
    by_end : IsTransactWriteTry n p r (Transacted.Tried (Tried.Reply (Refused (refusal.Cancelled reasons)))) q
        → LooksRefuse n p (request.TransactWrite r) (Refused (refusal.Cancelled reasons)) q ⊎ IsReasoned n p (Refused (refusal.Cancelled reasons)) q r
    by_end (inl it) = inl it
    by_end (inr it) = inr (reasoned_all n p r (Refused (refusal.Cancelled reasons)) q legal it reasons refl)
