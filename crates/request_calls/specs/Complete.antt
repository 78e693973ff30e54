-- [Completeness]: a reply is that of the sequential database, or an entry met what stood in its way.
use Rattle.std.specs.Prelude.{◌≡◌, ◌≢◌, ◌⊎◌, ℕ, Bool, true, false, ◌&&◌, nat_eq, List, [], ◌∷◌, ◌++◌, reverse, Option, Some}
use Rattle.std.specs.List.{list_all, AllByRecursion}
use Rattle.attr_value.specs.Tree.{Attributes}
use Rattle.update_eval.specs.declared.fault.EvalFault.{EvalFault}
use Rattle.update_eval.specs.declared.fault.EvalFault.TheVariants.{IndexKey}
use Rattle.turnstile.specs.Histories.{Has, IsBeginning}
use Rattle.turnstile.specs.Passes.{PassView}
use Rattle.table_schema.specs.declared.fault.SchemaFault.{SchemaFault}
use Rattle.table_schema.specs.Index.{stated_of}
use Rattle.table_schema.specs.Fault.{IsFirstFault}
use Rattle.txn_core.specs.declared.message.Message.{Message}
use Rattle.txn_core.specs.declared.answer.Answer.{Answer}
use Rattle.txn_core.specs.declared.reason.Reason.{Reason}
use Rattle.txn_core.specs.declared.stamp.Stamp.{Stamp}
use Rattle.txn_core.specs.Answers.{KeptToken}
use Rattle.txn_core.specs.Effects.{Commits}
use Rattle.txn_core.specs.History.{Had, effect, found_kept}
use Rattle.txn_core.specs.Laws.{HadCauses, order}
use Rattle.txn_core.specs.Legal.{AreTold, IsLegal}
use Rattle.txn_core.specs.Serial.{standings}
use Rattle.coordinator.specs.Drives.{is_none}
use Rattle.coordinator.specs.Writes.{names}
use Rattle.table_request.specs.declared.request.Request.{Request}
use Rattle.table_request.specs.declared.request.Request.TheVariants as request
use Rattle.table_request.specs.declared.tables.CreateTable.{CreateTable}
use Rattle.table_request.specs.declared.batches.BatchWrite.{BatchWrite}
use Rattle.table_request.specs.declared.transactions.TransactAction.{TransactAction}
use Rattle.table_request.specs.declared.transactions.TransactWrite.{TransactWrite}
use Rattle.table_model.specs.declared.reply.Reply.{Reply}
use Rattle.table_model.specs.declared.reply.Reply.TheVariants.{BatchWritten, Refused, TransactWritten}
use Rattle.table_model.specs.declared.refusal.Reason.{Reason as ToldReason}
use Rattle.table_model.specs.declared.refusal.Refusal.TheVariants as refusal
use Rattle.table_model.specs.Catalog.{schema_refusal}
use Rattle.table_model.specs.Consumed.{where_asked}
use Rattle.table_model.specs.Database.{Database}
use Rattle.table_model.specs.Effect.{IsEffect}
use Rattle.table_model.specs.Transactions.{is_accepted, outcome_of, reason_of}
use Rattle.cell_model.specs.declared.key.CellKey.{CellKey}
use Rattle.cell_model.specs.Actions.{ItemAction}
use Rattle.cell_model.specs.Service.{service}
use Rattle.table_history.specs.Entries.{TableMessage, TableAnswer, TableEvent}
use Rattle.table_history.specs.Standing.{HasTables, HasShown}
use Rattle.table_history.specs.CommandEffects.{HasEffect}
use Rattle.cell_asks.specs.declared.asks.Wrote.{Wrote}
use Rattle.cell_asks.specs.declared.tried.Tried.{Tried}
use Rattle.batch_calls.specs.Batches.{IsBatchGetTry}
use Rattle.batch_calls.specs.Looks.{RefusedByLooks}
use Rattle.batch_calls.specs.Writes.{WritesAll, is_made, names_written, used_among}
use Rattle.page_calls.specs.Asked.{PageAsked, a_scan, a_query}
use Rattle.page_calls.specs.Pages.{Reads as ReadsPage}
use Rattle.transact_calls.specs.Ends.{reason_told, reasons_told}
use Rattle.transact_calls.specs.Looks.{RefusedByLooks as LooksRefuse}
use Rattle.transact_calls.specs.Transactions.{Writes as WritesTogether}
use Rattle.request_calls.specs.Requests.{Tries}

-- ---- obstacles

-- what a message met that is no fault of its request: a table that is gone, what another transaction holds, a stamp that is not
-- earlier
abbrev pub in_the_way : TableAnswer → Bool
in_the_way Answer.Stale = true
in_the_way (Answer.Held number) = true
in_the_way (Answer.Late stamp) = true
in_the_way (Answer.Version item version (Some number)) = true
in_the_way _ = false

-- one of these entries met such
abbrev pub Meets : List TableEvent → Type 0
Meets own = Had (λ m a. in_the_way a) own

-- one of these entries read this version of the item
pub record FoundVersion (own : List TableEvent) (key : CellKey) (version : ℕ) : Type 0 where
  pub entry : TableEvent
  pub has : Has own entry
  pub message : entry.message ≡ Message.ReadVersion key
  pub item : Option Attributes
  pub holder : Option ℕ
  pub answer : entry.answer ≡ Answer.Version item version holder

-- two of them read two versions of one item
pub record FoundTwo (own : List TableEvent) : Type 0 where
  pub key : CellKey
  pub first : ℕ
  pub second : ℕ
  pub one : FoundVersion own key first
  pub two : FoundVersion own key second
  pub differ : first ≢ second

-- a Begin that names the number as that of its transaction
abbrev pub begun_as : ℕ → TableMessage → TableAnswer → Bool
begun_as number (Message.Begin token actions) a = names number a
begun_as number _ a = false

-- a Prepare of the number that met what stands in its way
abbrev pub stops : ℕ → TableMessage → TableAnswer → Bool
stops number (Message.Prepare m stamp action) a = nat_eq m number && in_the_way a
stops number _ a = false

-- an own Begin named a number, and in the history a Prepare of that met such, whoever drove it
pub record TransactionMeets (own es : List TableEvent) : Type 0 where
  pub number : ℕ
  pub its : Had (begun_as number) own
  pub met : Had (stops number) es

-- what can stand in a request's way, by its own entries, and of a transaction by its entries in the history; in the way of all
-- others there is nothing
abbrev pub MeetsObstacle : Request → List TableEvent → List TableEvent → Type 0
MeetsObstacle (request.DeleteTable r) own es = Meets own
MeetsObstacle (request.UpdateTable r) own es = Meets own
MeetsObstacle (request.PutItem r) own es = Meets own
MeetsObstacle (request.UpdateItem r) own es = Meets own
MeetsObstacle (request.DeleteItem r) own es = Meets own
MeetsObstacle (request.BatchWrite r) own es = Meets own
MeetsObstacle (request.TransactWrite r) own es = TransactionMeets own es
MeetsObstacle (request.TransactGet r) own es = Meets own ⊎ FoundTwo own
MeetsObstacle _ own es = ⊥

-- ---- replies of the tables

-- the schema that a CreateTable states breaks a rule, which refuses it
pub record StatesFault (r : CreateTable) (reply : Reply) : Type 0 where
  pub fault : SchemaFault
  pub first : IsFirstFault (stated_of r.schema) fault
  pub is : reply ≡ Refused (schema_refusal fault)

-- a write of a batch was made, or it was refused by the key of an index
abbrev pub IsRuled : Wrote → Type 0
IsRuled (Wrote.Written old new) = Unit {0}
IsRuled (Wrote.Invalid fault) = fault ≡ IndexKey
IsRuled _ = ⊥

-- why the tables themselves do not take an action, or nothing
abbrev pub is_own : Reason Attributes EvalFault → Bool
is_own Reason.None = true
is_own (Reason.ConditionFalse old) = true
is_own (Reason.Invalid fault) = true
is_own _ = false

-- a number was committed, and every database that had the tables then accepts each of these actions
pub record AreTaken (n : ℕ) (es : List TableEvent) (number : ℕ) (asked : List TransactAction) : Type 0 where
  pub newer : List TableEvent
  pub entry : TableEvent
  pub older : List TableEvent
  pub there : newer ++ entry ∷ older ≡ es
  pub commits : effect entry ≡ Commits number
  pub accepted : (db : Database) → HasTables n (reverse older) db → list_all (λ action. is_accepted (outcome_of db action)) asked ≡ true

-- at a Prepare of the action, every database that had the tables then gives this reason for it
pub record IsGiven (n : ℕ) (es : List TableEvent) (number : ℕ) (stamp : Stamp) (asked : TransactAction) (action : ItemAction) (reason : ToldReason) : Type 0 where
  pub newer : List TableEvent
  pub entry : TableEvent
  pub older : List TableEvent
  pub there : newer ++ entry ∷ older ≡ es
  pub message : entry.message ≡ Message.Prepare number stamp action
  pub given : (db : Database) → HasTables n (reverse older) db → reason_of db asked ≡ reason

-- so it is of each action that the tables themselves did not take
abbrev pub AreGiven : ℕ → List TableEvent → ℕ → Stamp → List TransactAction → List ItemAction → List (Reason Attributes EvalFault) → Type 0
AreGiven n es number stamp (asked ∷ others) (action ∷ actions) (Reason.ConditionFalse old ∷ reasons) =
    IsGiven n es number stamp asked action (reason_told action.show_old (Reason.ConditionFalse old)) × AreGiven n es number stamp others actions reasons
AreGiven n es number stamp (asked ∷ others) (action ∷ actions) (Reason.Invalid fault ∷ reasons) =
    IsGiven n es number stamp asked action (reason_told action.show_old (Reason.Invalid fault)) × AreGiven n es number stamp others actions reasons
AreGiven n es number stamp (asked ∷ others) (action ∷ actions) (_ ∷ reasons) = AreGiven n es number stamp others actions reasons
AreGiven n es number stamp [] [] [] = Unit {0}
AreGiven n es number stamp _ _ _ = ⊥

module _ (n : ℕ) (p : PassView TableEvent) (reply : Reply) (q : PassView TableEvent) where
  module _ (asked : Request) where
    -- at a point inside the call, every database that stands for what had happened gives the reply and stays as it is
    pub record TellsAt (Stands : List TableEvent → Database → Type 0) : Type 0 where
      pub log : List TableEvent
      pub after : IsBeginning p.front log
      pub before : IsBeginning log q.front
      pub is : (db : Database) → Stands log db → IsEffect db asked p.moment db reply

    -- at the own entry that is the last, [Effect] makes of every database that has the tables before it, with the reply, one that has
    -- those after it
    pub record DoesAt : Type 0 where
      pub log : List TableEvent
      pub entry : TableEvent
      pub after : IsBeginning p.front log
      pub last : log ++ entry ∷ [] ≡ q.front
      pub mine : entry.pass ≡ p.number
      pub moment : entry.moment ≡ p.moment
      pub is : (db : Database) → HasTables n log db → HasEffect n log entry asked reply db

    -- refused as the tables then say, or carried out
    abbrev pub IsOfOneWrite : Type 0
    IsOfOneWrite = TellsAt (HasTables n) ⊎ DoesAt

  -- refused as the tables then say, or one page
  abbrev pub IsOfPage : Request → PageAsked → Type 0
  IsOfPage asked page = TellsAt asked (HasTables n) ⊎ ReadsPage n p page reply q

  -- each write was made, or refused by the key of an index, as it is by itself; where all were made nothing is left over
  pub record WritesEach (r : BatchWrite) : Type 0 where
    pub all : WritesAll n p r reply q
    pub ruled : AllByRecursion IsRuled all.wrotes
    pub made :
        AllByRecursion (λ wrote. is_made wrote ≡ true) all.wrotes
        → reply ≡ BatchWritten [] (where_asked r.capacity (used_among r.tables all.wrotes))

  -- ---- of a transaction

  module _ (r : TransactWrite) where
    -- it stands in the one order, once, with the actions that the request states, each of which [Effect] accepted at its commit
    pub record IsMade : Type 0 where
      pub all : WritesTogether n p r reply q
      pub number : ℕ
      pub its : Had (begun_as number) all.wrote.adds.own
      pub stamp : Stamp
      pub once : standings (order (service n) (reverse q.front)) number ≡ (stamp, all.actions) ∷ []
      pub taken : AreTaken n (reverse q.front) number r.actions
      pub is : reply ≡ TransactWritten r.consumed

    -- it was cancelled: each reason is what a Prepare of its action was told, with the cause that was there then, and one is not None;
    -- where it is the tables' own, [Effect] gives it
    pub record IsReasoned : Type 0 where
      pub all : WritesTogether n p r reply q
      pub number : ℕ
      pub its : Had (begun_as number) all.wrote.adds.own
      pub stamp : Stamp
      pub reasons : List (Reason Attributes EvalFault)
      pub told : AreTold (service n) (reverse q.front) number all.actions reasons
      pub causes : HadCauses (service n) (reverse q.front) number stamp all.actions reasons
      pub given : AreGiven n (reverse q.front) number stamp r.actions all.actions reasons
      pub some : list_all is_none reasons ≡ false
      pub is : reply ≡ Refused (refusal.Cancelled (reasons_told all.actions reasons))

    -- so, and the tables themselves did not take one of its actions at least, or more
    pub record IsRefused : Type 0 where
      pub reasoned : IsReasoned
      pub own : list_all is_own reasoned.reasons ≡ true

    -- at a Begin of the request its token lived with other actions
    pub record IsMismatch : Type 0 where
      pub all : WritesTogether n p r reply q
      pub newer : List TableEvent
      pub entry : TableEvent
      pub older : List TableEvent
      pub there : newer ++ entry ∷ older ≡ reverse q.front
      pub message : entry.message ≡ Message.Begin r.token all.actions
      pub kept : KeptToken ItemAction
      pub found : found_kept older entry.moment r.token ≡ Some kept
      pub other : kept.actions ≢ all.actions
      pub is : reply ≡ Refused refusal.Mismatch

    abbrev pub IsOfTransaction : Type 0
    IsOfTransaction = LooksRefuse n p (request.TransactWrite r) reply q ⊎ IsMade ⊎ IsRefused ⊎ IsMismatch

  -- ---- of any request

  abbrev pub IsOfTables : Request → Type 0
  IsOfTables (request.CreateTable r) = DoesAt (request.CreateTable r) ⊎ StatesFault r reply
  IsOfTables (request.DeleteTable r) = DoesAt (request.DeleteTable r)
  IsOfTables (request.UpdateTable r) = DoesAt (request.UpdateTable r)
  IsOfTables (request.UpdateTimeToLive r) = DoesAt (request.UpdateTimeToLive r)
  IsOfTables (request.DescribeTable r) = TellsAt (request.DescribeTable r) (HasTables n)
  IsOfTables (request.ListTables r) = TellsAt (request.ListTables r) (HasTables n)
  IsOfTables (request.DescribeTimeToLive r) = TellsAt (request.DescribeTimeToLive r) (HasTables n)
  IsOfTables (request.GetItem r) = TellsAt (request.GetItem r) (HasTables n) ⊎ TellsAt (request.GetItem r) (HasShown n)
  IsOfTables (request.PutItem r) = IsOfOneWrite (request.PutItem r)
  IsOfTables (request.UpdateItem r) = IsOfOneWrite (request.UpdateItem r)
  IsOfTables (request.DeleteItem r) = IsOfOneWrite (request.DeleteItem r)
  IsOfTables (request.Query r) = IsOfPage (request.Query r) (a_query r)
  IsOfTables (request.Scan r) = IsOfPage (request.Scan r) (a_scan r)
  IsOfTables (request.BatchGet r) = IsBatchGetTry n p r (Tried.Reply reply) q
  IsOfTables (request.BatchWrite r) = RefusedByLooks n p (names_written r) (request.BatchWrite r) reply q ⊎ WritesEach r
  IsOfTables (request.TransactWrite r) = IsOfTransaction r
  IsOfTables (request.TransactGet r) = LooksRefuse n p (request.TransactGet r) reply q ⊎ TellsAt (request.TransactGet r) (HasTables n)

-- ---- the laws

-- where a try came to a reply, in a legal history, the reply is one of the tables inside the call, or an own entry, or one of the
-- request's transaction, met what stood in its way
abbrev pub RepliesAreComplete : ℕ → Type 0
RepliesAreComplete n =
    (p q : PassView TableEvent) → IsLegal (service n) (reverse q.front) → (asked : Request) (reply : Reply)
    → (tries : Tries n p asked (Tried.Reply reply) q) → IsOfTables n p reply q asked ⊎ MeetsObstacle asked tries.own (reverse q.front)

-- where a transaction's reply is that it was cancelled, each reason of its actions is real; or own Looks refuse the request
abbrev pub CancelsAreReasoned : ℕ → Type 0
CancelsAreReasoned n =
    (p q : PassView TableEvent) → IsLegal (service n) (reverse q.front) → (r : TransactWrite) (reasons : List ToldReason)
    → (let reply = Refused (refusal.Cancelled reasons) in
    Tries n p (request.TransactWrite r) (Tried.Reply reply) q
    → LooksRefuse n p (request.TransactWrite r) reply q ⊎ IsReasoned n p reply q r)
