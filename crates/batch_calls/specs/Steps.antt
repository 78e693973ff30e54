-- What the calls inside add, message by message.
use Rattle.std.specs.Prelude.{◌≡◌, ◌⊎◌, ℕ, suc, ◌-◌, ◌≤◌, ◌<◌, List, [], ◌∷◌, ◌++◌, map, length, zip, Bool, true, false, Option, None, Some}
use Rattle.std.specs.List.{flat_map}
use Rattle.attr_value.specs.Tree.{Attributes}
use Rattle.turnstile.specs.Passes.{PassView}
use Rattle.txn_core.specs.declared.message.Message.{Message}
use Rattle.txn_core.specs.declared.answer.Answer.{Answer}
use Rattle.cluster.specs.declared.step.StepError.{StepError}
use Rattle.table_request.specs.declared.batches.BatchGet.{BatchGet}
use Rattle.table_request.specs.declared.batches.BatchWrite.{BatchWrite}
use Rattle.table_request.specs.declared.batches.TableWrites.{TableWrites}
use Rattle.table_request.specs.declared.batches.WriteRequest.{WriteRequest}
use Rattle.table_batches.specs.Reads.{read_of}
use Rattle.cell_asks.specs.declared.tried.Tried.{Tried}
use Rattle.table_model.specs.Batches.{most_batch_bytes, read_count}
use Rattle.table_model.specs.Consumed.{bytes_of}
use Rattle.cell_model.specs.declared.key.CellKey.{CellKey}
use Rattle.cell_model.specs.Actions.{ItemAction}
use Rattle.table_history.specs.Entries.{TableEvent}
use Rattle.cell_asks.specs.declared.asks.Wrote.{Wrote}
use Rattle.cell_asks.specs.Answers.{wrote_answer}
use Rattle.cell_asks.specs.Steps.{One, Stops, IsInVain}
use Rattle.batch_calls.specs.Singles.{action_alone}
use Rattle.batch_calls.specs.Writes.{told_writes}
use Rattle.batch_calls.specs.declared.get.Reading.{Reading}

-- ---- reads

-- Gets of the first of these keys were answered by these items
abbrev pub GotRows : ℕ → PassView TableEvent → List CellKey → List (Option Attributes) → PassView TableEvent → Type 0
GotRows n p ats [] q = q ≡ p
GotRows n p (at ∷ ats) (item ∷ items) q = (mid : PassView TableEvent) × One n p (Message.Get at) (Answer.Row item) mid × GotRows n mid ats items q
GotRows n p [] (item ∷ items) q = ⊥

-- one item more, and whether it had room
abbrev pub AddsItem : Option Attributes → Bool → Reading → Reading → Type 0
AddsItem item true old new =
    (bytes_of item ≤ old.room) × (new ≡ record { items = old.items ++ item ∷ []; room = old.room - bytes_of item })
AddsItem item false old new = (old.room < bytes_of item) × (new.items ≡ old.items ++ item ∷ [])

-- all were read, or the last item has no room
abbrev pub ReadEnds : List CellKey → List (Option Attributes) → Type 0
ReadEnds ats items = (length items ≡ length ats) ⊎ (read_count most_batch_bytes items < length items)

module _ (n : ℕ) (p : PassView TableEvent) (ats : List CellKey) where
  pub record GotAll (items : List (Option Attributes)) (q : PassView TableEvent) : Type 0 where
    pub rows : GotRows n p ats items q
    pub last : length items ≤ suc (read_count most_batch_bytes items)
    pub ends : ReadEnds ats items

  -- a table may be gone
  abbrev pub GotOrGone : Option (List (Option Attributes)) → PassView TableEvent → Type 0
  GotOrGone (Some items) q = GotAll items q
  GotOrGone None q = IsInVain n p q

-- what is told of them
abbrev pub get_tried : BatchGet → Option (List (Option Attributes)) → Tried
get_tried r (Some items) = Tried.Reply (read_of r.capacity r.tables items)
get_tried r None = Tried.Again

-- the items at these places were read, or a table was gone
pub record GetsAt (n : ℕ) (p : PassView TableEvent) (r : BatchGet) (places : List (List CellKey)) (tried : Tried) (q : PassView TableEvent) : Type 0 where
  pub items : Option (List (Option Attributes))
  pub got : GotOrGone n p (flat_map (λ mine. mine) places) items q
  pub is : tried ≡ get_tried r items

-- ---- writes

-- the writes of a table at these places
abbrev pub actions_at : List ℕ → List WriteRequest → List CellKey → List ItemAction
actions_at table ws places = map (λ both. action_alone table both.0 both.1) (zip ws places)

-- those of all tables
abbrev pub actions_among : List TableWrites → List (List CellKey) → List ItemAction
actions_among ts places = flat_map (λ both. actions_at both.0.table both.0.writes both.1) (zip ts places)

-- Writes of the first of these were answered so
abbrev pub WroteRows : ℕ → PassView TableEvent → List ItemAction → List Wrote → PassView TableEvent → Type 0
WroteRows n p acts [] q = q ≡ p
WroteRows n p (a ∷ acts) (wrote ∷ wrotes) q =
    (mid : PassView TableEvent) × One n p (Message.Write a) (wrote_answer wrote) mid × WroteRows n mid acts wrotes q
WroteRows n p [] (wrote ∷ wrotes) q = ⊥

module _ (n : ℕ) (p : PassView TableEvent) (actions : List ItemAction) where
  -- all of them
  pub record WroteEach (wrotes : List Wrote) (q : PassView TableEvent) : Type 0 where
    pub rows : WroteRows n p actions wrotes q
    pub all : length wrotes ≡ length actions

  -- some, and then it ended by the error
  pub record WroteSome (why : StepError) (q : PassView TableEvent) : Type 0 where
    pub wrotes : List Wrote
    pub after : PassView TableEvent
    pub rows : WroteRows n p actions wrotes after
    pub stops : Stops n after why q

-- the writes at these places were sent, and their answers told
pub record WritesAt (n : ℕ) (p : PassView TableEvent) (r : BatchWrite) (places : List (List CellKey)) (tried : Tried) (q : PassView TableEvent) : Type 0 where
  pub wrotes : List Wrote
  pub wrote : WroteEach n p (actions_among r.tables places) wrotes q
  pub is : tried ≡ Tried.Reply (told_writes r wrotes)
