-- What an action comes to in a cell, before anything is changed.
use Rattle.std.specs.Prelude.{◌≡◌, ℕ, true, false, Option, None, Some, is_some}
use Rattle.std.specs.declared.cmp.Ord as ord
use Rattle.std.specs.declared.cmp.PartialEq as eq
use Rattle.std.specs.declared.cmp.PartialOrd as partial
use Rattle.txn_core.specs.declared.answer.Answer.{Answer}
use Rattle.txn_core.specs.declared.outcome.Outcome.{Outcome}
use Rattle.txn_core.specs.declared.outcome.Outcome.TheVariants.{New, Unmet, Fails}
use Rattle.txn_core.specs.Answers.{expire_answer}
use Rattle.txn_core.specs.declared.stamp.Stamp.{Stamp}
use Rattle.txn_core.specs.History.{is_accepted, is_expired, is_written}
use Rattle.txn_core.specs.Service.{Service, Reply}
use Rattle.item_store.specs.Slots.{row_of}
use Rattle.index_changes.specs.declared.change.IndexChanges.{IndexChanges}
use Rattle.index_changes.specs.Entries.{LocalEntries}
use Rattle.partition.specs.declared.cell.Partition.{Partition}
use Rattle.partition.specs.declared.evaluation.Evaluation.{Evaluation}
use Rattle.partition.specs.declared.evaluation.Evaluation.TheVariants.{Answered, Made}
use Rattle.partition.specs.Knows.{LeftByPrepare, expired, kept_at, prepared, wrote}
use Rattle.partition.specs.Makes.{Makes, MakesItem}

-- what is answered where an action can't be carried out on an item that is this
abbrev pub IsRefusal : {K V A F B : Type 0} → Option V → Outcome V F → Answer K V A F B → Type 0
IsRefusal row (New item) a = ⊥
IsRefusal row Unmet a = a ≡ Answer.CondFalse row
IsRefusal row (Fails fault) a = a ≡ Answer.Invalid fault

module _ {K V A F C D Q B N : Type 0} (S : Service K V A F C D Q B) (L : LocalEntries K V C N) where
  -- what an action comes to on an item that is this
  abbrev pub IsEvaluation : C → A → Option V → Evaluation (Reply S) V (IndexChanges K V N) → Type 0
  IsEvaluation cat action row (Answered a) = IsRefusal row (S.core.act cat action row) a
  IsEvaluation cat action row (Made item made) = (S.core.act cat action row ≡ New item) × Makes S L cat (S.core.key_of action) row item made

  -- what an action comes to that is to remove an item, which is there where it is expired
  abbrev pub IsRemoval : C → A → Option V → Evaluation (Reply S) V (IndexChanges K V N) → Type 0
  IsRemoval cat action over (Answered a) = (a ≡ expire_answer true None over (S.core.act cat action over)) × (is_expired a ≡ false)
  IsRemoval cat action over (Made item made) =
      (is_some over ≡ true) × (item ≡ None) × (S.core.act cat action over ≡ New None) × Makes S L cat (S.core.key_of action) over None made

  module _
      {O : ord.Ghosts K} {E : eq.Ghosts K} {P : partial.Ghosts K} {X : ord.Ghosts N} {Y : eq.Ghosts N} {Z : partial.Ghosts N}
      (c : Partition K V C N O E P X Y Z) where
    -- what a Write of it comes to in a cell
    abbrev pub EvaluatesWrite : A → Evaluation (Reply S) V (IndexChanges K V N) → Type 0
    EvaluatesWrite action (Answered a) = (a ≡ wrote S c action) × (is_written a ≡ false)
    EvaluatesWrite action (Made item made) = (S.core.there c.catalog (S.core.key_of action) ≡ true) × MakesItem S L c action item made

    -- an action's item is there and expired, nobody holds it, and the action removes it
    pub record Removes (action : A) (moment : ℕ) (item : Option V) (made : IndexChanges K V N) : Type 0 where
      pub old : V
      pub there : S.core.there c.catalog (S.core.key_of action) ≡ true
      pub found : row_of (kept_at S c (S.core.key_of action)) ≡ Some old
      pub over : S.core.expired c.catalog (S.core.key_of action) old moment ≡ true
      pub none : item ≡ None
      pub makes : MakesItem S L c action item made

    -- what an Expire of it comes to
    abbrev pub EvaluatesExpire : A → ℕ → Evaluation (Reply S) V (IndexChanges K V N) → Type 0
    EvaluatesExpire action moment (Answered a) = (a ≡ expired S c action moment) × (is_expired a ≡ false)
    EvaluatesExpire action moment (Made item made) = Removes action moment item made

    -- what a Prepare of it comes to
    abbrev pub EvaluatesPrepare : ℕ → Stamp → A → Evaluation (Reply S) V (IndexChanges K V N) → Type 0
    EvaluatesPrepare n stamp action (Answered a) = (a ≡ prepared S c n stamp action) × LeftByPrepare S c c action n stamp (is_accepted a)
    EvaluatesPrepare n stamp action (Made item made) = (prepared S c n stamp action ≡ Answer.Accepted) × MakesItem S L c action item made
