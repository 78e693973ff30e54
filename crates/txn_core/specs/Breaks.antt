-- The rules of legal histories one by one, each with the kind of break where an entry doesn't keep it.
use Rattle.std.specs.Prelude.{◌≡◌, ◌⊎◌, ℕ, ◌<◌, length, reverse, take, slice_index_or, Bool, true, false, List, [], ◌∷◌, Option, None, Some}
use Rattle.txn_core.specs.declared.message.Message.{Message}
use Rattle.txn_core.specs.declared.replay.Break.{Break}
use Rattle.txn_core.specs.declared.kind.BreakKind.{BreakKind}
use Rattle.txn_core.specs.declared.kind.BreakKind.TheVariants.{NotBegun, EarlyCommit, CauselessCancel, EarlyApply, EarlyRelease, EarlyDone, EarlyForget, WrongAnswer, IndexOrder, AllCells}
use Rattle.txn_core.specs.Service.{Service, Asked, Event, History}
use Rattle.txn_core.specs.History.{Had, begins, IsTimely}
use Rattle.txn_core.specs.Legal.{IsAnswer, HasGround, Allowed, sent_to}

-- where both are cells, they are one cell
abbrev pub IsAt : Option ℕ → Option ℕ → Type 0
IsAt (Some i) (Some j) = i ≡ j
IsAt _ _ = Unit {0}

-- both are over all cells, or neither is
abbrev pub HaveOneReach : Option ℕ → Option ℕ → Type 0
HaveOneReach None None = Unit {0}
HaveOneReach (Some i) (Some j) = Unit {0}
HaveOneReach _ _ = ⊥

module _ {K V A F C D Q B : Type 0} (S : Service K V A F C D Q B) where
  -- the answer is that of the cells, the message goes to its cell, and the pass's moments don't fall
  pub record IsRight (es : History S) (e : Event S) : Type 0 where
    pub answer : IsAnswer S es e.moment e.message e.answer
    pub cell : IsAt e.cell (sent_to S e.message)
    pub timely : IsTimely es e.pass e.moment

  -- a Begin has 1 to 100 actions on items that differ; a Prepare and a Decide name a begun number, and a Prepare its stamp
  -- and one of its actions
  abbrev pub NamesBegun : History S → ℕ → Asked S → Type 0
  NamesBegun es pass (Message.Begin token actions) = Allowed S es pass (Message.Begin token actions)
  NamesBegun es pass (Message.Prepare n stamp action) = Allowed S es pass (Message.Prepare n stamp action)
  NamesBegun es pass (Message.Decide n commit reasons) = Had (begins n) es
  NamesBegun es pass _ = Unit {0}

  -- a Decide that goes this way has its ground: every action was accepted, or there is a cause to cancel
  abbrev pub HasGroundFor : Bool → History S → Asked S → Type 0
  HasGroundFor way es (Message.Decide n commit reasons) = commit ≡ way → HasGround S es n commit reasons
  HasGroundFor way es _ = Unit {0}

  -- the Apply, the Release, the Done, the Forget and the messages of the feed come after what they need
  abbrev pub AppliesLate : History S → ℕ → Asked S → Type 0
  AppliesLate es pass (Message.Apply n key) = Allowed S es pass (Message.Apply n key)
  AppliesLate es pass _ = Unit {0}

  abbrev pub ReleasesLate : History S → ℕ → Asked S → Type 0
  ReleasesLate es pass (Message.Release n key) = Allowed S es pass (Message.Release n key)
  ReleasesLate es pass _ = Unit {0}

  abbrev pub FinishesLate : History S → ℕ → Asked S → Type 0
  FinishesLate es pass (Message.Done n) = Allowed S es pass (Message.Done n)
  FinishesLate es pass _ = Unit {0}

  abbrev pub ForgetsLate : History S → ℕ → Asked S → Type 0
  ForgetsLate es pass (Message.Forget n) = Allowed S es pass (Message.Forget n)
  ForgetsLate es pass _ = Unit {0}

  abbrev pub FeedsInOrder : History S → ℕ → Asked S → Type 0
  FeedsInOrder es pass (Message.ApplyIndex source sequence index row_key after) =
      Allowed S es pass (Message.ApplyIndex source sequence index row_key after)
  FeedsInOrder es pass (Message.Ack source sequence) = Allowed S es pass (Message.Ack source sequence)
  FeedsInOrder es pass _ = Unit {0}

  -- the entry keeps the rule of this kind, after the history
  abbrev pub Keeps : History S → Event S → BreakKind → Type 0
  Keeps es e WrongAnswer = IsRight es e
  Keeps es e NotBegun = NamesBegun es e.pass e.message
  Keeps es e EarlyCommit = HasGroundFor true es e.message
  Keeps es e CauselessCancel = HasGroundFor false es e.message
  Keeps es e EarlyApply = AppliesLate es e.pass e.message
  Keeps es e EarlyRelease = ReleasesLate es e.pass e.message
  Keeps es e EarlyDone = FinishesLate es e.pass e.message
  Keeps es e EarlyForget = ForgetsLate es e.pass e.message
  Keeps es e IndexOrder = FeedsInOrder es e.pass e.message
  -- a command is over all cells, and nothing else is
  Keeps es e AllCells = HaveOneReach e.cell (sent_to S e.message)

  -- the entry keeps the rules of all these kinds
  abbrev pub KeepsAll : List BreakKind → History S → Event S → Type 0
  KeepsAll [] es e = Unit {0}
  KeepsAll (k ∷ ks) es e = Keeps es e k × KeepsAll ks es e

  -- the first kind in the list whose rule the entry breaks
  abbrev pub IsFirstBroken : List BreakKind → History S → Event S → BreakKind → Type 0
  IsFirstBroken [] es e kind = ⊥
  IsFirstBroken (k ∷ ks) es e kind = ((kind ≡ k) × (Keeps es e k → ⊥)) ⊎ (Keeps es e k × IsFirstBroken ks es e kind)

  -- each entry of the history keeps the rules of these kinds
  abbrev pub AllKeep : List BreakKind → History S → Type 0
  AllKeep kinds [] = Unit {0}
  AllKeep kinds (e ∷ es) = AllKeep kinds es × KeepsAll kinds es e

  -- the first place of these entries, in order of time, at which one breaks a rule of these kinds, and the first one that it
  -- breaks
  pub record IsFirstBreak (kinds : List BreakKind) (entries : History S) (place : ℕ) (kind : BreakKind) : Type 0 where
    pub within : place < length entries
    pub before : AllKeep kinds (reverse (take place entries))
    pub broken :
        (d : Event S) → IsFirstBroken kinds (reverse (take place entries)) (slice_index_or entries place d) kind

  -- of the rules of these kinds the entry breaks this one first, or where none is named it keeps all
  abbrev pub BreaksFirst : List BreakKind → History S → Event S → Option BreakKind → Type 0
  BreaksFirst kinds es e None = KeepsAll kinds es e
  BreaksFirst kinds es e (Some kind) = IsFirstBroken kinds es e kind

  -- these entries, in order of time, first break the rules of these kinds here, or where no break is named they keep them
  abbrev pub StopsAt : List BreakKind → History S → Option Break → Type 0
  StopsAt kinds entries None = AllKeep kinds (reverse entries)
  StopsAt kinds entries (Some found) = IsFirstBreak kinds entries found.place found.kind

-- the order in which the rules are asked: that of answers, and those of what may be sent
abbrev pub of_sending : List BreakKind
of_sending = NotBegun ∷ EarlyCommit ∷ CauselessCancel ∷ EarlyApply ∷ EarlyRelease ∷ EarlyDone ∷ EarlyForget ∷ IndexOrder ∷ AllCells ∷ []

abbrev pub in_order : List BreakKind
in_order = WrongAnswer ∷ of_sending
