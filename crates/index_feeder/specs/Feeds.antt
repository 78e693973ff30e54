-- What feeds add to the history, one after another, and what they leave.
use Rattle.std.specs.Prelude.{◌≡◌, ◌⊎◌, ℕ, ◌+◌, ◌*◌, ◌≤◌, Bool, false, List, [], ◌∷◌, ◌++◌, length, map, reverse, drop, None, Some}
use Rattle.std.specs.List.{AllByRecursion, range_with_len}
use Rattle.turnstile.specs.Passes.{PassView, most_units}
use Rattle.index_feed.specs.Feed.{Out}
use Rattle.txn_core.specs.declared.message.Message.{Message}
use Rattle.txn_core.specs.declared.answer.Answer.{Answer}
use Rattle.txn_core.specs.Answers.{out_answer, feed_answer, ack_answer}
use Rattle.txn_core.specs.History.{effects}
use Rattle.txn_core.specs.Indexes.{IsDrained, queues}
use Rattle.txn_core.specs.Serial.{waiting}
use Rattle.txn_core.specs.Service.{Service, Event}
use Rattle.cluster.specs.declared.step.StepError.{StepError}
use Rattle.cluster.specs.Events.{event_of}
use Rattle.cluster.specs.Counts.{Counts, CountsUntil}
use Rattle.index_feeder.specs.declared.feeding.Feed.{Feed}

-- one feed of a partition: its outbox was found empty; or its first change was shown, was applied, now or before, and was
-- acknowledged, now or before
pub data Feeding (K V : Type 0) : Type 0 where
  Found : ℕ → Feeding K V
  Fed : ℕ → Out K V → Bool → Bool → Feeding K V

module _ {K V : Type 0} where
  -- how many of them fed a change
  abbrev pub fed_in : List (Feeding K V) → ℕ
  fed_in [] = 0
  fed_in (Found cell ∷ fs) = fed_in fs
  fed_in (Fed cell out applied acked ∷ fs) = fed_in fs + 1

  -- each of so many partitions was found empty, in order
  abbrev pub all_empty : ℕ → List (Feeding K V)
  all_empty n = map Found (range_with_len 0 n)

module _ {K V A F C D Q B : Type 0} (S : Service K V A F C D Q B) where
  -- what a pass counts where it finds an outbox empty; where it is shown the first change; where that is applied; and where it is
  -- acknowledged
  abbrev pub finds_empty : PassView (Event S) → ℕ → Event S
  finds_empty p cell = event_of p (Some cell) (Message.PeekOut cell) Answer.Empty

  abbrev pub shows : PassView (Event S) → ℕ → Out K V → Event S
  shows p cell out = event_of p (Some cell) (Message.PeekOut cell) (out_answer S.core.cell_of (Some out))

  abbrev pub applies : PassView (Event S) → ℕ → Out K V → Bool → Event S
  applies p cell out now =
      let x = out.change in
      event_of p (Some (S.core.cell_of x.key)) (Message.ApplyIndex cell out.sequence x.index x.key x.after) (feed_answer now)

  abbrev pub acknowledges : PassView (Event S) → ℕ → Out K V → Bool → Event S
  acknowledges p cell out now = event_of p (Some cell) (Message.Ack cell out.sequence) (ack_answer now)

  -- the entries of a feed, and of feeds one after another
  abbrev pub entries_of : PassView (Event S) → Feeding K V → List (Event S)
  entries_of p (Found cell) = finds_empty p cell ∷ []
  entries_of p (Fed cell out applied acked) = shows p cell out ∷ applies p cell out applied ∷ acknowledges p cell out acked ∷ []

  abbrev pub entries : PassView (Event S) → List (Feeding K V) → List (Event S)
  entries p [] = []
  entries p (f ∷ fs) = entries_of p f ++ entries p fs

  -- those of a feed that was cut off: none; or the change was shown; or it was applied too
  abbrev pub IsCutOff : PassView (Event S) → ℕ → List (Event S) → Type 0
  IsCutOff p cell es =
      (es ≡ [])
      ⊎ ((out : Out K V)
      × ((es ≡ shows p cell out ∷ []) ⊎ ((now : Bool) × (es ≡ shows p cell out ∷ applies p cell out now ∷ []))))

  -- from p to q the pass fed the partition once, and this became of it
  abbrev pub Feeds : PassView (Event S) → ℕ → Feed → PassView (Event S) → Type 0
  Feeds p cell Feed.Empty q = Counts S p (entries_of p (Found cell)) 0 q
  Feeds p cell Feed.Fed q =
      (out : Out K V) × (applied : Bool) × (acked : Bool) × Counts S p (entries_of p (Fed cell out applied acked)) 0 q

  -- behind these entries memory was refused to a message for which a unit was left
  abbrev pub HadUnit : PassView (Event S) → List (Event S) → StepError → Type 0
  HadUnit p es StepError.Spent = Unit {0}
  HadUnit p es StepError.NoMemory = p.used + length es ≡ most_units → ⊥

  -- a feed ended by an error
  pub record FeedsPartly (p : PassView (Event S)) (cell : ℕ) (why : StepError) (q : PassView (Event S)) : Type 0 where
    pub part : List (Event S)
    pub cut : IsCutOff p cell part
    pub counts : CountsUntil S p part why q
    pub had : HadUnit p part why

  -- from p to q the pass made these feeds, so many of which fed a change, and counted nothing else
  pub record Makes (p : PassView (Event S)) (fs : List (Feeding K V)) (fed : ℕ) (q : PassView (Event S)) : Type 0 where
    pub counts : Counts S p (entries p fs) 0 q
    pub fed_is : fed_in fs ≡ fed

  -- it made feeds until one ended by an error: at most k for each that fed a change, and n more
  pub record MakesPartly (k n : ℕ) (p : PassView (Event S)) (why : StepError) (q : PassView (Event S)) : Type 0 where
    pub feedings : List (Feeding K V)
    pub few : length feedings ≤ k * fed_in feedings + n
    pub cell : ℕ
    pub part : List (Event S)
    pub cut : IsCutOff p cell part
    pub counts : CountsUntil S p (entries p feedings ++ part) why q
    pub had : HadUnit p (entries p feedings ++ part) why

  -- it fed one partition so often, and then found it empty
  pub record Empties (cell : ℕ) (p : PassView (Event S)) (fed : ℕ) (q : PassView (Event S)) : Type 0 where
    pub feedings : List (Feeding K V)
    pub makes : Makes p (feedings ++ Found cell ∷ []) fed q
    pub many : length feedings ≡ fed

  -- it went over the first n partitions once and fed so many changes; where none, it found each of them empty
  pub record GoesRound (n : ℕ) (p : PassView (Event S)) (fed : ℕ) (q : PassView (Event S)) : Type 0 where
    pub feedings : List (Feeding K V)
    pub makes : Makes p feedings fed q
    pub many : length feedings ≡ fed + n
    pub none : fed ≡ 0 → feedings ≡ all_empty n

  -- it fed so many changes, by at most n + 1 feeds for each, and behind all of them found each of the n partitions empty
  pub record Drains (n : ℕ) (p : PassView (Event S)) (fed : ℕ) (q : PassView (Event S)) : Type 0 where
    pub feedings : List (Feeding K V)
    pub makes : Makes p (feedings ++ all_empty n) fed q
    pub few : length feedings ≤ (n + 1) * fed

  -- where no other pass set an item or changed the catalog since then, and no item waits, what the pass has seen is drained
  abbrev pub LeavesDrained : PassView (Event S) → PassView (Event S) → Type 0
  LeavesDrained p q =
      AllByRecursion (λ e. (e.pass ≡ p.number) ⊎ (queues S e.message e.answer ≡ false)) (drop (length p.front) q.front)
      → ((k : K) → waiting S.core (effects (reverse q.front)) k ≡ None) → IsDrained S (reverse q.front)
