-- Two rounds of reads: what they add to the history, and what became of them.
use Rattle.std.specs.Prelude.{◌≡◌, ◌⊎◌, ℕ, List, [], ◌∷◌, ◌++◌, length, map, reverse, slice_get, Option, None, Some}
use Rattle.std.specs.List.{zip}
use Rattle.turnstile.specs.Histories.{Trail}
use Rattle.turnstile.specs.Passes.{PassView}
use Rattle.txn_core.specs.declared.message.Message.{Message}
use Rattle.txn_core.specs.declared.answer.Answer.{Answer}
use Rattle.txn_core.specs.Laws.{item_by}
use Rattle.txn_core.specs.Legal.{IsLegal}
use Rattle.txn_core.specs.Service.{Service, Event}
use Rattle.cluster.specs.declared.step.StepError.{StepError}
use Rattle.cluster.specs.Events.{pass_of, event_of}
use Rattle.cluster.specs.Counts.{Counts, CountsUntil}
use Rattle.txn_reader.specs.declared.item_version.ItemVersion.{ItemVersion}
use Rattle.txn_reader.specs.declared.read_end.ReadEnd.{ReadEnd}
use Rattle.txn_reader.specs.declared.rounds.Round.{Round}
use Rattle.txn_reader.specs.Reasons.{IsRuled}

module _ {K V A F C D Q B : Type 0} (S : Service K V A F C D Q B) where
  -- what a pass counts where it reads an item; and where the item's table is gone
  abbrev pub reads : PassView (Event S) → K → ItemVersion V → Event S
  reads p key found =
      event_of p (Some (S.core.cell_of key)) (Message.ReadVersion key) (Answer.Version found.item found.version found.held)

  abbrev pub misses : PassView (Event S) → K → Event S
  misses p key = event_of p (Some (S.core.cell_of key)) (Message.ReadVersion key) Answer.Stale

  -- from p to q the pass read the item of the key and found this; or it found the item's table gone
  abbrev pub IsRead : PassView (Event S) → K → Option (ItemVersion V) → PassView (Event S) → Type 0
  IsRead p key (Some found) q = Counts S p (reads p key found ∷ []) 0 q
  IsRead p key None q = Counts S p (misses p key ∷ []) 0 q

  -- the reads of the first keys, in order: as many as were found
  abbrev pub round : PassView (Event S) → List K → List (ItemVersion V) → List (Event S)
  round p keys found = map (λ read. reads p read.0 read.1) (zip keys found)

  -- behind these entries, the pass read so many keys and found the table of the next one gone
  pub record MissesAfter (earlier : List (Event S)) (p : PassView (Event S)) (keys : List K) (place : ℕ) (q : PassView (Event S)) : Type 0 where
    pub found : List (ItemVersion V)
    pub many : length found ≡ place
    pub key : K
    pub its : slice_get keys place ≡ Some key
    pub counts : Counts S p (earlier ++ (round p keys found ++ misses p key ∷ [])) 0 q

  -- behind these entries, it read some keys and was ended by an error
  pub record StopsAfter (earlier : List (Event S)) (p : PassView (Event S)) (keys : List K) (why : StepError) (q : PassView (Event S)) : Type 0 where
    pub found : List (ItemVersion V)
    pub counts : CountsUntil S p (earlier ++ round p keys found) why q

  -- one round: every key was read, or the table of one was gone
  abbrev pub IsRound : PassView (Event S) → List K → Round V → PassView (Event S) → Type 0
  IsRound p keys (Round.Found found) q = Counts S p (round p keys found) 0 q × (length found ≡ length keys)
  IsRound p keys (Round.NoTable place) q = MissesAfter [] p keys place q

  -- the entries of no round, or of a whole one
  abbrev pub IsEarlier : PassView (Event S) → List K → List (Event S) → Type 0
  IsEarlier p keys es = (es ≡ []) ⊎ ((first : List (ItemVersion V)) × (length first ≡ length keys) × (es ≡ round p keys first))

  -- the reads were ended by an error, in the first round or in the second
  abbrev pub IsCutShort : PassView (Event S) → List K → StepError → PassView (Event S) → Type 0
  IsCutShort p keys why q = (earlier : List (Event S)) × IsEarlier p keys earlier × StopsAfter earlier p keys why q

  -- every key was read twice, round after round, and this is what the two reads of each tell
  pub record AreRead (p : PassView (Event S)) (keys : List K) (end : ReadEnd V F) (q : PassView (Event S)) : Type 0 where
    pub first : List (ItemVersion V)
    pub second : List (ItemVersion V)
    pub counts : Counts S p (round p keys first ++ round p keys second) 0 q
    pub each_first : length first ≡ length keys
    pub each_second : length second ≡ length keys
    pub ruled : IsRuled first second end

  -- what became of the reads
  abbrev pub Ends : PassView (Event S) → List K → ReadEnd V F → PassView (Event S) → Type 0
  Ends p keys (ReadEnd.Rows items) q = AreRead p keys (ReadEnd.Rows items) q
  Ends p keys (ReadEnd.Cancelled reasons) q = AreRead p keys (ReadEnd.Cancelled reasons) q
  Ends p keys (ReadEnd.NoTable place) q = (earlier : List (Event S)) × IsEarlier p keys earlier × MissesAfter earlier p keys place q
  Ends p keys ReadEnd.Spent q = IsCutShort p keys StepError.Spent q
  Ends p keys ReadEnd.NoMemory q = IsCutShort p keys StepError.NoMemory q

  -- these were the items of the tables at a point between the two rounds of a legal history
  pub record AreAtOnePoint (p : PassView (Event S)) (keys : List K) (items : List (Option V)) (q : PassView (Event S)) : Type 0 where
    pub legal : IsLegal S (reverse q.front)
    -- what had happened by then, the oldest first
    pub log : List (Event S)
    pub first : List (ItemVersion V)
    pub each_first : length first ≡ length keys
    pub before : Trail pass_of p.number p.front (round p keys first) log
    pub second : List (ItemVersion V)
    pub each_second : length second ≡ length keys
    pub after : Trail pass_of p.number log (round p keys second) q.front
    pub are : items ≡ map (item_by S (reverse log)) keys

  -- [One-point reads]: items that are answered are of one point
  abbrev pub IsOfOnePoint : PassView (Event S) → List K → ReadEnd V F → PassView (Event S) → Type 0
  IsOfOnePoint p keys (ReadEnd.Rows items) q = AreAtOnePoint p keys items q
  IsOfOnePoint p keys _ q = Unit {0}
