-- What a step adds to the history.
use Rattle.std.specs.Prelude.{◌≡◌, ℕ, ◌+◌, ◌-◌, [], ◌∷◌, ◌++◌, Option, reverse}
use Rattle.turnstile.specs.Histories.{Trail, Ends}
use Rattle.turnstile.specs.Passes.{PassView, TurnstileView}
use Rattle.txn_core.specs.Service.{Service, Asked, Reply, Event, History}
use Rattle.txn_core.specs.Legal.{Allowed, IsLegal}
use Rattle.cluster.specs.Events.{pass_of, event_of}
use Rattle.cluster.specs.World.{IsLegalLog, IsRight, MaySend}

-- the cells but the last one, which is the control cell
abbrev pub partitions_of : TurnstileView → ℕ
partitions_of t = t.id.slots - 1

-- the pass is one of the turnstile's, and holds no turn
pub record IsAtRest {E : Type 0} (t : TurnstileView) (p : PassView E) : Type 0 where
  pub of : p.turnstile ≡ t.id
  pub free : p.turns ≡ []

module _ {K V A F C D Q B : Type 0} (S : Service K V A F C D Q B) where
  -- the pass may send the message after what it has seen
  abbrev pub MayAsk : PassView (Event S) → Asked S → Type 0
  MayAsk p m = Allowed S (reverse p.front) p.number m

  -- the entry may be counted after these
  pub record Fits (n : ℕ) (front : History S) (e : Event S) : Type 0 where
    pub may : MaySend S front e
    pub right : IsRight S n front e

  -- from p to q the pass took one turn of the cell for one unit, and there counted that the message was answered so, at its
  -- moment; its entry is the newest of a legal history that goes on from what the pass had seen with others' entries alone
  pub record Adds (p : PassView (Event S)) (cell : Option ℕ) (m : Asked S) (a : Reply S) (q : PassView (Event S)) : Type 0 where
    pub pass : q ≡ record p { used = p.used + 1; front = q.front }
    pub ends : Ends pass_of p.number p.front (event_of p cell m a) q.front
    pub legal : IsLegalLog S q.front

  -- from p to q the pass used one unit and counted nothing
  pub record AddsNone (p q : PassView (Event S)) : Type 0 where
    pub pass : q ≡ record p { used = p.used + 1; front = q.front }
    pub trail : Trail pass_of p.number p.front [] q.front
    pub legal : IsLegalLog S q.front

  -- the later history has this entry on newer ones on the earlier history
  pub record IsLater (es : History S) (e : Event S) (later : History S) : Type 0 where
    pub newer : History S
    pub legal : IsLegal S (e ∷ (newer ++ es))
    pub is : e ∷ (newer ++ es) ≡ later
