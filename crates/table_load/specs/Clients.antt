-- The round of a client.
use Rattle.std.specs.Prelude.{◌≡◌, ◌≢◌, ◌⊎◌, ◌≤◌, ℕ, List, [], ◌∷◌, Option, None, Some}
use Rattle.turnstile.specs.Passes.{TurnstileView, most_units}
use Rattle.cluster.specs.Events.{pass_of}
use Rattle.cluster.specs.Steps.{IsAtRest}
use Rattle.table_history.specs.Entries.{TableEvent}
use Rattle.pass_sessions.specs.Meetings.{SeesMore}
use Rattle.table_load.specs.declared.client.Client.{Client}
use Rattle.table_load.specs.declared.client.Shares.{Shares}
use Rattle.table_load.specs.declared.end.LoadFault.{LoadFault}
use Rattle.table_load.specs.Rounds.{InOrder, SendsShare}

module _ (n : ℕ) (shares : Shares) where
  -- it ended with this: its share was sent; or its units are used up; or memory was refused
  abbrev pub RoundEnds : Option LoadFault → Client → Client → Type 0
  RoundEnds None old new = InOrder (SendsShare n shares.start shares.clients old.number) shares.count old.session new.session
  RoundEnds (Some LoadFault.Spent) old new = new.session.used ≡ most_units
  RoundEnds (Some why) old new = why ≢ LoadFault.Stopped

  -- a client worked its round, and keeps its number
  pub record WorksRound (old new : Client) : Type 0 where
    pub number : new.number ≡ old.number
    pub ends : RoundEnds new.fault old new

module _ where
  -- a client met others: it saw more of the history, and nothing else changed but why its round ended
  pub record Meets (old new : Client) : Type 0 where
    pub number : new.number ≡ old.number
    pub session : SeesMore pass_of old.session new.session

  -- a client, one of so many, sent its share of the transfers of a load that starts with this number, in order, each once
  pub record SendsAll (n start count clients : ℕ) (old new : Client) : Type 0 where
    pub number : new.number ≡ old.number
    pub share : InOrder (SendsShare n start clients old.number) count old.session new.session

  -- the round of one of them ended by this
  abbrev pub IsFaultOf : LoadFault → List Client → Type 0
  IsFaultOf why [] = ⊥
  IsFaultOf why (client ∷ clients) = (client.fault ≡ Some why) ⊎ IsFaultOf why clients

-- a client may work its round: it rests, and the load is one that the words may state
pub record IsReady (cells : TurnstileView) (shares : Shares) (client : Client) : Type 0 where
  pub rests : IsAtRest {E = TableEvent} cells client.session
  pub start : shares.start ≤ 9999999
  pub count : shares.count ≤ 100000
  pub some : 1 ≤ shares.clients
