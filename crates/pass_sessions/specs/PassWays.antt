-- What a session may do to the pass that it works with. It is said of any kind of entry, and of any relation of what a
-- right reply is.
use Rattle.std.specs.Prelude.{◌≡◌, ℕ, ◌+◌, ◌<◌, max, List}
use Rattle.http_front.specs.declared.message.Message.{Message}
use Rattle.http_session.specs.Exchanges.{Ways}
use Rattle.turnstile.specs.Histories.{Trail}
use Rattle.turnstile.specs.Passes.{PassView, most_units}

-- a pass at a message's moment, which does not fall
abbrev pub at_moment : {E : Type 0} → PassView E → ℕ → PassView E
at_moment p moment = record p { moment = max p.moment moment }

-- for the leave to take a message there was a unit, and it was used
pub record UsesUnit {E : Type 0} (p q : PassView E) : Type 0 where
  pub unit : p.used < most_units
  pub pass : q ≡ record p { used = p.used + 1 }

-- what a right reply is: the pass at the message's moment, the own entries, the pass after, the message, and the status and
-- the body of the reply
abbrev pub Rightness : Type 0 → Type 1
Rightness E = PassView E → List E → PassView E → Message → ℕ → List ℕ → Type 0

module _ {E : Type 0} (by : E → ℕ) (Right : Rightness E) where
  -- a message is answered at a moment, by some own entries
  pub record IsStep (p : PassView E) (message : Message) (moment status : ℕ) (body : List ℕ) (q : PassView E) : Type 0 where
    pub own : List E
    pub pass : q ≡ record (at_moment p moment) { used = q.used; front = q.front }
    pub trail : Trail by p.number p.front own q.front
    pub right : Right (at_moment p moment) own q message status body

  abbrev pub pass_ways : Ways (PassView E)
  pass_ways = record { begins = UsesUnit; stops = λ p. p.used ≡ most_units; steps = IsStep }
