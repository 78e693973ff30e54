-- How passes meet.
use Rattle.std.specs.Prelude.{◌≡◌, ℕ, []}
use Rattle.turnstile.specs.Histories.{Trail}
use Rattle.turnstile.specs.Passes.{PassView}

-- from p to q the pass saw more of the history, of others alone, and nothing else changed
pub record SeesMore {E : Type 0} (by : E → ℕ) (p q : PassView E) : Type 0 where
  pub pass : q ≡ record p { front = q.front }
  pub trail : Trail by p.number p.front [] q.front
