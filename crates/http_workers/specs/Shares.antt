-- The connections of one share, and what was written on each.
use Rattle.std.specs.Prelude.{◌≡◌, ℕ, ◌+◌, ◌-◌, ◌^◌, ◌≤◌, min, List, [], ◌∷◌, ◌++◌, ⊤, Option, None, Some}
use Rattle.ddb_outside.specs.Listeners.{Connections}
use Rattle.http_session.specs.declared.end.SessionEnd.{SessionEnd}
use Rattle.http_session.specs.Exchanges.{Ways}
use Rattle.http_session.specs.Sessions.{Served}

-- where a worker stands between two sessions: what its clock will give, and the state of its service
pub record Place (S : Type 0) : Type 0 where
  pub moments : Option (ℕ → ℕ)
  pub state : S

abbrev pub place : {S : Type 0} → Option (ℕ → ℕ) → S → Place S
place moments state = record { moments = moments; state = state }

-- a session, whatever its end, over what a client sent: this output was written
abbrev pub IsSession : {S : Type 0} → Ways S → Place S → List ℕ → List ℕ → Place S → Type 0
IsSession ways from content output to =
    (end : SessionEnd) × Served ways content from.moments to.moments from.state to.state (Some []) (Some output) end

-- one session after the other, over these contents: these outputs were written, one for each
abbrev pub Sessions : {S : Type 0} → Ways S → Place S → List (List ℕ) → List (List ℕ) → Place S → Type 0
Sessions ways from [] outputs to = (outputs ≡ []) × (from ≡ to)
Sessions {S = S} ways from (content ∷ contents) outputs to =
    (output : List ℕ) × (mid : Place S) × (rest : List (List ℕ)) × IsSession ways from content output mid
    × (outputs ≡ output ∷ rest) × Sessions ways mid contents rest to

-- of the connections that were to come the first were served and hung up, in order, and all else stays
pub record ServesFirst {S : Type 0} (ways : Ways S) (old new : Connections) (from to : Place S) : Type 0 where
  pub contents : List (List ℕ)
  pub outputs : List (List ℕ)
  pub coming : old.coming ≡ contents ++ new.coming
  pub new_is : new ≡ record old { coming = new.coming; hung = old.hung ++ outputs }
  pub sessions : Sessions ways from contents outputs to

-- what is told is so
abbrev pub Tells : (Connections → Type 0) → Option Connections → Type 0
Tells P None = ⊥
Tells P (Some c) = P c

-- a share was served on, where it tells its connections; one that does not tell them still does not
abbrev pub Serves : {S : Type 0} → Ways S → Option Connections → Option Connections → Place S → Place S → Type 0
Serves ways None new from to = new ≡ None
Serves ways (Some old) new from to = Tells (λ c. ServesFirst ways old c from to) new

-- no connection is left to come, where they are told
abbrev pub IsServedOut : Option Connections → Type 0
IsServedOut None = ⊤
IsServedOut (Some c) = c.coming ≡ []

-- how many failed accepts in a row end a share
abbrev pub max_failures : ℕ
max_failures = 16

-- the count rose by so many; at its counter's last value it is taken as risen
abbrev pub RoseBy : ℕ → ℕ → ℕ → Type 0
RoseBy times before now = min (before + times) (2 ^ 64 - 1) ≤ now

-- one connection was served and hung up, on which its client sends the content: its output was kept
pub record HangsUpServed {S : Type 0} (ways : Ways S) (content : List ℕ) (old : Connections) (new : Option Connections)
    (from to : Place S) : Type 0 where
  pub output : List ℕ
  pub session : IsSession ways from content output to
  pub new_is : new ≡ Some (record old { hung = old.hung ++ output ∷ []; out = old.out - 1 })

-- the same, where it is told what its client sends, and nothing was written before
abbrev pub ServesOne : {S : Type 0} → Ways S → Option (List ℕ) → Option (List ℕ) → Option Connections → Option Connections
    → Place S → Place S → Type 0
ServesOne ways left written None new from to = new ≡ None
ServesOne ways None written (Some old) new from to = ⊤
ServesOne ways (Some content) written (Some old) new from to = written ≡ Some [] → HangsUpServed ways content old new from to
