-- All workers of a listener, each with a share: what was served in the end, and what became of those who helped.
use Rattle.std.specs.Prelude.{◌≡◌, ◌⊎◌, ℕ, ◌<◌, ◌≤◌, List, [], ◌∷◌, ◌++◌, length, drop, Option, None, Some}
use Rattle.std.specs.List.{AllZip}
use Rattle.ddb_outside.specs.Listeners.{Connections, first_part, later_parts}
use Rattle.http_session.specs.Exchanges.{Ways}
use Rattle.http_workers.specs.declared.serve.ServeEnd.{ServeEnd}
use Rattle.http_workers.specs.Shares.{Place, place, Sessions, Tells}

-- which connections of a part were served, by how serving ended: all of them; the first of them; none
abbrev pub IsServedPart : ServeEnd → List (List ℕ) → List (List ℕ) → Type 0
IsServedPart ServeEnd.Done part contents = part ≡ contents
IsServedPart ServeEnd.NetFault part contents = (rest : List (List ℕ)) × (part ≡ contents ++ rest)
IsServedPart ServeEnd.NoMemory part contents = contents ≡ []

-- a worker served connections of its part one after the other, and these outputs were written
pub record ServesPart {S : Type 0} (ways : Ways S) (end : ServeEnd) (part : List (List ℕ)) (from to : Place S)
    (outputs : List (List ℕ)) : Type 0 where
  pub contents : List (List ℕ)
  pub is_part : IsServedPart end part contents
  pub sessions : Sessions ways from contents outputs to

-- the workers, one for each state, served the parts in order, each from its old state to its new one by a clock that gives
-- these moments; their outputs stand in order of worker
abbrev pub AllServed : {S : Type 0} → Ways S → ServeEnd → Option (ℕ → ℕ) → List (List (List ℕ)) → List S → List S
    → List (List ℕ) → Type 0
AllServed ways end moments parts [] [] outputs = outputs ≡ []
AllServed ways end moments parts [] (new ∷ news) outputs = ⊥
AllServed ways end moments parts (old ∷ olds) [] outputs = ⊥
AllServed ways end moments parts (old ∷ olds) (new ∷ news) outputs =
    (mine : List (List ℕ)) × (others : List (List ℕ)) × (later : Option (ℕ → ℕ))
    × ServesPart ways end (first_part parts) (place moments old) (place later new) mine × (outputs ≡ mine ++ others)
    × AllServed ways end moments (later_parts parts) olds news others

-- the first parts were given to shares, one a worker; where a share was refused nothing was served. What the workers wrote was
-- kept, and after Done all connections that were lent came back
pub record ServesParts {S : Type 0} (ways : Ways S) (end : ServeEnd) (moments : Option (ℕ → ℕ)) (old new : Connections)
    (olds news : List S) : Type 0 where
  pub shares : ℕ
  pub outputs : List (List ℕ)
  pub served : AllServed ways end moments old.parts olds news outputs
  pub new_is : new ≡ record old { parts = drop shares old.parts; hung = old.hung ++ outputs; lent = new.lent }
  pub few : shares ≤ length olds
  pub all : end ≡ ServeEnd.Done → shares ≡ length olds
  pub unserved : shares < length olds → (outputs ≡ []) × (news ≡ olds)
  pub back : end ≡ ServeEnd.Done → new.lent ≡ old.lent

-- a listener was served, where it tells its connections; one that does not tell them still does not
abbrev pub ServesAll : {S : Type 0} → Ways S → ServeEnd → Option (ℕ → ℕ) → Option Connections → Option Connections → List S
    → List S → Type 0
ServesAll ways end moments None new olds news = new ≡ None
ServesAll ways end moments (Some old) new olds news = Tells (λ c. ServesParts ways end moments old c olds news) new

-- each helper has helped, by how serving ended; before it began none was called
abbrev pub AllHelped : {H : Type 0} → (H → H → Type 0) → ServeEnd → List H → List H → Type 0
AllHelped helps ServeEnd.Done olds news = AllZip helps olds news
AllHelped helps ServeEnd.NetFault olds news = AllZip helps olds news ⊎ (news ≡ olds)
AllHelped helps ServeEnd.NoMemory olds news = news ≡ olds
