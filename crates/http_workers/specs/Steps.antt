-- The steps of serving a listener: shares are made and given to workers, workers and helpers are seated and do their part, and the
-- shares come back.
use Rattle.std.specs.Prelude.{◌≡◌, ◌⊎◌, ℕ, ◌+◌, ◌-◌, ◌<◌, ◌≤◌, List, [], ◌∷◌, length, map, ⊤, Option, None, Some, vec_capacity, Bool, true, false, if◌then◌else◌}
use Rattle.std.specs.List.{list_any}
use Rattle.ddb_outside.specs.Causes.{Rose}
use Rattle.ddb_outside.specs.Listeners.{Connections, Shares, Absorbs}
use Rattle.http_session.specs.Exchanges.{Ways}
use Rattle.http_workers.specs.declared.seat.Seat.{Seat}
use Rattle.http_workers.specs.declared.serve.ServeEnd.{ServeEnd}
use Rattle.http_workers.specs.declared.share.ShareEnd.{ShareEnd}
use Rattle.http_workers.specs.declared.stock.Stock.{Stock}
use Rattle.http_workers.specs.declared.worker.Worker.{Worker}
use Rattle.http_workers.specs.Shares.{Serves, IsServedOut, RoseBy, max_failures, place}

-- who sits there, in order

abbrev pub workers_of : {S C L H : Type 0} → List (Seat S C L H) → List (Worker S C L)
workers_of [] = []
workers_of (Seat.Worker worker ∷ seats) = worker ∷ workers_of seats
workers_of (Seat.Helper helper ∷ seats) = workers_of seats

abbrev pub helpers_of : {S C L H : Type 0} → List (Seat S C L H) → List H
helpers_of [] = []
helpers_of (Seat.Worker worker ∷ seats) = helpers_of seats
helpers_of (Seat.Helper helper ∷ seats) = helper ∷ helpers_of seats

-- what workers have, in order

abbrev pub states_of : {S C L : Type 0} → List (Worker S C L) → List S
states_of workers = map (λ w. w.state) workers

abbrev pub clocks_of : {S C L : Type 0} → List (Worker S C L) → List C
clocks_of workers = map (λ w. w.clock) workers

abbrev pub shares_of : {S C L : Type 0} → List (Worker S C L) → List L
shares_of workers = map (λ w. w.share) workers

module _ {L : Type 0} (connections : L → Option Connections) where
  -- these shares were made, one after the other
  abbrev pub MakesShares : Option Connections → Option Connections → List L → Type 0
  MakesShares old new [] = new ≡ old
  MakesShares old new (l ∷ ls) = (mid : Option Connections) × Shares old mid (connections l) × MakesShares mid new ls

  -- these shares came back, one after the other
  abbrev pub AbsorbsShares : Option Connections → Option Connections → List L → Type 0
  AbsorbsShares old new [] = new ≡ old
  AbsorbsShares old new (l ∷ ls) = (mid : Option Connections) × Absorbs old mid (connections l) × AbsorbsShares mid new ls

-- so many connections are lent that these shares may come back
abbrev pub CanComeBack : ℕ → List (Option Connections) → Type 0
CanComeBack lent [] = ⊤
CanComeBack lent (None ∷ shares) = ⊥
CanComeBack lent (Some s ∷ shares) = (length s.hung ≤ lent) × CanComeBack (lent - length s.hung) shares

-- a listener has lent what these shares bring back, where it tells it
abbrev pub HasLentAll : Option Connections → List (Option Connections) → Type 0
HasLentAll None shares = ⊤
HasLentAll (Some c) shares = CanComeBack c.lent shares

-- the count of some share is above 0
abbrev pub IsCounted : {L : Type 0} → (L → ℕ) → List L → Type 0
IsCounted count [] = ⊥
IsCounted count (l ∷ ls) = (0 < count l) ⊎ IsCounted count ls

-- a worker served its share
pub record Works {S C L : Type 0} (ways : Ways S) (coming : C → Option (ℕ → ℕ)) (connections : L → Option Connections)
    (faults ends : L → ℕ) (old new : Worker S C L) : Type 0 where
  pub serves : Serves ways (connections old.share) (connections new.share) (place (coming old.clock) old.state)
      (place (coming new.clock) new.state)
  pub all : new.end ≡ ShareEnd.Done → IsServedOut (connections new.share)
  pub done : new.end ≡ ShareEnd.Done → Rose (ends old.share) (ends new.share)
  pub fault : new.end ≡ ShareEnd.NetFault → RoseBy max_failures (faults old.share) (faults new.share)

-- what a thread asks of its seat: a worker's state fits the service, or a helper suits it
abbrev pub CanBegin : {S C L H : Type 0} → (S → Type 0) → (H → Type 0) → Seat S C L H → Type 0
CanBegin fits suits (Seat.Worker worker) = fits worker.state
CanBegin fits suits (Seat.Helper helper) = suits helper

-- what a thread did: a worker served its share, and its state fits still; or a helper helped
abbrev pub DoesItsPart : {S C L H : Type 0} → (Worker S C L → Worker S C L → Type 0) → (S → Type 0) → (H → H → Type 0)
    → Seat S C L H → Seat S C L H → Type 0
DoesItsPart works fits helps (Seat.Worker old) (Seat.Worker new) = works old new × fits new.state
DoesItsPart works fits helps (Seat.Worker old) (Seat.Helper new) = ⊥
DoesItsPart works fits helps (Seat.Helper old) (Seat.Worker new) = ⊥
DoesItsPart works fits helps (Seat.Helper old) (Seat.Helper new) = helps old new

-- a stock for so many workers and helpers
pub record IsStock {S C L H : Type 0} (workers helpers : ℕ) (stock : Stock S C L H) : Type 0 where
  pub readers : length stock.readers.items ≡ workers
  pub clocks : length stock.clocks.items ≡ workers
  pub no_shares : stock.made.items ≡ []
  pub no_seats : stock.seats.items ≡ []
  pub no_states : stock.states.items ≡ []
  pub none_served : stock.served.items ≡ []
  pub no_helpers : stock.helpers.items ≡ []
  pub room_for_shares : workers ≤ vec_capacity stock.made
  pub room_for_seats : workers + helpers ≤ vec_capacity stock.seats
  pub room_for_states : workers ≤ vec_capacity stock.states
  pub room_for_served : workers ≤ vec_capacity stock.served
  pub room_for_helpers : helpers ≤ vec_capacity stock.helpers

-- whether a worker's end is a fault
abbrev pub is_fault : ShareEnd → Bool
is_fault ShareEnd.Done = false
is_fault ShareEnd.NetFault = true

-- whether a worker sits there that ended by failures
abbrev pub has_failed : {S C L H : Type 0} → Seat S C L H → Bool
has_failed (Seat.Worker worker) = is_fault worker.end
has_failed (Seat.Helper helper) = false

-- whether some worker ended by failures
abbrev pub has_fault : {S C L : Type 0} → List (Worker S C L) → Bool
has_fault ws = list_any (λ w. is_fault w.end) ws

-- how serving ended, by how the workers did
abbrev pub joint_end : {S C L : Type 0} → List (Worker S C L) → ServeEnd
joint_end ws = (if has_fault ws then ServeEnd.NetFault else ServeEnd.Done)
