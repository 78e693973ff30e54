-- What callers see of a turnstile and of a pass, and what holds of every pass.
use Rattle.std.specs.Prelude.{◌≡◌, ℕ, suc, ◌+◌, ◌-◌, ◌*◌, ◌^◌, ◌++◌, ◌<◌, ◌≤◌, List, [], ◌∷◌, length, map, Option, Some, None, slice_get}
use Rattle.atomic_table.specs.Seated.{TableId}
use Rattle.turnstile.specs.declared.board.Size.{Size}
use Rattle.turnstile.specs.declared.board.Ticket.{Ticket}
use Rattle.turnstile.specs.declared.board.View.{View}
use Rattle.turnstile.specs.Histories.{Has, own, at_cell, Trail, IsTimely}
use Rattle.turnstile.specs.Kept.{ticket, upwards}
use Rattle.turnstile.specs.Steps.{Sat}

-- the most units that a pass uses: 2^40
abbrev pub most_units : ℕ
most_units = 1099511627776

-- which turnstile it is, with `id.slots` cells, and how many passes it has
pub record TurnstileView : Type 0 where
  pub id : TableId
  pub passes : ℕ

pub record PassView (E : Type 0) : Type 0 where
  -- the turnstile that it is of
  pub turnstile : TableId
  -- the number of passes that were made with it
  pub passes : ℕ
  pub number : ℕ
  pub moment : ℕ
  pub used : ℕ
  -- the longest history that it has seen
  pub front : List E
  -- the turns that it holds, the last taken first
  pub turns : List Ticket

-- a pass as it was made
abbrev pub first_pass : {E : Type 0} → TableId → ℕ → ℕ → PassView E
first_pass z passes number = record { turnstile = z; passes = passes; number = number; moment = 0; used = 0; front = []; turns = [] }

-- the first k of them, in the order of their numbers
abbrev pub first_passes : {E : Type 0} → TableId → ℕ → ℕ → List (PassView E)
first_passes z passes Rattle.std.specs.Prelude.zero = []
first_passes z passes (suc k) = first_passes z passes k ++ first_pass z passes k ∷ []

-- the seat that deals passes out, before the pass k
abbrev pub dealing : {E : Type 0} → ℕ → ℕ → View E
dealing passes k = record { numbers = upwards k (passes - k); made = passes; front = []; told = []; drawn = 0; drew = None; held = [] }

-- the seat has this pass, and knows nothing of its own past this front
pub record HasPass {E : Type 0} (by : E → ℕ) (number : ℕ) (front : List E) (v : View E) : Type 0 where
  pub has : Has v.numbers number
  pub trail : Trail by number front [] v.front

-- the seat holds no ticket and no slot
pub record IsFree {C E : Type 0} (me : Sat C E) : Type 0 where
  pub drew : me.0.drew ≡ None
  pub held : me.0.held ≡ []
  pub hands : me.1 ≡ []

-- the tickets of the cells from c on, on top of others
abbrev pub stacked : ℕ → List ℕ → List Ticket → List Ticket
stacked c [] held = held
stacked c (t ∷ ts) held = stacked (suc c) ts (ticket c t ∷ held)

-- it holds the turns of all cells, with these tickets in the order of cells
abbrev pub HoldsAll : {E : Type 0} → PassView E → List ℕ → Type 0
HoldsAll p numbers = (p.turns ≡ stacked 0 numbers []) × (length numbers ≡ p.turnstile.slots)

-- each value stands, as the cell of its place, for these entries of the cell
abbrev pub EachStands : {C E : Type 0} → (ℕ → ℕ → C → List E → Type 0) → ℕ → List C → (ℕ → List E) → Type 0
EachStands {C} stands n values entries = (c : ℕ) (x : C) → slice_get values c ≡ Some x → stands n c x (entries c)

-- there is one legal history that begins with each pass's front, has no own entry past it, and for which each value stands
pub record IsOneHistory {C E : Type 0} (by : E → ℕ) (cell : E → Option ℕ) (stands : ℕ → ℕ → C → List E → Type 0) (legal : ℕ → List E → Type 0) (n : ℕ) (passes : List (PassView E)) (values : List C) : Type 0 where
  pub log : List E
  pub lawful : legal n log
  pub fronts : (i : ℕ) (p : PassView E) → slice_get passes i ≡ Some p → Trail by p.number p.front [] log
  pub values_stand : EachStands stands n values (λ c. at_cell cell c log)

-- the words and the key of a table with this many slots
pub record IsSized (z : TableId) (k : Size) : Type 0 where
  pub words : z.words ≡ 16 + 16 * z.slots
  pub cells : k.cells ≡ z.slots
  pub few : z.slots ≤ 65

-- the slots that lie with who holds these turns are empty
abbrev pub emptied : {C : Type 0} → List Ticket → List (ℕ × Option C)
emptied held = map (λ (t : Ticket). (t.cell, None)) held

-- of the seat of a pass
pub record IsSound {C E : Type 0} (by moment : E → ℕ) (legal : ℕ → List E → Type 0) (z : TableId) (me : Sat C E) (number now used : ℕ) : Type 0 where
  pub numbered : me.0.numbers ≡ number ∷ []
  pub budget : used ≤ most_units
  pub few : me.0.drawn ≤ used * 65
  pub idle : me.0.drew ≡ None
  pub hands : me.1 ≡ emptied me.0.held
  pub turns : (t : Ticket) → Has me.0.held t → (t.cell < z.slots) × (t.number < 2 ^ 60)
  pub lawful : legal z.slots me.0.front
  pub strangers : (p : ℕ) → me.0.made ≤ p → own by p me.0.front ≡ []
  pub timely : IsTimely by moment number now me.0.front
