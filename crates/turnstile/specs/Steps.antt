-- What each step on the table tells its caller, and what it makes of a view.
use Rattle.std.specs.Prelude.{◌≡◌, ◌≢◌, ℕ, ◌+◌, ◌*◌, ◌^◌, ◌<◌, ◌≤◌, List, [], ◌∷◌, ◌++◌, take, drop, Option, Some, None}
use Rattle.atomic_table.specs.Table.{Me, Step, rest}
use Rattle.turnstile.specs.declared.board.Ticket.{Ticket}
use Rattle.turnstile.specs.declared.board.View.{View}
use Rattle.turnstile.specs.Histories.{Has, IsBeginning, longer, own, at_cell}
use Rattle.turnstile.specs.Kept.{ticket, upwards}

module _ {E : Type 0} where
  -- the first view of a table with this many passes
  abbrev pub starting : ℕ → View E
  starting passes = record { numbers = upwards 0 passes; made = passes; front = []; told = []; drawn = 0; drew = None; held = [] }

  abbrev pub nobody : View E
  nobody = record { numbers = []; made = 64; front = []; told = []; drawn = 0; drew = None; held = [] }

  abbrev pub waiting : View E → Ticket → View E
  waiting v t = record v { drawn = v.drawn + 1; drew = Some t }

  abbrev pub inside : View E → Ticket → List E → View E
  inside v t front = record v { front = front; drew = None; held = t ∷ v.held }

  abbrev pub fronted : View E → List E → View E
  fronted v front = record v { front = front }

  abbrev pub outside : View E → View E
  outside v = record v { held = drop 1 v.held }

  -- the same front, for another to be told
  abbrev pub note : View E → View E
  note v = record { numbers = []; made = v.made; front = v.front; told = v.told; drawn = 0; drew = None; held = [] }

  -- all numbers but the first, and the first
  abbrev pub but_first : View E → View E
  but_first v = record v { numbers = drop 1 v.numbers }

  abbrev pub first_alone : View E → View E
  first_alone v = record { numbers = take 1 v.numbers; made = v.made; front = v.front; told = v.told; drawn = 0; drew = None; held = [] }

  -- with what the other has, and told of its front
  abbrev pub joined : View E → View E → View E
  joined v w = record v { numbers = v.numbers ++ w.numbers; drawn = v.drawn + w.drawn; told = w.front }

abbrev pub Sat : Type 0 → Type 0 → Type 0
Sat C E = Me (Option C) (View E)

abbrev pub At : Type 0 → Type 0
At C = Step (Option C)

module _ {C E : Type 0} where
  abbrev pub Draws : At C → Sat C E → ℕ → Sat C E → Type 0
  Draws s m r m' = (r < 2 ^ 60) × ((c : ℕ) → s.word ≡ 16 + 16 * c → m' ≡ (waiting m.0 (ticket c r), m.1))

  abbrev pub Leaves : At C → Sat C E → ℕ → Sat C E → Type 0
  Leaves s m r m' = m' ≡ (outside m.0, rest m.1)

module _ {E : Type 0} (by : E → ℕ) (cell : E → Option ℕ) (legal : ℕ → List E → Type 0) (n : ℕ) where
  -- the view's front grew to this one, with nothing of what it alone adds
  pub record Grows (v : View E) (front : List E) : Type 0 where
    pub extends : IsBeginning v.front front
    pub lawful : legal n front
    pub same : (p : ℕ) → Has v.numbers p → own by p front ≡ own by p v.front
    pub still : (t : Ticket) → Has v.held t → at_cell cell t.cell front ≡ at_cell cell t.cell v.front
    pub strangers : (p : ℕ) → v.made ≤ p → own by p front ≡ []

  -- a seat learned another's front
  pub record Met (v : View E) (told : List E) (w : View E) : Type 0 where
    pub numbers : w.numbers ≡ v.numbers
    pub made : w.made ≡ v.made
    pub drawn : w.drawn ≡ v.drawn
    pub drew : w.drew ≡ v.drew
    pub held : w.held ≡ v.held
    pub front : w.front ≡ longer v.front told
    pub learned : IsBeginning told w.front
    pub grows : Grows v w.front

  module _ {C : Type 0} where
    pub record TakesTurn (stands : ℕ → ℕ → C → List E → Type 0) (m : Sat C E) (t : Ticket) (m' : Sat C E) : Type 0 where
      pub front : List E
      pub value : C
      pub after : m' ≡ (inside m.0 t front, (t.cell, Some value) ∷ m.1)
      pub stands_for : stands n t.cell value (at_cell cell t.cell front)
      pub grows : Grows m.0 front

    -- the same after the value was taken out of its slot
    pub record Taken (stands : ℕ → ℕ → C → List E → Type 0) (m : Sat C E) (t : Ticket) (value : C) (m' : Sat C E) : Type 0 where
      pub front : List E
      pub after : m' ≡ (inside m.0 t front, (t.cell, None) ∷ m.1)
      pub stands_for : stands n t.cell value (at_cell cell t.cell front)
      pub grows : Grows m.0 front

    pub record Counts (e : E) (m m' : Sat C E) : Type 0 where
      pub past : List E
      pub grows : Grows m.0 past
      pub after : m' ≡ (fronted m.0 (past ++ e ∷ []), m.1)
      pub lawful : legal n (past ++ e ∷ [])
      pub strangers : (p : ℕ) → m.0.made ≤ p → own by p (past ++ e ∷ []) ≡ []

    pub record Learns (m m' : Sat C E) : Type 0 where
      pub after : m' ≡ (fronted m.0 (longer m.0.front m.0.told), m.1)
      pub grows : Grows m.0 (longer m.0.front m.0.told)
      pub told : IsBeginning m.0.told (longer m.0.front m.0.told)

module _ {C E : Type 0} (by : E → ℕ) (cell : E → Option ℕ) (stands : ℕ → ℕ → C → List E → Type 0) (legal : ℕ → List E → Type 0) where
  abbrev pub Looks : At C → Sat C E → ℕ → Sat C E → Type 0
  Looks s m r m' = (t : Ticket) → m.0.drew ≡ Some t → s.word ≡ 24 + 16 * t.cell → (r ≡ t.number → TakesTurn by cell legal s.slots stands m t m') × (r ≢ t.number → m' ≡ m)
