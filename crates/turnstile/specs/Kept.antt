-- The rule of the table. Word 0 is the clock, 16 + 16 * c the next ticket of the cell c, and 24 + 16 * c the ticket that has its turn: 64 bytes apart, so that no two of them share a cache line. The slot c holds the cell's value while no one has the turn.
use Rattle.std.specs.Prelude.{◌≡◌, ℕ, suc, ◌+◌, ◌*◌, ◌%◌, ◌^◌, ◌<◌, ◌≤◌, ◌⊎◌, List, [], ◌∷◌, ◌++◌, length, slice_index, Option, Some, None}
use mathlib.Core.Option.{some}
use mathlib.Core.Option as maybe
use lib.ListN.{get_elem?}
use Rattle.atomic_table.specs.Table.{State}
use Rattle.turnstile.specs.declared.board.Ticket.{Ticket}
use Rattle.turnstile.specs.declared.board.View.{View}
use Rattle.turnstile.specs.Histories.{Has, IsBeginning, own, at_cell}

-- the most tickets that one pass draws: 65 for each of its 2^40 units
abbrev pub most_drawn : ℕ
most_drawn = 71468255805440

abbrev pub ticket : ℕ → ℕ → Ticket
ticket c t = record { cell = c; number = t }

abbrev pub drawn_at : List ℕ → ℕ → ℕ
drawn_at words c = slice_index words (16 + 16 * c)

abbrev pub served_at : List ℕ → ℕ → ℕ
served_at words c = slice_index words (24 + 16 * c)

abbrev pub total : {A : Type 0} → (A → ℕ) → List A → ℕ
total f [] = 0
total f (x ∷ xs) = f x + total f xs

-- the numbers from k on, m of them
abbrev pub upwards : ℕ → ℕ → List ℕ
upwards k Rattle.std.specs.Prelude.zero = []
upwards k (suc m) = k ∷ upwards (suc k) m

module _ {E : Type 0} where
  abbrev pub drawn_of : View E → ℕ
  drawn_of v = v.drawn

  abbrev pub parts_of : View E → ℕ
  parts_of v = length v.numbers

  -- the view has this ticket, and it is not yet done with
  abbrev pub Open : View E → Ticket → Type 0
  Open v t = (v.drew ≡ Some t) ⊎ Has v.held t

module _ {C E : Type 0} (by : E → ℕ) (cell : E → Option ℕ) (stands : ℕ → ℕ → C → List E → Type 0) (legal : ℕ → List E → Type 0) (n passes : ℕ) where
  -- the cell's value is in its slot, and stands for the cell's entries
  pub record AtHome (homes : List (maybe.Option (Option C))) (log : List E) (c : ℕ) : Type 0 where
    pub value : C
    pub there : get_elem? homes c ≡ some (some (Some value))
    pub stands_for : stands n c value (at_cell cell c log)

  -- the seat id waits with this ticket
  pub record Waits (words : List ℕ) (homes : List (maybe.Option (Option C))) (log : List E) (owner : ℕ → ℕ → ℕ) (id : ℕ) (t : Ticket) : Type 0 where
    pub below : t.cell < n
    pub from : served_at words t.cell ≤ t.number
    pub to : t.number < drawn_at words t.cell
    pub mine : owner t.cell t.number ≡ id
    pub first : t.number ≡ served_at words t.cell → AtHome homes log t.cell

  -- the seat id has the turn of this ticket, and knows all entries of its cell
  pub record Holds (words : List ℕ) (log : List E) (owner : ℕ → ℕ → ℕ) (id : ℕ) (front : List E) (t : Ticket) : Type 0 where
    pub below : t.cell < n
    pub turn : t.number ≡ served_at words t.cell
    pub to : t.number < drawn_at words t.cell
    pub mine : owner t.cell t.number ≡ id
    pub known : at_cell cell t.cell log ≡ at_cell cell t.cell front

  -- the pass p was made, the seat id has it, and knows all its entries
  pub record HasNumber (log : List E) (holder : ℕ → ℕ) (id : ℕ) (front : List E) (p : ℕ) : Type 0 where
    pub made : p < passes
    pub mine : holder p ≡ id
    pub seen : own by p log ≡ own by p front

  -- what the seat id knows is so
  pub record Fits (words : List ℕ) (homes : List (maybe.Option (Option C))) (log : List E) (owner : ℕ → ℕ → ℕ) (holder : ℕ → ℕ) (id : ℕ) (v : View E) : Type 0 where
    pub front : IsBeginning v.front log
    pub lawful : legal n v.front
    pub told : IsBeginning v.told log
    pub lawful_told : legal n v.told
    pub made : passes ≤ v.made
    pub numbers : (p : ℕ) → Has v.numbers p → HasNumber log holder id v.front p
    pub idle : v.numbers ≡ [] → (v.drew ≡ None) × (v.held ≡ [])
    pub few : v.drawn ≤ length v.numbers * most_drawn
    pub drew : (t : Ticket) → v.drew ≡ Some t → Waits words homes log owner id t
    pub held : (t : Ticket) → Has v.held t → Holds words log owner id v.front t

  pub record CellKept (words : List ℕ) (homes : List (maybe.Option (Option C))) (views : List (View E)) (log : List E) (owner : ℕ → ℕ → ℕ) (c : ℕ) : Type 0 where
    pub ordered : served_at words c ≤ drawn_at words c
    pub at_rest : served_at words c ≡ drawn_at words c → AtHome homes log c
    pub few : drawn_at words c ≤ total drawn_of views
    pub somewhere : (t : ℕ) → served_at words c ≤ t → t < drawn_at words c → (v : View E) × (get_elem? views (owner c t) ≡ some v) × Open v (ticket c t)

  pub record Kept (s : State (Option C) (View E)) : Type 0 where
    pub log : List E
    -- the seat that has this ticket of this cell, and the seat that has this pass
    pub owner : ℕ → ℕ → ℕ
    pub holder : ℕ → ℕ
    pub sized : (passes ≤ 64) × (n ≤ 65)
    pub wide : length s.words ≡ 16 + 16 * n
    pub deep : length s.homes ≡ n
    pub clock : slice_index s.words 0 ≡ length log % 2 ^ 64
    pub is_legal : legal n log
    pub strangers : (p : ℕ) → passes ≤ p → own by p log ≡ []
    pub parts : total parts_of s.views ≡ passes
    pub seats : (j : ℕ) (v : View E) → get_elem? s.views j ≡ some v → Fits s.words s.homes log owner holder j v
    pub cells : (c : ℕ) → c < n → CellKept s.words s.homes s.views log owner c
