-- Histories are lists of entries. What one pass added, what one cell has, and how one history begins another.
use Rattle.std.specs.Prelude.{◌≡◌, ℕ, ◌<◌, ◌≤◌, ◌⊎◌, ◌==◌, Bool, true, cond, leb, List, [], ◌∷◌, ◌++◌, length, filter, Option, Some, None}

module _ {A : Type 0} where
  -- `a` is in the list
  abbrev pub Has : List A → A → Type 0
  Has [] a = ⊥
  Has (x ∷ xs) a = (x ≡ a) ⊎ Has xs a

  abbrev pub IsBeginning : List A → List A → Type 0
  IsBeginning seen log = (rest : List A) × (seen ++ rest ≡ log)

  -- the longer of two lists, the second where they are as long
  abbrev pub longer : List A → List A → List A
  longer xs ys = cond (leb (length xs) (length ys)) ys xs

-- an entry of the cell k is of the cell c where these are one, and an entry of all cells is of each
abbrev pub is_of : Option ℕ → ℕ → Bool
is_of None c = true
is_of (Some k) c = k == c

module _ {E : Type 0} where
  -- the entries of the pass p
  abbrev pub own : (E → ℕ) → ℕ → List E → List E
  own by p log = filter (λ e. by e == p) log

  -- the entries of the cell c
  abbrev pub at_cell : (E → Option ℕ) → ℕ → List E → List E
  at_cell cell c log = filter (λ e. is_of (cell e) c) log

  -- from `old` to `new` the pass p added these entries, in this order, and no other
  pub record Trail (by : E → ℕ) (p : ℕ) (old added new : List E) : Type 0 where
    pub rest : List E
    pub is : old ++ rest ≡ new
    pub mine : own by p rest ≡ added

  -- from `old` to `new` the pass p added this one entry, and it is the newest of all
  pub record Ends (by : E → ℕ) (p : ℕ) (old : List E) (e : E) (new : List E) : Type 0 where
    pub past : List E
    pub none : Trail by p old [] past
    pub is : past ++ e ∷ [] ≡ new

  -- `seen` has all entries of this one's pass, and of each of the n cells that this one is of
  abbrev pub SeesAll : (E → ℕ) → (E → Option ℕ) → ℕ → List E → List E → E → Type 0
  SeesAll by cell n seen log e = (own by (by e) log ≡ own by (by e) seen) × ((c : ℕ) → c < n → is_of (cell e) c ≡ true → at_cell cell c log ≡ at_cell cell c seen)

  -- what may be done after `front` as it might after some beginning of it that has all own entries
  pub record MayStill (by : E → ℕ) (may : List E → E → Type 0) (front : List E) (e : E) : Type 0 where
    pub seen : List E
    pub trail : Trail by (by e) seen [] front
    pub may_then : may seen e

  -- no own entry is later than the moment
  abbrev pub IsTimely : (E → ℕ) → (E → ℕ) → ℕ → ℕ → List E → Type 0
  IsTimely by moment p now log = (e : E) → Has (own by p log) e → moment e ≤ now
