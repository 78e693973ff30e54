-- The values of cells, in slots and taken out of them.
use Rattle.std.specs.Prelude.{◌≡◌, ℕ, ◌<◌, List, Option, Some}
use mathlib.Core.Option.{some}
use lib.ListN.{get_elem?}
use Rattle.turnstile.specs.Histories.{Has, IsBeginning, own, at_cell}
use Rattle.turnstile.specs.Passes.{EachStands}

-- each slot has a value that stands, as the cell of its place, for these entries of the cell
abbrev pub AtHome : {C E : Type 0} → (ℕ → ℕ → C → List E → Type 0) → ℕ → List (Option C) → (ℕ → List E) → Type 0
AtHome {C} stands n slots entries = (c : ℕ) → c < n → (x : C) × (get_elem? slots c ≡ some (Some x)) × stands n c x (entries c)

-- the values stand for a legal history that begins with this front, and has no entry of these passes past it
pub record KeptBy {C E : Type 0} (by : E → ℕ) (cell : E → Option ℕ) (stands : ℕ → ℕ → C → List E → Type 0) (legal : ℕ → List E → Type 0) (n : ℕ) (numbers : List ℕ) (front : List E) (values : List C) : Type 0 where
  pub log : List E
  pub lawful : legal n log
  pub begins : IsBeginning front log
  pub same : (q : ℕ) → Has numbers q → own by q log ≡ own by q front
  pub each : EachStands stands n values (λ c. at_cell cell c log)
