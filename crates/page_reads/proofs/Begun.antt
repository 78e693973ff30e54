-- Requests that are refused for nothing, taken apart.
use Rattle.std.specs.Prelude.{Option, None, Some, Result, Err}
use Rattle.std.proofs.Common.{◌≡◌, refl, ap}
use Rattle.table_model.specs.declared.refusal.Refusal.{Refusal}
use Rattle.page_reads.specs.Starts.{unless_refused}

module _ {A : Type 0} where
  -- what is refused for nothing follows
  pub unless_none : (why : Option Refusal) (next : Result A Refusal) → why ≡ None → unless_refused why next ≡ next
  unless_none None next is = refl
  unless_none (Some other) next is = absurd (cc)

  pub unless_some : (why : Option Refusal) (other : Refusal) (next : Result A Refusal) → why ≡ Some other → unless_refused why next ≡ Err other
  unless_some None other next is = absurd (cc)
  unless_some (Some why) other next is = let same : why ≡ other = cc in ap Err same
