-- A pass that was made is at rest, and one that a message or several left is at rest where it was before.
use Rattle.std.proofs.Common.{◌≡◌, ℕ, zero, suc, List, inl, inr, refl, sym, subst}
use Rattle.std.specs.Prelude.{All}
use Rattle.std.proofs.lemmas.List.Elements.{All-nil, All-push}
use Rattle.turnstile.specs.Passes.{PassView, TurnstileView, first_pass, first_passes}
use Rattle.cluster.specs.declared.step.StepError.{StepError}
use Rattle.cluster.specs.Counts.{Counts, CountsUntil}
use Rattle.cluster.specs.Steps.{IsAtRest}
use Rattle.cluster.proofs.Rest.{still_at_rest}
use Rattle.cell_model.specs.Service.{service}
use Rattle.table_history.specs.Entries.{TableEvent}

module _ (n : ℕ) (t : TurnstileView) (p q : PassView TableEvent) (rests : IsAtRest t p) where
  pub after_counts : (own : List TableEvent) (more : ℕ) → Counts (service n) p own more q → IsAtRest t q
  after_counts own more counts = still_at_rest t p q counts.pass rests

  pub after_until : (own : List TableEvent) (why : StepError) → CountsUntil (service n) p own why q → IsAtRest t q
  after_until own StepError.Spent counts = after_counts own 0 counts.0
  after_until own StepError.NoMemory (inl counts) = after_counts own 0 counts
  after_until own StepError.NoMemory (inr counts) = after_counts own 1 counts

first_rest : (t : TurnstileView) (passes k : ℕ) → All (IsAtRest {E = TableEvent} t) (first_passes t.id passes k)
first_rest t passes zero = All-nil (IsAtRest {E = TableEvent} t)
first_rest t passes (suc k) =
    All-push (IsAtRest {E = TableEvent} t) (first_passes t.id passes k) (first_pass t.id passes k) (first_rest t passes k)
    record { of = refl; free = refl }

-- the passes that were made
pub made_rest : (t : TurnstileView) (passes : ℕ) (made : List (PassView TableEvent)) → made ≡ first_passes t.id passes passes
    → All (IsAtRest t) made
made_rest t passes made is = subst (All (IsAtRest {E = TableEvent} t)) (sym is) (first_rest t passes passes)
