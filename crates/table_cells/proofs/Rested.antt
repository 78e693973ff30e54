-- A pass that a call of several messages left is at rest where it was before.
use Rattle.std.proofs.Common.{ℕ, ◌+◌, List, Option, Result, Ok, Err, IfOk, IfErr}
use Rattle.turnstile.specs.Passes.{PassView, TurnstileView}
use Rattle.cluster.specs.declared.step.StepError.{StepError}
use Rattle.cluster.specs.Steps.{IsAtRest}
use Rattle.cluster.proofs.Rest.{still_at_rest}
use Rattle.coordinator.specs.declared.transact_end.TransactEnd.{TransactEnd}
use Rattle.coordinator.specs.Writes.{AddsWriting}
use Rattle.index_feeder.specs.Feeds.{Drains, MakesPartly}
use Rattle.recovery_manager.specs.declared.sweep_end.SweepEnd.{SweepEnd}
use Rattle.recovery_manager.specs.declared.expiring.Expiry.{Expiry}
use Rattle.recovery_manager.specs.Sweeps.{Sweeps, SweepsPartly}
use Rattle.recovery_manager.specs.Expiries.{Expires, ExpiresPartly}
use Rattle.cell_model.specs.Service.{service}
use Rattle.cell_model.specs.Actions.{ItemAction}
use Rattle.attr_value.specs.Tree.{Attributes}
use Rattle.update_eval.specs.declared.fault.EvalFault.{EvalFault}
use Rattle.table_history.specs.Entries.{TableEvent}
use Rattle.table_cells.proofs.Resting.{after_counts, after_until}

module _ (n : ℕ) (t : TurnstileView) (p q : PassView TableEvent) (rests : IsAtRest t p) where
  pub wrote_rests : (token : Option (List ℕ)) (actions : List ItemAction) (end : TransactEnd Attributes EvalFault)
      → AddsWriting (service n) token actions p end q → IsAtRest t q
  wrote_rests token actions end adds = still_at_rest t p q adds.added.pass rests

  pub drained_rests : (r : Result ℕ StepError) → IfOk r (λ fed. Drains (service n) n p fed q)
      → IfErr r (λ why. MakesPartly (service n) (n + 1) n p why q) → IsAtRest t q
  drained_rests (Ok fed) drains partly = after_counts n t p q rests _ 0 drains.makes.counts
  drained_rests (Err why) drains partly = after_until n t p q rests _ why partly.counts

  pub swept_rests : (r : Result ℕ SweepEnd) → IfOk r (λ count. Sweeps (service n) n p count q)
      → IfErr r (λ why. SweepsPartly (service n) n p why q) → IsAtRest t q
  swept_rests (Ok count) sweeps partly = still_at_rest t p q sweeps.added.pass rests
  swept_rests (Err why) sweeps partly = still_at_rest t p q partly.added.pass rests

  pub expired_rests : (limit cell : ℕ) (r : Result Expiry StepError) → IfOk r (λ expiry. Expires (service n) limit cell p expiry q)
      → IfErr r (λ why. ExpiresPartly (service n) limit cell p why q) → IsAtRest t q
  expired_rests limit cell (Ok expiry) expires partly = after_counts n t p q rests _ 0 expires.counts
  expired_rests limit cell (Err why) expires partly = after_until n t p q rests _ why partly.counts
