-- What helpers do, one thing after another, is upkeep.
use Rattle.std.proofs.Common.{◌≡◌, ℕ, ◌+◌, List, [], ◌++◌, Result, Ok, Err, IfOk, IfErr, refl, sym, ap, ◌∙◌, subst, inl, inr}
use Rattle.turnstile.specs.Histories.{Trail}
use Rattle.turnstile.specs.Passes.{PassView, TurnstileView}
use Rattle.turnstile.proofs.Histories.{trail_self, trail_on}
use Rattle.cluster.specs.declared.step.StepError.{StepError}
use Rattle.cluster.specs.Events.{pass_of}
use Rattle.cluster.specs.Steps.{IsAtRest}
use Rattle.cluster.specs.Counts.{Counts, CountsUntil}
use Rattle.cell_model.specs.Service.{service}
use Rattle.table_history.specs.Entries.{TableEvent}
use Rattle.cell_asks.specs.Steps.{bound}
use Rattle.index_feeder.specs.Feeds.{Drains, MakesPartly, all_empty, entries}
use Rattle.recovery_manager.specs.declared.sweep_end.SweepEnd.{SweepEnd}
use Rattle.recovery_manager.specs.declared.expiring.Expiry.{Expiry}
use Rattle.recovery_manager.specs.Lists.{lists}
use Rattle.recovery_manager.specs.Sweeps.{Sweeps, SweepsPartly}
use Rattle.recovery_manager.specs.Expiries.{Expires, ExpiresPartly}
use Rattle.cell_helpers.specs.Upkeep.{Upkeep}
use Rattle.cell_helpers.proofs.Free.{free_on, feeds_free, cut_free, lists_free, some_lists_free, drives_free, expires_free, expiry_cut_free}

module _ (p : PassView TableEvent) where
  -- nothing was done
  pub kept_none : Upkeep p p
  kept_none = record { own = []; trail = trail_self pass_of p.number p.front; nothing = refl; same = refl }

  -- the moment was raised
  pub ticked : (q : PassView TableEvent) (moment : ℕ) → q ≡ record p { moment = moment } → Upkeep p q
  ticked q moment is =
      subst (λ (z : PassView TableEvent). Upkeep p z) (sym is)
      record { own = []; trail = trail_self pass_of p.number p.front; nothing = refl; same = refl }

  -- one thing after another
  pub kept_on : (mid q : PassView TableEvent) → Upkeep p mid → Upkeep mid q → Upkeep p q
  kept_on mid q one two =
      let number : mid.number ≡ p.number = ap (λ (z : PassView TableEvent). z.number) one.same in
      record {
        own = one.own ++ two.own;
        trail =
            trail_on pass_of p.number p.front one.own mid.front two.own q.front one.trail
            (subst (λ k. Trail pass_of k mid.front two.own q.front) number two.trail);
        nothing = free_on one.own two.own one.nothing two.nothing;
        same = two.same ∙ ap (λ (z : PassView TableEvent). record z { moment = q.moment; used = q.used; front = q.front }) one.same;
      }

  -- a pass is at rest where it was before
  pub rests_still : (t : TurnstileView) (q : PassView TableEvent) → Upkeep p q → IsAtRest t p → IsAtRest t q
  rests_still t q kept h = record {
    of = ap (λ (z : PassView TableEvent). z.turnstile) kept.same ∙ h.of;
    free = ap (λ (z : PassView TableEvent). z.turns) kept.same ∙ h.free;
  }

  -- own entries that bind nothing were added
  added : (own : List TableEvent) (q : PassView TableEvent) → q ≡ record p { used = q.used; front = q.front }
      → Trail pass_of p.number p.front own q.front → bound own ≡ [] → Upkeep p q
  added own q is trail free = record {
    own = own;
    trail = trail;
    nothing = free;
    same = subst (λ (z : PassView TableEvent). z ≡ record p { moment = z.moment; used = z.used; front = z.front }) (sym is) refl;
  }

module _ (n : ℕ) (p q : PassView TableEvent) where
  counted : (own : List TableEvent) (more : ℕ) → Counts (service n) p own more q → bound own ≡ [] → Upkeep p q
  counted own more counts free = added p own q counts.pass counts.trail free

  counted_until : (own : List TableEvent) (why : StepError) → CountsUntil (service n) p own why q → bound own ≡ [] → Upkeep p q
  counted_until own StepError.Spent counts free = counted own 0 counts.0 free
  counted_until own StepError.NoMemory (inl counts) free = counted own 0 counts free
  counted_until own StepError.NoMemory (inr counts) free = counted own 1 counts free

  -- ---- what helpers call

  pub drained_keeps : (r : Result ℕ StepError) → IfOk r (λ fed. Drains (service n) n p fed q)
      → IfErr r (λ why. MakesPartly (service n) (n + 1) n p why q) → Upkeep p q
  drained_keeps (Ok fed) drains partly =
      counted (entries (service n) p (drains.feedings ++ all_empty n)) 0 drains.makes.counts (feeds_free n p (drains.feedings ++ all_empty n))
  drained_keeps (Err why) drains partly =
      let whole = entries (service n) p partly.feedings in
      counted_until (whole ++ partly.part) why partly.counts
      (free_on whole partly.part (feeds_free n p partly.feedings) (cut_free n p partly.cell partly.part partly.cut))

  pub swept_keeps : (r : Result ℕ SweepEnd) → IfOk r (λ count. Sweeps (service n) n p count q)
      → IfErr r (λ why. SweepsPartly (service n) n p why q) → Upkeep p q
  swept_keeps (Ok count) sweeps partly =
      let told = lists (service n) p sweeps.listing in
      added p (told ++ sweeps.own) q sweeps.added.pass sweeps.added.trail
      (free_on told sweeps.own (lists_free n p sweeps.listing) (drives_free n sweeps.numbers sweeps.own sweeps.each))
  swept_keeps (Err why) sweeps partly =
      added p (partly.told ++ partly.own) q partly.added.pass partly.added.trail
      (free_on partly.told partly.own (some_lists_free n p n partly.listing partly.told partly.told_is)
      (drives_free n partly.numbers partly.own partly.each))

  pub expired_keeps : (limit cell : ℕ) (r : Result Expiry StepError) → IfOk r (λ expiry. Expires (service n) limit cell p expiry q)
      → IfErr r (λ why. ExpiresPartly (service n) limit cell p why q) → Upkeep p q
  expired_keeps limit cell (Ok expiry) expires partly = counted _ 0 expires.counts (expires_free n p expires.keys expires.answers)
  expired_keeps limit cell (Err why) expires partly =
      counted_until partly.own why partly.counts (expiry_cut_free n p limit cell partly.own partly.is)
