-- What a pass counted by a call, whatever the call: its own entries, and one unit more at most.
use Rattle.std.proofs.Common.{◌≡◌, ℕ, List, [], ◌∷◌, ◌++◌, reverse, sym, ap, subst, inl, inr, arith, ◌∙◌}
use Rattle.std.proofs.lemmas.List.{reverse-append}
use Rattle.turnstile.specs.Passes.{PassView, most_units}
use Rattle.cluster.specs.declared.step.StepError.{StepError}
use Rattle.cluster.specs.Counts.{Counts}
use Rattle.cluster.proofs.OwnEntries.{counts_none, counts_on}
use Rattle.coordinator.specs.Driving.{Added}
use Rattle.coordinator.proofs.Moving.{added_by, added_on, added_after, until_added, until_spent}
use Rattle.cell_model.specs.Service.{service}
use Rattle.table_history.specs.Entries.{TableMessage, TableAnswer, TableEvent}
use Rattle.cell_asks.specs.declared.looks.Looks.{Looks}
use Rattle.cell_asks.specs.Steps.{answered, One, Stops, GivesUp, IsInVain}
use Rattle.cell_asks.specs.Told.{AreTold, Looked}
use Rattle.cell_asks.proofs.Kept.{all_told_later}
use Rattle.cell_asks.proofs.Trails.{one_counts}

-- for one unit each
pub record Stretch (n : ℕ) (p q : PassView TableEvent) : Type 0 where
  pub own : List TableEvent
  pub counts : Counts (service n) p own 0 q

-- and one more at most
pub record Counted (n : ℕ) (p q : PassView TableEvent) : Type 0 where
  pub own : List TableEvent
  pub added : Added (service n) 1 p own q

module _ (n : ℕ) (p : PassView TableEvent) where
  pub none_counted : (q : PassView TableEvent) → q ≡ p → Stretch n p q
  none_counted q same = record { own = []; counts = subst (λ (z : PassView TableEvent). Counts (service n) p [] 0 z) (sym same) (counts_none (service n) p) }

  pub one_counted : (m : TableMessage) (a : TableAnswer) (q : PassView TableEvent) → One n p m a q → Stretch n p q
  one_counted m a q one = record { own = answered n p m a ∷ []; counts = one_counts n p m a q one }

  pub looked_counted : (name : List ℕ) (q : PassView TableEvent) → Looked n p name q → Stretch n p q
  looked_counted name q (inl same) = none_counted q same
  looked_counted name q (inr (told, one)) = one_counted _ _ q one

  pub stretch_on : (mid q : PassView TableEvent) → Stretch n p mid → Stretch n mid q → Stretch n p q
  stretch_on mid q one two = record { own = one.own ++ two.own; counts = counts_on (service n) p one.own 0 mid two.own 0 q one.counts two.counts }

  pub is_counted : (q : PassView TableEvent) → Stretch n p q → Counted n p q
  is_counted q s = record { own = s.own; added = added_by (service n) 1 0 p s.own q (omega arith) s.counts }

  pub counted_after : (mid q : PassView TableEvent) → Stretch n p mid → Counted n mid q → Counted n p q
  counted_after mid q one two = record { own = one.own ++ two.own; added = added_after (service n) 1 p mid q one.own two.own one.counts two.added }

  pub counted_before : (mid q : PassView TableEvent) → Counted n p mid → Stretch n mid q → Counted n p q
  counted_before mid q one two = record {
    own = one.own ++ two.own;
    added = added_on (service n) 1 0 p mid q one.own two.own one.added (added_by (service n) 0 0 mid two.own q (omega arith) two.counts);
  }

  pub gives_up_counted : (why : StepError) (q : PassView TableEvent) → GivesUp n p why q → Counted n p q
  gives_up_counted why q gives = record { own = gives.own; added = until_added (service n) p gives.own q why gives.counts }

  pub gives_up_spent : (why : StepError) (q : PassView TableEvent) → GivesUp n p why q → why ≡ StepError.Spent → q.used ≡ most_units
  gives_up_spent why q gives = until_spent (service n) p gives.own q why gives.counts

  pub stops_counted : (why : StepError) (q : PassView TableEvent) → Stops n p why q → Counted n p q
  stops_counted why q stops = record { own = []; added = until_added (service n) p [] q why stops.counts }

  pub stops_spent : (why : StepError) (q : PassView TableEvent) → Stops n p why q → why ≡ StepError.Spent → q.used ≡ most_units
  stops_spent why q stops = until_spent (service n) p [] q why stops.counts

  pub vain_counted : (q : PassView TableEvent) → IsInVain n p q → Counted n p q
  vain_counted q vain = is_counted q (record { own = vain.own; counts = vain.counts })

  -- what was told stays told
  pub told_counted : (q : PassView TableEvent) → Counted n p q → (looks : Looks) → AreTold (reverse p.front) looks → AreTold (reverse q.front) looks
  told_counted q c looks told =
      subst (λ es. AreTold es looks) (sym (reverse-append p.front c.added.trail.rest) ∙ ap reverse c.added.trail.is)
      (all_told_later (reverse c.added.trail.rest) (reverse p.front) looks told)
