-- What was asked before binds nothing, so it stands before what comes of the rest.
use Rattle.std.proofs.Common.{◌≡◌, ℕ, List, [], ◌++◌, ap, ◌∙◌, inl, inr, arith}
use Rattle.std.proofs.lemmas.List.Elements.{filter-append}
use Rattle.turnstile.specs.Passes.{PassView}
use Rattle.cluster.specs.declared.step.StepError.{StepError}
use Rattle.cluster.proofs.OwnEntries.{counts_on, counts_until}
use Rattle.cell_model.specs.Service.{service}
use Rattle.table_history.specs.Entries.{TableEvent}
use Rattle.cell_asks.specs.declared.looks.Looks.{Looks}
use Rattle.cell_asks.specs.Steps.{binds, bound, GivesUp, IsInVain}
use Rattle.cell_asks.specs.Told.{AreTold}
use Rattle.cell_asks.proofs.Trails.{told_after}
use Rattle.std.proofs.Common.{reverse}
use Rattle.batch_calls.specs.Looks.{LookedAll}
use Rattle.batch_calls.proofs.Looked.{Asked, none_asked_yet, looks_asked}

bound_on : (xs ys : List TableEvent) → bound xs ≡ [] → bound ys ≡ [] → bound (xs ++ ys) ≡ []
bound_on xs ys none more = filter-append (λ e. binds e.message e.answer) xs ys ∙ ap (λ l. l ++ bound ys) none ∙ more

module _ (n : ℕ) (p : PassView TableEvent) where
  pub looked_asked : (names : List (List ℕ)) (q : PassView TableEvent) → LookedAll n p names q → Asked n p q
  looked_asked names q (inl same) = none_asked_yet n p q same
  looked_asked names q (inr (told, looks)) = looks_asked n p names told q looks

  module _ (mid : PassView TableEvent) (asked : Asked n p mid) where
    pub told_asked : (looks : Looks) → AreTold (reverse p.front) looks → AreTold (reverse mid.front) looks
    told_asked looks = told_after n p asked.own 0 mid asked.counts looks

    pub vain_behind : (q : PassView TableEvent) → IsInVain n mid q → IsInVain n p q
    vain_behind q vain =
        let before = asked.counts.units in
        let later = vain.more in record {
          own = asked.own ++ vain.own;
          counts = counts_on (service n) p asked.own 0 mid vain.own 0 q asked.counts vain.counts;
          nothing = bound_on asked.own vain.own asked.nothing vain.nothing;
          more = omega arith;
        }

    pub gives_behind : (why : StepError) (q : PassView TableEvent) → GivesUp n mid why q → GivesUp n p why q
    gives_behind why q gives = record {
      own = asked.own ++ gives.own;
      counts = counts_until (service n) p asked.own mid gives.own why q asked.counts gives.counts;
      nothing = bound_on asked.own gives.own asked.nothing gives.nothing;
    }
