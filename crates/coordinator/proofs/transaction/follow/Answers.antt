use Rattle.std.proofs.Common.{sym, ap, ◌∙◌}
use Rattle.coordinator.specs.Writes.{ended_by}
use Rattle.coordinator.proofs.Stopping.{in_words, not_asked}
use Rattle.coordinator.proofs.Writing.{stopped_by}
use Rattle.coordinator.proofs.transaction.follow.Goals as goal

pub run_drawn-requires-clause-drawn : goal.run_drawn-requires-clause-drawn
run_drawn-requires-clause-drawn g c = c.requires.drawn c.in-Begun.number c.in-Begun.stamp c.in-Begun.is

pub returns-in-Begun-clause-gate : goal.returns-in-Begun-clause-gate
returns-in-Begun-clause-gate g c =
    in_words _ _ _ _ (λ stop. c.ended_by.ensures ∙ ap ended_by stop) (λ stop. stopped_by c.run_drawn.result (sym c.ended_by.ensures ∙ stop))
    c.run_drawn.ensures.gate

pub returns-in-Running-clause-gate : goal.returns-in-Running-clause-gate
returns-in-Running-clause-gate g c =
    record {
      stopped = λ stop. c.drive.ensures.stopped (stopped_by c.drive.result (sym c.ended_by-in-Running.ensures ∙ stop));
      later = c.drive.ensures.later;
      obeyed = λ on. c.drive.ensures.obeyed (λ stop. on (c.ended_by-in-Running.ensures ∙ ap ended_by stop));
    }

pub returns-in-Repeat-clause-gate : goal.returns-in-Repeat-clause-gate
returns-in-Repeat-clause-gate g c =
    not_asked _ _ (λ e. cc)

pub returns-in-Mismatch-clause-gate : goal.returns-in-Mismatch-clause-gate
returns-in-Mismatch-clause-gate g c =
    not_asked _ _ (λ e. cc)

pub returns-in-Stale-clause-gate : goal.returns-in-Stale-clause-gate
returns-in-Stale-clause-gate g c =
    not_asked _ _ (λ e. cc)
