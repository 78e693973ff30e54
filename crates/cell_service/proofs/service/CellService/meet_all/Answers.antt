use Rattle.std.specs.List.{AllByRecursion}
use Rattle.std.proofs.Common.{sym, subst}
use Rattle.turnstile.specs.Histories.{IsBeginning}
use Rattle.turnstile.specs.Passes.{PassView, TurnstileView}
use Rattle.cluster.specs.Steps.{IsAtRest, partitions_of}
use Rattle.cluster.specs.World.{IsLegalLog}
use Rattle.cell_model.specs.Service.{service}
use Rattle.pass_sessions.proofs.Meeting.{each_by_recursion}
use Rattle.table_history.specs.Entries.{TableEvent}
use Rattle.cell_helpers.specs.Passes.{pass_in}
use Rattle.cell_service.proofs.Seen.{all_as_they_were, all_helpers, all_seen_on}
use Rattle.cell_service.proofs.service.CellService.meet_all.Goals as goal

pub returns-in_default-clause-helpers : goal.returns-in_default-clause-helpers
returns-in_default-clause-helpers c = all_as_they_were _

pub meet_sessions-requires-clause-others : goal.meet_sessions-requires-clause-others
meet_sessions-requires-clause-others c =
    subst (λ (t : TurnstileView). AllByRecursion (IsAtRest {E = TableEvent} t) c.in-Some.others.now) (sym c.self.view_is)
    (subst (AllByRecursion (IsAtRest c.args.self.now)) c.in-Some.ensures.cases.0 (each_by_recursion (IsAtRest c.args.self.now) c.args.sessions.now c.requires.sessions)).1

pub meet_helpers-requires-clause-helpers : goal.meet_helpers-requires-clause-helpers
meet_helpers-requires-clause-helpers c =
    subst (λ (t : TurnstileView). AllByRecursion (λ h. IsAtRest {E = TableEvent} t (pass_in h)) c.args.helpers.now) (sym c.self.view_is)
    (each_by_recursion (λ h. IsAtRest c.args.self.now (pass_in h)) c.args.helpers.now c.requires.helpers)

pub returns-clause-met : goal.returns-clause-met
returns-clause-met c =
    let first : PassView TableEvent = c.meet_helpers.new.one in
    record {
      legal = subst (λ (t : TurnstileView). IsLegalLog (service (partitions_of t)) first.front) c.self.view_is c.facts.ensures.legal;
      sessions = all_seen_on c.meet_sessions.new.one first c.meet_helpers.ensures.one c.meet_sessions.new.others c.meet_sessions.ensures.seen;
      helpers = all_helpers (λ p. IsBeginning p.front first.front) c.meet_helpers.new.helpers c.meet_helpers.ensures.seen;
    }
