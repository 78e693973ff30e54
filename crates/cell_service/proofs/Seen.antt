-- How passes meet, one after another.
use Rattle.std.specs.List.{AllByRecursion, AllZip}
use Rattle.std.proofs.Common.{List, [], ◌∷◌, map, refl}
use Rattle.turnstile.specs.Histories.{IsBeginning}
use Rattle.turnstile.specs.Passes.{PassView}
use Rattle.turnstile.proofs.Histories.{begins_on, trail_self}
use Rattle.cluster.specs.Events.{pass_of}
use Rattle.table_history.specs.Entries.{TableEvent}
use Rattle.pass_sessions.specs.Meetings.{SeesMore}
use Rattle.cell_helpers.specs.Passes.{pass_in}
use Rattle.cell_helpers.specs.declared.helper.Helper.{Helper}

-- who has met nobody has seen what it had
pub all_as_they_were : (ps : List (PassView TableEvent)) → AllZip (SeesMore pass_of) ps ps
all_as_they_were [] = tt
all_as_they_were (p ∷ ps) = (record { pass = refl; trail = trail_self pass_of p.number p.front }, all_as_they_were ps)

-- what one has seen that had seen all of others', it has when it has seen more
pub all_seen_on : (one more : PassView TableEvent) → SeesMore pass_of one more → (ps : List (PassView TableEvent))
    → AllByRecursion (λ (p : PassView TableEvent). IsBeginning p.front one.front) ps → AllByRecursion (λ (p : PassView TableEvent). IsBeginning p.front more.front) ps
all_seen_on one more sees [] all = tt
all_seen_on one more sees (p ∷ ps) all =
    (begins_on p.front one.front more.front all.0 (sees.trail.rest, sees.trail.is), all_seen_on one more sees ps all.1)

-- of helpers' passes
pub all_helpers : (P : PassView TableEvent → Type 0) (helpers : List Helper) → AllByRecursion (λ h. P (pass_in h)) helpers → AllByRecursion P (map pass_in helpers)
all_helpers P [] all = tt
all_helpers P (h ∷ helpers) all = (all.0, all_helpers P helpers all.1)
