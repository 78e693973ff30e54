-- What serving needs and leaves: a pass for each worker, helpers at rest, the listener's connections.
use Rattle.std.specs.Prelude.{All, Option, None, Some}
use Rattle.std.specs.List.{AllByRecursion, AllZip}
use Rattle.std.proofs.Common.{◌≡◌, ◌≤◌, ◌<◌, ℕ, suc, List, [], ◌∷◌, length, map, refl, sym, ap, inl, inr, subst, arith, length-append}
use Rattle.turnstile.specs.Passes.{PassView, TurnstileView, first_pass, first_passes}
use Rattle.ddb_outside.specs.Listeners.{Connections, KeepsConnections}
use Rattle.cluster.specs.Steps.{IsAtRest}
use Rattle.http_workers.specs.declared.serve.ServeEnd.{ServeEnd}
use Rattle.http_workers.specs.declared.serve.ServeEnd.TheVariants.{Done, NetFault, NoMemory}
use Rattle.http_workers.specs.Crews.{AllHelped}
use Rattle.pass_sessions.proofs.Meeting.{each_by_recursion, each_by_place}
use Rattle.table_history.specs.Entries.{TableEvent}
use Rattle.cell_helpers.specs.declared.helper.Helper.{Helper}
use Rattle.cell_helpers.specs.Passes.{pass_in}
use Rattle.cell_helpers.specs.Upkeep.{Upkeep}
use Rattle.cell_helpers.proofs.Kept.{kept_none, rests_still}

-- there are as many passes as were asked for
pub count : (cells : TurnstileView) (passes k : ℕ) → length (first_passes {E = TableEvent} cells.id passes k) ≡ k
count cells passes Rattle.std.specs.Prelude.zero = refl
count cells passes (suc k) =
    let one = length-append (first_passes {E = TableEvent} cells.id passes k) (first_pass cells.id passes k ∷ []) in
    let before = count cells passes k in
    omega (arith, one, before)

pub some_pass : (passes : List (PassView TableEvent)) (cells : TurnstileView) (all workers : ℕ) → 1 ≤ workers
    → passes ≡ first_passes cells.id all workers → 0 < length passes
some_pass passes cells all workers some is =
    let many = count cells all workers in
    let same = ap length is in
    omega (arith, some, many, same)

-- ---- helpers

abbrev pub Helps : Helper → Helper → Type 0
Helps old new = Upkeep (pass_in old) (pass_in new)

upkept : (olds news : List Helper) → AllZip Helps olds news → AllZip Upkeep (map pass_in olds) (map pass_in news)
upkept [] [] all = tt
upkept [] (new ∷ news) all = absurd all
upkept (old ∷ olds) [] all = absurd all
upkept (old ∷ olds) (new ∷ news) all = (all.0, upkept olds news all.1)

left_alone : (helpers : List Helper) → AllZip Upkeep (map pass_in helpers) (map pass_in helpers)
left_alone [] = tt
left_alone (h ∷ helpers) = (kept_none (pass_in h), left_alone helpers)

left_as : (olds news : List Helper) → news ≡ olds → AllZip Upkeep (map pass_in olds) (map pass_in news)
left_as olds news same = subst (λ hs. AllZip Upkeep (map pass_in olds) (map pass_in hs)) (sym same) (left_alone olds)

-- however serving ended, each did what binds no request
pub helped : (end : ServeEnd) (olds news : List Helper) → AllHelped Helps end olds news → AllZip Upkeep (map pass_in olds) (map pass_in news)
helped Done olds news all = upkept olds news all
helped NetFault olds news (inl all) = upkept olds news all
helped NetFault olds news (inr same) = left_as olds news same
helped NoMemory olds news same = left_as olds news same

still_rests : (t : TurnstileView) (olds news : List Helper) → AllZip Upkeep (map pass_in olds) (map pass_in news) → AllByRecursion (λ h. IsAtRest t (pass_in h)) olds
    → AllByRecursion (λ h. IsAtRest t (pass_in h)) news
still_rests t [] [] all rest = tt
still_rests t [] (new ∷ news) all rest = absurd all
still_rests t (old ∷ olds) [] all rest = absurd all
still_rests t (old ∷ olds) (new ∷ news) all rest = (rests_still (pass_in old) t (pass_in new) all.0 rest.0, still_rests t olds news all.1 rest.1)

pub helped_rest : (t : TurnstileView) (end : ServeEnd) (olds news : List Helper) → AllHelped Helps end olds news → All (λ h. IsAtRest t (pass_in h)) olds
    → All (λ h. IsAtRest t (pass_in h)) news
helped_rest t end olds news all rest =
    each_by_place (λ h. IsAtRest t (pass_in h)) news
    (still_rests t olds news (helped end olds news all) (each_by_recursion (λ h. IsAtRest t (pass_in h)) olds rest))

-- ---- the listener

pub same_connections : (old new : Option Connections) → KeepsConnections old new → new ≡ old
same_connections None new is = is
same_connections (Some c) new is = is
