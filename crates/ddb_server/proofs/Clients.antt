-- What a load needs and leaves: passes at rest, a client for each pass but the bank's.
use Rattle.std.specs.Prelude.{All}
use Rattle.std.specs.List.{AllByRecursion}
use Rattle.std.proofs.Common.{◌≡◌, ◌≤◌, ℕ, suc, ◌+◌, List, [], ◌∷◌, ◌++◌, length, refl, sym, ap, subst, arith, length-append}
use Rattle.turnstile.specs.Passes.{PassView, TurnstileView, first_passes}
use Rattle.cluster.specs.Steps.{IsAtRest}
use Rattle.pass_sessions.proofs.Meeting.{each_by_recursion}
use Rattle.table_history.specs.Entries.{TableEvent}
use Rattle.table_load.specs.declared.client.Client.{Client}
use Rattle.table_load.specs.Loads.{AreNumbered, AreClients}
use Rattle.ddb_server.proofs.Serving.{count}

fronts_rest : (t : TurnstileView) (passes : List (PassView TableEvent)) (last : PassView TableEvent)
    → AllByRecursion (IsAtRest t) (passes ++ last ∷ []) → AllByRecursion (IsAtRest t) passes × IsAtRest t last
fronts_rest t [] last all = (tt, all.0)
fronts_rest t (p ∷ passes) last all = let rest = fronts_rest t passes last all.1 in ((all.0, rest.0), rest.1)

module _ (t : TurnstileView) (all left : List (PassView TableEvent)) (last : PassView TableEvent) (is : all ≡ left ++ last ∷ []) where
  both : All (IsAtRest t) all → AllByRecursion (IsAtRest t) left × IsAtRest t last
  both rest = fronts_rest t left last (subst (AllByRecursion (IsAtRest t)) is (each_by_recursion (IsAtRest t) all rest))

  -- the bank's pass rests
  pub last_rests : All (IsAtRest t) all → IsAtRest t last
  last_rests rest = (both rest).1

  -- the others rest
  pub others_rest : All (IsAtRest t) all → AllByRecursion (IsAtRest t) left
  others_rest rest = (both rest).0

module _ where
  numbered_rest : (t : TurnstileView) (number : ℕ) (passes : List (PassView TableEvent)) (clients : List Client) → AreNumbered number passes clients
      → AllByRecursion (IsAtRest t) passes → AllByRecursion (λ (c : Client). IsAtRest t c.session) clients
  numbered_rest t number [] [] are rest = tt
  numbered_rest t number [] (client ∷ clients) are rest = absurd are
  numbered_rest t number (p ∷ passes) [] are rest = absurd are
  numbered_rest t number (p ∷ passes) (client ∷ clients) are rest =
      (subst (IsAtRest t) (sym are.0) rest.0, numbered_rest t (suc number) passes clients are.2 rest.1)

  -- the clients with those passes rest
  pub clients_rest : (t : TurnstileView) (passes : List (PassView TableEvent)) (clients : List Client) → AreClients passes clients
      → AllByRecursion (IsAtRest t) passes → AllByRecursion (λ (c : Client). IsAtRest t c.session) clients
  clients_rest t passes clients are rest = numbered_rest t 0 passes clients are rest

  numbered_many : (number : ℕ) (passes : List (PassView TableEvent)) (clients : List Client) → AreNumbered number passes clients
      → length clients ≡ length passes
  numbered_many number [] [] are = refl
  numbered_many number [] (client ∷ clients) are = absurd are
  numbered_many number (p ∷ passes) [] are = absurd are
  numbered_many number (p ∷ passes) (client ∷ clients) are = ap suc (numbered_many (suc number) passes clients are.2)

  -- there is a client
  pub some_client : (cells : TurnstileView) (asked k : ℕ) → k ≡ asked + 1 → (all left : List (PassView TableEvent)) (last : PassView TableEvent) (clients : List Client)
      → 1 ≤ asked → all ≡ first_passes cells.id k k → all ≡ left ++ last ∷ [] → AreClients left clients → 1 ≤ length clients
  some_client cells asked k more all left last clients some first is are =
      let many = count cells k k in
      let same = ap length first in
      let parts = ap length is in
      let long = length-append left (last ∷ []) in
      let each = numbered_many 0 left clients are in
      omega (arith, some, more, many, same, parts, long, each)
