-- How sessions and clients meet, one after another.
use Rattle.std.specs.List.{AllByRecursion, AllZip}
use Rattle.std.specs.Prelude.{All, slice_index_or}
use Rattle.std.proofs.Common.{None, Some, Result, Ok, Err, IfOk, IfErr, inl, inr, ◌≢◌, ◌≡◌, ℕ, ◌<◌, ◌≤◌, suc, List, [], ◌∷◌, length, reverse, refl, sym, ap, subst, ◌∙◌, arith}
use Rattle.std.proofs.lemmas.List.{reverse-append}
use Rattle.turnstile.specs.Histories.{IsBeginning, Trail}
use Rattle.turnstile.specs.Passes.{PassView, TurnstileView}
use Rattle.turnstile.proofs.Histories.{begins_on, trail_self}
use Rattle.cluster.specs.Events.{pass_of}
use Rattle.cluster.specs.Steps.{IsAtRest}
use Rattle.pass_sessions.proofs.Meeting.{each_by_place}
use Rattle.table_history.specs.Entries.{TableEvent}
use Rattle.pass_sessions.specs.Meetings.{SeesMore}
use Rattle.cell_asks.specs.declared.looks.Looks.{Looks}
use Rattle.cell_asks.specs.Told.{AreTold}
use Rattle.cell_asks.proofs.Kept.{all_told_later}
use Rattle.table_load.specs.declared.client.Client.{Client}
use Rattle.table_load.specs.declared.client.Shares.{Shares}
use Rattle.table_load.specs.declared.end.LoadFault.{LoadFault}
use Rattle.table_load.specs.Clients.{IsFaultOf, IsReady, RoundEnds, SendsAll, WorksRound}

-- what is kept of Looks stays told as a pass sees more
pub told_seen : (p : PassView TableEvent) (own front : List TableEvent) → Trail pass_of p.number p.front own front → (looks : Looks)
    → AreTold (reverse p.front) looks → AreTold (reverse front) looks
told_seen p own front trail looks told =
    subst (λ es. AreTold es looks) (sym (reverse-append p.front trail.rest) ∙ ap reverse trail.is) (all_told_later (reverse trail.rest) (reverse p.front) looks told)

-- who has met nobody has seen what it had
pub as_it_was : (p : PassView TableEvent) → SeesMore pass_of p p
as_it_was p = record { pass = refl; trail = trail_self pass_of p.number p.front }

-- what one has seen that had seen all of clients', it has when it has seen more
pub all_seen_on : (one more : PassView TableEvent) → SeesMore pass_of one more → (clients : List Client)
    → AllByRecursion (λ (c : Client). IsBeginning c.session.front one.front) clients
    → AllByRecursion (λ (c : Client). IsBeginning c.session.front more.front) clients
all_seen_on one more sees [] all = tt
all_seen_on one more sees (c ∷ clients) all =
    (begins_on c.session.front one.front more.front all.0 (sees.trail.rest, sees.trail.is), all_seen_on one more sees clients all.1)

-- what holds of the elements at each place holds of the lists
pub zipped : {X : Type 0} (R : X → X → Type 0) (xs ys : List X) → length ys ≡ length xs
    → ((i : ℕ) (d : X) → i < length xs → R (slice_index_or xs i d) (slice_index_or ys i d)) → AllZip R xs ys
zipped R [] [] long each = tt
zipped R [] (y ∷ ys) long each = absurd (omega arith)
zipped R (x ∷ xs) [] long each = absurd (omega arith)
zipped R (x ∷ xs) (y ∷ ys) long each =
    (each 0 x (omega arith), zipped R xs ys (omega arith) (λ i d below. each (suc i) d (omega arith)))

module _ (n : ℕ) (shares : Shares) where
  sent_each : (olds news : List Client) → AllZip (WorksRound n shares) olds news → AllByRecursion (λ (c : Client). c.fault ≡ None) news
      → AllZip (SendsAll n shares.start shares.count shares.clients) olds news
  sent_each [] [] works went = tt
  sent_each [] (c ∷ news) works went = absurd works
  sent_each (o ∷ olds) [] works went = absurd works
  sent_each (o ∷ olds) (c ∷ news) works went =
      (record { number = works.0.number; share = subst (λ f. RoundEnds n shares f o c) went.0 works.0.ends }, sent_each olds news works.1 went.1)

  -- where no client's round ended early, each sent its share
  pub all_sent : {T : Type 0} (olds news : List Client) → AllZip (WorksRound n shares) olds news → (r : Result T LoadFault)
      → IfOk r (λ done. AllByRecursion (λ (c : Client). c.fault ≡ None) news)
      → IfOk r (λ done. AllZip (SendsAll n shares.start shares.count shares.clients) olds news)
  all_sent olds news works (Ok done) went = sent_each olds news works went
  all_sent olds news works (Err why) went = tt

  not_stopped : (why : LoadFault) (old new : Client) → RoundEnds n shares (Some why) old new → why ≢ LoadFault.Stopped
  not_stopped LoadFault.Spent old new ends = λ is. cc
  not_stopped LoadFault.Stopped old new ends = ends
  not_stopped LoadFault.NoMemory old new ends = ends

  unstopped_each : (why : LoadFault) (olds news : List Client) → AllZip (WorksRound n shares) olds news → IsFaultOf why news → why ≢ LoadFault.Stopped
  unstopped_each why olds [] works is = absurd is
  unstopped_each why [] (c ∷ news) works is = absurd works
  unstopped_each why (o ∷ olds) (c ∷ news) works (inl is) = not_stopped why o c (subst (λ f. RoundEnds n shares f o c) is works.0.ends)
  unstopped_each why (o ∷ olds) (c ∷ news) works (inr is) = unstopped_each why olds news works.1 is

  -- no gate ends a client's round
  pub none_stopped : {T : Type 0} (olds news : List Client) → AllZip (WorksRound n shares) olds news → (r : Result T LoadFault)
      → IfErr r (λ why. IsFaultOf why news) → IfErr r (λ why. why ≢ LoadFault.Stopped)
  none_stopped olds news works (Ok done) is = tt
  none_stopped olds news works (Err why) is = unstopped_each why olds news works is

-- ---- clients that are ready

module _ (cells : TurnstileView) (shares : Shares) where
  ready_each : shares.start ≤ 9999999 → shares.count ≤ 100000 → 1 ≤ shares.clients → (clients : List Client)
      → AllByRecursion (λ (c : Client). IsAtRest {E = TableEvent} cells c.session) clients → AllByRecursion (IsReady cells shares) clients
  ready_each start count some [] rest = tt
  ready_each start count some (c ∷ clients) rest =
      (record { rests = rest.0; start = start; count = count; some = some }, ready_each start count some clients rest.1)

  -- those at rest are ready for a load that the words may state
  pub all_ready : shares.start ≤ 9999999 → shares.count ≤ 100000 → 1 ≤ shares.clients → (clients : List Client)
      → AllByRecursion (λ (c : Client). IsAtRest {E = TableEvent} cells c.session) clients → All (IsReady cells shares) clients
  all_ready start count some clients rest = each_by_place (IsReady cells shares) clients (ready_each start count some clients rest)

  pub all_rest : (clients : List Client) → AllByRecursion (IsReady cells shares) clients
      → AllByRecursion (λ (c : Client). IsAtRest {E = TableEvent} cells c.session) clients
  all_rest [] ready = tt
  all_rest (c ∷ clients) ready = (ready.0.rests, all_rest clients ready.1)
