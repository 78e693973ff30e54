-- What a pass counted by the tries of a message, one after another.
use Rattle.std.specs.Prelude.{All, Bool, true, Option, Some, None, MatchOption}
use Rattle.std.specs.List.{AllByRecursion}
use Rattle.std.proofs.Common.{◌≡◌, ℕ, List, [], ◌∷◌, ◌++◌, map, reverse, refl, sym, ap, subst, ◌∙◌, inl, inr, arith}
use Rattle.std.proofs.lemmas.List.{reverse-append}
use Rattle.std.proofs.lemmas.List.Elements.{filter-append}
use Rattle.http_front.specs.declared.message.Message.{Message}
use Rattle.turnstile.specs.Histories.{Trail}
use Rattle.turnstile.specs.Passes.{PassView, TurnstileView}
use Rattle.cluster.specs.Events.{pass_of}
use Rattle.cluster.specs.Steps.{IsAtRest}
use Rattle.cluster.proofs.OwnEntries.{counts_none, counts_on}
use Rattle.coordinator.specs.Driving.{Added}
use Rattle.coordinator.proofs.Moving.{added_by, added_after}
use Rattle.cell_model.specs.Service.{service}
use Rattle.pass_sessions.specs.PassWays.{IsStep, at_moment}
use Rattle.pass_sessions.proofs.Meeting.{each_by_recursion, each_by_place}
use Rattle.table_request.specs.declared.request.Request.{Request}
use Rattle.table_model.specs.declared.reply.Reply.{Reply}
use Rattle.table_model.specs.declared.reply.Reply.TheVariants.{Refused}
use Rattle.table_model.specs.declared.refusal.Refusal.TheVariants.{Conflict}
use Rattle.http_session.specs.declared.answer.Answer.{Answer}
use Rattle.table_service.specs.Telling.{Told, IsTold, told, told_reply}
use Rattle.table_history.specs.Entries.{TableEvent}
use Rattle.cell_asks.specs.declared.looks.Looks.{Looks}
use Rattle.cell_asks.specs.declared.tried.Tried.{Tried}
use Rattle.cell_asks.specs.Steps.{binds, bound, IsInVain}
use Rattle.cell_asks.specs.Told.{AreTold}
use Rattle.cell_asks.proofs.Kept.{all_told_later}
use Rattle.cell_helpers.specs.Passes.{pass_in}
use Rattle.cell_helpers.specs.declared.helper.Helper.{Helper}
use Rattle.request_calls.specs.Requests.{is_single_write, IsTry, Tries}
use Rattle.request_calls.proofs.Held.{conflict_in_vain}
use Rattle.cell_service.specs.Right.{InVain, IsConflict, IsServed, IsAnswered, Answers, Right, cells_of}

-- entries of its own, for one unit each and one more at most
record Counted (n : ℕ) (p q : PassView TableEvent) : Type 0 where
  own : List TableEvent
  added : Added (service n) 1 p own q

module _ (n : ℕ) (p : PassView TableEvent) where
  -- nothing was tried yet
  pub none_tried : InVain n p p
  none_tried = record { own = []; counts = counts_none (service n) p; nothing = refl }

  -- one try more, in vain
  pub tried_once_more : (mid q : PassView TableEvent) → InVain n p mid → IsInVain n mid q → InVain n p q
  tried_once_more mid q vain more = record {
    own = vain.own ++ more.own;
    counts = counts_on (service n) p vain.own 0 mid more.own 0 q vain.counts more.counts;
    nothing = filter-append (λ e. binds e.message e.answer) vain.own more.own ∙ ap (λ l. l ++ bound more.own) vain.nothing ∙ more.nothing;
  }

  counted : (message : Message) (tells : Told) (q : PassView TableEvent) → IsAnswered n p message tells q → Counted n p q
  counted message tells q (inl (request, states, inl (reply, tries, is))) = record { own = tries.own; added = tries.added }
  counted message tells q (inl (request, states, inr (why, stops, is))) = record { own = stops.own; added = stops.added }
  counted message tells q (inr (inl (refusal, refused, same, is))) = idle q same
    where
      idle : (q : PassView TableEvent) → q ≡ p → Counted n p q
      idle q same = subst (λ z. Counted n p z) (sym same) (record { own = []; added = added_by (service n) 1 0 p [] p (omega arith) (counts_none (service n) p) })
  counted message tells q (inr (inr (same, is))) = idle q same
    where
      idle : (q : PassView TableEvent) → q ≡ p → Counted n p q
      idle q same = subst (λ z. Counted n p z) (sym same) (record { own = []; added = added_by (service n) 1 0 p [] p (omega arith) (counts_none (service n) p) })

module _ (n : ℕ) (p mid : PassView TableEvent) (vain : InVain n p mid) (message : Message) (tells : Told) (q : PassView TableEvent) where
  -- the last try told it
  pub answers : IsAnswered n mid message tells q → (own : List TableEvent) × Answers n p own message tells q
  answers last =
      let c = counted n mid message tells q last in
      (vain.own ++ c.own, record { added = added_after (service n) 1 p mid q vain.own c.own vain.counts c.added; mid = mid; vain = vain; last = last })

-- so a message is a step of a session
pub answered_step : (p ticked q : PassView TableEvent) (message : Message) (moment status : ℕ) (body : List ℕ) (n : ℕ) → ticked ≡ at_moment p moment
    → n ≡ cells_of p → ((own : List TableEvent) × Answers n ticked own message (status, body) q) → IsStep pass_of Right p message moment status body q
answered_step p ticked q message moment status body n same count answers = go (subst (λ z. (own : List TableEvent) × Answers n z own message (status, body) q) same answers)
  where
    go : ((own : List TableEvent) × Answers n (at_moment p moment) own message (status, body) q) → IsStep pass_of Right p message moment status body q
    go (own, is) = record {
      own = own;
      pass = is.added.pass;
      trail = is.added.trail;
      right = subst (λ k. Answers k (at_moment p moment) own message (status, body) q) count is;
    }

-- ---- a reply is told, or was a conflict that waits

module _ (n : ℕ) (p : PassView TableEvent) (request : Request) (reply : Reply) (q : PassView TableEvent) (tries : Tries n p request (Tried.Reply reply) q) where
  pub conflict_waits : (number : ℕ) → reply ≡ Refused (Conflict number) → is_single_write request ≡ true → IsInVain n p q
  conflict_waits number is single = conflict_in_vain n p request number q single (subst (λ x. IsTry n p request (Tried.Reply x) q) is tries.is)

  pub served : (may_wait : Bool) → (may_wait ≡ true → is_single_write request ≡ true) → (answer : Option Answer)
      → MatchOption answer ((may_wait ≡ true) × IsConflict reply) (λ a. IsTold (told_reply reply) (told a))
      → MatchOption answer (IsInVain n p q) (λ a. IsServed n p request (told a) q)
  served may_wait single None (waits, (number, is)) = conflict_waits number is (single waits)
  served may_wait single (Some answer) is = inl (reply, tries, is)

-- ---- what is kept of Looks stays told

-- as a pass sees more
pub told_seen : (p : PassView TableEvent) (own front : List TableEvent) → Trail pass_of p.number p.front own front → (looks : Looks)
    → AreTold (reverse p.front) looks → AreTold (reverse front) looks
told_seen p own front trail looks told =
    subst (λ es. AreTold es looks) (sym (reverse-append p.front trail.rest) ∙ ap reverse trail.is) (all_told_later (reverse trail.rest) (reverse p.front) looks told)

-- ---- the helpers' passes

all_front : {A : Type 0} (P : A → Type 0) (xs : List A) (x : A) → AllByRecursion P (xs ++ x ∷ []) → AllByRecursion P xs × P x
all_front P [] x all = (tt, all.0)
all_front P (y ∷ ys) x all = let rest = all_front P ys x all.1 in ((all.0, rest.0), rest.1)

all_back : (t : TurnstileView) (helpers : List Helper) → AllByRecursion (IsAtRest t) (map pass_in helpers) → AllByRecursion (λ h. IsAtRest t (pass_in h)) helpers
all_back t [] all = tt
all_back t (h ∷ helpers) all = (all.0, all_back t helpers all.1)

-- the last two of passes at rest are the helpers'
pub helpers_rest : (t : TurnstileView) (made mid left : List (PassView TableEvent)) (feeder recovery : PassView TableEvent) (helpers : List Helper)
    → All (IsAtRest t) made → made ≡ mid ++ recovery ∷ [] → mid ≡ left ++ feeder ∷ [] → map pass_in helpers ≡ feeder ∷ recovery ∷ []
    → All (λ h. IsAtRest t (pass_in h)) helpers
helpers_rest t made mid left feeder recovery helpers rest last before are =
    let all = each_by_recursion (IsAtRest t) made rest in
    let one = all_front (IsAtRest t) mid recovery (subst (AllByRecursion (IsAtRest t)) last all) in
    let two = all_front (IsAtRest t) left feeder (subst (AllByRecursion (IsAtRest t)) before one.0) in
    let both : AllByRecursion (IsAtRest {E = TableEvent} t) (feeder ∷ recovery ∷ []) = (two.1, (one.1, tt)) in
    each_by_place (λ h. IsAtRest t (pass_in h)) helpers (all_back t helpers (subst (AllByRecursion (IsAtRest t)) (sym are) both))
