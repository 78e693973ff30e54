-- A transaction whose Begin found a table gone drew no number.
use Rattle.std.specs.List.{filter, AllByRecursion}
use Rattle.std.proofs.Common.{◌≡◌, ℕ, zero, suc, ◌+◌, ◌<◌, true, false, cond, List, [], ◌∷◌, ◌++◌, length, Option, None, Some, refl, sym, ap, ◌∙◌, subst, inl, inr, arith, length-append}
use Rattle.std.proofs.lemmas.List.Elements.{filter-append}
use Rattle.turnstile.specs.Passes.{PassView}
use Rattle.txn_core.specs.declared.message.Message.{Message}
use Rattle.txn_core.specs.declared.answer.Answer.{Answer}
use Rattle.txn_core.specs.Service.{Service, Asked, Reply, Event}
use Rattle.cluster.specs.declared.step.StepError.{StepError}
use Rattle.cluster.specs.Events.{event_of}
use Rattle.cluster.specs.Counts.{Counts}
use Rattle.cluster.proofs.Lists.{each_append}
use Rattle.cluster.proofs.OwnEntries.{counts_none, counts_on}
use Rattle.coordinator.specs.declared.drive_end.DriveEnd.{DriveEnd}
use Rattle.coordinator.specs.declared.transact_end.TransactEnd.{TransactEnd}
use Rattle.coordinator.specs.Driving.{is_driving, AllDrive}
use Rattle.coordinator.specs.Drives.{is_gone_end, Drives}
use Rattle.coordinator.specs.Writes.{ended_by, unanswered, draws_some, Follows, Turns, TurnsAgain, Writes, IsOfWrite}
use Rattle.coordinator.proofs.Writing.{none_by}

module _ {V F : Type 0} where
  none_is_stale : (driven : DriveEnd V F) → (let end : TransactEnd V F = TransactEnd.Stale in Some end) ≡ ended_by driven → ⊥
  none_is_stale DriveEnd.Committed e = cc
  none_is_stale (DriveEnd.Cancelled reasons) e = cc
  none_is_stale (DriveEnd.NoTable place) e = cc
  none_is_stale DriveEnd.Gone e = cc
  none_is_stale DriveEnd.Stopped e = cc
  none_is_stale DriveEnd.Spent e = cc
  none_is_stale DriveEnd.NoMemory e = cc

  answered_stale : (why : StepError) → (let end : TransactEnd V F = TransactEnd.Stale in Some end) ≡ Some (unanswered why) → ⊥
  answered_stale StepError.Spent e = cc
  answered_stale StepError.NoMemory e = cc

module _ {K V A F C D Q B : Type 0} (S : Service K V A F C D Q B) (token : Option (List ℕ)) (actions : List A) where
  abbrev drawing : List (Event S) → List (Event S)
  drawing own = filter (λ e. draws_some e.message e.answer) own

  abbrev Each : List (Event S) → Type 0
  Each own = AllByRecursion (λ e. IsOfWrite S token actions e.message) own

  -- own entries of the writing, of which none drew a number
  pub record Quiet (p q : PassView (Event S)) : Type 0 where
    pub own : List (Event S)
    pub counts : Counts S p own 0 q
    pub each : Each own
    pub none : drawing own ≡ []

  drives_none : (n : ℕ) (m : Asked S) (a : Reply S) → is_driving n m ≡ true → IsOfWrite S token actions m × (draws_some m a ≡ false)
  drives_none n (Message.Recall k) a h = (tt, refl)
  drives_none n (Message.Prepare k stamp action) a h = (tt, refl)
  drives_none n (Message.Decide k commit reasons) a h = (tt, refl)
  drives_none n (Message.Apply k key) a h = (tt, refl)
  drives_none n (Message.Release k key) a h = (tt, refl)
  drives_none n (Message.Done k) a h = (tt, refl)
  drives_none n _ a h = absurd (cc)

  all_drive : (n : ℕ) (own : List (Event S)) → AllDrive S n own → Each own × (drawing own ≡ [])
  all_drive n [] each = (tt, refl)
  all_drive n (e ∷ own) each =
      let here = drives_none n e.message e.answer each.0 in
      let rest = all_drive n own each.1 in
      ((here.0, rest.0), ap (λ b. cond b (e ∷ drawing own) (drawing own)) here.1 ∙ rest.1)

  on : (p q r : PassView (Event S)) → Quiet p q → Quiet q r → Quiet p r
  on p q r one two = record {
    own = one.own ++ two.own;
    counts = counts_on S p one.own 0 q two.own 0 r one.counts two.counts;
    each = each_append (λ e. IsOfWrite S token actions e.message) one.own two.own one.each two.each;
    none = filter-append (λ e. draws_some e.message e.answer) one.own two.own ∙ ap (λ l. l ++ drawing two.own) one.none ∙ two.none;
  }

  at_once : (p q : PassView (Event S)) → q ≡ p → Quiet p q
  at_once p q same = record { own = []; counts = subst (λ (z : PassView (Event S)). Counts S p [] 0 z) (sym same) (counts_none S p); each = tt; none = refl }

  begun : (p m : PassView (Event S)) (cell : Option ℕ) (a : Reply S) → Counts S p (event_of p cell (Message.Begin token actions) a ∷ []) 0 m
      → draws_some (event_of p cell (Message.Begin token actions) a).message (event_of p cell (Message.Begin token actions) a).answer ≡ false → Quiet p m
  begun p m cell a counts free =
      let e : Event S = event_of p cell (Message.Begin token actions) a in
      record { own = e ∷ []; counts = counts; each = ((refl, refl), tt); none = ap (λ b. cond b (e ∷ []) []) free }

  drives_quiet : (n : ℕ) (p q : PassView (Event S)) (driven : DriveEnd V F) → driven ≡ DriveEnd.Gone → Drives S n p q driven → Quiet p q
  drives_quiet n p q driven gone h =
      let all = all_drive n h.own h.each in
      let units = h.exact (λ e. (let clash = sym gone ∙ e in cc)) in
      record {
        own = h.own;
        counts = record { pass = h.added.pass; trail = h.added.trail; moments = h.added.moments; units = omega arith };
        each = all.0;
        none = all.1;
      }

  -- after which the Begin is sent again
  again_by : (p m q : PassView (Event S)) (cell : Option ℕ) (a : Reply S) → Counts S p (event_of p cell (Message.Begin token actions) a ∷ []) 0 m
      → Follows S actions a m None q → Quiet p q
  again_by p m q cell (Answer.Running n) counts h =
      on p m q (begun p m cell (Answer.Running n) counts refl) (drives_quiet n m q h.0 (none_by h.0 (sym h.2)) h.1)
  again_by p m q cell (Answer.Begun n stamp) counts h =
      let gone = none_by h.0 (sym h.2) in absurd (let e = sym (ap is_gone_end gone) ∙ h.1.there in cc)
  again_by p m q cell (Answer.Repeat n) counts h = absurd (let e = h.1 in cc)
  again_by p m q cell (Answer.Mismatch n) counts h = absurd (let e = h.1 in cc)
  again_by p m q cell Answer.Stale counts h = absurd (let e = h.1 in cc)
  again_by p m q cell _ counts h = absurd h

  again_turn : (p q : PassView (Event S)) → Turns S token actions p None q → Quiet p q
  again_turn p q (inl h) = again_by p h.middle q h.cell h.answer h.begin h.follows
  again_turn p q (inr h) = absurd (let e = h.2 in cc)

  again_all : (p : PassView (Event S)) (k : ℕ) (q : PassView (Event S)) → TurnsAgain S token actions p k q → Quiet p q
  again_all p zero q h = at_once p q h
  again_all p (suc k) q h = on p h.0 q (again_all p k h.0 h.1) (again_turn h.0 q h.2)

  stale_by : (p m q : PassView (Event S)) (cell : Option ℕ) (a : Reply S) → Counts S p (event_of p cell (Message.Begin token actions) a ∷ []) 0 m
      → Follows S actions a m (Some TransactEnd.Stale) q → (x : Quiet p q) × (0 < length x.own)
  stale_by p m q cell Answer.Stale counts h =
      let counted = subst (λ (z : PassView (Event S)). Counts S p (event_of p cell (Message.Begin token actions) Answer.Stale ∷ []) 0 z) (sym h.0) counts in
      let e : Event S = event_of p cell (Message.Begin token actions) Answer.Stale in
      let some : 0 < length (e ∷ []) = omega arith in
      (record { own = e ∷ []; counts = counted; each = ((refl, refl), tt); none = refl }, some)
  stale_by p m q cell (Answer.Running n) counts h = absurd (none_is_stale h.0 h.2)
  stale_by p m q cell (Answer.Begun n stamp) counts h = absurd (none_is_stale h.0 h.2)
  stale_by p m q cell (Answer.Repeat n) counts h = absurd (let e = h.1 in cc)
  stale_by p m q cell (Answer.Mismatch n) counts h = absurd (let e = h.1 in cc)
  stale_by p m q cell _ counts h = absurd h

  stale_turn : (p q : PassView (Event S)) → Turns S token actions p (Some TransactEnd.Stale) q → (x : Quiet p q) × (0 < length x.own)
  stale_turn p q (inl h) = stale_by p h.middle q h.cell h.answer h.begin h.follows
  stale_turn p q (inr h) = absurd (answered_stale h.0 h.2)

  pub stale_is_quiet : (p q : PassView (Event S)) → Writes S token actions p TransactEnd.Stale q → (x : Quiet p q) × (0 < length x.own)
  unfolding on
  stale_is_quiet p q h =
      let before = again_all p h.again h.last h.before in
      let last = stale_turn h.last q h.turn in
      let long = length-append before.own last.0.own in
      let some = last.1 in
      (on p h.last q before last.0, omega arith)
