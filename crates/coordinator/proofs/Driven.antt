-- What its own entries say of a driver, step after step.
use Rattle.std.proofs.Common.{◌≡◌, ◌⊎◌, ◌↔◌, Result, Ok, Err, inl, inr, ℕ, ◌<◌, ◌≤◌, Bool, true, false, ◌||◌, ◌&&◌, List, [], ◌∷◌, ◌++◌, length, reverse, slice_get, Option, None, Some, IfSome, refl, sym, ap, ◌∙◌, subst, arith, length-append}
use Rattle.std.specs.List.{list_any}
use Rattle.std.proofs.lemmas.List.{append-nil, append_assoc}
use Rattle.std.proofs.lemmas.List.Folds.{list_any-append}
use Rattle.turnstile.specs.Passes.{PassView, most_units}
use Rattle.txn_core.specs.declared.fate.Fate.{Fate}
use Rattle.txn_core.specs.declared.fate.Fate.TheVariants.{Undecided, Committed, Cancelled, Gone}
use Rattle.txn_core.specs.declared.stamp.Stamp.{Stamp}
use Rattle.txn_core.specs.declared.course.Move.{Move}
use Rattle.txn_core.specs.Course.{Told, is_known, next_at, next_move}
use Rattle.txn_core.specs.Driver.{course_left, KnowsBegun}
use Rattle.txn_core.specs.History.{effects, is_stale}
use Rattle.txn_core.specs.Serial.{begun_actions}
use Rattle.txn_core.specs.Legal.{prepares}
use Rattle.txn_core.specs.Service.{Service, Event, History}
use Rattle.cluster.specs.declared.step.StepError.{StepError}
use Rattle.cluster.specs.Counts.{Counts, CountsUntil}
use Rattle.cluster.proofs.OwnEntries.{counts_none, counts_on, counts_until}
use Rattle.cluster.proofs.Lists.{any_back, any_front, each_append}
use Rattle.coordinator.specs.declared.driver.Driver.{Driver}
use Rattle.coordinator.specs.Driving.{is_gone, is_driving, is_ending, is_done, finds_none, IsNext, AllDrive, found_none, ended, sent_done, FoundGone, IsDriver, DrivenBy, Advances, Fails}

pub or_false : (b : Bool) → (b || false) ≡ b
or_false true = refl
or_false false = refl

pub any_last : {X : Type 0} (f : X → Bool) (xs : List X) (x : X) → list_any f (xs ++ x ∷ []) ≡ (list_any f xs || f x)
any_last f xs x = list_any-append f xs (x ∷ []) ∙ ap (λ b. list_any f xs || b) (or_false (f x))

pub none_both : {X : Type 0} (f : X → Bool) (xs ys : List X) → list_any f xs ≡ false → list_any f ys ≡ false → list_any f (xs ++ ys) ≡ false
none_both f xs ys h k = list_any-append f xs ys ∙ (λ j. h j || k j)

if_some : {X : Type 0} (T : X → Type 0) (o : Option X) → ((x : X) → o ≡ Some x → T x) → IfSome o T
if_some T None h = tt
if_some T (Some x) h = h x refl

some_so : {X : Type 0} (T : X → Type 0) (o : Option X) (x : X) → IfSome o T → o ≡ Some x → T x
some_so T o x h is = subst (λ z. IfSome z T) is h

-- a course that goes on is not of a number that is gone
pub not_gone : (told : Told) (m : Move) → next_move told ≡ m → (m ≡ Move.End → ⊥) → is_gone told.fate ≡ false
not_gone told m e on = at_fate told.fate e
  where
    at_fate : (f : Fate) → next_at f told ≡ m → is_gone f ≡ false
    at_fate Undecided h = refl
    at_fate Committed h = refl
    at_fate Cancelled h = refl
    at_fate Gone h = absurd (on (sym h))

module _ {K V A F C D Q B : Type 0} (S : Service K V A F C D Q B) where
  pub found_on :
      (es later : History S) (n place : ℕ) (stamp : Stamp) (actions : List A) (own more : List (Event S)) → KnowsBegun S es n stamp actions
      → KnowsBegun S later n stamp actions → FoundGone S es n own place → FoundGone S later n (own ++ more) place
  found_on es later n place stamp actions own more begun still h =
      record {
        action = h.action;
        its_place = ap (λ xs. slice_get xs place) (still.its_actions ∙ sym begun.its_actions) ∙ h.its_place;
        stale = any_front (λ e. prepares S n (S.core.key_of h.action) e.message && is_stale e.answer) own more h.stale;
      }

  -- the action at this place was told, by this entry, that its table is gone
  pub record TellsGone (later : History S) (n place : ℕ) (e : Event S) : Type 0 where
    pub action : A
    pub its_place : slice_get (begun_actions (effects later) n) place ≡ Some action
    pub stale : (prepares S n (S.core.key_of action) e.message && is_stale e.answer) ≡ true

  -- after one more entry
  pub driven_on :
      (es later : History S) (stamp : Stamp) (actions : List A) (e : Event S) (d new : Driver A V F) → KnowsBegun S es d.number stamp actions
      → KnowsBegun S later d.number stamp actions → new.number ≡ d.number
      → is_gone new.fate ≡ (is_gone d.fate || finds_none d.number e.message e.answer)
      → (new.fate ≡ Undecided → (d.fate ≡ Undecided) × (is_ending d.number e.message ≡ false))
      → (is_known new.fate ≡ true → IsNext new.course Move.End → is_done d.number e.message ≡ true)
      → ((place : ℕ) → new.no_table ≡ Some place → (d.no_table ≡ Some place) ⊎ TellsGone later d.number place e)
      → (own : List (Event S)) → DrivenBy S es own d → DrivenBy S later (own ++ e ∷ []) new
  driven_on es later stamp actions e d new begun still number gone undecided done table own h =
      let n = d.number in
      record {
        gone =
            gone ∙ (ap (λ b. b || finds_none n e.message e.answer) h.gone ∙ sym (any_last (λ x. finds_none n x.message x.answer) own e))
            ∙ ap (λ k. found_none S k (own ++ e ∷ [])) (sym number);
        undecided = λ none.
            let before = undecided none in
            ap (λ k. ended S k (own ++ e ∷ [])) number
            ∙ (any_last (λ x. is_ending n x.message) own e ∙ (λ j. h.undecided before.0 j || before.1 j));
        done = λ known end.
            ap (λ k. sent_done S k (own ++ e ∷ [])) number
            ∙ any_back (λ x. is_done n x.message) own (e ∷ []) (ap (λ b. b || false) (done known end));
        table = if_some (FoundGone S later new.number (own ++ e ∷ [])) new.no_table
            (λ place is. subst (λ k. FoundGone S later k (own ++ e ∷ []) place) (sym number)
            (elim (table place is) [
              | inl old ↦ found_on es later n place stamp actions own (e ∷ []) begun still (some_so (FoundGone S es n own) d.no_table place h.table old)
              | inr now ↦ record {
                action = now.action;
                its_place = now.its_place;
                stale = any_back (λ x. prepares S n (S.core.key_of now.action) x.message && is_stale x.answer) own (e ∷ []) (ap (λ b. b || false) now.stale);
              }
            ]));
      }

  -- one step
  pub advanced :
      (p q : PassView (Event S)) (e : Event S) (d new : Driver A V F) → is_driving d.number e.message ≡ true → Counts S p (e ∷ []) 0 q
      → course_left new.course < course_left d.course → new.number ≡ d.number → IsDriver S (reverse q.front) new
      → ((own : List (Event S)) → DrivenBy S (reverse p.front) own d → DrivenBy S (reverse q.front) (own ++ e ∷ []) new)
      → Advances S p d q new
  advanced p q e d new drives added less same knows driven =
      record { own = e ∷ []; added = added; each = (drives, tt); fewer = omega arith; same = same; knows = knows; driven = driven }

  -- no step
  pub rests : (p : PassView (Event S)) (d : Driver A V F) → IsDriver S (reverse p.front) d → Advances S p d p d
  rests p d knows =
      record {
        own = [];
        added = counts_none S p;
        each = tt;
        fewer = omega arith;
        same = refl;
        knows = knows;
        driven = λ older h. subst (λ xs. DrivenBy S (reverse p.front) xs d) (sym (append-nil older)) h;
      }

  pub goes_on :
      (p q r : PassView (Event S)) (d e f : Driver A V F) → Advances S p d q e → Advances S q e r f → Advances S p d r f
  goes_on p q r d e f one two =
      let fewer = one.fewer in
      let later = two.fewer in
      let long = length-append one.own two.own in
      record {
        own = one.own ++ two.own;
        added = counts_on S p one.own 0 q two.own 0 r one.added two.added;
        each = each_append (λ x. is_driving d.number x.message ≡ true) one.own two.own one.each (subst (λ k. AllDrive S k two.own) one.same two.each);
        fewer = omega arith;
        same = two.same ∙ one.same;
        knows = two.knows;
        driven = λ older h.
            subst (λ xs. DrivenBy S (reverse r.front) xs f) (append_assoc older one.own two.own) (two.driven (older ++ one.own) (one.driven older h));
      }

  pub fails_on :
      (p q r : PassView (Event S)) (d e : Driver A V F) (error : StepError) → Advances S p d q e → Fails S q e error r → Fails S p d error r
  fails_on p q r d e error one two =
      let fewer = one.fewer in
      let few = two.few in
      let long = length-append one.own two.own in
      record {
        own = one.own ++ two.own;
        added = counts_until S p one.own q two.own error r one.added two.added;
        each = each_append (λ x. is_driving d.number x.message ≡ true) one.own two.own one.each (subst (λ k. AllDrive S k two.own) one.same two.each);
        few = omega arith;
        there = λ older h.
            ap (λ xs. found_none S d.number xs) (sym (append_assoc older one.own two.own))
            ∙ subst (λ k. found_none S k ((older ++ one.own) ++ two.own) ≡ false) one.same (two.there (older ++ one.own) (one.driven older h));
        early = λ memory older h.
            ap (λ xs. ended S d.number xs) (sym (append_assoc older one.own two.own))
            ∙ subst (λ k. ended S k ((older ++ one.own) ++ two.own) ≡ false) one.same (two.early memory (older ++ one.own) (one.driven older h));
      }

  -- a step that was given up: no unit was left, or before the decision there was no memory
  pub failed :
      (p q : PassView (Event S)) (d : Driver A V F) (error : StepError) (own : List (Event S)) → CountsUntil S p own error q → AllDrive S d.number own
      → length own ≤ course_left d.course → is_gone d.fate ≡ false → found_none S d.number own ≡ false
      → (error ≡ StepError.NoMemory → (d.fate ≡ Undecided) × (ended S d.number own ≡ false))
      → Fails S p d error q
  failed p q d error own added each few on there early =
      record {
        own = own;
        added = added;
        each = each;
        few = few;
        there = λ older h. none_both (λ e. finds_none d.number e.message e.answer) older own (sym h.gone ∙ on) there;
        early = λ memory older h.
            let before = early memory in
            none_both (λ e. is_ending d.number e.message) older own (h.undecided before.0) before.1;
      }

  pub spent_now :
      (p q : PassView (Event S)) (es : History S) (d : Driver A V F) (m : Move) → q ≡ p → p.used ≡ most_units → IsDriver S es d
      → IsNext d.course m → (m ≡ Move.End → ⊥) → Fails S p d StepError.Spent q
  spent_now p q es d m same used is next on =
      failed p q d StepError.Spent []
      (subst (λ (z : PassView (Event S)). Counts S p [] 0 z) (sym same) (counts_none S p), ap (λ (z : PassView (Event S)). z.used) same ∙ used) tt
      (omega arith) (ap is_gone is.fate ∙ not_gone is.told m (next is.told is.told_so) on) refl (λ e. absurd (cc))

  -- before the decision
  pub given_up_early :
      (p q : PassView (Event S)) (d : Driver A V F) (error : StepError) → d.fate ≡ Undecided → CountsUntil S p [] error q
      → Fails S p d error q
  given_up_early p q d error none added = failed p q d error [] added tt (omega arith) (ap is_gone none) refl (λ _. (none, refl))

  -- after it
  pub given_up_late :
      (p q : PassView (Event S)) (d : Driver A V F) (error : StepError) → is_gone d.fate ≡ false → (error ≡ StepError.NoMemory → ⊥)
      → CountsUntil S p [] error q → Fails S p d error q
  given_up_late p q d error there sure added = failed p q d error [] added tt (omega arith) there refl (λ e. absurd (sure e))

-- what a message's error says
module _ {X : Type 0} (r : Result X StepError) (error : StepError) (is : r ≡ Err error) where
  pub has_memory : (r ≡ Err StepError.NoMemory → ⊥) → error ≡ StepError.NoMemory → ⊥
  has_memory sure e = sure (is ∙ ap (λ (x : StepError). Err x) e)

-- a step that was taken had a unit, and one whose message was not is spent where the message was
module _ {X Y U : Type 0} (r : Result X StepError) (h : r ≡ Err StepError.Spent ↔ U) where
  pub had_unit : (x : X) → r ≡ Ok x → (t : Result Y StepError) → (t ≡ Err StepError.Spent → ⊥) → (t ≡ Err StepError.Spent ↔ U)
  had_unit x is t never = (λ e. absurd (never e), λ u. absurd (let e = sym is ∙ h.1 u in cc))

  pub spent_as : (error : StepError) → r ≡ Err error → (t : Result Y StepError) → t ≡ Err error → (t ≡ Err StepError.Spent ↔ U)
  spent_as error is t its = (
    λ e. (let s : error ≡ StepError.Spent = cc in h.0 (is ∙ ap (λ (x : StepError). Err x) s)),
    λ u. (let e = h.1 u in let s : error ≡ StepError.Spent = cc in its ∙ ap (λ (x : StepError). Err x) s),
  )
