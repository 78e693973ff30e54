-- A number that an answered Begin names was begun with the same parameters.
use Rattle.std.proofs.Common.{◌≡◌, ℕ, Bool, true, false, not, ◌&&◌, nat_eq, List, [], ◌∷◌, ◌++◌, Option, None, Some, is_some, IfSome, if◌then◌else◌, refl, ap, ◌∙◌, subst}
use Rattle.std.specs.List.{list_all}
use Rattle.std.specs.Str.{bytes_eq}
use Rattle.std.proofs.lemmas.Bool.{cond_both}
use Rattle.txn_core.specs.declared.stamp.Stamp.{Stamp}
use Rattle.txn_core.specs.declared.message.Message.{Message}
use Rattle.txn_core.specs.declared.answer.Answer.{Answer}
use Rattle.txn_core.specs.Answers.{KeptToken, begin_answer}
use Rattle.txn_core.specs.Driver.{KnowsBegun}
use Rattle.txn_core.specs.History.{is_first, tells_cancel, is_finished, effects, Had, begins, is_over, unless_over, completed, freed, kept_after, kept, found_kept}
use Rattle.txn_core.specs.Legal.{state, IsAnswer, IsLegal}
use Rattle.txn_core.specs.Serial.{begun_stamp, begun_actions}
use Rattle.txn_core.specs.Service.{Service, IsServiceLawful, Asked, Reply, Event, History}
use Rattle.txn_core.proofs.Exports.{begun, begun_stays}
use Rattle.coordinator.specs.Writes.{IsAlike}
use Rattle.coordinator.proofs.Finishing.{some_weaker}

-- what holds of what a token is kept with holds of it after a Begin, a cancel and a Done
module _ {A : Type 0} (T : KeptToken A → Type 0) where
  still_kept : (moment : ℕ) (o : Option (KeptToken A)) → IfSome o T → IfSome (unless_over moment o) T
  still_kept moment None h = tt
  still_kept moment (Some k) h = cond_both (is_over k.completed moment) None (Some k) (λ o. IfSome o T) (λ _. tt) (λ _. h)

  not_freed : (n : ℕ) (o : Option (KeptToken A)) → IfSome o T → IfSome (freed n o) T
  not_freed n None h = tt
  not_freed n (Some k) h = cond_both (nat_eq k.number n) None (Some k) (λ o. IfSome o T) (λ _. tt) (λ _. h)

  once_completed :
      ((k : KeptToken A) (d : Option ℕ) → T k → T (record k { completed = d })) → (n moment : ℕ) (o : Option (KeptToken A)) → IfSome o T
      → IfSome (completed n moment o) T
  once_completed same n moment None h = tt
  once_completed same n moment (Some k) h =
      cond_both (nat_eq k.number n && not (is_some k.completed)) (Some (record k { completed = Some moment })) (Some k) (λ o. IfSome o T)
      (λ _. same k (Some moment) h) (λ _. h)

-- the number was begun, with the same parameters
pub record IsBegunAlike {K V A F C D Q B : Type 0} (S : Service K V A F C D Q B) (es : History S) (actions : List A) (n : ℕ) : Type 0 where
  pub begun : Had (begins n) es
  pub alike : IsAlike S es actions n

module _ {K V A F C D Q B : Type 0} (S : Service K V A F C D Q B) (law : IsServiceLawful S) where
  -- the number was begun with the actions that its token is kept with
  abbrev IsKept : History S → KeptToken A → Type 0
  IsKept es k = (stamp : Stamp) × KnowsBegun S es k.number stamp k.actions

  abbrev answered : Event S → Asked S → Reply S → Event S
  answered e m a = record e { message = m; answer = a }

  kept_by :
      (e : Event S) (es : History S) (t : List ℕ) (m : Asked S) (a : Reply S) → IsLegal S (answered e m a ∷ es)
      → IfSome (kept es t) (IsKept (answered e m a ∷ es)) → IfSome (kept_after e.moment m a t (kept es t)) (IsKept (answered e m a ∷ es))
  kept_by e es t (Message.Begin (Some u) actions) (Answer.Begun n stamp) legal h =
      let now : History S = answered e (Message.Begin (Some u) actions) (Answer.Begun n stamp) ∷ es in
      cond_both (bytes_eq u t) (Some (record { number = n; actions = actions; completed = None })) (unless_over e.moment (kept es t))
      (λ o. IfSome o (IsKept now)) (λ _. (stamp, (begun S law es e.pass e.moment n e.cell (Some u) actions stamp legal).0))
      (λ _. still_kept (IsKept now) e.moment (kept es t) h)
  kept_by e es t (Message.Begin None actions) a legal h =
      still_kept (IsKept (answered e (Message.Begin None actions) a ∷ es)) e.moment (kept es t) h
  kept_by e es t (Message.Begin (Some u) actions) a legal h =
      still_kept (IsKept (answered e (Message.Begin (Some u) actions) a ∷ es)) e.moment (kept es t) h
  kept_by e es t (Message.Done n) a legal h =
      let T = IsKept (answered e (Message.Done n) a ∷ es) in
      cond_both (is_finished a) (completed n e.moment (kept es t)) (kept es t) (λ o. IfSome o T)
      (λ _. once_completed T (λ k d is. (is.0, record { begun = is.1.begun; its_stamp = is.1.its_stamp; its_actions = is.1.its_actions })) n e.moment (kept es t) h)
      (λ _. h)
  kept_by e es t (Message.Decide n commit reasons) a legal h =
      let T = IsKept (answered e (Message.Decide n commit reasons) a ∷ es) in
      cond_both (is_first a && tells_cancel a) (freed n (kept es t)) (kept es t) (λ o. IfSome o T) (λ _. not_freed T n (kept es t) h) (λ _. h)
  kept_by e es t _ a legal h = h

  kept_is : (es : History S) → IsLegal S es → (t : List ℕ) → IfSome (kept es t) (IsKept es)
  kept_is [] legal t = tt
  kept_is (e ∷ es) legal t =
      kept_by e es t e.message e.answer legal
      (some_weaker (kept es t) (kept_is es legal.0 t) (λ k is. (is.0, begun_stays S law (e ∷ []) es legal k.number is.0 k.actions is.1)))

  found_is : (es : History S) → IsLegal S es → (moment : ℕ) (token : Option (List ℕ)) → IfSome (found_kept es moment token) (IsKept es)
  found_is es legal moment None = tt
  found_is es legal moment (Some t) = still_kept (IsKept es) moment (kept es t) (kept_is es legal t)

  found_alike :
      (es : History S) (there : Bool) (o : Option (KeptToken A)) (actions : List A) (stamp : Stamp) (n : ℕ) → IfSome o (IsKept es)
      → Answer.Running n ≡ begin_answer {K = K} {V = V} {F = F} {B = B} S.same_actions there o actions stamp → IsBegunAlike S es actions n
  found_alike es false o actions stamp n is told = absurd (cc)
  found_alike es true None actions stamp n is told = absurd (cc)
  found_alike es true (Some k) actions stamp n is told =
      cond_both (S.same_actions k.actions actions) (if is_some k.completed then Answer.Repeat k.number else Answer.Running k.number)
      (Answer.Mismatch k.number) (λ (a : Reply S). Answer.Running n ≡ a → IsBegunAlike S es actions n)
      (λ same. cond_both (is_some k.completed) (Answer.Repeat k.number) (Answer.Running k.number)
      (λ (a : Reply S). Answer.Running n ≡ a → IsBegunAlike S es actions n) (λ _ e. absurd (cc))
      (λ _ e. let its : k.number ≡ n = cc in
      subst (IsBegunAlike S es actions) its
      record { begun = is.1.begun; alike = ap (λ xs. S.same_actions xs actions) is.1.its_actions ∙ same }))
      (λ _ e. absurd (cc)) told

  -- a Begin finds a number running that was begun with its parameters
  pub running_is_alike :
      (es : History S) → IsLegal S es → (moment : ℕ) (token : Option (List ℕ)) (actions : List A) (n : ℕ)
      → IsAnswer S es moment (Message.Begin token actions) (Answer.Running n) → IsBegunAlike S es actions n
  running_is_alike es legal moment token actions n is =
      let w = state S es in
      found_alike es (list_all (λ x. S.core.there w.catalog (S.core.key_of x)) actions) (found_kept es moment token) actions
      (record { moment = moment; number = w.ledger.next }) n (found_is es legal moment token) is

  -- and it stays so
  pub alike_stays :
      (newer es : History S) → IsLegal S (newer ++ es) → (actions : List A) (n : ℕ) → IsBegunAlike S es actions n
      → IsBegunAlike S (newer ++ es) actions n
  alike_stays newer es legal actions n is =
      let still =
      begun_stays S law newer es legal n (begun_stamp (effects es) n) (begun_actions (effects es) n)
      record { begun = is.begun; its_stamp = refl; its_actions = refl } in
      record { begun = still.begun; alike = ap (λ xs. S.same_actions xs actions) still.its_actions ∙ is.alike }
