-- A number that a pass drew is there until the pass has it forgotten, whatever others do.
use Rattle.std.proofs.Common.{◌≡◌, ◌≢◌, ℕ, Bool, true, false, ◌||◌, ◌&&◌, cond, nat_eq, List, [], ◌∷◌, ◌++◌, length, reverse, Option, inl, inr, refl, sym, ap, ◌∙◌, subst, arith, eq-eqb}
use Rattle.std.specs.List.{list_any, list_all}
use Rattle.std.proofs.lemmas.Bool.{and_parts, or_cases, or_right, eqb-true}
use Rattle.turnstile.specs.Histories.{Trail, own}
use Rattle.turnstile.specs.Passes.{PassView}
use Rattle.turnstile.proofs.Histories.{at}
use Rattle.txn_core.specs.declared.fate.Fate.{Fate}
use Rattle.txn_core.specs.declared.reason.Reason.{Reason}
use Rattle.txn_core.specs.declared.stamp.Stamp.{Stamp}
use Rattle.txn_core.specs.declared.message.Message.{Message}
use Rattle.txn_core.specs.declared.answer.Answer.{Answer}
use Rattle.txn_core.specs.Answers.{has_record, recall_answer, decide_answer, done_answer, forget_answer}
use Rattle.txn_core.specs.History.{is_forgotten, effects, Had, begins, finishes, forgets, is_own_begin, found_kept, reasons_of}
use Rattle.txn_core.specs.Driver.{told_nothing, KnowsBegun, Knows}
use Rattle.txn_core.specs.Legal.{state, IsAnswer, Allowed, IsLegal}
use Rattle.txn_core.specs.Service.{Service, IsServiceLawful, Asked, Reply, Event, History}
use Rattle.txn_core.proofs.Exports.{legal_before, legal_facts, had_more, had_stays, begun, own_number_is_kept, beginning_is_tail, newest}
use Rattle.txn_core.proofs.Records.{begun_next}
use Rattle.cluster.specs.Events.{pass_of, event_of}
use Rattle.cluster.specs.Steps.{IsLater}
use Rattle.coordinator.specs.Driving.{is_driving, is_done, finds_none, AllDrive, found_none, sent_done}
use Rattle.coordinator.specs.Writes.{IsDrawn, IsOwn}
use Rattle.cluster.proofs.Lists.{any_back}
use Rattle.coordinator.proofs.Driven.{any_last, none_both}
use Rattle.coordinator.proofs.Recalled.{never_gone}

never_true : (b : Bool) → (b ≡ true → ⊥) → b ≡ false
never_true true h = absurd (h refl)
never_true false h = refl

and_false : (b : Bool) → (b && false) ≡ false
and_false true = refl
and_false false = refl

any_reversed : {X : Type 0} (f : X → Bool) (xs : List X) → list_any f (reverse xs) ≡ list_any f xs
any_reversed f [] = refl
any_reversed f (x ∷ xs) =
    ap (list_any f) (beginning_is_tail (x ∷ []) xs)
    ∙ (any_last f (reverse xs) x ∙ (ap (λ b. b || f x) (any_reversed f xs) ∙ turned (list_any f xs) (f x)))
  where
    turned : (a b : Bool) → (a || b) ≡ (b || a)
    turned true true = refl
    turned true false = refl
    turned false true = refl
    turned false false = refl

module _ {K V A F C D Q B : Type 0} (S : Service K V A F C D Q B) (law : IsServiceLawful S) where
  own_is_begun : (es : History S) (pass n : ℕ) → list_any (is_own_begin pass n) es ≡ true → Had (begins n) es
  own_is_begun [] pass n h = absurd (cc)
  own_is_begun (e ∷ es) pass n h = elim (or_cases (is_own_begin pass n e) (list_any (is_own_begin pass n) es) h) [
    | inl now ↦ ap (λ b. b || list_any (λ x. begins n x.message x.answer) es) (and_parts (nat_eq e.pass pass) (begins n e.message e.answer) now).1
    | inr older ↦ had_more (begins n) e es (own_is_begun es pass n older)
  ]

  -- what was forgotten had been begun
  forgotten_begun :
      (es : History S) (pass n : ℕ) → IsLegal S es → list_any (λ e. nat_eq e.pass pass && forgets n e.message e.answer) es ≡ true
      → Had (begins n) es
  forgotten_begun [] pass n legal h = absurd (cc)
  forgotten_begun (e ∷ es) pass n legal h =
      elim (or_cases (nat_eq e.pass pass && forgets n e.message e.answer) (list_any (λ x. nat_eq x.pass pass && forgets n x.message x.answer) es) h) [
        | inl now ↦
            had_more (begins n) e es
            (by_message e.message e.answer legal.1.allowed (and_parts (nat_eq e.pass pass) (forgets n e.message e.answer) now).1)
        | inr older ↦ had_more (begins n) e es (forgotten_begun es pass n legal.0 older)
      ]
    where
      by_message : (m : Asked S) (a : Reply S) → Allowed S es e.pass m → forgets n m a ≡ true → Had (begins n) es
      by_message (Message.Forget m) a allowed k =
          let same = eqb-true m n (and_parts (nat_eq m n) (is_forgotten a) k).0 in
          subst (λ x. Had (begins x) es) same (own_is_begun es e.pass m allowed.1)
      by_message _ a allowed k = absurd (cc)

  -- a number that is drawn now was not begun before
  not_begun :
      (es : History S) → IsLegal S es → (moment n : ℕ) (token : Option (List ℕ)) (actions : List A) (stamp : Stamp)
      → IsAnswer S es moment (Message.Begin token actions) (Answer.Begun n stamp) → Had (begins n) es → ⊥
  not_begun es legal moment n token actions stamp is had =
      let w = state S es in
      let next =
      begun_next {K = K} {V = V} {F = F} {B = B} S.same_actions (list_all (λ x. S.core.there w.catalog (S.core.key_of x)) actions)
      (found_kept es moment token) actions w.ledger.next n moment stamp is in
      let same = next.0 in
      let below = (legal_facts S law es legal).1.begun n had in
      omega arith

  -- what a pass knows that has just drawn a number
  pub drawn :
      (p q : PassView (Event S)) (cell : Option ℕ) (token : Option (List ℕ)) (actions : List A) (n : ℕ) (stamp : Stamp) → q.number ≡ p.number
      → IsLater S (reverse p.front) (event_of p cell (Message.Begin token actions) (Answer.Begun n stamp)) (reverse q.front)
      → IsDrawn S q n stamp actions
  drawn p q cell token actions n stamp number step =
      let past : History S = step.newer ++ reverse p.front in
      let e : Event S = event_of p cell (Message.Begin token actions) (Answer.Begun n stamp) in
      let knows = begun S law past p.number p.moment n cell token actions stamp step.legal in
      let before = never_true (list_any (λ x. nat_eq x.pass q.number && forgets n x.message x.answer) past)
      (λ h. not_begun past step.legal.0 p.moment n token actions stamp step.legal.1.answer (forgotten_begun past q.number n step.legal.0 h)) in
      record {
        begun = subst (λ es. KnowsBegun S es n stamp actions) step.is knows.0;
        knows = subst (λ es. Knows S es n (told_nothing (length actions))) step.is knows.1;
        own =
            subst (IsOwn S q.number n) step.is (
              ap (λ b. b || list_any (is_own_begin q.number n) past) (λ j. eq-eqb p.number q.number (sym number) j && eq-eqb n n refl j),
              λ j. and_false (nat_eq p.number q.number) j || before j,
            );
      }

  -- a driving message forgets nothing
  drives_on : (n : ℕ) (m : Asked S) (a : Reply S) → is_driving n m ≡ true → forgets n m a ≡ false
  drives_on n (Message.Forget k) a h = absurd (cc)
  drives_on n _ a h = refl

  module _ (pass n : ℕ) where
    none_own : (t : Event S → Bool) (xs : List (Event S)) → list_any (λ e. nat_eq e.pass pass && t e) xs ≡ list_any t (own pass_of pass xs)
    none_own t [] = refl
    none_own t (x ∷ xs) = by_case (nat_eq x.pass pass) (none_own t xs)
      where
        by_case :
            (b : Bool) → list_any (λ e. nat_eq e.pass pass && t e) xs ≡ list_any t (own pass_of pass xs)
            → ((b && t x) || list_any (λ e. nat_eq e.pass pass && t e) xs) ≡ list_any t (cond b (x ∷ own pass_of pass xs) (own pass_of pass xs))
        by_case true h = ap (λ r. t x || r) h
        by_case false h = h

    -- others' entries
    kept_past : (front past : List (Event S)) → Trail pass_of pass front [] past → IsOwn S pass n (reverse front) → IsOwn S pass n (reverse past)
    kept_past front past t k =
        let f = λ (e : Event S). nat_eq e.pass pass && forgets n e.message e.answer in
        let whole : reverse past ≡ reverse t.rest ++ reverse front = ap reverse (sym t.is) ∙ beginning_is_tail front t.rest in
        let none : list_any f (reverse t.rest) ≡ false =
        any_reversed f t.rest ∙ (none_own (λ e. forgets n e.message e.answer) t.rest ∙ ap (list_any (λ e. forgets n e.message e.answer)) t.mine) in
        subst (IsOwn S pass n) (sym whole)
        (any_back (is_own_begin pass n) (reverse t.rest) (reverse front) k.0, none_both f (reverse t.rest) (reverse front) none k.1)

    -- and an own driving one
    kept_more : (past : List (Event S)) (e : Event S) → is_driving n e.message ≡ true → IsOwn S pass n (reverse past) → IsOwn S pass n (reverse (past ++ e ∷ []))
    kept_more past e h k =
        subst (IsOwn S pass n) (sym (newest past e)) (
          or_right (is_own_begin pass n e) (list_any (is_own_begin pass n) (reverse past)) k.0,
          (λ j. (ap (λ b. nat_eq e.pass pass && b) (drives_on n e.message e.answer h) ∙ and_false (nat_eq e.pass pass)) j || k.1 j),
        )

    -- the record is there
    pub has : (es : History S) → IsLegal S es → IsOwn S pass n es → has_record (state S es).ledger n ≡ true
    has es legal k = own_number_is_kept S law es legal pass n k.0 k.1

  -- what a driving message is answered where the record is there
  abbrev Finds : ℕ → Asked S → Reply S → Type 0
  Finds n m a = (finds_none {Q = Q} n m a ≡ false) × (is_done n m ≡ true → finishes n m a ≡ true)

  decided : (n k : ℕ) (f : Fate) (commit : Bool) (reasons : List (Reason V F)) → f ≢ Fate.Gone
      → finds_none {D = D} {Q = Q} n (Message.Decide k commit reasons) (decide_answer {K = K} {V = V} {A = A} {F = F} {B = B} true f commit) ≡ false
  decided n k Fate.Undecided true reasons there = refl
  decided n k Fate.Undecided false reasons there = refl
  decided n k Fate.Committed commit reasons there = refl
  decided n k Fate.Cancelled commit reasons there = refl
  decided n k Fate.Gone commit reasons there = absurd (there refl)

  at_entry :
      (es : History S) (moment n : ℕ) (m : Asked S) (a : Reply S) → IsAnswer S es moment m a → has_record (state S es).ledger n ≡ true
      → is_driving n m ≡ true → Finds n m a
  at_entry es moment n (Message.Recall k) a is there h =
      let l = (state S es).ledger in
      let same : k ≡ n = eqb-true k n h in
      let told : a ≡ recall_answer true (l.fate k) (l.stamp k) (l.actions k) (reasons_of es k) =
      is ∙ ap (λ r. recall_answer r (l.fate k) (l.stamp k) (l.actions k) (reasons_of es k)) (ap (has_record l) same ∙ there) in
      (ap (λ x. finds_none {D = D} {Q = Q} n (Message.Recall k) x) told, λ e. absurd (cc))
  at_entry es moment n (Message.Decide k commit reasons) a is there h =
      let l = (state S es).ledger in
      let same : k ≡ n = eqb-true k n h in
      let recorded : has_record l k ≡ true = ap (has_record l) same ∙ there in
      let told : a ≡ decide_answer true (l.fate k) commit = is ∙ ap (λ r. decide_answer r (l.fate k) commit) recorded in
      (ap (λ x. finds_none {D = D} {Q = Q} n (Message.Decide k commit reasons) x) told ∙ decided n k (l.fate k) commit reasons (never_gone S (effects es) k), λ e. absurd (cc))
  at_entry es moment n (Message.Done k) a is there h =
      let l = (state S es).ledger in
      let same : k ≡ n = eqb-true k n h in
      let told : a ≡ Answer.Finished = is ∙ ap (λ r. done_answer r) (ap (has_record l) same ∙ there) in
      (refl, λ _. ap (λ x. finishes {D = D} {Q = Q} n (Message.Done k) x) told ∙ (λ j. h j && true))
  at_entry es moment n (Message.Prepare k stamp action) a is there h = (refl, λ e. absurd (cc))
  at_entry es moment n (Message.Apply k key) a is there h = (refl, λ e. absurd (cc))
  at_entry es moment n (Message.Release k key) a is there h = (refl, λ e. absurd (cc))
  at_entry es moment n _ a is there h = absurd (cc)

  -- its Forget is answered Forgotten
  forgotten :
      (es : History S) (moment n : ℕ) (a : Reply S) → IsAnswer S es moment (Message.Forget n) a → has_record (state S es).ledger n ≡ true
      → a ≡ Answer.Forgotten
  forgotten es moment n a is there = is ∙ ap (λ r. forget_answer r) there

  -- along own driving entries none of them found none, a Done was answered Finished, and the number is still kept
  pub stays_there :
      (pass n : ℕ) (xs : List (Event S)) (front new : List (Event S)) → Trail pass_of pass front xs new → IsLegal S (reverse new)
      → IsOwn S pass n (reverse front) → AllDrive S n xs
      → (found_none S n xs ≡ false) × (sent_done S n xs ≡ true → Had (finishes n) (reverse new)) × IsOwn S pass n (reverse new)
  stays_there pass n [] front new t legal k each = (refl, λ h. absurd (cc), kept_past pass n front new t k)
  stays_there pass n (e ∷ xs) front new t legal k each =
      let h = at pass_of pass front [] e xs new t in
      let past = h.0 in
      let before = kept_past pass n front past h.1 k in
      let rest = h.2.rest in
      let whole : reverse new ≡ reverse rest ++ (e ∷ reverse past) =
      ap reverse (sym h.2.is) ∙ (beginning_is_tail (past ++ e ∷ []) rest ∙ ap (λ es. reverse rest ++ es) (newest past e)) in
      let here = legal_before S (reverse rest) (e ∷ reverse past) (subst (IsLegal S) whole legal) in
      let finds = at_entry (reverse past) e.moment n e.message e.answer here.1.answer (has pass n (reverse past) here.0 before) each.0 in
      let later = stays_there pass n xs (past ++ e ∷ []) new h.2 legal (kept_more pass n past e each.0 before) each.1 in (
        λ j. finds.0 j || later.0 j,
        λ done. elim (or_cases (is_done n e.message) (sent_done S n xs) done) [
          | inl now ↦
              subst (Had (finishes n)) (sym whole)
              (had_stays (finishes n) (reverse rest) (e ∷ reverse past)
              (ap (λ b. b || list_any (λ x. finishes n x.message x.answer) (reverse past)) (finds.1 now)))
          | inr more ↦ later.1 more
        ],
        later.2,
      )

  -- what its own Forget is answered
  pub own_forgotten :
      (p q : PassView (Event S)) (cell : Option ℕ) (n : ℕ) (a : Reply S) → Trail pass_of p.number p.front (event_of p cell (Message.Forget n) a ∷ []) q.front
      → IsLegal S (reverse q.front) → IsOwn S p.number n (reverse p.front) → a ≡ Answer.Forgotten
  own_forgotten p q cell n a t legal k =
      let e : Event S = event_of p cell (Message.Forget n) a in
      let h = at pass_of p.number p.front [] e [] q.front t in
      let past = h.0 in
      let rest = h.2.rest in
      let whole : reverse q.front ≡ reverse rest ++ (e ∷ reverse past) =
      ap reverse (sym h.2.is) ∙ (beginning_is_tail (past ++ e ∷ []) rest ∙ ap (λ es. reverse rest ++ es) (newest past e)) in
      let here = legal_before S (reverse rest) (e ∷ reverse past) (subst (IsLegal S) whole legal) in
      forgotten (reverse past) p.moment n a here.1.answer
      (has p.number n (reverse past) here.0 (kept_past p.number n p.front past h.1 k))
