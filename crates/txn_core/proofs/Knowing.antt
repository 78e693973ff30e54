-- What a driver knows stays true, and grows with each step of its course.
use Rattle.std.proofs.Common.{◌≡◌, ◌⊎◌, inl, inr, ℕ, zero, suc, ◌+◌, ◌<◌, Bool, true, false, not, ◌&&◌, nat_eq, nat_lt, nat_le, if◌then◌else◌, List, [], ◌∷◌, ◌++◌, length, Option, None, Some, slice_get, refl, sym, ap, ◌∙◌, subst, arith}
use Rattle.std.specs.List.{list_all}
use Rattle.std.proofs.lemmas.Bool.{cond_both, and_parts, cases_lt, ltb-true, leb-true, eq-eqb}
use Rattle.std.proofs.lemmas.List.{length-append}
use Rattle.std.proofs.lemmas.Option.{slice_get_within}
use Rattle.txn_core.specs.declared.stamp.Stamp.{Stamp}
use Rattle.txn_core.specs.declared.fate.Fate.{Fate}
use Rattle.txn_core.specs.declared.fate.Fate.TheVariants.{Undecided, Committed, Cancelled, Gone}
use Rattle.txn_core.specs.declared.verdict.Verdict.{Verdict}
use Rattle.txn_core.specs.declared.reason.Reason.{Reason}
use Rattle.txn_core.specs.declared.message.Message.{Message}
use Rattle.txn_core.specs.declared.answer.Answer.{Answer}
use Rattle.txn_core.specs.declared.entry.Entry.{Entry}
use Rattle.txn_core.specs.declared.course.Move.{Move}
use Rattle.txn_core.specs.Course.{Told, is_accepted, is_undecided, is_known, next_move, with_verdict, with_fate, with_done}
use Rattle.txn_core.specs.Service.{Service, IsServiceLawful}
use Rattle.txn_core.specs.State.{state_after}
use Rattle.txn_core.specs.Serial.{begun_stamp, begun_actions}
use Rattle.txn_core.specs.Answers.{has_record, fate_answer, recall_answer}
use Rattle.txn_core.specs.History.{reason_of, effects, Had, begins, commits, cancels, finds_no_table, found_kept, reasons_of}
use Rattle.txn_core.specs.History.{is_accepted as is_accepted_answer}
use Rattle.txn_core.specs.Legal.{accepts, applies, releases, WasTold, IsLegal}
use Rattle.txn_core.specs.Driver.{entry, told_nothing, verdict_of, reason_in, KnowsBegun, Knows, IsToldOf, KnowsReasons}
use Rattle.txn_core.proofs.Basics.{some_is}
use Rattle.txn_core.proofs.Readings.{actions_read, stamp_read}
use Rattle.txn_core.proofs.LegalRuns.{legal_run}
use Rattle.txn_core.proofs.Prefix.{had_more, any_more, same_actions, same_stamp}
use Rattle.txn_core.proofs.Records.{had_now, begun_next, was_begun, was_committed, was_cancelled}
use Rattle.txn_core.proofs.Drives.{prepare_next, apply_at, release_at, done_next}

-- one of a list with one more at its end
get_end : {X : Type 0} (xs : List X) (y : X) (i : ℕ) (z : X) → slice_get (xs ++ y ∷ []) i ≡ Some z → (slice_get xs i ≡ Some z) ⊎ ((i ≡ length xs) × (y ≡ z))
get_end [] y zero z h = inr (refl, some_is y z h)
get_end [] y (suc i) z h = absurd (cc)
get_end (x ∷ xs) y zero z h = inl h
get_end (x ∷ xs) y (suc i) z h = elim (get_end xs y i z h) [ inl k ↦ inl k | inr k ↦ inr (let e = k.0 in omega arith, k.1) ]

both_true : {b c : Bool} → b ≡ true → c ≡ true → (b && c) ≡ true
both_true e f = λ j. e j && f j

below_or : (d i : ℕ) → i < d + 1 → (i < d) ⊎ (i ≡ d)
below_or d i lt = elim (cases_lt i d) [ inl less ↦ inl less | inr ge ↦ inr (omega arith) ]

undecided_is : (f : Fate) → is_undecided f ≡ true → f ≡ Undecided
undecided_is Undecided e = refl
undecided_is Committed e = absurd (cc)
undecided_is Cancelled e = absurd (cc)
undecided_is Gone e = absurd (cc)

-- a verdict is accepted where the answer is
abbrev passes : Option Verdict → Bool
passes None = false
passes (Some v) = is_accepted v

module _ {K V A F C D Q B : Type 0} (S : Service K V A F C D Q B) (law : IsServiceLawful S) where
  module _ (e : Entry K V A F D Q B) (es : List (Entry K V A F D Q B)) (legal : IsLegal S (e ∷ es)) (n : ℕ) where
    begun_more : (stamp : Stamp) (actions : List A) → KnowsBegun S es n stamp actions → KnowsBegun S (e ∷ es) n stamp actions
    begun_more stamp actions k =
        record {
          begun = had_more (begins n) e es k.begun;
          its_stamp = sym (same_stamp S law e es legal n k.begun) ∙ k.its_stamp;
          its_actions = sym (same_actions S law e es legal n k.begun) ∙ k.its_actions;
        }

    module _ (told : Told) (k : Knows S es n told) where
      -- an action at its place, before the entry
      action_before : (i : ℕ) (x : A) → slice_get (begun_actions (effects (e ∷ es)) n) i ≡ Some x → slice_get (begun_actions (effects es) n) i ≡ Some x
      action_before i x at = ap (λ xs. slice_get xs i) (same_actions S law e es legal n k.begun) ∙ at

      knows_more : Knows S (e ∷ es) n told
      knows_more =
          record {
            begun = had_more (begins n) e es k.begun;
            many = k.many ∙ ap (λ xs. length xs) (same_actions S law e es legal n k.begun);
            few = k.few;
            accepted = λ i v x at is its. had_more (accepts S n (S.core.key_of x)) e es (k.accepted i v x at is (action_before i x its));
            committed = λ f. had_more (commits n) e es (k.committed f);
            cancelled = λ f. had_more (cancels n) e es (k.cancelled f);
            undone = k.undone;
            applied = λ f i x lt its. had_more (applies S n (S.core.key_of x)) e es (k.applied f i x lt (action_before i x its));
            released = λ f i x lt its. had_more (releases S n (S.core.key_of x)) e es (k.released f i x lt (action_before i x its));
          }

      told_more : (x : A) (v : Verdict) (r : Reason V F) → IsToldOf S es n x v r → IsToldOf S (e ∷ es) n x v r
      told_more x Verdict.NoTable r h = had_more (finds_no_table n) e es h
      told_more x _ r h = (any_more (λ y. _) e es h.0, h.1)

      reasons_more : (reasons : List (Reason V F)) → KnowsReasons S es n told reasons → KnowsReasons S (e ∷ es) n told reasons
      reasons_more reasons found = record { many = found.many; each = λ i v r x at is its. told_more x v r (found.each i v r x at is (action_before i x its)) }

  pub begun_stays : (newer es : List (Entry K V A F D Q B)) → IsLegal S (newer ++ es) → (n : ℕ) (stamp : Stamp) (actions : List A) → KnowsBegun S es n stamp actions → KnowsBegun S (newer ++ es) n stamp actions
  begun_stays [] es legal n stamp actions k = k
  begun_stays (e ∷ newer) es legal n stamp actions k = begun_more e (newer ++ es) legal n stamp actions (begun_stays newer es legal.0 n stamp actions k)

  pub told_stays : (newer es : List (Entry K V A F D Q B)) → IsLegal S (newer ++ es) → (n : ℕ) (told : Told) → Knows S es n told → Knows S (newer ++ es) n told
  told_stays [] es legal n told k = k
  told_stays (e ∷ newer) es legal n told k = knows_more e (newer ++ es) legal n told (told_stays newer es legal.0 n told k)

  pub reasons_stay : (newer es : List (Entry K V A F D Q B)) → IsLegal S (newer ++ es) → (n : ℕ) (told : Told) (reasons : List (Reason V F)) → Knows S es n told → KnowsReasons S es n told reasons → KnowsReasons S (newer ++ es) n told reasons
  reasons_stay [] es legal n told reasons k found = found
  reasons_stay (e ∷ newer) es legal n told reasons k found =
      reasons_more e (newer ++ es) legal n told (told_stays newer es legal.0 n told k) reasons (reasons_stay newer es legal.0 n told reasons k found)

  -- the fate, where it was decided
  fated : (now : List (Entry K V A F D Q B)) (n : ℕ) (told : Told) → Knows S now n told → (fate : Fate) → (fate ≡ Committed → Had (commits n) now) → (fate ≡ Cancelled → Had (cancels n) now) → Knows S now n (with_fate told fate)
  fated now n told k fate committed cancelled =
      cond_both (is_undecided told.fate) (record told { fate = fate }) told (λ t. Knows S now n t)
      (λ e.
      let none = k.undone (undecided_is told.fate e) in
      record {
        begun = k.begun;
        many = k.many;
        few = k.few;
        accepted = k.accepted;
        committed = committed;
        cancelled = cancelled;
        undone = λ f. none;
        applied = λ f i x lt its. absurd (omega arith);
        released = λ f i x lt its. absurd (omega arith);
      })
      (λ e. k)

  pub decided : (es : List (Entry K V A F D Q B)) (pass moment n : ℕ) (cell : Option ℕ) (told : Told) (commit : Bool) (reasons : List (Reason V F)) (fate : Fate) (first : Bool) → let now = entry pass cell (Message.Decide n commit reasons) (Answer.Decided fate first) moment ∷ es in IsLegal S now → Knows S es n told → Knows S now n (with_fate told fate)
  decided es pass moment n cell told commit reasons fate first legal k =
      let e = entry pass cell (Message.Decide n commit reasons) (Answer.Decided fate first) moment in
      fated (e ∷ es) n told (knows_more e es legal n told k) fate
      (λ f. had_now (commits n) e es (subst (λ g. commits {K = K} {V = V} {A = A} {F = F} {D = D} {Q = Q} {B = B} n (Message.Decide n commit reasons) (Answer.Decided g first) ≡ true) (sym f) (ap (λ b. b && true) (eq-eqb n n refl))))
      (λ f. had_now (cancels n) e es (subst (λ g. cancels {K = K} {V = V} {A = A} {F = F} {D = D} {Q = Q} {B = B} n (Message.Decide n commit reasons) (Answer.Decided g first) ≡ true) (sym f) (ap (λ b. b && true) (eq-eqb n n refl))))

  -- the fate that a record tells is its own
  fate_told : (recorded : Bool) (f g : Fate) → Answer.Is f ≡ fate_answer {K = K} {V = V} {A = A} {F = F} {B = B} recorded g → (f ≡ g) ⊎ (f ≡ Gone)
  fate_told true f g e = inl (cc)
  fate_told false f g e = inr (cc)

  pub found : (es : List (Entry K V A F D Q B)) (pass moment n : ℕ) (cell : Option ℕ) (told : Told) (fate : Fate) → let now = entry pass cell (Message.FateOf n) (Answer.Is fate) moment ∷ es in IsLegal S now → Knows S es n told → Knows S now n (with_fate told fate)
  found es pass moment n cell told fate legal k =
      let e = entry pass cell (Message.FateOf n) (Answer.Is fate) moment in
      let l = (state_after S.core (effects es)).ledger in
      fated (e ∷ es) n told (knows_more e es legal n told k) fate
      (λ f. elim (fate_told (has_record l n) fate (l.fate n) legal.1.answer) [
        | inl same ↦ had_more (commits n) e es (was_committed S es n (sym same ∙ f))
        | inr gone ↦ absurd (cc)
      ])
      (λ f. elim (fate_told (has_record l n) fate (l.fate n) legal.1.answer) [
        | inl same ↦ had_more (cancels n) e es (was_cancelled S es n (sym same ∙ f))
        | inr gone ↦ absurd (cc)
      ])

  -- one more action has its last message
  module _ (now : List (Entry K V A F D Q B)) (n : ℕ) (told : Told) (k : Knows S now n told) where
    one_applied : told.fate ≡ Committed → ((x : A) → slice_get (begun_actions (effects now) n) told.done ≡ Some x → Had (applies S n (S.core.key_of x)) now) → Knows S now n (with_done told)
    one_applied f next =
        cond_both (is_known told.fate && nat_le told.done told.actions) (record told { done = told.done + 1 }) told (λ t. Knows S now n t)
        (λ _.
        record {
          begun = k.begun;
          many = k.many;
          few = k.few;
          accepted = k.accepted;
          committed = k.committed;
          cancelled = k.cancelled;
          undone = λ u. absurd (cc);
          applied = λ c i x lt its. at_place i x its (below_or told.done i lt);
          released = λ c. absurd (cc);
        })
        (λ _. k)
      where
        at_place : (i : ℕ) (x : A) → slice_get (begun_actions (effects now) n) i ≡ Some x → (i < told.done) ⊎ (i ≡ told.done) → Had (applies S n (S.core.key_of x)) now
        at_place i x its (inl less) = k.applied f i x less its
        at_place i x its (inr same) = next x (ap (λ j. slice_get (begun_actions (effects now) n) j) (sym same) ∙ its)

    one_released : told.fate ≡ Cancelled → ((x : A) → slice_get (begun_actions (effects now) n) told.done ≡ Some x → Had (releases S n (S.core.key_of x)) now) → Knows S now n (with_done told)
    one_released f next =
        cond_both (is_known told.fate && nat_le told.done told.actions) (record told { done = told.done + 1 }) told (λ t. Knows S now n t)
        (λ _.
        record {
          begun = k.begun;
          many = k.many;
          few = k.few;
          accepted = k.accepted;
          committed = k.committed;
          cancelled = k.cancelled;
          undone = λ u. absurd (cc);
          applied = λ c. absurd (cc);
          released = λ c i x lt its. at_place i x its (below_or told.done i lt);
        })
        (λ _. k)
      where
        at_place : (i : ℕ) (x : A) → slice_get (begun_actions (effects now) n) i ≡ Some x → (i < told.done) ⊎ (i ≡ told.done) → Had (releases S n (S.core.key_of x)) now
        at_place i x its (inl less) = k.released f i x less its
        at_place i x its (inr same) = next x (ap (λ j. slice_get (begun_actions (effects now) n) j) (sym same) ∙ its)

  pub applied : (es : List (Entry K V A F D Q B)) (pass moment n place : ℕ) (cell : Option ℕ) (told : Told) (x : A) (key : K) (a : Answer K V A F B) → let now = entry pass cell (Message.Apply n key) a moment ∷ es in IsLegal S now → Knows S es n told → next_move told ≡ Move.Apply place → slice_get (begun_actions (effects es) n) place ≡ Some x → S.core.same key (S.core.key_of x) ≡ true → Knows S now n (with_done told)
  applied es pass moment n place cell told x key a legal k next at same =
      let e = entry pass cell (Message.Apply n key) a moment in
      let turn = apply_at told place next in
      one_applied (e ∷ es) n told (knows_more e es legal n told k) turn.0
      (λ y its.
      let is : x ≡ y = some_is x y (sym at ∙ ap (λ j. slice_get (begun_actions (effects es) n) j) turn.1 ∙ action_before e es legal n told k told.done y its) in
      had_now (applies S n (S.core.key_of y)) e es (subst (λ z. (nat_eq n n && S.core.same key (S.core.key_of z)) ≡ true) is (both_true (eq-eqb n n refl) same)))

  pub released : (es : List (Entry K V A F D Q B)) (pass moment n place : ℕ) (cell : Option ℕ) (told : Told) (x : A) (key : K) (a : Answer K V A F B) → let now = entry pass cell (Message.Release n key) a moment ∷ es in IsLegal S now → Knows S es n told → next_move told ≡ Move.Release place → slice_get (begun_actions (effects es) n) place ≡ Some x → S.core.same key (S.core.key_of x) ≡ true → Knows S now n (with_done told)
  released es pass moment n place cell told x key a legal k next at same =
      let e = entry pass cell (Message.Release n key) a moment in
      let turn = release_at told place next in
      one_released (e ∷ es) n told (knows_more e es legal n told k) turn.0
      (λ y its.
      let is : x ≡ y = some_is x y (sym at ∙ ap (λ j. slice_get (begun_actions (effects es) n) j) turn.1 ∙ action_before e es legal n told k told.done y its) in
      had_now (releases S n (S.core.key_of y)) e es (subst (λ z. (nat_eq n n && S.core.same key (S.core.key_of z)) ≡ true) is (both_true (eq-eqb n n refl) same)))

  pub finished : (es : List (Entry K V A F D Q B)) (pass moment n : ℕ) (cell : Option ℕ) (told : Told) (a : Answer K V A F B) → let now = entry pass cell (Message.Done n) a moment ∷ es in IsLegal S now → Knows S es n told → next_move told ≡ Move.Done → Knows S now n (with_done told)
  finished es pass moment n cell told a legal k next =
      let e = entry pass cell (Message.Done n) a moment in
      let turn = done_next told next in
      let more = knows_more e es legal n told k in
      let past : (y : A) → slice_get (begun_actions (effects (e ∷ es)) n) told.done ≡ Some y → ⊥ = λ y its.
      (let below = slice_get_within (begun_actions (effects (e ∷ es)) n) told.done y its in
      let many = more.many in
      let all = turn.1 in
      omega arith) in
      elim turn.0 [
        | inl f ↦ one_applied (e ∷ es) n told more f (λ y its. absurd (past y its))
        | inr f ↦ one_released (e ∷ es) n told more f (λ y its. absurd (past y its))
      ]

  verdict_passes : (a : Answer K V A F B) → passes (verdict_of a) ≡ is_accepted_answer a
  verdict_passes Answer.Accepted = refl
  verdict_passes _ = refl

  -- one more verdict, on the action whose turn it is
  pub prepared : (es : List (Entry K V A F D Q B)) (pass moment n place : ℕ) (cell : Option ℕ) (told : Told) (stamp : Stamp) (x : A) (a : Answer K V A F B) (v : Verdict) → let now = entry pass cell (Message.Prepare n stamp x) a moment ∷ es in IsLegal S now → Knows S es n told → next_move told ≡ Move.Prepare place → slice_get (begun_actions (effects es) n) place ≡ Some x → verdict_of a ≡ Some v → Knows S now n (with_verdict told v)
  prepared es pass moment n place cell told stamp x a v legal k next at is =
      cond_both (is_undecided told.fate && nat_lt (length told.verdicts) told.actions) (record told { verdicts = told.verdicts ++ v ∷ [] }) told (λ t. Knows S now n t)
      (λ both.
      record {
        begun = more.begun;
        many = more.many;
        few = let lt = ltb-true (length told.verdicts) told.actions (and_parts (is_undecided told.fate) (nat_lt (length told.verdicts) told.actions) both).1 in
            let longer = length-append told.verdicts (v ∷ []) in
            omega arith;
        accepted = λ i u y got its at_i. elim (get_end told.verdicts v i u got) [
          | inl old ↦ more.accepted i u y old its at_i
          | inr new ↦ accepted_now i u y new.0 new.1 its at_i
        ];
        committed = more.committed;
        cancelled = more.cancelled;
        undone = more.undone;
        applied = more.applied;
        released = more.released;
      })
      (λ _. more)
    where
      e : Entry K V A F D Q B
      e = entry pass cell (Message.Prepare n stamp x) a moment

      now : List (Entry K V A F D Q B)
      now = e ∷ es

      more : Knows S (e ∷ es) n told
      more = knows_more e es legal n told k

      accepted_now : (i : ℕ) (u : Verdict) (y : A) → i ≡ length told.verdicts → v ≡ u → is_accepted u ≡ true → slice_get (begun_actions (effects (e ∷ es)) n) i ≡ Some y → Had (accepts S n (S.core.key_of y)) (e ∷ es)
      accepted_now i u y last same its at_i =
          let here' : x ≡ y = some_is x y (sym at ∙ ap (λ j. slice_get (begun_actions (effects es) n) j) ((prepare_next told place next).1 ∙ sym last) ∙ action_before e es legal n told k i y at_i) in
          let passed : is_accepted_answer a ≡ true = sym (verdict_passes a) ∙ ap passes is ∙ ap is_accepted same ∙ its in
          had_now (accepts S n (S.core.key_of y)) e es
          (subst (λ z. ((nat_eq n n && S.core.same (S.core.key_of x) (S.core.key_of z)) && is_accepted_answer a) ≡ true) here'
          (both_true (both_true (eq-eqb n n refl) (law.core.itself (S.core.key_of x))) passed))

  -- the reason that this Prepare was told
  reason_now : (es : List (Entry K V A F D Q B)) (pass moment n : ℕ) (cell : Option ℕ) (stamp : Stamp) (x y : A) (a : Answer K V A F B) (r : Reason V F) → x ≡ y → reason_of a ≡ Some r → WasTold S (entry pass cell (Message.Prepare n stamp x) a moment ∷ es) n y r
  reason_now es pass moment n cell stamp x y a r same is = (
    0,
    entry pass cell (Message.Prepare n stamp x) a moment,
    omega arith,
    refl,
    (subst (λ z. (nat_eq n n && S.core.same (S.core.key_of x) (S.core.key_of z)) ≡ true) same (both_true (eq-eqb n n refl) (law.core.itself (S.core.key_of x))), is),
  )

  told_now : (es : List (Entry K V A F D Q B)) (pass moment n : ℕ) (cell : Option ℕ) (stamp : Stamp) (x y : A) → x ≡ y → (a : Answer K V A F B) (v : Verdict) → verdict_of a ≡ Some v → IsToldOf S (entry pass cell (Message.Prepare n stamp x) a moment ∷ es) n y v (reason_in a)
  told_now es pass moment n cell stamp x y same a v is = by_answer a v is
    where
      now : Answer K V A F B → List (Entry K V A F D Q B)
      now a = entry pass cell (Message.Prepare n stamp x) a moment ∷ es

      first : (a : Answer K V A F B) (r : Reason V F) → reason_of a ≡ Some r → WasTold S (entry pass cell (Message.Prepare n stamp x) a moment ∷ es) n y r
      first a r told = reason_now es pass moment n cell stamp x y a r same told

      by_answer : (a : Answer K V A F B) (v : Verdict) → verdict_of a ≡ Some v → IsToldOf S (entry pass cell (Message.Prepare n stamp x) a moment ∷ es) n y v (reason_in a)
      by_answer Answer.Accepted v is =
          subst (λ u. IsToldOf S (entry pass cell (Message.Prepare n stamp x) Answer.Accepted moment ∷ es) n y u Reason.None) (some_is Verdict.Accepted v is) (first Answer.Accepted Reason.None refl, λ no'. absurd (cc))
      by_answer (Answer.Held m) v is =
          subst (λ u. IsToldOf S (entry pass cell (Message.Prepare n stamp x) (Answer.Held m) moment ∷ es) n y u (Reason.Held m)) (some_is (Verdict.Held m) v is) (first (Answer.Held m) (Reason.Held m) refl, λ _ e. cc)
      by_answer (Answer.Late t) v is =
          subst (λ u. IsToldOf S (entry pass cell (Message.Prepare n stamp x) (Answer.Late t) moment ∷ es) n y u (Reason.Late t)) (some_is (Verdict.Late t) v is) (first (Answer.Late t) (Reason.Late t) refl, λ _ e. cc)
      by_answer (Answer.CondFalse old) v is =
          subst (λ u. IsToldOf S (entry pass cell (Message.Prepare n stamp x) (Answer.CondFalse old) moment ∷ es) n y u (Reason.ConditionFalse old)) (some_is Verdict.CondFalse v is) (first (Answer.CondFalse old) (Reason.ConditionFalse old) refl, λ _ e. cc)
      by_answer (Answer.Invalid fault) v is =
          subst (λ u. IsToldOf S (entry pass cell (Message.Prepare n stamp x) (Answer.Invalid fault) moment ∷ es) n y u (Reason.Invalid fault)) (some_is Verdict.Invalid v is) (first (Answer.Invalid fault) (Reason.Invalid fault) refl, λ _ e. cc)
      by_answer Answer.Stale v is =
          subst (λ u. IsToldOf S (entry pass cell (Message.Prepare n stamp x) Answer.Stale moment ∷ es) n y u Reason.None) (some_is Verdict.NoTable v is)
          (had_now (finds_no_table n) (entry pass cell (Message.Prepare n stamp x) Answer.Stale moment) es (ap (λ b. b && true) (eq-eqb n n refl)))
      by_answer _ v is = absurd (cc)

  -- one more reason, of the action whose turn it is
  pub reasoned : (es : List (Entry K V A F D Q B)) (pass moment n place : ℕ) (cell : Option ℕ) (told : Told) (stamp : Stamp) (x : A) (a : Answer K V A F B) (v : Verdict) (reasons : List (Reason V F)) → let now = entry pass cell (Message.Prepare n stamp x) a moment ∷ es in IsLegal S now → Knows S es n told → KnowsReasons S es n told reasons → next_move told ≡ Move.Prepare place → slice_get (begun_actions (effects es) n) place ≡ Some x → verdict_of a ≡ Some v → KnowsReasons S now n (with_verdict told v) (reasons ++ reason_in a ∷ [])
  reasoned es pass moment n place cell told stamp x a v reasons legal k found next at is =
      subst (λ b. KnowsReasons S (e ∷ es) n (if b then record told { verdicts = told.verdicts ++ v ∷ [] } else told) (reasons ++ reason_in a ∷ [])) (sym turn.0)
      (record {
        many = length-append reasons (reason_in a ∷ []) ∙ ap (λ m. m + 1) found.many ∙ sym (length-append told.verdicts (v ∷ []));
        each = λ i u r y got got_r its. by_place i u r y its (get_end told.verdicts v i u got) (get_end reasons (reason_in a) i r got_r);
      })
    where
      e : Entry K V A F D Q B
      e = entry pass cell (Message.Prepare n stamp x) a moment

      turn : ((is_undecided told.fate && nat_lt (length told.verdicts) told.actions) ≡ true) × (place ≡ length told.verdicts)
      turn = prepare_next told place next

      more : KnowsReasons S (e ∷ es) n told reasons
      more = reasons_more e es legal n told k reasons found

      by_place : (i : ℕ) (u : Verdict) (r : Reason V F) (y : A) → slice_get (begun_actions (effects (e ∷ es)) n) i ≡ Some y → (slice_get told.verdicts i ≡ Some u) ⊎ ((i ≡ length told.verdicts) × (v ≡ u)) → (slice_get reasons i ≡ Some r) ⊎ ((i ≡ length reasons) × (reason_in a ≡ r)) → IsToldOf S (e ∷ es) n y u r
      by_place i u r y its (inl old) (inl old_r) = more.each i u r y old old_r its
      by_place i u r y its (inr new) (inr new_r) =
          let here' : x ≡ y = some_is x y (sym at ∙ ap (λ j. slice_get (begun_actions (effects es) n) j) (turn.1 ∙ sym new.0) ∙ action_before e es legal n told k i y its) in
          subst (λ w. IsToldOf S (e ∷ es) n y w r) new.1 (subst (λ s. IsToldOf S (e ∷ es) n y v s) new_r.1 (told_now es pass moment n cell stamp x y here' a v is))
      by_place i u r y its (inl old) (inr new_r) =
          absurd (let below = slice_get_within told.verdicts i u old in let many = found.many in let end = new_r.0 in omega arith)
      by_place i u r y its (inr new) (inl old_r) =
          absurd (let below = slice_get_within reasons i r old_r in let many = found.many in let end = new.0 in omega arith)

  -- of a begun number, before anything was told
  nothing_yet : (es : List (Entry K V A F D Q B)) (n : ℕ) (stamp : Stamp) (actions : List A) → KnowsBegun S es n stamp actions → Knows S es n (told_nothing (length actions))
  nothing_yet es n stamp actions k =
      record {
        begun = k.begun;
        many = ap (λ xs. length xs) (sym k.its_actions);
        few = omega arith;
        accepted = λ i v x got. absurd (cc);
        committed = λ f. absurd (cc);
        cancelled = λ f. absurd (cc);
        undone = λ f. refl;
        applied = λ f. absurd (cc);
        released = λ f. absurd (cc);
      }

  pub begun : (es : List (Entry K V A F D Q B)) (pass moment n : ℕ) (cell : Option ℕ) (token : Option (List ℕ)) (actions : List A) (stamp : Stamp) → let now = entry pass cell (Message.Begin token actions) (Answer.Begun n stamp) moment ∷ es in IsLegal S now → KnowsBegun S now n stamp actions × Knows S now n (told_nothing (length actions))
  begun es pass moment n cell token actions stamp legal = (knows, nothing_yet (e ∷ es) n stamp actions knows)
    where
      e : Entry K V A F D Q B
      e = entry pass cell (Message.Begin token actions) (Answer.Begun n stamp) moment

      its : nat_eq stamp.number n ≡ true
      its =
          let w = state_after S.core (effects es) in
          let drawn = begun_next {K = K} {V = V} {F = F} {B = B} S.same_actions (list_all (λ x. S.core.there w.catalog (S.core.key_of x)) actions) (found_kept es moment token) actions w.ledger.next n moment stamp legal.1.answer in
          let same : stamp.number ≡ w.ledger.next = ap (λ (s : Stamp). s.number) drawn.1 in
          eq-eqb stamp.number n (same ∙ sym drawn.0)

      knows : KnowsBegun S (e ∷ es) n stamp actions
      knows =
          record {
            begun = had_now (begins n) e es (eq-eqb n n refl);
            its_stamp = ap (λ b. if b then stamp else begun_stamp (effects es) n) its;
            its_actions = ap (λ b. if b then actions else begun_actions (effects es) n) its;
          }

  recall_told : (recorded : Bool) (f g : Fate) (s t : Stamp) (xs ys : List A) (rs qs : List (Reason V F)) → Answer.Known f s xs rs ≡ recall_answer {K = K} {V = V} {A = A} {F = F} {B = B} recorded g t ys qs → (recorded ≡ true) × (f ≡ g) × (s ≡ t) × (xs ≡ ys)
  recall_told true f g s t xs ys rs qs e = (refl, cc, cc, cc)
  recall_told false f g s t xs ys rs qs e = absurd (cc)

  pub recalled : (es : List (Entry K V A F D Q B)) (pass moment n : ℕ) (cell : Option ℕ) (fate : Fate) (actions : List A) (stamp : Stamp) (reasons : List (Reason V F)) → let now = entry pass cell (Message.Recall n) (Answer.Known fate stamp actions reasons) moment ∷ es in IsLegal S now → KnowsBegun S now n stamp actions × Knows S now n (with_fate (told_nothing (length actions)) fate)
  recalled es pass moment n cell fate actions stamp reasons legal = (
    more,
    fated (e ∷ es) n (told_nothing (length actions)) (nothing_yet (e ∷ es) n stamp actions more) fate
        (λ f. had_more (commits n) e es (was_committed S es n (sym told.1 ∙ f)))
        (λ f. had_more (cancels n) e es (was_cancelled S es n (sym told.1 ∙ f))),
  )
    where
      e : Entry K V A F D Q B
      e = entry pass cell (Message.Recall n) (Answer.Known fate stamp actions reasons) moment

      told : (has_record (state_after S.core (effects es)).ledger n ≡ true) × (fate ≡ (state_after S.core (effects es)).ledger.fate n) × (stamp ≡ (state_after S.core (effects es)).ledger.stamp n) × (actions ≡ (state_after S.core (effects es)).ledger.actions n)
      told =
          let l = (state_after S.core (effects es)).ledger in
          recall_told (has_record l n) fate (l.fate n) stamp (l.stamp n) actions (l.actions n) reasons (reasons_of es n) legal.1.answer

      knows : KnowsBegun S es n stamp actions
      knows =
          let l = (state_after S.core (effects es)).ledger in
          let run = legal_run S law es legal.0 in
          let parts = and_parts (nat_le 1 n) (nat_lt n l.next && not (l.gone n)) told.0 in
          record {
            begun = was_begun S es legal.0 n (leb-true 1 n parts.0) (ltb-true n l.next (and_parts (nat_lt n l.next) (not (l.gone n)) parts.1).0);
            its_stamp = sym (stamp_read S.core (effects es) run n) ∙ sym told.2;
            its_actions = sym (actions_read S.core (effects es) run n) ∙ sym told.3;
          }

      more : KnowsBegun S (e ∷ es) n stamp actions
      more = begun_more e es legal n stamp actions knows
