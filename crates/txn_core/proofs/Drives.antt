-- A course sends nothing that the protocol forbids.
use Rattle.std.proofs.Common.{◌≡◌, ◌≢◌, ◌⊎◌, inl, inr, ℕ, zero, suc, ◌<◌, ◌≤◌, Bool, true, false, ◌&&◌, ◌||◌, nat_eq, nat_lt, List, [], ◌∷◌, length, map, Some, slice_get, slice_index_or, if◌then◌else◌, refl, sym, ap, ◌∙◌, subst, arith}
use Rattle.std.specs.Prelude.{All}
use Rattle.std.specs.List.{list_any, list_all}
use Rattle.std.proofs.lemmas.Bool.{cond_both, and_parts, or_parts, ltb-false, eqb-true}
use Rattle.std.proofs.lemmas.Option.{slice_get_within, slice_get-get_or, get_or_from_slice_get}
use Rattle.std.proofs.lemmas.List.{length-map}
use Rattle.txn_core.specs.declared.stamp.Stamp.{Stamp}
use Rattle.txn_core.specs.declared.verdict.Verdict.{Verdict}
use Rattle.txn_core.specs.declared.fate.Fate.{Fate}
use Rattle.txn_core.specs.declared.fate.Fate.TheVariants.{Undecided, Committed, Cancelled, Gone}
use Rattle.txn_core.specs.declared.course.Move.{Move}
use Rattle.txn_core.specs.declared.course.Move.TheVariants.{Prepare, Commit, Cancel, Apply, Release, Done, End}
use Rattle.txn_core.specs.declared.reason.Reason.{Reason}
use Rattle.txn_core.specs.declared.message.Message.{Message}
use Rattle.txn_core.specs.declared.entry.Entry.{Entry}
use Rattle.txn_core.specs.Course.{Told, is_accepted, is_undecided, next_undecided, next_decided, next_at, next_move}
use Rattle.txn_core.specs.Service.{Service, IsServiceLawful}
use Rattle.txn_core.specs.Serial.{begun_actions}
use Rattle.txn_core.specs.History.{effects, Had, commits, cancels, finds_no_table}
use Rattle.txn_core.specs.Legal.{applies, releases, WasTold, AreTold, HasCause, Allowed, IsLegal}
use Rattle.txn_core.specs.Driver.{is_no_table, no_reason, cancel_reasons, KnowsBegun, Knows, IsToldOf, KnowsReasons}
use Rattle.txn_core.proofs.Basics.{some_is}
use Rattle.txn_core.proofs.Records.{begun_apart, found_apart}

-- one of a list of which all pass
get_passes : {X : Type 0} (test : X → Bool) (xs : List X) (i : ℕ) → list_all test xs ≡ true → i < length xs → (x : X) × (slice_get xs i ≡ Some x) × (test x ≡ true)
get_passes test [] i all lt = absurd (omega arith)
get_passes test (x ∷ xs) zero all lt = (x, refl, (and_parts (test x) (list_all test xs) all).0)
get_passes test (x ∷ xs) (suc i) all lt = get_passes test xs i (and_parts (test x) (list_all test xs) all).1 (omega arith)

-- a commit comes next only where every action was accepted
commit_next : (told : Told) → next_move told ≡ Commit → (told.actions ≤ length told.verdicts) × (list_all is_accepted told.verdicts ≡ true)
commit_next told e = at_fate told.fate e
  where
    at_fate : (f : Fate) → next_at f told ≡ Commit → (told.actions ≤ length told.verdicts) × (list_all is_accepted told.verdicts ≡ true)
    at_fate Undecided h =
        cond_both (nat_lt (length told.verdicts) told.actions) (Prepare (length told.verdicts)) (if list_all is_accepted told.verdicts then Commit else Cancel)
        (λ x. x ≡ Commit → (told.actions ≤ length told.verdicts) × (list_all is_accepted told.verdicts ≡ true))
        (λ is k. absurd (cc))
        (λ is k. (
          ltb-false (length told.verdicts) told.actions is,
          cond_both (list_all is_accepted told.verdicts) Commit Cancel (λ x. x ≡ Commit → list_all is_accepted told.verdicts ≡ true) (λ all _. all) (λ all c. absurd (cc)) k,
        )) h
    at_fate Committed h = absurd (not_commit Apply told.done told.actions h (λ i e. cc))
      where
        not_commit : (last : ℕ → Move) (i m : ℕ) → (if nat_lt i m then last i else (if nat_eq i m then Done else End)) ≡ Commit → ((j : ℕ) → last j ≡ Commit → ⊥) → ⊥
        not_commit last i m h no' = cond_both (nat_lt i m) (last i) (if nat_eq i m then Done else End) (λ x. x ≡ Commit → ⊥) (λ _ k. no' i k) (λ _ k. cond_both (nat_eq i m) Done End (λ x. x ≡ Commit → ⊥) (λ _ e. cc) (λ _ e. cc) k) h
    at_fate Cancelled h = absurd (not_commit Release told.done told.actions h (λ i e. cc))
      where
        not_commit : (last : ℕ → Move) (i m : ℕ) → (if nat_lt i m then last i else (if nat_eq i m then Done else End)) ≡ Commit → ((j : ℕ) → last j ≡ Commit → ⊥) → ⊥
        not_commit last i m h no' = cond_both (nat_lt i m) (last i) (if nat_eq i m then Done else End) (λ x. x ≡ Commit → ⊥) (λ _ k. no' i k) (λ _ k. cond_both (nat_eq i m) Done End (λ x. x ≡ Commit → ⊥) (λ _ e. cc) (λ _ e. cc) k) h
    at_fate Gone h = absurd (cc)

-- what comes after the decision, by what the move is
decided_next : (last : ℕ → Move) (told : Told) (m : Move) → next_decided last told ≡ m → (m ≡ last told.done) ⊎ (((told.done ≡ told.actions) × (m ≡ Done)) ⊎ (m ≡ End))
decided_next last told m e =
    cond_both (nat_lt told.done told.actions) (last told.done) (if nat_eq told.done told.actions then Done else End)
    (λ x. x ≡ m → (m ≡ last told.done) ⊎ (((told.done ≡ told.actions) × (m ≡ Done)) ⊎ (m ≡ End)))
    (λ _ k. inl (sym k))
    (λ _ k. cond_both (nat_eq told.done told.actions) Done End (λ x. x ≡ m → (m ≡ last told.done) ⊎ (((told.done ≡ told.actions) × (m ≡ Done)) ⊎ (m ≡ End)))
    (λ same h. inr (inl (eqb-true told.done told.actions same, sym h))) (λ _ h. inr (inr (sym h))) k) e

undecided_next : (told : Told) (m : Move) → next_undecided told ≡ m → ((i : ℕ) → m ≡ Apply i → ⊥) × ((i : ℕ) → m ≡ Release i → ⊥) × (m ≡ Done → ⊥)
undecided_next told m e =
    cond_both (nat_lt (length told.verdicts) told.actions) (Prepare (length told.verdicts)) (if list_all is_accepted told.verdicts then Commit else Cancel)
    (λ x. x ≡ m → ((i : ℕ) → m ≡ Apply i → ⊥) × ((i : ℕ) → m ≡ Release i → ⊥) × (m ≡ Done → ⊥))
    (λ _ k. (λ i h. cc, λ i h. cc, λ h. cc))
    (λ _ k. cond_both (list_all is_accepted told.verdicts) Commit Cancel (λ x. x ≡ m → ((i : ℕ) → m ≡ Apply i → ⊥) × ((i : ℕ) → m ≡ Release i → ⊥) × (m ≡ Done → ⊥))
    (λ _ k. (λ i h. cc, λ i h. cc, λ h. cc)) (λ _ k. (λ i h. cc, λ i h. cc, λ h. cc)) k) e

-- an Apply comes next only after a commit
apply_next : (told : Told) (i : ℕ) → next_move told ≡ Apply i → told.fate ≡ Committed
apply_next told i e = at_fate told.fate refl e
  where
    at_fate : (f : Fate) → told.fate ≡ f → next_at f told ≡ Apply i → told.fate ≡ Committed
    at_fate Undecided is h = absurd ((undecided_next told (Apply i) h).0 i refl)
    at_fate Committed is h = is
    at_fate Cancelled is h = elim (decided_next Release told (Apply i) h) [ inl k ↦ absurd (cc) | inr (inl k) ↦ (let l = k.1 in absurd (cc)) | inr (inr k) ↦ absurd (cc) ]
    at_fate Gone is h = absurd (cc)

release_next : (told : Told) (i : ℕ) → next_move told ≡ Release i → told.fate ≡ Cancelled
release_next told i e = at_fate told.fate refl e
  where
    at_fate : (f : Fate) → told.fate ≡ f → next_at f told ≡ Release i → told.fate ≡ Cancelled
    at_fate Undecided is h = absurd ((undecided_next told (Release i) h).1 i refl)
    at_fate Cancelled is h = is
    at_fate Committed is h = elim (decided_next Apply told (Release i) h) [ inl k ↦ absurd (cc) | inr (inl k) ↦ (let l = k.1 in absurd (cc)) | inr (inr k) ↦ absurd (cc) ]
    at_fate Gone is h = absurd (cc)

-- a Done comes next only where every action had its last message
pub done_next : (told : Told) → next_move told ≡ Done → ((told.fate ≡ Committed) ⊎ (told.fate ≡ Cancelled)) × (told.done ≡ told.actions)
done_next told e = at_fate told.fate refl e
  where
    at_fate : (f : Fate) → told.fate ≡ f → next_at f told ≡ Done → ((told.fate ≡ Committed) ⊎ (told.fate ≡ Cancelled)) × (told.done ≡ told.actions)
    at_fate Undecided is h = absurd ((undecided_next told Done h).2 refl)
    at_fate Committed is h = elim (decided_next Apply told Done h) [ inl k ↦ absurd (cc) | inr (inl k) ↦ (inl is, k.0) | inr (inr k) ↦ absurd (cc) ]
    at_fate Cancelled is h = elim (decided_next Release told Done h) [ inl k ↦ absurd (cc) | inr (inl k) ↦ (inr is, k.0) | inr (inr k) ↦ absurd (cc) ]
    at_fate Gone is h = absurd (cc)

-- and it is for the first action that hasn't had its last message
pub apply_at : (told : Told) (i : ℕ) → next_move told ≡ Apply i → (told.fate ≡ Committed) × (i ≡ told.done)
apply_at told i e =
    let f = apply_next told i e in
    (f, elim (decided_next Apply told (Apply i) (subst (λ g. next_at g told ≡ Apply i) f e)) [ inl k ↦ cc | inr (inl k) ↦ (let l = k.1 in absurd (cc)) | inr (inr k) ↦ absurd (cc) ])

pub release_at : (told : Told) (i : ℕ) → next_move told ≡ Release i → (told.fate ≡ Cancelled) × (i ≡ told.done)
release_at told i e =
    let f = release_next told i e in
    (f, elim (decided_next Release told (Release i) (subst (λ g. next_at g told ≡ Release i) f e)) [ inl k ↦ cc | inr (inl k) ↦ (let l = k.1 in absurd (cc)) | inr (inr k) ↦ absurd (cc) ])

-- a Cancel comes next only where every action has its verdict and one was refused
cancel_next : (told : Told) → next_move told ≡ Cancel → (told.actions ≤ length told.verdicts) × (list_all is_accepted told.verdicts ≡ false)
cancel_next told e = at_fate told.fate e
  where
    at_fate : (f : Fate) → next_at f told ≡ Cancel → (told.actions ≤ length told.verdicts) × (list_all is_accepted told.verdicts ≡ false)
    at_fate Undecided h =
        cond_both (nat_lt (length told.verdicts) told.actions) (Prepare (length told.verdicts)) (if list_all is_accepted told.verdicts then Commit else Cancel)
        (λ x. x ≡ Cancel → (told.actions ≤ length told.verdicts) × (list_all is_accepted told.verdicts ≡ false))
        (λ is k. absurd (cc))
        (λ is k. (
          ltb-false (length told.verdicts) told.actions is,
          cond_both (list_all is_accepted told.verdicts) Commit Cancel (λ x. x ≡ Cancel → list_all is_accepted told.verdicts ≡ false) (λ all c. absurd (cc)) (λ some _. some) k,
        )) h
    at_fate Committed h = elim (decided_next Apply told Cancel h) [ inl k ↦ absurd (cc) | inr (inl k) ↦ (let l = k.1 in absurd (cc)) | inr (inr k) ↦ absurd (cc) ]
    at_fate Cancelled h = elim (decided_next Release told Cancel h) [ inl k ↦ absurd (cc) | inr (inl k) ↦ (let l = k.1 in absurd (cc)) | inr (inr k) ↦ absurd (cc) ]
    at_fate Gone h = absurd (cc)

-- a Prepare comes next before the decision, for the first action without a verdict
pub prepare_next : (told : Told) (i : ℕ) → next_move told ≡ Prepare i → ((is_undecided told.fate && nat_lt (length told.verdicts) told.actions) ≡ true) × (i ≡ length told.verdicts)
prepare_next told i e = at_fate told.fate e
  where
    at_fate : (f : Fate) → next_at f told ≡ Prepare i → ((is_undecided f && nat_lt (length told.verdicts) told.actions) ≡ true) × (i ≡ length told.verdicts)
    at_fate Undecided h =
        cond_both (nat_lt (length told.verdicts) told.actions) (Prepare (length told.verdicts)) (if list_all is_accepted told.verdicts then Commit else Cancel)
        (λ x. x ≡ Prepare i → (nat_lt (length told.verdicts) told.actions ≡ true) × (i ≡ length told.verdicts))
        (λ is k. (is, cc))
        (λ is k. cond_both (list_all is_accepted told.verdicts) Commit Cancel (λ x. x ≡ Prepare i → (nat_lt (length told.verdicts) told.actions ≡ true) × (i ≡ length told.verdicts)) (λ _ c. absurd (cc)) (λ _ c. absurd (cc)) k) h
    at_fate Committed h = elim (decided_next Apply told (Prepare i) h) [ inl k ↦ absurd (cc) | inr (inl k) ↦ (let l = k.1 in absurd (cc)) | inr (inr k) ↦ absurd (cc) ]
    at_fate Cancelled h = elim (decided_next Release told (Prepare i) h) [ inl k ↦ absurd (cc) | inr (inl k) ↦ (let l = k.1 in absurd (cc)) | inr (inr k) ↦ absurd (cc) ]
    at_fate Gone h = absurd (cc)

-- one of a list of which not all pass
get_fails : {X : Type 0} (test : X → Bool) (xs : List X) → list_all test xs ≡ false → (i : ℕ) × (x : X) × (slice_get xs i ≡ Some x) × (test x ≡ false)
get_fails test [] all = absurd (cc)
get_fails {X = X} test (x ∷ xs) all = by_test (λ h. get_fails test xs h) (test x) refl all
  where
    by_test : (list_all test xs ≡ false → (i : ℕ) × (y : X) × (slice_get xs i ≡ Some y) × (test y ≡ false)) → (b : Bool) → test x ≡ b → (b && list_all test xs) ≡ false → (i : ℕ) × (y : X) × (slice_get (x ∷ xs) i ≡ Some y) × (test y ≡ false)
    by_test found false is h = (0, x, refl, is)
    by_test found true is h = let rest = found h in (suc rest.0, rest.1, rest.2, rest.3)

-- one of a list of which some pass, and that none of the others does
get_any : {X : Type 0} (test : X → Bool) (xs : List X) → list_any test xs ≡ true → (i : ℕ) × (x : X) × (slice_get xs i ≡ Some x) × (test x ≡ true)
get_any test [] any = absurd (cc)
get_any {X = X} test (x ∷ xs) any = by_test (λ h. get_any test xs h) (test x) refl any
  where
    by_test : (list_any test xs ≡ true → (i : ℕ) × (y : X) × (slice_get xs i ≡ Some y) × (test y ≡ true)) → (b : Bool) → test x ≡ b → (b || list_any test xs) ≡ true → (i : ℕ) × (y : X) × (slice_get (x ∷ xs) i ≡ Some y) × (test y ≡ true)
    by_test found true is h = (0, x, refl, is)
    by_test found false is h = let rest = found h in (suc rest.0, rest.1, rest.2, rest.3)

get_none : {X : Type 0} (test : X → Bool) (xs : List X) (i : ℕ) (x : X) → list_any test xs ≡ false → slice_get xs i ≡ Some x → test x ≡ false
get_none test [] i x none at = absurd (cc)
get_none test (y ∷ ys) zero x none at = ap test (sym (some_is y x at)) ∙ (or_parts (test y) (list_any test ys) none).0
get_none test (y ∷ ys) (suc i) x none at = get_none test ys i x (or_parts (test y) (list_any test ys) none).1 at

-- one at a place below the length
pub get_at : {X : Type 0} (xs : List X) (i : ℕ) → i < length xs → (x : X) × (slice_get xs i ≡ Some x)
get_at [] i lt = absurd (omega arith)
get_at (x ∷ xs) zero lt = (x, refl)
get_at (x ∷ xs) (suc i) lt = get_at xs i (omega arith)

no_reason_at : {V F : Type 0} (reasons : List (Reason V F)) (i : ℕ) (d : Reason V F) → i < length reasons → slice_index_or (map no_reason reasons) i d ≡ Reason.None
no_reason_at [] i d lt = absurd (omega arith)
no_reason_at (r ∷ reasons) zero d lt = refl
no_reason_at (r ∷ reasons) (suc i) d lt = no_reason_at reasons i d (omega arith)

module _ {K V A F C D Q B : Type 0} (S : Service K V A F C D Q B) (es : List (Entry K V A F D Q B)) (n : ℕ) where
  pub may_prepare : IsServiceLawful S → IsLegal S es → (stamp : Stamp) (actions : List A) → KnowsBegun S es n stamp actions → (pass place : ℕ) (x : A) → slice_get actions place ≡ Some x → Allowed S es pass (Message.Prepare n stamp x)
  may_prepare law legal stamp actions knows pass place x at = (
    knows.begun,
    sym knows.its_stamp,
    found_apart S law (begun_actions (effects es) n) (begun_apart S es legal n) place x (ap (λ xs. slice_get xs place) knows.its_actions ∙ at),
  )

  module _ (told : Told) (knows : Knows S es n told) (pass : ℕ) where
    pub may_commit : next_move told ≡ Commit → (reasons : List (Reason V F)) → Allowed S es pass (Message.Decide n true reasons)
    may_commit e reasons =
        let next = commit_next told e in (
          knows.begun,
          λ k d lt.
              (let many = knows.many in
              let g = get_passes is_accepted told.verdicts k next.1 (let few = next.0 in omega arith) in
              knows.accepted k g.0 (slice_index_or (begun_actions (effects es) n) k d) g.1 g.2 (slice_get-get_or (begun_actions (effects es) n) k d lt)),
        )

    pub may_apply : (i : ℕ) → next_move told ≡ Apply i → (k : K) → Allowed S es pass (Message.Apply n k)
    may_apply i e k = knows.committed (apply_next told i e)

    pub may_release : (i : ℕ) → next_move told ≡ Release i → (k : K) → Allowed S es pass (Message.Release n k)
    may_release i e k = inl (knows.cancelled (release_next told i e))

    pub may_finish : next_move told ≡ Done → Allowed S es pass (Message.Done n)
    may_finish e =
        let next = done_next told e in
        let many = knows.many in
        let all = next.1 in
        (knows.begun, ends next.0 all many)
      where
        ends : (told.fate ≡ Committed) ⊎ (told.fate ≡ Cancelled) → told.done ≡ told.actions → told.actions ≡ length (begun_actions (effects es) n) → (Had (commits n) es × All (λ x. Had (applies S n (S.core.key_of x)) es) (begun_actions (effects es) n)) ⊎ (Had (cancels n) es × All (λ x. Had (releases S n (S.core.key_of x)) es) (begun_actions (effects es) n))
        ends (inl f) all many =
            inl (knows.committed f, λ k d lt. knows.applied f k (slice_index_or (begun_actions (effects es) n) k d) (omega arith) (slice_get-get_or (begun_actions (effects es) n) k d lt))
        ends (inr f) all many =
            inr (knows.cancelled f, λ k d lt. knows.released f k (slice_index_or (begun_actions (effects es) n) k d) (omega arith) (slice_get-get_or (begun_actions (effects es) n) k d lt))

    -- reasons that were told one by one were told of the list
    are_told : (actions : List A) (reasons : List (Reason V F)) → length reasons ≡ length actions → ((i : ℕ) (x : A) (r : Reason V F) → slice_get actions i ≡ Some x → slice_get reasons i ≡ Some r → WasTold S es n x r) → AreTold S es n actions reasons
    are_told [] [] many each = tt
    are_told [] (r ∷ reasons) many each = absurd (omega arith)
    are_told (x ∷ actions) [] many each = absurd (omega arith)
    are_told (x ∷ actions) (r ∷ reasons) many each = (each 0 x r refl refl, are_told actions reasons (omega arith) (λ i y s at is. each (suc i) y s at is))

    told_of : (x : A) (v : Verdict) (r : Reason V F) → is_no_table v ≡ false → IsToldOf S es n x v r → WasTold S es n x r × (is_accepted v ≡ false → r ≢ Reason.None)
    told_of x Verdict.NoTable r there h = absurd (cc)
    told_of x _ r there h = h

    no_table_told : (x : A) (v : Verdict) (r : Reason V F) → is_no_table v ≡ true → IsToldOf S es n x v r → Had (finds_no_table n) es
    no_table_told x Verdict.NoTable r there h = h
    no_table_told x _ r there h = absurd (cc)

    pub may_cancel : (reasons : List (Reason V F)) → KnowsReasons S es n told reasons → next_move told ≡ Cancel → Allowed S es pass (Message.Decide n false (cancel_reasons told.verdicts reasons))
    may_cancel reasons found e =
        let next = cancel_next told e in
        (knows.begun, cond_both (list_any is_no_table told.verdicts) (map no_reason reasons) reasons (λ rs. HasCause S es n (begun_actions (effects es) n) rs) gone refused)
      where
        actions : List A
        actions = begun_actions (effects es) n

        enough : (told.actions ≤ length told.verdicts) × (list_all is_accepted told.verdicts ≡ false)
        enough = cancel_next told e

        as_many : length reasons ≡ length (begun_actions (effects es) n)
        as_many =
            let many = knows.many in
            let few = knows.few in
            let each = found.many in
            let all = enough.0 in
            omega arith

        action_at : (i : ℕ) (v : Verdict) → slice_get told.verdicts i ≡ Some v → (x : A) × (slice_get (begun_actions (effects es) n) i ≡ Some x)
        action_at i v at =
            let below = slice_get_within told.verdicts i v at in
            let many = knows.many in
            let few = knows.few in
            get_at (begun_actions (effects es) n) i (omega arith)

        reason_at : (i : ℕ) (v : Verdict) → slice_get told.verdicts i ≡ Some v → (r : Reason V F) × (slice_get reasons i ≡ Some r)
        reason_at i v at =
            let below = slice_get_within told.verdicts i v at in
            let each = found.many in
            get_at reasons i (omega arith)

        gone : list_any is_no_table told.verdicts ≡ true → HasCause S es n (begun_actions (effects es) n) (map no_reason reasons)
        gone any =
            let one = get_any is_no_table told.verdicts any in
            let x = action_at one.0 one.1 one.2 in
            let r = reason_at one.0 one.1 one.2 in
            inr (
              no_table_told x.0 one.1 r.0 one.3 (found.each one.0 one.1 r.0 x.0 one.2 r.1 x.1),
              length-map reasons no_reason ∙ as_many,
              λ k d lt. no_reason_at reasons k d (subst (λ m. k < m) (length-map reasons no_reason) lt),
            )

        refused : list_any is_no_table told.verdicts ≡ false → HasCause S es n (begun_actions (effects es) n) reasons
        refused there =
            let one = get_fails is_accepted told.verdicts enough.1 in
            let x = action_at one.0 one.1 one.2 in
            let r = reason_at one.0 one.1 one.2 in
            let its = told_of x.0 one.1 r.0 (get_none is_no_table told.verdicts one.0 one.1 there one.2) (found.each one.0 one.1 r.0 x.0 one.2 r.1 x.1) in
            inl (
              are_told (begun_actions (effects es) n) reasons as_many (λ i y s at is.
                  let v = verdict_at i s is in
                  (told_of y v.0 s (get_none is_no_table told.verdicts i v.0 there v.1) (found.each i v.0 s y v.1 is at)).0),
              (one.0, r.0, slice_get_within reasons one.0 r.0 r.1, get_or_from_slice_get reasons one.0 r.0 r.0 r.1, its.1 one.3),
            )
          where
            verdict_at : (i : ℕ) (s : Reason V F) → slice_get reasons i ≡ Some s → (v : Verdict) × (slice_get told.verdicts i ≡ Some v)
            verdict_at i s at =
                let below = slice_get_within reasons i s at in
                let each = found.many in
                get_at told.verdicts i (omega arith)
