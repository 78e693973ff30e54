-- A course comes to its end.
use Rattle.std.proofs.Common.{◌≡◌, ◌≢◌, ◌↔◌, ℕ, ◌+◌, ◌-◌, ◌<◌, ◌≤◌, true, ◌&&◌, nat_lt, nat_eq, [], ◌∷◌, ◌++◌, length, if◌then◌else◌, refl, sym, ap, ◌∙◌, subst, arith}
use Rattle.std.specs.List.{list_all}
use Rattle.std.proofs.lemmas.Bool.{cond_both, and_parts, ltb-true, ltb-false, le-leb, eqb-true, eqb-false}
use Rattle.std.proofs.lemmas.List.{length-append}
use Rattle.txn_core.specs.declared.fate.Fate.{Fate}
use Rattle.txn_core.specs.declared.fate.Fate.TheVariants.{Undecided, Committed, Cancelled, Gone}
use Rattle.txn_core.specs.declared.verdict.Verdict.{Verdict}
use Rattle.txn_core.specs.declared.course.Course.{Course}
use Rattle.txn_core.specs.declared.course.Move.{Move}
use Rattle.txn_core.specs.declared.course.Move.TheVariants.{Prepare, Commit, Cancel, Apply, Release, Done, End}
use Rattle.txn_core.specs.Course.{Told, IsToldSo, is_accepted, is_undecided, is_known, next_undecided, next_decided, next_at, next_move, with_verdict, with_fate, with_done}
use Rattle.txn_core.specs.Driver.{moves_at, moves_left, course_left_at, course_left}
use Rattle.txn_core.proofs.Drives.{prepare_next}

-- before the decision there is always a move
undecided_goes_on : (told : Told) → next_undecided told ≡ End → ⊥
undecided_goes_on told e =
    cond_both (nat_lt (length told.verdicts) told.actions) (Prepare (length told.verdicts)) (if list_all is_accepted told.verdicts then Commit else Cancel) (λ m. m ≡ End → ⊥)
    (λ _ h. cc) (λ _ h. cond_both (list_all is_accepted told.verdicts) Commit Cancel (λ m. m ≡ End → ⊥) (λ _ k. cc) (λ _ k. cc) h) e

-- after it, as long as an action or the Done is left
decided_goes_on : (last : ℕ → Move) (told : Told) → ((i : ℕ) → last i ≡ End → ⊥) → next_decided last told ≡ End ↔ (told.actions + 1 - told.done ≡ 0)
decided_goes_on last told other =
    cond_both (nat_lt told.done told.actions) (last told.done) (if nat_eq told.done told.actions then Done else End) (λ m. (m ≡ End) ↔ (told.actions + 1 - told.done ≡ 0))
    (λ is. (λ h. absurd (other told.done h), λ none. (let lt = ltb-true told.done told.actions is in absurd (omega arith))))
    (λ is.
    let ge = ltb-false told.done told.actions is in
    cond_both (nat_eq told.done told.actions) Done End (λ m. (m ≡ End) ↔ (told.actions + 1 - told.done ≡ 0))
    (λ same. (λ h. absurd (cc), λ none. (let e = eqb-true told.done told.actions same in absurd (omega arith))))
    (λ apart. (λ h. (let ne = eqb-false told.done told.actions apart in omega arith), λ none. refl)))

pub ended : (told : Told) → next_move told ≡ End ↔ (moves_left told ≡ 0)
ended told = at_fate told.fate
  where
    at_fate : (f : Fate) → next_at f told ≡ End ↔ (moves_at f told ≡ 0)
    at_fate Undecided = (λ h. absurd (undecided_goes_on told h), λ none. absurd (omega arith))
    at_fate Committed = decided_goes_on Apply told (λ i h. cc)
    at_fate Cancelled = decided_goes_on Release told (λ i h. cc)
    at_fate Gone = (λ h. refl, λ none. refl)

undecided_fate : (f : Fate) → is_undecided f ≡ true → f ≡ Undecided
undecided_fate Undecided e = refl
undecided_fate Committed e = absurd (cc)
undecided_fate Cancelled e = absurd (cc)
undecided_fate Gone e = absurd (cc)

pub prepared : (told : Told) (place : ℕ) (v : Verdict) → next_move told ≡ Prepare place → moves_left (with_verdict told v) < moves_left told
prepared told place v next =
    let turn = (prepare_next told place next).0 in
    let parts = and_parts (is_undecided told.fate) (nat_lt (length told.verdicts) told.actions) turn in
    let fate = undecided_fate told.fate parts.0 in
    let lt = ltb-true (length told.verdicts) told.actions parts.1 in
    let longer = length-append told.verdicts (v ∷ []) in
    let fewer : moves_at Undecided (record told { verdicts = told.verdicts ++ v ∷ [] }) < moves_at Undecided told = omega arith in
    subst (λ b. moves_left (if b then record told { verdicts = told.verdicts ++ v ∷ [] } else told) < moves_left told) (sym turn)
    (subst (λ f. moves_at f (record told { verdicts = told.verdicts ++ v ∷ [] }) < moves_at f told) (sym fate) fewer)

pub decided : (told : Told) (fate : Fate) → told.fate ≡ Undecided → fate ≢ Undecided → moves_left (with_fate told fate) < moves_left told
decided told fate none ends =
    subst (λ f. moves_left (if is_undecided f then record told { fate = fate } else told) < moves_at f told) (sym none) (by_fate fate ends)
  where
    by_fate : (g : Fate) → g ≢ Undecided → moves_at g (record told { fate = g }) < moves_at Undecided told
    by_fate Undecided ends = absurd (ends refl)
    by_fate Committed ends = omega arith
    by_fate Cancelled ends = omega arith
    by_fate Gone ends = omega arith

pub done : (told : Told) → told.fate ≢ Undecided → next_move told ≢ End → moves_left (with_done told) < moves_left told
done told ends next = at_fate told.fate refl ends next
  where
    -- where the course goes on after a decision, an action or the Done is left
    some_left : (last : ℕ → Move) → (next_decided last told ≡ End → ⊥) → told.done ≤ told.actions
    some_left last on =
        cond_both (nat_lt told.done told.actions) (last told.done) (if nat_eq told.done told.actions then Done else End) (λ m. (m ≡ End → ⊥) → told.done ≤ told.actions)
        (λ is _. let lt = ltb-true told.done told.actions is in omega arith)
        (λ is h. cond_both (nat_eq told.done told.actions) Done End (λ m. (m ≡ End → ⊥) → told.done ≤ told.actions)
        (λ same _. let e = eqb-true told.done told.actions same in omega arith) (λ _ k. absurd (k refl)) h) on

    one_less : (f : Fate) → is_known f ≡ true → told.done ≤ told.actions → moves_at f (record told { done = told.done + 1 }) < moves_at f told → told.fate ≡ f → moves_left (with_done told) < moves_left told
    one_less f known below fewer is =
        subst (λ b. moves_left (if b then record told { done = told.done + 1 } else told) < moves_left told)
        (sym (λ j. (ap is_known is ∙ known) j && le-leb told.done told.actions below j))
        (subst (λ g. moves_at g (record told { done = told.done + 1 }) < moves_at g told) (sym is) fewer)

    at_fate : (f : Fate) → told.fate ≡ f → f ≢ Undecided → next_at f told ≢ End → moves_left (with_done told) < moves_left told
    at_fate Undecided is no' on = absurd (no' refl)
    at_fate Committed is no' on = let below = some_left Apply on in one_less Committed refl below (omega arith) is
    at_fate Cancelled is no' on = let below = some_left Release on in one_less Cancelled refl below (omega arith) is
    at_fate Gone is no' on = absurd (on refl)

pub left : (course : Course) (told : Told) → IsToldSo course told → course_left course ≡ moves_left told
left course told so = ap (λ f. course_left_at f course) so.fate ∙ at_fate told.fate
  where
    at_fate : (f : Fate) → course_left_at f course ≡ moves_at f told
    at_fate Undecided = λ j. (so.actions j - so.prepared j) + so.actions j + 2
    at_fate Committed = λ j. so.actions j + 1 - so.done j
    at_fate Cancelled = λ j. so.actions j + 1 - so.done j
    at_fate Gone = refl
