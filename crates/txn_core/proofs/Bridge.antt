-- What each answered message changes may happen.
use Rattle.std.proofs.Common.{◌≡◌, ◌⊎◌, inl, inr, ℕ, suc, ◌<◌, Bool, true, false, nat_eq, List, [], ◌∷◌, Option, None, Some, is_some, if◌then◌else◌, refl, sym, ap, ◌∙◌, subst, arith}
use Rattle.std.specs.List.{find}
use Rattle.std.specs.Prelude.{All}
use Rattle.std.proofs.lemmas.Bool.{eqb-true, cond_both}
use Rattle.txn_core.specs.declared.stamp.Stamp.{Stamp}
use Rattle.txn_core.specs.declared.fate.Fate.{Fate}
use Rattle.txn_core.specs.declared.fate.Fate.TheVariants.{Undecided, Committed, Cancelled, Gone}
use Rattle.txn_core.specs.declared.answer.Answer.{Answer}
use Rattle.txn_core.specs.Stamps.{earlier}
use Rattle.txn_core.specs.declared.outcome.Outcome.{Outcome}
use Rattle.txn_core.specs.declared.outcome.Outcome.TheVariants.{New, Unmet, Fails}
use Rattle.txn_core.specs.Protocol.{IsNew}
use Rattle.txn_core.specs.declared.ruling.Ruling.{Ruling}
use Rattle.txn_core.specs.declared.ruling.Ruling.TheVariants.{Carries, Refuses}
use Rattle.txn_core.specs.Service.{Service, IsServiceLawful}
use Rattle.txn_core.specs.Effects.{Effect, Wrote, Prepared, Applied, Released, Finished, Forgot, Changed}
use Rattle.txn_core.specs.State.{Pending, State, holder, last, action_on, touches, here}
use Rattle.txn_core.specs.Runs.{May, IsReady, MayFinish, MayChange}
use Rattle.txn_core.specs.Answers.{KeptToken, write_answer, expire_answer, outcome_answer, prepare_answer, is_holder, apply_answer, release_answer, begin_answer, decide_answer, done_answer, forget_answer}
use Rattle.txn_core.specs.History.{is_written, is_expired, is_accepted, is_applied, is_released, is_finished, is_forgotten, is_changed, where_so, begin_effect, decide_effect}
use Rattle.txn_core.specs.Legal.{IsClear, ruling_answer, IsRuled}
use Rattle.txn_core.proofs.Basics.{none_some, some_is, held}
use Rattle.txn_core.proofs.Invariant.{Good}

-- what holds of all holds of what is found
pub all_found : {X : Type 0} (Q : X → Type 0) (test : X → Bool) (xs : List X) (x : X) → All Q xs → find test xs ≡ Some x → Q x
all_found Q test [] x h e = absurd (cc)
all_found Q test (y ∷ ys) x h e =
    cond_both (test y) (Some y) (find test ys) (λ o. o ≡ Some x → Q x)
    (λ is k. subst Q (some_is y x k) (h 0 y (omega arith)))
    (λ is k. all_found Q test ys x (λ j d lt. h (suc j) d (omega arith)) k) e

pub unheld : {V : Type 0} (o : Option (Pending V)) → holder o ≡ None → o ≡ None
unheld None e = refl
unheld (Some p) e = absurd (cc)

pub is_holder-true : (h : Option ℕ) (n : ℕ) → is_holder h n ≡ true → h ≡ Some n
is_holder-true None n e = absurd (cc)
is_holder-true (Some m) n e = ap Some (eqb-true m n e)

pub where_true : {K A D : Type 0} (b : Bool) (e : Effect K A D) → b ≡ true → where_so b e ≡ e
where_true b e h = ap (λ x. where_so x e) h

module _ {K V A F C D Q B : Type 0} (S : Service K V A F C D Q B) (law : IsServiceLawful S) where
  module _ (w : State K V A C) where
    pub may_write : (a : A) (moment : ℕ) (b : Bool) (h : Option ℕ) (o : Outcome V F) → S.core.there w.catalog (S.core.key_of a) ≡ b → holder (w.spot (S.core.key_of a)).pend ≡ h → S.core.act w.catalog a (w.spot (S.core.key_of a)).row ≡ o → May S.core w (where_so (is_written {K = K} {V = V} {A = A} {F = F} {B = B} (write_answer b h (w.spot (S.core.key_of a)).row o)) (Wrote a moment))
    may_write a moment false h o is_there is_held is_out = tt
    may_write a moment true (Some n) o is_there is_held is_out = tt
    may_write a moment true None (New v) is_there is_held is_out =
        record { there = is_there; unheld = unheld (w.spot (S.core.key_of a)).pend is_held; fits = subst (λ x. IsNew x) (sym is_out) tt }
    may_write a moment true None Unmet is_there is_held is_out = tt
    may_write a moment true None (Fails fault) is_there is_held is_out = tt

    pub may_expire : (a : A) (moment : ℕ) (b : Bool) (h : Option ℕ) (over : Option V) (o : Outcome V F) → S.core.there w.catalog (S.core.key_of a) ≡ b → holder (w.spot (S.core.key_of a)).pend ≡ h → S.core.act w.catalog a (w.spot (S.core.key_of a)).row ≡ o → May S.core w (where_so (is_expired {K = K} {V = V} {A = A} {F = F} {B = B} (expire_answer b h over o)) (Wrote a moment))
    may_expire a moment false h over o is_there is_held is_out = tt
    may_expire a moment true (Some n) over o is_there is_held is_out = tt
    may_expire a moment true None None o is_there is_held is_out = tt
    may_expire a moment true None (Some old) (New None) is_there is_held is_out =
        record { there = is_there; unheld = unheld (w.spot (S.core.key_of a)).pend is_held; fits = subst (λ x. IsNew x) (sym is_out) tt }
    may_expire a moment true None (Some old) (New (Some v)) is_there is_held is_out = tt
    may_expire a moment true None (Some old) Unmet is_there is_held is_out = tt
    may_expire a moment true None (Some old) (Fails fault) is_there is_held is_out = tt

    pub may_prepare : (n : ℕ) (stamp : Stamp) (a : A) → n < w.ledger.next → stamp ≡ w.ledger.stamp n → action_on S.core w.ledger n (S.core.key_of a) ≡ Some a → (b : Bool) (h : Option ℕ) (o : Outcome V F) → S.core.there w.catalog (S.core.key_of a) ≡ b → holder (w.spot (S.core.key_of a)).pend ≡ h → S.core.act w.catalog a (w.spot (S.core.key_of a)).row ≡ o → May S.core w (where_so (is_accepted {K = K} {V = V} {A = A} {F = F} {B = B} (prepare_answer b h n (last (here S.core w (S.core.key_of a)) (w.spot (S.core.key_of a))) stamp (w.spot (S.core.key_of a)).row o)) (Prepared n stamp a))
    may_prepare n stamp a begun its_stamp its_action false h o is_there is_held is_out = tt
    may_prepare n stamp a begun its_stamp its_action true (Some m) o is_there is_held is_out =
        cond_both (nat_eq m n) Answer.Accepted (Answer.Held m) (λ x. May S.core w (where_so (is_accepted {K = K} {V = V} {A = A} {F = F} {B = B} x) (Prepared n stamp a)))
        (λ e.
        let p = held (w.spot (S.core.key_of a)).pend m is_held in
        record { there = is_there; begun = begun; its_stamp = its_stamp; its_action = its_action; ready = subst (λ x. IsReady S.core w n stamp a x) (sym p.1) (p.2 ∙ eqb-true m n e) })
        (λ e. tt)
    may_prepare n stamp a begun its_stamp its_action true None o is_there is_held is_out =
        cond_both (earlier (last (here S.core w (S.core.key_of a)) (w.spot (S.core.key_of a))) stamp)
        (outcome_answer (w.spot (S.core.key_of a)).row o) (Answer.Late (last (here S.core w (S.core.key_of a)) (w.spot (S.core.key_of a))))
        (λ x. May S.core w (where_so (is_accepted {K = K} {V = V} {A = A} {F = F} {B = B} x) (Prepared n stamp a)))
        (λ e. by_outcome e o is_out)
        (λ e. tt)
      where
        by_outcome : earlier (last (here S.core w (S.core.key_of a)) (w.spot (S.core.key_of a))) stamp ≡ true → (x : Outcome V F) → S.core.act w.catalog a (w.spot (S.core.key_of a)).row ≡ x → May S.core w (where_so (is_accepted {K = K} {V = V} {A = A} {F = F} {B = B} (outcome_answer (w.spot (S.core.key_of a)).row x)) (Prepared n stamp a))
        by_outcome e (New v) out =
            record {
              there = is_there;
              begun = begun;
              its_stamp = its_stamp;
              its_action = its_action;
              ready = subst (λ x. IsReady S.core w n stamp a x) (sym (unheld (w.spot (S.core.key_of a)).pend is_held)) (e, subst (λ x. IsNew x) (sym out) tt);
            }
        by_outcome e Unmet out = tt
        by_outcome e (Fails fault) out = tt

    pub may_apply : (n : ℕ) (k : K) → w.ledger.fate n ≡ Committed → May S.core w (where_so (is_applied {K = K} {V = V} {A = A} {F = F} {B = B} (apply_answer (holder (w.spot k).pend) n)) (Applied n k))
    may_apply n k committed =
        cond_both (is_holder (holder (w.spot k).pend) n) Answer.Applied Answer.Nothing (λ x. May S.core w (where_so (is_applied {K = K} {V = V} {A = A} {F = F} {B = B} x) (Applied n k)))
        (λ e. (is_holder-true (holder (w.spot k).pend) n e, committed)) (λ e. tt)

    pub may_release : (n : ℕ) (k : K) → (w.ledger.fate n ≡ Cancelled) ⊎ (w.ledger.gone n ≡ true) → May S.core w (where_so (is_released {K = K} {V = V} {A = A} {F = F} {B = B} (release_answer (holder (w.spot k).pend) n)) (Released n k))
    may_release n k why =
        cond_both (is_holder (holder (w.spot k).pend) n) Answer.Released Answer.Nothing (λ x. May S.core w (where_so (is_released {K = K} {V = V} {A = A} {F = F} {B = B} x) (Released n k)))
        (λ e. (is_holder-true (holder (w.spot k).pend) n e, why)) (λ e. tt)

    pub may_begin : (actions : List A) (moment : ℕ) (b : Bool) (o : Option (KeptToken A)) → May S.core w (begin_effect {D = D} actions (begin_answer {K = K} {V = V} {F = F} {B = B} S.same_actions b o actions (record { moment = moment; number = w.ledger.next })))
    may_begin actions moment false o = tt
    may_begin actions moment true None = refl
    may_begin actions moment true (Some kept) =
        cond_both (S.same_actions kept.actions actions) (if is_some kept.completed then Answer.Repeat kept.number else Answer.Running kept.number) (Answer.Mismatch kept.number)
        (λ x. May S.core w (begin_effect {K = K} {V = V} {F = F} {D = D} {B = B} actions x))
        (λ e. cond_both (is_some kept.completed) (Answer.Repeat kept.number) (Answer.Running kept.number) (λ x. May S.core w (begin_effect {K = K} {V = V} {F = F} {D = D} {B = B} actions x)) (λ _. tt) (λ _. tt))
        (λ e. tt)

    pub may_decide : (n : ℕ) → n < w.ledger.next → (recorded : Bool) (fate : Fate) (commit : Bool) → w.ledger.fate n ≡ fate → (commit ≡ true → (q : K) → touches S.core w.ledger n q ≡ true → (w.spot q).accepted n ≡ true) → May S.core w (decide_effect {K = K} {D = D} n (decide_answer {K = K} {V = V} {A = A} {F = F} {B = B} recorded fate commit))
    may_decide n begun false fate commit is all_accepted = tt
    may_decide n begun true Undecided true is all_accepted = record { begun = begun; first = is; all_accepted = all_accepted refl }
    may_decide n begun true Undecided false is all_accepted = (begun, is)
    may_decide n begun true Committed commit is all_accepted = tt
    may_decide n begun true Cancelled commit is all_accepted = tt
    may_decide n begun true Gone commit is all_accepted = tt

    pub may_done : (n : ℕ) (b : Bool) → MayFinish S.core w n → May S.core w (where_so (is_finished {K = K} {V = V} {A = A} {F = F} {B = B} (done_answer b)) (Finished n))
    may_done n true may = may
    may_done n false may = tt

    pub may_forget : (n : ℕ) (b : Bool) → w.ledger.done n ≡ true → May S.core w (where_so (is_forgotten {K = K} {V = V} {A = A} {F = F} {B = B} (forget_answer b)) (Forgot n))
    may_forget n true done = done
    may_forget n false done = tt

    pub may_change : Good S.core w → (d : D) (moment : ℕ) → S.refuses d w.catalog ≡ None → IsClear S w d → MayChange S.core w d moment
    may_change g d moment named clear =
        record {
          stays = λ q p e. law.spares d moment w.catalog q named (unconcerned q p e (S.concerns d w.catalog q) refl) ((g.spots q).alive p e);
          acts_alike = λ q p a v e same. law.acts_alike d moment w.catalog q a v named (unconcerned q p e (S.concerns d w.catalog q) refl) ((g.spots q).alive p e) same;
        }
      where
        unconcerned : (q : K) (p : Pending V) → (w.spot q).pend ≡ Some p → (b : Bool) → S.concerns d w.catalog q ≡ b → S.concerns d w.catalog q ≡ false
        unconcerned q p e true h = none_some (w.spot q).pend p (clear q h) e
        unconcerned q p e false h = h

    pub may_command : Good S.core w → (d : D) (moment : ℕ) (a : Answer K V A F B) (o : Option B) → S.refuses d w.catalog ≡ o → IsRuled S w d moment o a → May S.core w (where_so (is_changed a) (Changed d moment))
    may_command g d moment a (Some told) named is = subst (λ x. May S.core w (where_so (is_changed x) (Changed d moment))) (sym is) tt
    may_command g d moment a None named (inl (n, is, way)) = subst (λ x. May S.core w (where_so (is_changed x) (Changed d moment))) (sym is) tt
    may_command g d moment a None named (inr (is, clear)) = subst (λ x. May S.core w (where_so (is_changed x) (Changed d moment))) (sym is) (by_ruling (S.rules d moment w.catalog))
      where
        by_ruling : (r : Ruling B) → May S.core w (where_so (is_changed (ruling_answer S r)) (Changed d moment))
        by_ruling (Carries told) = may_change g d moment named clear
        by_ruling (Refuses told) = tt
