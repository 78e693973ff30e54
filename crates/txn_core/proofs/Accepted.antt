-- What holds an item is what an accepted Prepare made.
use Rattle.std.proofs.Common.{◌≡◌, ◌⊎◌, inl, inr, ℕ, Bool, true, false, List, [], ◌∷◌, Option, None, Some, refl, sym, ap, ◌∙◌, subst}
use Rattle.std.proofs.lemmas.Bool.{cond_both}
use Rattle.txn_core.specs.declared.stamp.Stamp.{Stamp}
use Rattle.txn_core.specs.declared.fate.Fate.{Fate}
use Rattle.txn_core.specs.declared.message.Message.{Message}
use Rattle.txn_core.specs.declared.answer.Answer.{Answer}
use Rattle.txn_core.specs.declared.outcome.Outcome.{Outcome}
use Rattle.txn_core.specs.declared.outcome.Outcome.TheVariants.{New, Unmet, Fails}
use Rattle.txn_core.specs.Protocol.{after, IsNew}
use Rattle.txn_core.specs.Service.{Service, IsServiceLawful}
use Rattle.txn_core.specs.Effects.{Effect, Wrote, Prepared, Applied, Released, Finished, Forgot, Changed}
use Rattle.txn_core.specs.State.{Pending, State, hold, here, spot_wrote, spot_prepared, spot_applied, spot_released, state_after, step}
use Rattle.txn_core.specs.Runs.{IsReady, May}
use Rattle.txn_core.specs.History.{is_accepted, where_so, begin_effect, decide_effect, effect_of, effect, effects}
use Rattle.txn_core.specs.Laws.{AcceptedAs, IsAccepted, HeldIsAccepted}
use Rattle.txn_core.proofs.Kept.{good}
use Rattle.txn_core.proofs.LegalRuns.{legal_run}
use Rattle.txn_core.proofs.Readings.{tab_read}
use Rattle.txn_core.proofs.Writes.{catalog_is_serial}

new_is : {V F : Type 0} (o : Outcome V F) (old : Option V) → IsNew o → o ≡ New (after o old)
new_is (New v) old h = refl
new_is Unmet old h = absurd h
new_is (Fails fault) old h = absurd h

module _ {K A D : Type 0} (n : ℕ) (stamp : Stamp) (x : A) where
  where_other : (b : Bool) (e : Effect K A D) → (e ≡ Prepared n stamp x → ⊥) → where_so b e ≡ Prepared n stamp x → ⊥
  where_other true e other h = other h
  where_other false e other h = cc

module _ {K V A F D B : Type 0} (n : ℕ) (stamp : Stamp) (x : A) where
  begin_other : (actions : List A) (a : Answer K V A F B) → begin_effect {D = D} actions a ≡ Prepared n stamp x → ⊥
  begin_other actions (Answer.Begun j t) h = cc
  begin_other actions _ h = cc

  decide_other : (j : ℕ) (a : Answer K V A F B) → decide_effect {D = D} j a ≡ Prepared n stamp x → ⊥
  decide_other j (Answer.Decided Fate.Committed true) h = cc
  decide_other j (Answer.Decided Fate.Cancelled true) h = cc
  decide_other j _ h = cc

  accepted_only : (j : ℕ) (t : Stamp) (b : A) (a : Answer K V A F B) → where_so {K = K} {D = D} (is_accepted a) (Prepared j t b) ≡ Prepared n stamp x
      → (j ≡ n) × (t ≡ stamp) × (b ≡ x) × (a ≡ Answer.Accepted)
  accepted_only j t b Answer.Accepted h = (cc, cc, cc, refl)
  accepted_only j t b _ h = absurd (cc)

module _ {K V A F D Q B : Type 0} (n : ℕ) (stamp : Stamp) (x : A) where
  -- the effect of a Prepare is that of an accepted one
  prepared_by : (moment : ℕ) (m : Message K V A F D Q) (a : Answer K V A F B) → effect_of moment m a ≡ Prepared n stamp x
      → (m ≡ Message.Prepare n stamp x) × (a ≡ Answer.Accepted)
  prepared_by moment (Message.Prepare j t b) a h = let p = accepted_only n stamp x j t b a h in (λ i. Message.Prepare (p.0 i) (p.1 i) (p.2 i), p.3)
  prepared_by moment (Message.Write action) a h = absurd (where_other n stamp x _ (Wrote action moment) (λ e. cc) h)
  prepared_by moment (Message.Expire action) a h = absurd (where_other n stamp x _ (Wrote action moment) (λ e. cc) h)
  prepared_by moment (Message.Apply j key) a h = absurd (where_other n stamp x _ (Applied j key) (λ e. cc) h)
  prepared_by moment (Message.Release j key) a h = absurd (where_other n stamp x _ (Released j key) (λ e. cc) h)
  prepared_by moment (Message.Begin token actions) a h = absurd (begin_other n stamp x actions a h)
  prepared_by moment (Message.Decide j commit reasons) a h = absurd (decide_other n stamp x j a h)
  prepared_by moment (Message.Done j) a h = absurd (where_other n stamp x _ (Finished j) (λ e. cc) h)
  prepared_by moment (Message.Forget j) a h = absurd (where_other n stamp x _ (Forgot j) (λ e. cc) h)
  prepared_by moment (Message.Command d) a h = absurd (where_other n stamp x _ (Changed d moment) (λ e. cc) h)
  prepared_by moment _ a h = absurd (cc)

module _ {K V A F C D Q B : Type 0} (S : Service K V A F C D Q B) (law : IsServiceLawful S) where
  -- what an accepted action makes of an item
  abbrev made : State K V A C → ℕ → Stamp → A → K → Pending V
  made w n stamp a q = record { number = n; stamp = stamp; image = after (S.core.act w.catalog a (w.spot q).row) (w.spot q).row }

  -- what holds an item after an effect held it before, or was made by it
  abbrev IsHeldBy : State K V A C → Effect K A D → K → Pending V → Type 0
  IsHeldBy w e q p =
      ((w.spot q).pend ≡ Some p)
      ⊎ ((n : ℕ) × (stamp : Stamp) × (a : A) × (e ≡ Prepared n stamp a) × (S.core.same (S.core.key_of a) q ≡ true) × ((w.spot q).pend ≡ None) × (made w n stamp a q ≡ p))

  module _ (w : State K V A C) (q : K) (p : Pending V) where
    by_hold : (n : ℕ) (stamp : Stamp) (a : A) → S.core.same (S.core.key_of a) q ≡ true → (o : Option (Pending V)) → (w.spot q).pend ≡ o
        → hold o (made w n stamp a q) ≡ Some p → IsHeldBy w (Prepared n stamp a) q p
    by_hold n stamp a same None free h = inr (n, stamp, a, refl, same, free, cc)
    by_hold n stamp a same (Some y) held h = inl (held ∙ h)

    held_by : (e : Effect K A D) → ((step S.core w e).spot q).pend ≡ Some p → IsHeldBy w e q p
    held_by (Wrote a moment) h =
        let x = S.core.key_of a in
        cond_both (S.core.same x q) (spot_wrote S.core w.catalog (here S.core w x) a moment (w.spot q)) (w.spot q) (λ s. s.pend ≡ Some p → IsHeldBy w (Wrote a moment) q p) (λ _ k. inl k) (λ _ k. inl k) h
    held_by (Prepared n stamp a) h =
        cond_both (S.core.same (S.core.key_of a) q) (spot_prepared S.core w.catalog n stamp a (w.spot q)) (w.spot q) (λ s. s.pend ≡ Some p → IsHeldBy w (Prepared n stamp a) q p)
        (λ same k. by_hold n stamp a same (w.spot q).pend refl k) (λ _ k. inl k) h
    held_by (Applied n x) h =
        cond_both (S.core.same x q) (spot_applied (here S.core w x) n (w.spot q)) (w.spot q) (λ s. s.pend ≡ Some p → IsHeldBy w (Applied n x) q p) (λ _ k. absurd (cc)) (λ _ k. inl k) h
    held_by (Released n x) h =
        cond_both (S.core.same x q) (spot_released (w.spot q)) (w.spot q) (λ s. s.pend ≡ Some p → IsHeldBy w (Released n x) q p) (λ _ k. absurd (cc)) (λ _ k. inl k) h
    held_by _ h = inl h

  pub held_is_accepted : HeldIsAccepted S
  held_is_accepted [] legal q p h = absurd (cc)
  held_is_accepted (e ∷ es) legal q p h = by_effect (held_by (state_after S.core (effects es)) q p (effect e) h) (λ before. held_is_accepted es legal.0 q p before)
    where
      by_effect : IsHeldBy (state_after S.core (effects es)) (effect e) q p → (((state_after S.core (effects es)).spot q).pend ≡ Some p → IsAccepted S es q p) → IsAccepted S (e ∷ es) q p
      by_effect (inl before) older = let r = older before in record { action = r.action; its = r.its; was = inr r.was }
      by_effect (inr (n, stamp, a, is, same, free, its)) older =
          let w = state_after S.core (effects es) in
          let run = legal_run S law (e ∷ es) legal in
          let message = prepared_by n stamp a e.moment e.message e.answer is in
          let may = subst (λ x. May S.core w x) is run.1 in
          let key = law.index.feed.exact (S.core.key_of a) q same in
          let free' : (w.spot (S.core.key_of a)).pend ≡ None = ap (λ k. (w.spot k).pend) key ∙ free in
          let ready = subst (λ o. IsReady S.core w n stamp a o) free' may.ready in
          let row = ((good S.core law.core (effects es) run.0).spots (S.core.key_of a)).free free' ∙ tab_read S.core (effects es) run.0 (S.core.key_of a) in
          let cat = catalog_is_serial S law es in
          record {
            action = a;
            its = key;
            was = subst (λ (y : Pending V). AcceptedAs S (e ∷ es) y.number y.stamp a y.image) its
                (inl (
                  message.0,
                  message.1,
                  sym (λ j. S.core.act (cat j) a (row j)) ∙ new_is (S.core.act w.catalog a (w.spot (S.core.key_of a)).row) (w.spot (S.core.key_of a)).row ready.1
                      ∙ (λ j. New (after (S.core.act w.catalog a (w.spot (key j)).row) (w.spot (key j)).row)),
                ));
          }
