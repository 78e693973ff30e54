-- After every run, each item and the ledger are as they should be.
use Rattle.std.proofs.Common.{◌≡◌, ◌≢◌, ◌⊎◌, inl, inr, cond, ℕ, ◌<◌, Bool, true, false, List, [], ◌∷◌, Option, None, Some, is_some, refl, sym, ap, ◌∙◌, subst, arith}
use Rattle.std.specs.List.{find}
use Rattle.std.proofs.lemmas.Bool.{cond_both}
use Rattle.txn_core.specs.declared.stamp.Stamp.{Stamp}
use Rattle.txn_core.specs.declared.fate.Fate.TheVariants.{Undecided, Committed, Cancelled}
use Rattle.txn_core.specs.Stamps.{earlier, IsBy, single}
use Rattle.txn_core.specs.Protocol.{after, IsNew, Protocol, IsLawful}
use Rattle.txn_core.specs.Effects.{Effect, Wrote, Begun, Prepared, Commits, Cancels, Applied, Released, Finished, Forgot, Changed, Quiet}
use Rattle.txn_core.specs.State.{Pending, Spot, Tally, Ledger, State, holder, last, action_on, touches, at, hold, image_or, stamp_or, tally_after, spot_wrote, spot_prepared, spot_applied, spot_released, spot_commits, spot_changed, here, on_key, step, start, state_after}
use Rattle.txn_core.specs.Runs.{May, IsRun, MayWrite, MayPrepare, MayCommit, MayFinish, MayChange, IsReady}
use Rattle.txn_core.proofs.Basics.{none_some, true_false, at_split, held}
use Rattle.txn_core.proofs.Invariant.{GoodSpot, Good}
use Rattle.txn_core.proofs.Local.{floor_rises, kept_floor, kept_wrote, kept_hold, kept_again, kept_applied, kept_released}
use Rattle.txn_core.proofs.Ends.{kept_begun, kept_commit_away, kept_commit_here, kept_cancel, kept_finished, kept_forgot, kept_changed}

-- the same test of each element finds the same
find_alike : {X : Type 0} (f g : X → Bool) → ((x : X) → f x ≡ g x) → (xs : List X) → find f xs ≡ find g xs
find_alike f g e [] = refl
find_alike f g e (x ∷ xs) = λ i. cond (e x i) (Some x) (find_alike f g e xs i)

module _ {K V A F C D : Type 0} (P : Protocol K V A F C D) (law : IsLawful P) where
  pub action_alike : (l : Ledger A) (n : ℕ) (x y : K) → P.same x y ≡ true → action_on P l n x ≡ action_on P l n y
  action_alike l n x y e = find_alike (λ a. P.same (P.key_of a) x) (λ a. P.same (P.key_of a) y) (λ a. law.moved x y (P.key_of a) e) (l.actions n)

  module _ (w : State K V A C) (good : Good P w) where
    -- one item changes: its own facts are shown where it changed, and the floor of its cell doesn't fall
    kept_on_key : (k : K) (f : Spot V → Spot V) (c : Tally) → ((q : K) → P.same k q ≡ true → GoodSpot P w.ledger w.catalog (here P w k) q (w.spot q) → GoodSpot P w.ledger w.catalog c q (f (w.spot q))) → ((t : Stamp) → IsBy t (here P w k).floor → IsBy t c.floor) → Good P (on_key P w k f c)
    kept_on_key k f c touched up =
        record {
          spots = λ q. cond_both (P.same k q) (f (w.spot q)) (w.spot q) (λ s. GoodSpot P w.ledger w.catalog (at w.cell (P.cell_of k) c (P.cell_of q)) q s) (there q) (beside q);
          alike = λ x y e i. cond (law.moved x y k e i) (f (good.alike x y e i)) (good.alike x y e i);
          decided = good.decided;
          ended = good.ended;
          fresh = good.fresh;
        }
      where
        there : (q : K) → P.same k q ≡ true → GoodSpot P w.ledger w.catalog (at w.cell (P.cell_of k) c (P.cell_of q)) q (f (w.spot q))
        there q e =
            let one = law.one_cell k q e in
            at_split w.cell (P.cell_of k) c (P.cell_of q) (λ d. GoodSpot P w.ledger w.catalog d q (f (w.spot q)))
            (λ m. touched q e (subst (λ i. GoodSpot P w.ledger w.catalog (w.cell i) q (w.spot q)) (sym one) (good.spots q)))
            (λ m. absurd (m one))

        beside : (q : K) → P.same k q ≡ false → GoodSpot P w.ledger w.catalog (at w.cell (P.cell_of k) c (P.cell_of q)) q (w.spot q)
        beside q e =
            at_split w.cell (P.cell_of k) c (P.cell_of q) (λ d. GoodSpot P w.ledger w.catalog d q (w.spot q))
            (λ m. kept_floor P law w.ledger w.catalog (w.cell (P.cell_of k)) q (w.spot q) c up (subst (λ i. GoodSpot P w.ledger w.catalog (w.cell i) q (w.spot q)) (sym m) (good.spots q)))
            (λ m. good.spots q)

    there_too : (k q : K) → P.same k q ≡ true → P.there w.catalog k ≡ true → P.there w.catalog q ≡ true
    there_too k q e h = sym (law.one_place w.catalog k q e) ∙ h

    wrote : (a : A) (moment : ℕ) → MayWrite P w a → Good P (step P w (Wrote a moment))
    wrote a moment may =
        let k = P.key_of a in
        kept_on_key k (spot_wrote P w.catalog (here P w k) a moment)
        (tally_after (here P w k) (w.spot k) (after (P.act w.catalog a (w.spot k).row) (w.spot k).row) (single moment))
        (λ q e g.
        subst (λ (s : Spot V). GoodSpot P w.ledger w.catalog (tally_after (here P w k) s (after (P.act w.catalog a s.row) s.row) (single moment)) q (spot_wrote P w.catalog (here P w k) a moment (w.spot q))) (sym (good.alike k q e))
        (kept_wrote P law w.ledger w.catalog (here P w k) q (w.spot q) a moment (there_too k q e may.there) (subst (λ (s : Spot V). s.pend ≡ None) (good.alike k q e) may.unheld) g))
        (λ t h. floor_rises (here P w k) (w.spot k) (after (P.act w.catalog a (w.spot k).row) (w.spot k).row) (single moment) t h)

    prepared : (n : ℕ) (stamp : Stamp) (a : A) → MayPrepare P w n stamp a → Good P (step P w (Prepared n stamp a))
    prepared n stamp a may =
        let k = P.key_of a in
        kept_on_key k (spot_prepared P w.catalog n stamp a) (here P w k)
        (λ q e g. at_item q (good.alike k q e) e g (w.spot q).pend refl)
        (λ t h. h)
      where
        at_item : (q : K) → w.spot (P.key_of a) ≡ w.spot q → P.same (P.key_of a) q ≡ true → GoodSpot P w.ledger w.catalog (here P w (P.key_of a)) q (w.spot q) → (o : Option (Pending V)) → (w.spot q).pend ≡ o → GoodSpot P w.ledger w.catalog (here P w (P.key_of a)) q (spot_prepared P w.catalog n stamp a (w.spot q))
        at_item q one e g None free =
            let ready : IsReady P w n stamp a None = subst (λ o. IsReady P w n stamp a o) (ap (λ (s : Spot V). s.pend) one ∙ free) may.ready in
            kept_hold P law w.ledger w.catalog (here P w (P.key_of a)) q (w.spot q) n stamp a (there_too (P.key_of a) q e may.there) may.begun may.its_stamp
            (sym (action_alike w.ledger n (P.key_of a) q e) ∙ may.its_action) free
            (subst (λ (s : Spot V). earlier (last (here P w (P.key_of a)) s) stamp ≡ true) one ready.0)
            (subst (λ (s : Spot V). IsNew (P.act w.catalog a s.row)) one ready.1) g
        at_item q one e g (Some p) is_held =
            let its : p.number ≡ n = subst (λ o. IsReady P w n stamp a o) (ap (λ (s : Spot V). s.pend) one ∙ is_held) may.ready in
            let s : Spot V = w.spot q in
            let same : hold s.pend (record { number = n; stamp = stamp; image = after (P.act w.catalog a s.row) s.row }) ≡ s.pend =
            ap (λ o. hold o (record { number = n; stamp = stamp; image = after (P.act w.catalog a s.row) s.row })) is_held ∙ sym is_held in
            subst (λ o. GoodSpot P w.ledger w.catalog (here P w (P.key_of a)) q (record s { pend = o; accepted = at s.accepted n true })) (sym same)
            (kept_again P law w.ledger w.catalog (here P w (P.key_of a)) q s n stamp a p is_held its g)

    applied : (n : ℕ) (k : K) → holder (w.spot k).pend ≡ Some n → w.ledger.fate n ≡ Committed → Good P (step P w (Applied n k))
    applied n k holds committed =
        kept_on_key k (spot_applied (here P w k) n)
        (tally_after (here P w k) (w.spot k) (image_or (w.spot k).row (w.spot k).pend) (stamp_or (w.spot k).stamp (w.spot k).pend))
        (λ q e g.
        let h = held (w.spot q).pend n (subst (λ (s : Spot V). holder s.pend ≡ Some n) (good.alike k q e) holds) in
        subst (λ (s : Spot V). GoodSpot P w.ledger w.catalog (tally_after (here P w k) s (image_or s.row s.pend) (stamp_or s.stamp s.pend)) q (spot_applied (here P w k) n (w.spot q))) (sym (good.alike k q e))
        (kept_applied P law w.ledger w.catalog (here P w k) q (w.spot q) n h.0 h.1 h.2 committed g))
        (λ t h. floor_rises (here P w k) (w.spot k) (image_or (w.spot k).row (w.spot k).pend) (stamp_or (w.spot k).stamp (w.spot k).pend) t h)

    -- a number that is released is cancelled, or forgotten and then no commit that still holds an item
    pub released_open : (n : ℕ) (k : K) → holder (w.spot k).pend ≡ Some n → (w.ledger.fate n ≡ Cancelled) ⊎ (w.ledger.gone n ≡ true) → (w.ledger.fate n ≢ Committed) × (w.ledger.fate n ≢ Undecided)
    released_open n k holds (inl cancelled) = (λ h. cc, λ h. cc)
    released_open n k holds (inr gone) =
        let done = good.ended n gone in
        let h = held (w.spot k).pend n holds in
        let g = good.spots k in (
          λ committed.
              true_false ((w.spot k).applied n)
              (g.finished n done committed (subst (λ x. touches P w.ledger x k ≡ true) h.2 (g.named h.0 h.1)))
              (subst (λ x. (w.spot k).applied x ≡ false) h.2 (g.once h.0 h.1)),
          good.decided n done,
        )

    released : (n : ℕ) (k : K) → holder (w.spot k).pend ≡ Some n → (w.ledger.fate n ≡ Cancelled) ⊎ (w.ledger.gone n ≡ true) → Good P (step P w (Released n k))
    released n k holds why =
        let ends = released_open n k holds why in
        kept_on_key k (λ s. spot_released s) (here P w k)
        (λ q e g.
        let h = held (w.spot q).pend n (subst (λ (s : Spot V). holder s.pend ≡ Some n) (good.alike k q e) holds) in
        kept_released P law w.ledger w.catalog (here P w k) q (w.spot q) n h.0 h.1 h.2 ends.0 ends.1 g)
        (λ t h. h)

    begun : (stamp : Stamp) (actions : List A) → Good P (step P w (Begun stamp actions))
    begun stamp actions =
        record {
          spots = λ q. kept_begun P w.ledger w.catalog (w.cell (P.cell_of q)) q (w.spot q) stamp actions good.fresh (good.spots q);
          alike = good.alike;
          decided = good.decided;
          ended = good.ended;
          fresh = λ n h. good.fresh n (omega arith);
        }

    commits : (n : ℕ) → MayCommit P w n → Good P (step P w (Commits n))
    commits n may =
        record {
          spots = λ q. at_item q (action_on P w.ledger n q) refl;
          alike = λ x y e i. spot_commits P w.catalog (action_alike w.ledger n x y e i) n (good.alike x y e i);
          decided = λ m d. at_split w.ledger.fate n Committed m (λ x. x ≢ Undecided) (λ e h. cc) (λ e. good.decided m d);
          ended = good.ended;
          fresh = λ m h. at_split w.ledger.fate n Committed m (λ x. x ≡ Undecided) (λ e. let b = may.begun in absurd (omega arith)) (λ e. good.fresh m h);
        }
      where
        at_item : (q : K) (o : Option A) → action_on P w.ledger n q ≡ o → GoodSpot P (record w.ledger { fate = at w.ledger.fate n Committed }) w.catalog (w.cell (P.cell_of q)) q (spot_commits P w.catalog (action_on P w.ledger n q) n (w.spot q))
        at_item q None e =
            kept_commit_away P w.ledger w.catalog (w.cell (P.cell_of q)) q (w.spot q) n may.first good.decided (ap (λ o. is_some o) e) (good.spots q)
        at_item q (Some a) e =
            let g = good.spots q in
            let h = held (w.spot q).pend n (g.ready n may.first (may.all_accepted q (ap (λ o. is_some o) e))) in
            kept_commit_here P w.ledger w.catalog (w.cell (P.cell_of q)) q (w.spot q) n h.0 a may.first good.decided h.1 h.2 e g

    cancels : (n : ℕ) → n < w.ledger.next → w.ledger.fate n ≡ Undecided → Good P (step P w (Cancels n))
    cancels n drawn first =
        record {
          spots = λ q. kept_cancel P w.ledger w.catalog (w.cell (P.cell_of q)) q (w.spot q) n first (good.spots q);
          alike = good.alike;
          decided = λ m d. at_split w.ledger.fate n Cancelled m (λ x. x ≢ Undecided) (λ e h. cc) (λ e. good.decided m d);
          ended = good.ended;
          fresh = λ m h. at_split w.ledger.fate n Cancelled m (λ x. x ≡ Undecided) (λ e. absurd (omega arith)) (λ e. good.fresh m h);
        }

    finishes : (n : ℕ) → MayFinish P w n → Good P (step P w (Finished n))
    finishes n may =
        record {
          spots = λ q. kept_finished P w.ledger w.catalog (w.cell (P.cell_of q)) q (w.spot q) n (λ f t. may.all_applied f q t) (good.spots q);
          alike = good.alike;
          decided = λ m d. at_split w.ledger.done n true m (λ b. b ≡ true → w.ledger.fate m ≢ Undecided) (λ e k. subst (λ x. w.ledger.fate x ≢ Undecided) e may.known) (λ e k. good.decided m k) d;
          ended = λ m h. at_split w.ledger.done n true m (λ b. b ≡ true) (λ e. refl) (λ e. good.ended m h);
          fresh = good.fresh;
        }

    forgets : (n : ℕ) → w.ledger.done n ≡ true → Good P (step P w (Forgot n))
    forgets n done =
        record {
          spots = λ q. kept_forgot P w.ledger w.catalog (w.cell (P.cell_of q)) q (w.spot q) n (good.spots q);
          alike = good.alike;
          decided = good.decided;
          ended = λ m h. at_split w.ledger.gone n true m (λ b. b ≡ true → w.ledger.done m ≡ true) (λ e k. subst (λ x. w.ledger.done x ≡ true) e done) (λ e k. good.ended m k) h;
          fresh = good.fresh;
        }

    changes : (d : D) (moment : ℕ) → MayChange P w d moment → Good P (step P w (Changed d moment))
    changes d moment may =
        record {
          spots = λ q. kept_changed P w.ledger w.catalog (w.cell (P.cell_of q)) q (w.spot q) law d moment (may.stays q) (may.acts_alike q) (good.spots q);
          alike = λ x y e i. spot_changed (w.cell (law.one_cell x y e i)) moment (law.one_place w.catalog x y e i) (law.one_place (P.change d moment w.catalog) x y e i) (law.one_gift d w.catalog x y e i) (good.alike x y e i);
          decided = good.decided;
          ended = good.ended;
          fresh = good.fresh;
        }

    -- whatever may happen keeps all of it
    kept : (e : Effect K A D) → May P w e → Good P (step P w e)
    kept (Wrote a moment) may = wrote a moment may
    kept (Begun stamp actions) may = begun stamp actions
    kept (Prepared n stamp a) may = prepared n stamp a may
    kept (Commits n) may = commits n may
    kept (Cancels n) may = cancels n may.0 may.1
    kept (Applied n k) may = applied n k may.0 may.1
    kept (Released n k) may = released n k may.0 may.1
    kept (Finished n) may = finishes n may
    kept (Forgot n) may = forgets n may
    kept (Changed d moment) may = changes d moment may
    kept Quiet may = good

  started : Good P (start P)
  started =
      record {
        spots = λ q. record {
          drawn = λ p e. gone p e;
          stamped = λ p e. gone p e;
          named = λ p e. gone p e;
          image = λ p a e h. gone p e;
          alive = λ p e. gone p e;
          once = λ p e. gone p e;
          above = λ p m e h. gone p e;
          open_ = λ p e h. gone p e;
          veiled = λ p e h. gone p e;
          free = λ e. refl;
          waits = λ m f t h. absurd (cc);
          settled = λ m h. absurd (cc);
          ready = λ m f h. absurd (cc);
          finished = λ m d f t. absurd (cc);
          late = λ m t h. absurd (cc);
          unborn = λ h. (refl, λ m. refl);
          absent = λ h. refl;
        };
        alike = λ x y e. refl;
        decided = λ n d. absurd (cc);
        ended = λ n h. absurd (cc);
        fresh = λ n h. refl;
      }
    where
      gone : {Q : Type 0} (p : Pending V) → None ≡ Some p → Q
      gone p e = none_some None p refl e

  -- after every run
  pub good : (es : List (Effect K A D)) → IsRun P es → Good P (state_after P es)
  good [] run = started
  good (e ∷ es) run = kept (state_after P es) (good es run.0) e run.1
