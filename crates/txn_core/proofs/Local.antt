-- What each effect on an item keeps of that item, and of the others of its cell.
use Rattle.std.proofs.Common.{◌≡◌, ◌≢◌, ℕ, ◌<◌, Bool, true, false, Option, None, Some, is_some, if◌then◌else◌, refl, sym, ap, ◌∙◌, subst, arith}
use Rattle.txn_core.specs.declared.stamp.Stamp.{Stamp}
use Rattle.txn_core.specs.declared.fate.Fate.TheVariants.{Undecided, Committed}
use Rattle.txn_core.specs.Stamps.{earlier, later, IsBy, single}
use Rattle.txn_core.specs.declared.outcome.Outcome.TheVariants.{New}
use Rattle.txn_core.specs.Protocol.{after, IsNew, Protocol, IsLawful}
use Rattle.txn_core.specs.State.{Pending, Spot, Tally, Ledger, holder, last, action_on, touches, at, hold, image_or, stamp_or, tally_after, spot_wrote, spot_prepared, spot_applied, spot_released}
use Rattle.txn_core.proofs.Basics.{none_some, some_is, true_false, at_split, holder_is, is_some_of, new_is}
use Rattle.txn_core.proofs.StampLaws.{by_itself, by_earlier, by_left, by_right, by_before}
use Rattle.txn_core.proofs.Invariant.{GoodSpot}

-- the last stamp after a change of the item
last_after : {V : Type 0} (c : Tally) (s : Spot V) (v : Option V) (own stamp t : Stamp) → IsBy t stamp → IsBy t (later (later c.floor (last c s)) own) → IsBy t (if is_some v then stamp else (tally_after c s v own).floor)
last_after c s None own stamp t is_there gone = gone
last_after c s (Some x) own stamp t is_there gone = is_there

-- a floor never falls
pub floor_rises : {V : Type 0} (c : Tally) (s : Spot V) (v : Option V) (own t : Stamp) → IsBy t c.floor → IsBy t (tally_after c s v own).floor
floor_rises c s None own t h = by_left t (later c.floor (last c s)) own (by_left t c.floor (last c s) h)
floor_rises c s (Some x) own t h = h

last_rises : {V : Type 0} (c d : Tally) (s : Spot V) (t : Stamp) → (IsBy t c.floor → IsBy t d.floor) → IsBy t (last c s) → IsBy t (last d s)
last_rises c d s t up = go (is_some s.row)
  where
    go : (b : Bool) → IsBy t (if b then s.stamp else c.floor) → IsBy t (if b then s.stamp else d.floor)
    go true h = h
    go false h = up h

module _ {K V A F C D : Type 0} (P : Protocol K V A F C D) (law : IsLawful P) (l : Ledger A) (cat : C) (c : Tally) (q : K) (s : Spot V) where
  -- another item of the cell was changed
  pub kept_floor : (d : Tally) → ((t : Stamp) → IsBy t c.floor → IsBy t d.floor) → GoodSpot P l cat c q s → GoodSpot P l cat d q s
  kept_floor d up g =
      record {
        drawn = g.drawn;
        stamped = g.stamped;
        named = g.named;
        image = g.image;
        alive = g.alive;
        once = g.once;
        above = g.above;
        open_ = g.open_;
        veiled = g.veiled;
        free = g.free;
        waits = g.waits;
        settled = g.settled;
        ready = g.ready;
        finished = g.finished;
        late = λ n t h. last_rises c d s (l.stamp n) (up (l.stamp n)) (g.late n t h);
        unborn = g.unborn;
        absent = g.absent;
      }

  pub kept_wrote : (a : A) (moment : ℕ) → P.there cat q ≡ true → s.pend ≡ None → GoodSpot P l cat c q s → GoodSpot P l cat (tally_after c s (after (P.act cat a s.row) s.row) (single moment)) q (spot_wrote P cat c a moment s)
  kept_wrote a moment is_there unheld g =
      record {
        drawn = g.drawn;
        stamped = g.stamped;
        named = g.named;
        alive = g.alive;
        once = g.once;
        above = g.above;
        image = λ p b e h. none_some s.pend p unheld e;
        open_ = λ p e h. none_some s.pend p unheld e;
        veiled = λ p e h. none_some s.pend p unheld e;
        free = λ e. ap (λ v. after (P.act cat a v) v) (g.free e);
        waits = g.waits;
        settled = g.settled;
        ready = g.ready;
        finished = g.finished;
        late = λ n t h.
            let b = g.late n t h in
            last_after c s (after (P.act cat a s.row) s.row) (single moment) (later (last c s) (single moment)) (l.stamp n)
            (by_left (l.stamp n) (last c s) (single moment) b)
            (by_left (l.stamp n) (later c.floor (last c s)) (single moment) (by_right (l.stamp n) c.floor (last c s) b));
        unborn = g.unborn;
        absent = λ h. true_false (P.there cat q) is_there h;
      }

  -- a free item is held
  pub kept_hold : (n : ℕ) (stamp : Stamp) (a : A) → P.there cat q ≡ true → n < l.next → stamp ≡ l.stamp n → action_on P l n q ≡ Some a → s.pend ≡ None → earlier (last c s) stamp ≡ true → IsNew (P.act cat a s.row) → GoodSpot P l cat c q s → GoodSpot P l cat c q (spot_prepared P cat n stamp a s)
  kept_hold n stamp a is_there begun its_stamp its_action unheld early fits g =
      record {
        drawn = λ p e. subst (λ (z : Pending V). z.number < l.next) (is_pending p e) begun;
        stamped = λ p e. subst (λ (z : Pending V). z.stamp ≡ l.stamp z.number) (is_pending p e) its_stamp;
        named = λ p e. subst (λ (z : Pending V). touches P l z.number q ≡ true) (is_pending p e) (is_some_of (action_on P l n q) a its_action);
        image = λ p b e h.
            subst (λ (z : Pending V). action_on P l z.number q ≡ Some b → P.act cat b s.row ≡ New z.image) (is_pending p e)
            (λ k. ap (λ x. P.act cat x s.row) (some_is b a (sym k ∙ its_action)) ∙ new_is (P.act cat a s.row) s.row fits) h;
        alive = λ p e. is_there;
        once = λ p e. subst (λ (z : Pending V). s.applied z.number ≡ false) (is_pending p e) (never (s.applied n) refl);
        above = λ p m e h. subst (λ (z : Pending V). earlier (l.stamp m) z.stamp ≡ true) (is_pending p e) (by_before (l.stamp m) (last c s) stamp (g.late m is_there h) early);
        open_ = λ p e h. g.free unheld;
        veiled = λ p e h.
            let k = g.waits n (subst (λ (z : Pending V). l.fate z.number ≡ Committed) (sym (is_pending p e)) h) (is_some_of (action_on P l n q) a its_action) (never (s.applied n) refl) in
            nobody n k;
        free = λ e. none_some (hold s.pend pending) pending e is_held;
        waits = λ m f t h. nobody m (g.waits m f t h);
        settled = g.settled;
        ready = λ m f h.
            at_split s.accepted n true m (λ b. b ≡ true → holder (hold s.pend pending) ≡ Some m)
            (λ e k. holder_is (hold s.pend pending) pending is_held ∙ ap Some e)
            (λ e k. nobody m (g.ready m f k)) h;
        finished = g.finished;
        late = g.late;
        unborn = λ h. let k = law.known cat q is_there in absurd (omega arith);
        absent = g.absent;
      }
    where
      pending : Pending V
      pending = record { number = n; stamp = stamp; image = after (P.act cat a s.row) s.row }

      is_held : hold s.pend (record { number = n; stamp = stamp; image = after (P.act cat a s.row) s.row }) ≡ Some (record { number = n; stamp = stamp; image = after (P.act cat a s.row) s.row })
      is_held = ap (λ o. hold o (record { number = n; stamp = stamp; image = after (P.act cat a s.row) s.row })) unheld

      is_pending : (p : Pending V) → hold s.pend (record { number = n; stamp = stamp; image = after (P.act cat a s.row) s.row }) ≡ Some p → record { number = n; stamp = stamp; image = after (P.act cat a s.row) s.row } ≡ p
      is_pending p e = some_is (record { number = n; stamp = stamp; image = after (P.act cat a s.row) s.row }) p (sym is_held ∙ e)

      nobody : {Q : Type 0} (m : ℕ) → holder s.pend ≡ Some m → Q
      nobody m e = none_some (holder s.pend) m (ap (λ o. holder o) unheld) e

      never : (b : Bool) → s.applied n ≡ b → s.applied n ≡ false
      never false e = e
      never true e =
          let h = g.late n is_there e in
          true_false (earlier (last c s) stamp) early (subst (λ t. earlier (last c s) t ≡ false) (sym its_stamp) h)

  -- a held item is asked for again
  pub kept_again : (n : ℕ) (stamp : Stamp) (a : A) (p : Pending V) → s.pend ≡ Some p → p.number ≡ n → GoodSpot P l cat c q s → GoodSpot P l cat c q (record s { accepted = at s.accepted n true })
  kept_again n stamp a p is_held its g =
      record {
        drawn = g.drawn;
        stamped = g.stamped;
        named = g.named;
        image = g.image;
        alive = g.alive;
        once = g.once;
        above = g.above;
        open_ = g.open_;
        veiled = g.veiled;
        free = g.free;
        waits = g.waits;
        settled = g.settled;
        ready = λ m f h.
            at_split s.accepted n true m (λ b. b ≡ true → holder s.pend ≡ Some m)
            (λ e k. holder_is s.pend p is_held ∙ ap Some (its ∙ e))
            (λ e k. g.ready m f k) h;
        finished = g.finished;
        late = g.late;
        unborn = g.unborn;
        absent = g.absent;
      }

  -- the transaction that holds the item is applied on it
  pub kept_applied : (n : ℕ) (p : Pending V) → s.pend ≡ Some p → p.number ≡ n → l.fate n ≡ Committed → GoodSpot P l cat c q s → GoodSpot P l cat (tally_after c s (image_or s.row s.pend) (stamp_or s.stamp s.pend)) q (spot_applied c n s)
  kept_applied n p is_held its committed g =
      record {
        drawn = λ o e. gone o e;
        stamped = λ o e. gone o e;
        named = λ o e. gone o e;
        image = λ o b e h. gone o e;
        alive = λ o e. gone o e;
        once = λ o e. gone o e;
        above = λ o m e h. gone o e;
        open_ = λ o e h. gone o e;
        veiled = λ o e h. gone o e;
        free = λ e. ap (λ o. image_or s.row o) is_held ∙ sym (g.veiled p is_held its_fate).0;
        waits = λ m f t h.
            at_split s.applied n true m (λ b. b ≡ false → holder {V = V} None ≡ Some m)
            (λ e k. true_false true refl k)
            (λ e k. absurd (e (holds m (g.waits m f t k)))) h;
        settled = λ m h. at_split s.applied n true m (λ b. b ≡ true → l.fate m ≡ Committed) (λ e k. subst (λ x. l.fate x ≡ Committed) e committed) (λ e k. g.settled m k) h;
        ready = λ m f h. let e = holds m (g.ready m f h) in let k = subst (λ x. l.fate x ≡ Committed) e committed in absurd (cc);
        finished = λ m d f t. at_split s.applied n true m (λ b. b ≡ true) (λ e. refl) (λ e. g.finished m d f t);
        late = λ m t h.
            let before : IsBy (l.stamp m) (stamp_or s.stamp s.pend) =
            at_split s.applied n true m (λ b. b ≡ true → IsBy (l.stamp m) (stamp_or s.stamp s.pend))
            (λ e k. subst (λ x. IsBy (l.stamp m) x) (sym own) (subst (λ x. IsBy (l.stamp m) x) (sym (g.stamped p is_held ∙ ap l.stamp (its ∙ e))) (by_itself (l.stamp m))))
            (λ e k. subst (λ x. IsBy (l.stamp m) x) (sym own) (by_earlier (l.stamp m) p.stamp (g.above p m is_held k))) h in
            last_after c s (image_or s.row s.pend) (stamp_or s.stamp s.pend) (stamp_or s.stamp s.pend) (l.stamp m) before
            (by_right (l.stamp m) (later c.floor (last c s)) (stamp_or s.stamp s.pend) before);
        unborn = λ h. none_some s.pend p (g.unborn h).0 is_held;
        absent = λ h. true_false (P.there cat q) (g.alive p is_held) h;
      }
    where
      gone : {Q : Type 0} (o : Pending V) → None ≡ Some o → Q
      gone o e = none_some None o refl e

      its_fate : l.fate p.number ≡ Committed
      its_fate = subst (λ x. l.fate x ≡ Committed) (sym its) committed

      own : stamp_or s.stamp s.pend ≡ p.stamp
      own = ap (λ o. stamp_or s.stamp o) is_held

      holds : (m : ℕ) → holder s.pend ≡ Some m → n ≡ m
      holds m e = sym its ∙ some_is p.number m (sym (holder_is s.pend p is_held) ∙ e)

  -- an item is let go
  pub kept_released : (n : ℕ) (p : Pending V) → s.pend ≡ Some p → p.number ≡ n → l.fate n ≢ Committed → l.fate n ≢ Undecided → GoodSpot P l cat c q s → GoodSpot P l cat c q (spot_released s)
  kept_released n p is_held its uncommitted known g =
      record {
        drawn = λ o e. gone o e;
        stamped = λ o e. gone o e;
        named = λ o e. gone o e;
        image = λ o b e h. gone o e;
        alive = λ o e. gone o e;
        once = λ o e. gone o e;
        above = λ o m e h. gone o e;
        open_ = λ o e h. gone o e;
        veiled = λ o e h. gone o e;
        free = λ e. g.open_ p is_held (λ h. uncommitted (subst (λ x. l.fate x ≡ Committed) its h));
        waits = λ m f t h. let e = holds m (g.waits m f t h) in absurd (uncommitted (subst (λ x. l.fate x ≡ Committed) (sym e) f));
        settled = g.settled;
        ready = λ m f h. let e = holds m (g.ready m f h) in absurd (known (subst (λ x. l.fate x ≡ Undecided) (sym e) f));
        finished = g.finished;
        late = g.late;
        unborn = λ h. (refl, (g.unborn h).1);
        absent = g.absent;
      }
    where
      gone : {Q : Type 0} (o : Pending V) → None ≡ Some o → Q
      gone o e = none_some None o refl e

      holds : (m : ℕ) → holder s.pend ≡ Some m → n ≡ m
      holds m e = sym its ∙ some_is p.number m (sym (holder_is s.pend p is_held) ∙ e)
