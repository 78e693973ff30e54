-- What each effect on the ledger or the catalog keeps of an item.
use Rattle.std.proofs.Common.{◌≡◌, ◌≢◌, ◌⊎◌, inl, inr, cond, ℕ, ◌<◌, ◌≤◌, Bool, true, false, List, [], ◌∷◌, Option, Some, is_some, refl, sym, ap, ◌∙◌, subst, arith}
use Rattle.std.specs.List.{find}
use Rattle.std.proofs.lemmas.Bool.{cond_both}
use Rattle.txn_core.specs.declared.stamp.Stamp.{Stamp}
use Rattle.txn_core.specs.declared.fate.Fate.TheVariants.{Undecided, Committed, Cancelled}
use Rattle.txn_core.specs.Stamps.{earlier, IsBy, later, single}
use Rattle.txn_core.specs.declared.outcome.Outcome.TheVariants.{New}
use Rattle.txn_core.specs.Protocol.{after, Protocol, IsLawful}
use Rattle.txn_core.specs.State.{Pending, Spot, Tally, Ledger, holder, last, on_item, action_on, after_action, touches, at, kept_or, ledger_begun, ledger_decided, ledger_finished, ledger_forgot, spot_commits, spot_changed, tally_changed}
use Rattle.txn_core.proofs.Basics.{none_some, some_is, true_false, at_split, holder_is, none_of}
use Rattle.txn_core.proofs.Invariant.{GoodSpot}

-- what is found passes the test
pub find_passes : {X : Type 0} (test : X → Bool) (xs : List X) (x : X) → find test xs ≡ Some x → test x ≡ true
find_passes test [] x e = absurd (cc)
find_passes test (y ∷ ys) x e =
    cond_both (test y) (Some y) (find test ys) (λ o. o ≡ Some x → test x ≡ true)
    (λ is h. subst (λ z. test z ≡ true) (some_is y x h) is)
    (λ is h. find_passes test ys x h) e

module _ {K V A F C D : Type 0} (P : Protocol K V A F C D) (l : Ledger A) (cat : C) (c : Tally) (q : K) (s : Spot V) where
  -- a transaction is begun: whatever the facts name was begun before it
  pub kept_begun : (stamp : Stamp) (actions : List A) → ((n : ℕ) → l.next ≤ n → l.fate n ≡ Undecided) → GoodSpot P l cat c q s → GoodSpot P (ledger_begun l stamp actions) cat c q s
  kept_begun stamp actions fresh g =
      record {
        drawn = λ p e. let h = g.drawn p e in omega arith;
        stamped = λ p e. at_split l.stamp l.next stamp p.number (λ x. p.stamp ≡ x) (λ n. absurd (old_pending p e n)) (λ n. g.stamped p e);
        named = λ p e. at_split l.actions l.next actions p.number (λ x. is_some (on_item P x q) ≡ true) (λ n. absurd (old_pending p e n)) (λ n. g.named p e);
        image = λ p a e h.
            at_split l.actions l.next actions p.number (λ x. on_item P x q ≡ Some a → P.act cat a s.row ≡ New p.image)
            (λ n. absurd (old_pending p e n)) (λ n k. g.image p a e k) h;
        alive = g.alive;
        once = g.once;
        above = λ p m e h. at_split l.stamp l.next stamp m (λ x. earlier x p.stamp ≡ true) (λ n. absurd (old m (g.settled m h) n)) (λ n. g.above p m e h);
        open_ = g.open_;
        veiled = g.veiled;
        free = g.free;
        waits = λ m f t h. g.waits m f (at_split l.actions l.next actions m (λ x. is_some (on_item P x q) ≡ true → touches P l m q ≡ true) (λ n. absurd (old m f n)) (λ n k. k) t) h;
        settled = g.settled;
        ready = g.ready;
        finished = λ m d f t. g.finished m d f (at_split l.actions l.next actions m (λ x. is_some (on_item P x q) ≡ true → touches P l m q ≡ true) (λ n. absurd (old m f n)) (λ n k. k) t);
        late = λ m t h. at_split l.stamp l.next stamp m (λ x. IsBy x (last c s)) (λ n. absurd (old m (g.settled m h) n)) (λ n. g.late m t h);
        unborn = g.unborn;
        absent = g.absent;
      }
    where
      old_pending : (p : Pending V) → s.pend ≡ Some p → l.next ≡ p.number → ⊥
      old_pending p e n = let h = g.drawn p e in omega arith

      old : (m : ℕ) → l.fate m ≡ Committed → l.next ≡ m → ⊥
      old m f n = let u = fresh m (omega arith) in cc

  -- a commit, of a transaction with no action on the item
  pub kept_commit_away : (n : ℕ) → l.fate n ≡ Undecided → ((m : ℕ) → l.done m ≡ true → l.fate m ≢ Undecided) → touches P l n q ≡ false → GoodSpot P l cat c q s → GoodSpot P (ledger_decided l n Committed) cat c q (spot_commits P cat (action_on P l n q) n s)
  kept_commit_away n open_yet decided away g =
      record {
        drawn = g.drawn;
        stamped = g.stamped;
        named = g.named;
        image = g.image;
        alive = g.alive;
        once = g.once;
        above = g.above;
        open_ = λ p e h. g.open_ p e (at_split l.fate n Committed p.number (λ x. x ≢ Committed → l.fate p.number ≢ Committed) (λ m. absurd (other p e m)) (λ m k. k) h) ∙ sym same;
        veiled = λ p e h.
            let old = g.veiled p e (at_split l.fate n Committed p.number (λ x. x ≡ Committed → l.fate p.number ≡ Committed) (λ m. absurd (other p e m)) (λ m k. k) h) in
            (same ∙ old.0, at_split s.base n s.tab p.number (λ x. s.row ≡ x) (λ m. absurd (other p e m)) (λ m. old.1));
        free = λ e. g.free e ∙ sym same;
        waits = λ m f t h. g.waits m (at_split l.fate n Committed m (λ x. x ≡ Committed → l.fate m ≡ Committed) (λ e. absurd (not_here m e t)) (λ e k. k) f) t h;
        settled = λ m h. at_split l.fate n Committed m (λ x. x ≡ Committed) (λ e. refl) (λ e. g.settled m h);
        ready = λ m f h. g.ready m (at_split l.fate n Committed m (λ x. x ≡ Undecided → l.fate m ≡ Undecided) (λ e k. absurd (cc)) (λ e k. k) f) h;
        finished = λ m d f t. g.finished m d (at_split l.fate n Committed m (λ x. x ≡ Committed → l.fate m ≡ Committed) (λ e. absurd (not_here m e t)) (λ e k. k) f) t;
        late = g.late;
        unborn = g.unborn;
        absent = g.absent;
      }
    where
      other : (p : Pending V) → s.pend ≡ Some p → n ≡ p.number → ⊥
      other p e m = true_false (touches P l n q) (subst (λ x. touches P l x q ≡ true) (sym m) (g.named p e)) away

      not_here : (m : ℕ) → n ≡ m → touches P l m q ≡ true → ⊥
      not_here m e t = true_false (touches P l n q) (subst (λ x. touches P l x q ≡ true) (sym e) t) away

      same : after_action P cat (action_on P l n q) s.tab ≡ s.tab
      same = ap (λ o. after_action P cat o s.tab) (none_of (action_on P l n q) away)

  -- a commit, of the transaction that holds the item
  pub kept_commit_here : (n : ℕ) (p : Pending V) (a : A) → l.fate n ≡ Undecided → ((m : ℕ) → l.done m ≡ true → l.fate m ≢ Undecided) → s.pend ≡ Some p → p.number ≡ n → action_on P l n q ≡ Some a → GoodSpot P l cat c q s → GoodSpot P (ledger_decided l n Committed) cat c q (spot_commits P cat (action_on P l n q) n s)
  kept_commit_here n p a open_yet decided is_held its its_action g =
      record {
        drawn = g.drawn;
        stamped = g.stamped;
        named = g.named;
        image = g.image;
        alive = g.alive;
        once = g.once;
        above = g.above;
        open_ = λ o e h. absurd (h (at_split l.fate n Committed o.number (λ x. x ≡ Committed) (λ m. refl) (λ m. absurd (m (only o e)))));
        veiled = λ o e h.
            subst (λ (z : Pending V). (after_action P cat (action_on P l n q) s.tab ≡ z.image) × (s.row ≡ at s.base n s.tab z.number)) (some_is p o (sym is_held ∙ e))
            (outcome, at_split s.base n s.tab p.number (λ x. s.row ≡ x) (λ m. plain) (λ m. absurd (m (sym its))));
        free = λ e. none_some s.pend p e is_held;
        waits = λ m f t h.
            at_split l.fate n Committed m (λ x. x ≡ Committed → holder s.pend ≡ Some m)
            (λ e k. holder_is s.pend p is_held ∙ ap Some (its ∙ e))
            (λ e k. g.waits m k t h) f;
        settled = λ m h. at_split l.fate n Committed m (λ x. x ≡ Committed) (λ e. refl) (λ e. g.settled m h);
        ready = λ m f h. g.ready m (at_split l.fate n Committed m (λ x. x ≡ Undecided → l.fate m ≡ Undecided) (λ e k. absurd (cc)) (λ e k. k) f) h;
        finished = λ m d f t.
            at_split l.fate n Committed m (λ x. x ≡ Committed → s.applied m ≡ true)
            (λ e k. absurd (decided m d (subst (λ x. l.fate x ≡ Undecided) e open_yet)))
            (λ e k. g.finished m d k t) f;
        late = g.late;
        unborn = g.unborn;
        absent = g.absent;
      }
    where
      only : (o : Pending V) → s.pend ≡ Some o → n ≡ o.number
      only o e = sym its ∙ ap (λ (z : Pending V). z.number) (some_is p o (sym is_held ∙ e))

      plain : s.row ≡ s.tab
      plain = g.open_ p is_held (λ h. let u = subst (λ x. l.fate x ≡ Undecided) (sym its) open_yet in cc)

      outcome : after_action P cat (action_on P l n q) s.tab ≡ p.image
      outcome =
          ap (λ o. after_action P cat o s.tab) its_action
          ∙ ap (λ v. after (P.act cat a v) v) (sym plain)
          ∙ ap (λ o. after o s.row) (g.image p a is_held (subst (λ x. action_on P l x q ≡ Some a) (sym its) its_action))

  -- a cancel
  pub kept_cancel : (n : ℕ) → l.fate n ≡ Undecided → GoodSpot P l cat c q s → GoodSpot P (ledger_decided l n Cancelled) cat c q s
  kept_cancel n open_yet g =
      record {
        drawn = g.drawn;
        stamped = g.stamped;
        named = g.named;
        image = g.image;
        alive = g.alive;
        once = g.once;
        above = g.above;
        open_ = λ p e h.
            g.open_ p e
            (at_split l.fate n Cancelled p.number (λ x. x ≢ Committed → l.fate p.number ≢ Committed)
            (λ m k f. let u = subst (λ x. l.fate x ≡ Undecided) m open_yet in cc) (λ m k. k) h);
        veiled = λ p e h. g.veiled p e (committed p.number h);
        free = g.free;
        waits = λ m f t h. g.waits m (committed m f) t h;
        settled = λ m h.
            at_split l.fate n Cancelled m (λ x. x ≡ Committed)
            (λ e. let u = subst (λ x. l.fate x ≡ Undecided) e open_yet in let k = g.settled m h in absurd (cc)) (λ e. g.settled m h);
        ready = λ m f h. g.ready m (at_split l.fate n Cancelled m (λ x. x ≡ Undecided → l.fate m ≡ Undecided) (λ e k. absurd (cc)) (λ e k. k) f) h;
        finished = λ m d f t. g.finished m d (committed m f) t;
        late = g.late;
        unborn = g.unborn;
        absent = g.absent;
      }
    where
      committed : (m : ℕ) → at l.fate n Cancelled m ≡ Committed → l.fate m ≡ Committed
      committed m f = at_split l.fate n Cancelled m (λ x. x ≡ Committed → l.fate m ≡ Committed) (λ e k. absurd (cc)) (λ e k. k) f

  -- a Done
  pub kept_finished : (n : ℕ) → (l.fate n ≡ Committed → touches P l n q ≡ true → s.applied n ≡ true) → GoodSpot P l cat c q s → GoodSpot P (ledger_finished l n) cat c q s
  kept_finished n all_applied g =
      record {
        drawn = g.drawn;
        stamped = g.stamped;
        named = g.named;
        image = g.image;
        alive = g.alive;
        once = g.once;
        above = g.above;
        open_ = g.open_;
        veiled = g.veiled;
        free = g.free;
        waits = g.waits;
        settled = g.settled;
        ready = g.ready;
        finished = λ m d f t.
            at_split l.done n true m (λ b. b ≡ true → s.applied m ≡ true)
            (λ e k. subst (λ x. l.fate x ≡ Committed → touches P l x q ≡ true → s.applied x ≡ true) e all_applied f t)
            (λ e k. g.finished m k f t) d;
        late = g.late;
        unborn = g.unborn;
        absent = g.absent;
      }

  -- a record is forgotten
  pub kept_forgot : (n : ℕ) → GoodSpot P l cat c q s → GoodSpot P (ledger_forgot l n) cat c q s
  kept_forgot n g =
      record {
        drawn = g.drawn;
        stamped = g.stamped;
        named = g.named;
        image = g.image;
        alive = g.alive;
        once = g.once;
        above = g.above;
        open_ = g.open_;
        veiled = g.veiled;
        free = g.free;
        waits = g.waits;
        settled = g.settled;
        ready = g.ready;
        finished = g.finished;
        late = g.late;
        unborn = g.unborn;
        absent = g.absent;
      }

  -- the catalog changes
  pub kept_changed : IsLawful P → (d : D) (moment : ℕ) → ((p : Pending V) → s.pend ≡ Some p → P.there (P.change d moment cat) q ≡ true) → ((p : Pending V) (a : A) (v : Option V) → s.pend ≡ Some p → P.same (P.key_of a) q ≡ true → P.act (P.change d moment cat) a v ≡ P.act cat a v) → GoodSpot P l cat c q s → GoodSpot P l (P.change d moment cat) (tally_changed c) q (spot_changed c moment (P.there cat q) (P.there (P.change d moment cat) q) (P.adds d cat q) s)
  kept_changed law d moment stays acts_alike g =
      record {
        drawn = g.drawn;
        stamped = g.stamped;
        named = g.named;
        image = λ p a e h.
            ap (λ v. P.act (P.change d moment cat) a v) (stay s.row p e)
            ∙ acts_alike p a s.row e (find_passes (λ b. P.same (P.key_of b) q) (l.actions p.number) a h)
            ∙ g.image p a e h;
        alive = λ p e. stays p e;
        once = g.once;
        above = g.above;
        open_ = λ p e h. both (g.open_ p e h);
        veiled = λ p e h. (stay s.tab p e ∙ (g.veiled p e h).0, stay s.row p e ∙ (g.veiled p e h).1);
        free = λ e. both (g.free e);
        waits = g.waits;
        settled = g.settled;
        ready = g.ready;
        finished = g.finished;
        late = λ m t h. late_of m h t (law.comes d moment cat q t);
        unborn = λ h. let k = law.grows d moment cat in g.unborn (omega arith);
        absent = λ h. ap (λ b. kept_or (P.there cat q) b s.row (P.adds d cat q)) h;
      }
    where
      both : s.row ≡ s.tab → kept_or (P.there cat q) (P.there (P.change d moment cat) q) s.row (P.adds d cat q) ≡ kept_or (P.there cat q) (P.there (P.change d moment cat) q) s.tab (P.adds d cat q)
      both e = ap (λ v. kept_or (P.there cat q) (P.there (P.change d moment cat) q) v (P.adds d cat q)) e

      stay : (v : Option V) (p : Pending V) → s.pend ≡ Some p → kept_or (P.there cat q) (P.there (P.change d moment cat) q) v (P.adds d cat q) ≡ v
      stay v p e =
          ap (λ b. kept_or b (P.there (P.change d moment cat) q) v (P.adds d cat q)) (g.alive p e)
          ∙ ap (λ b. kept_or true b v (P.adds d cat q)) (stays p e)

      late_of : (m : ℕ) → s.applied m ≡ true → P.there (P.change d moment cat) q ≡ true → (P.there cat q ≡ true) ⊎ (P.drawn cat < P.table q) → IsBy (l.stamp m) (last (tally_changed c) (spot_changed c moment (P.there cat q) (P.there (P.change d moment cat) q) (P.adds d cat q) s))
      late_of m h t (inl was) =
          let same : kept_or (P.there cat q) (P.there (P.change d moment cat) q) s.row (P.adds d cat q) ≡ s.row =
          ap (λ b. kept_or b (P.there (P.change d moment cat) q) s.row (P.adds d cat q)) was
          ∙ ap (λ b. kept_or true b s.row (P.adds d cat q)) t in
          let stamps : last (tally_changed c) (spot_changed c moment (P.there cat q) (P.there (P.change d moment cat) q) (P.adds d cat q) s) ≡ last c s =
          λ i. cond (is_some (same i)) (cond (was i) s.stamp (later c.floor (single moment))) c.floor in
          subst (λ t. IsBy (l.stamp m) t) (sym stamps) (g.late m was h)
      late_of m h t (inr new) = true_false (s.applied m) h ((g.unborn new).1 m)
