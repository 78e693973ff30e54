-- A cell's own entries leave it with what the whole history does.
use Rattle.std.proofs.Common.{◌≡◌, ℕ, ◌+◌, Bool, true, false, nat_eq, List, [], ◌∷◌, Option, None, Some, is_some, if◌then◌else◌, refl, sym, ◌∙◌, subst, inl, inr}
use Rattle.std.proofs.lemmas.Bool.{cond_both, cases_Bool, eqb-true, eqb-false}
use Rattle.txn_core.specs.declared.stamp.Stamp.{Stamp}
use Rattle.txn_core.specs.declared.fate.Fate.{Fate}
use Rattle.txn_core.specs.declared.fate.Fate.TheVariants.{Committed, Cancelled}
use Rattle.txn_core.specs.declared.reason.Reason.{Reason}
use Rattle.txn_core.specs.declared.message.Message.{Message}
use Rattle.txn_core.specs.declared.answer.Answer.{Answer}
use Rattle.txn_core.specs.declared.entry.Entry.{Entry}
use Rattle.txn_core.specs.Stamps.{later, single}
use Rattle.txn_core.specs.Protocol.{after, Protocol, IsLawful}
use Rattle.txn_core.specs.Service.{Service, IsServiceLawful}
use Rattle.txn_core.specs.Effects.{Effect, Wrote, Begun, Prepared, Commits, Cancels, Applied, Released, Finished, Forgot, Changed, Quiet}
use Rattle.txn_core.specs.State.{Spot, Tally, State, at, hold, image_or, stamp_or, tally_after, tally_changed, kept_or, ledger_begun, ledger_decided, ledger_finished, ledger_forgot, spot_wrote, spot_prepared, spot_applied, spot_released, here, on_key, step}
use Rattle.index_feed.specs.Feed.{Feed, Event as FeedEvent, Sets, Commands, AlikeAt, step as feed_step}
use Rattle.index_feed.proofs.Local.{IsOf, alike_itself, alike_turned as feed_turned, alike_on as feed_on, others_leave, command_alike, any_alike}
use Rattle.txn_core.specs.Answers.{KeptToken}
use Rattle.txn_core.specs.Indexing.{Indexing, indexed, IsIndexingLawful}
use Rattle.txn_core.specs.Feeding.{message_event, item_event, event_of, feed_after}
use Rattle.txn_core.specs.History.{where_so, begin_effect, decide_effect, effect_of, effect, kept_after, kept, reasons_in, reasons_of}
use Rattle.txn_core.specs.Legal.{state, sent_to, IsLegal}
use Rattle.txn_core.specs.Cells.{Item, item, reaches, of_cell, IsAlike}
use Rattle.txn_core.proofs.Basics.{at_split}

-- a spot of the item, with nothing of what no cell holds
abbrev spot_of : {V : Type 0} → Item V → Spot V
spot_of x =
    record { row = x.row; stamp = x.stamp; version = x.version; pend = x.pend; tab = None; base = λ n. None; accepted = λ n. false; applied = λ n. false }

reach_other : (k i : ℕ) → reaches (Some k) i ≡ false → k ≡ i → ⊥
reach_other k i e = eqb-false k i e

module _ {K V A F C D : Type 0} (P : Protocol K V A F C D) (law : IsLawful P) (i : ℕ) where
  -- both states hold the same in the cell
  pub record AreSame (w u : State K V A C) : Type 0 where
    pub items : (q : K) → P.cell_of q ≡ i → item (w.spot q) ≡ item (u.spot q)
    pub numbers : w.cell i ≡ u.cell i
    pub catalog : w.catalog ≡ u.catalog

  -- an effect that changes nothing of what the cell holds
  abbrev pub IsAway : Effect K A D → Type 0
  IsAway (Wrote a moment) = P.cell_of (P.key_of a) ≡ i → ⊥
  IsAway (Prepared n stamp a) = P.cell_of (P.key_of a) ≡ i → ⊥
  IsAway (Applied n k) = P.cell_of k ≡ i → ⊥
  IsAway (Released n k) = P.cell_of k ≡ i → ⊥
  IsAway (Changed d moment) = ⊥
  IsAway _ = Unit {0}

  module _ (w u : State K V A C) (s : AreSame w u) where
    here_same : (k : K) → P.cell_of k ≡ i → here P w k ≡ here P u k
    here_same k at_i = subst (λ j. w.cell j ≡ u.cell j) (sym at_i) s.numbers

    same_on_key : (k : K) (f g : Spot V → Spot V) (c d : Tally) → ((q : K) → P.cell_of k ≡ i → P.cell_of q ≡ i → item (f (w.spot q)) ≡ item (g (u.spot q))) → (P.cell_of k ≡ i → c ≡ d) → AreSame (on_key P w k f c) (on_key P u k g d)
    same_on_key k f g c d both cells =
        record {
          items = λ q at_i. cond_both (P.same k q) (f (w.spot q)) (w.spot q) (λ x. item x ≡ item (if P.same k q then g (u.spot q) else u.spot q))
              (λ e. subst (λ b. item (f (w.spot q)) ≡ item (if b then g (u.spot q) else u.spot q)) (sym e) (both q (law.one_cell k q e ∙ at_i) at_i))
              (λ e. subst (λ b. item (w.spot q) ≡ item (if b then g (u.spot q) else u.spot q)) (sym e) (s.items q at_i));
          numbers = at_split w.cell (P.cell_of k) c i (λ x. x ≡ at u.cell (P.cell_of k) d i)
              (λ e. at_split u.cell (P.cell_of k) d i (λ y. c ≡ y) (λ _. cells e) (λ ne. absurd (ne e)))
              (λ ne. at_split u.cell (P.cell_of k) d i (λ y. w.cell i ≡ y) (λ e. absurd (ne e)) (λ _. s.numbers));
          catalog = s.catalog;
        }

    same_beside : (k : K) (g : Spot V → Spot V) (d : Tally) → (P.cell_of k ≡ i → ⊥) → AreSame w (on_key P u k g d)
    same_beside k g d away =
        record {
          items = λ q at_i. cond_both (P.same k q) (g (u.spot q)) (u.spot q) (λ x. item (w.spot q) ≡ item x) (λ e. absurd (away (law.one_cell k q e ∙ at_i))) (λ e. s.items q at_i);
          numbers = at_split u.cell (P.cell_of k) d i (λ y. w.cell i ≡ y) (λ e. absurd (away e)) (λ _. s.numbers);
          catalog = s.catalog;
        }

    cell_of_item : (c : Tally) (t : Spot V) (v : Option V) (own : Stamp) → tally_after c t v own ≡ tally_after c (spot_of (item t)) v own
    cell_of_item c t (Some v) own = refl
    cell_of_item c t None own = refl

    -- both take the same effect
    pub same_step : (e : Effect K A D) → AreSame (step P w e) (step P u e)
    same_step (Wrote a moment) =
        let k = P.key_of a in
        same_on_key k (spot_wrote P w.catalog (here P w k) a moment) (spot_wrote P u.catalog (here P u k) a moment)
        (tally_after (here P w k) (w.spot k) (after (P.act w.catalog a (w.spot k).row) (w.spot k).row) (single moment))
        (tally_after (here P u k) (u.spot k) (after (P.act u.catalog a (u.spot k).row) (u.spot k).row) (single moment))
        (λ q at_k at_q j.
        let x = s.items q at_q j in
        let c = here_same k at_k j in
        record { row = after (P.act (s.catalog j) a x.row) x.row; stamp = later (if is_some x.row then x.stamp else c.floor) (single moment); version = c.count + 1; pend = x.pend })
        (λ at_k.
        cell_of_item (here P w k) (w.spot k) (after (P.act w.catalog a (w.spot k).row) (w.spot k).row) (single moment)
        ∙ (λ j. let x = s.items k at_k j in tally_after (here_same k at_k j) (spot_of x) (after (P.act (s.catalog j) a x.row) x.row) (single moment))
        ∙ sym (cell_of_item (here P u k) (u.spot k) (after (P.act u.catalog a (u.spot k).row) (u.spot k).row) (single moment)))
    same_step (Prepared n stamp a) =
        let k = P.key_of a in
        same_on_key k (spot_prepared P w.catalog n stamp a) (spot_prepared P u.catalog n stamp a) (here P w k) (here P u k)
        (λ q at_k at_q j.
        let x = s.items q at_q j in
        record { row = x.row; stamp = x.stamp; version = x.version; pend = hold x.pend (record { number = n; stamp = stamp; image = after (P.act (s.catalog j) a x.row) x.row }) })
        (λ at_k. here_same k at_k)
    same_step (Applied n k) =
        same_on_key k (spot_applied (here P w k) n) (spot_applied (here P u k) n)
        (tally_after (here P w k) (w.spot k) (image_or (w.spot k).row (w.spot k).pend) (stamp_or (w.spot k).stamp (w.spot k).pend))
        (tally_after (here P u k) (u.spot k) (image_or (u.spot k).row (u.spot k).pend) (stamp_or (u.spot k).stamp (u.spot k).pend))
        (λ q at_k at_q j.
        let x = s.items q at_q j in
        record { row = image_or x.row x.pend; stamp = stamp_or x.stamp x.pend; version = (here_same k at_k j).count + 1; pend = None })
        (λ at_k.
        cell_of_item (here P w k) (w.spot k) (image_or (w.spot k).row (w.spot k).pend) (stamp_or (w.spot k).stamp (w.spot k).pend)
        ∙ (λ j. let x = s.items k at_k j in tally_after (here_same k at_k j) (spot_of x) (image_or x.row x.pend) (stamp_or x.stamp x.pend))
        ∙ sym (cell_of_item (here P u k) (u.spot k) (image_or (u.spot k).row (u.spot k).pend) (stamp_or (u.spot k).stamp (u.spot k).pend)))
    same_step (Released n k) =
        same_on_key k (λ x. spot_released x) (λ x. spot_released x) (here P w k) (here P u k)
        (λ q at_k at_q j. let x = s.items q at_q j in record { row = x.row; stamp = x.stamp; version = x.version; pend = None })
        (λ at_k. here_same k at_k)
    same_step (Changed d moment) =
        record {
          items = λ q at_q j.
              let x = s.items q at_q j in
              let c = s.catalog j in
              let t = here_same q at_q j in
              record {
                row = kept_or (P.there c q) (P.there (P.change d moment c) q) x.row (P.adds d c q);
                stamp = if P.there c q then x.stamp else later t.floor (single moment);
                version = if P.there c q then x.version else t.count + 1;
                pend = x.pend;
              };
          numbers = λ j. tally_changed (s.numbers j);
          catalog = λ j. P.change d moment (s.catalog j);
        }
    same_step (Begun stamp actions) = record { items = s.items; numbers = s.numbers; catalog = s.catalog }
    same_step (Commits n) = record { items = s.items; numbers = s.numbers; catalog = s.catalog }
    same_step (Cancels n) = record { items = s.items; numbers = s.numbers; catalog = s.catalog }
    same_step (Finished n) = record { items = s.items; numbers = s.numbers; catalog = s.catalog }
    same_step (Forgot n) = record { items = s.items; numbers = s.numbers; catalog = s.catalog }
    same_step Quiet = s

    -- the second takes an effect of another cell
    pub same_away : (e : Effect K A D) → IsAway e → AreSame w (step P u e)
    same_away (Wrote a moment) away =
        let k = P.key_of a in
        same_beside k (spot_wrote P u.catalog (here P u k) a moment)
        (tally_after (here P u k) (u.spot k) (after (P.act u.catalog a (u.spot k).row) (u.spot k).row) (single moment)) away
    same_away (Prepared n stamp a) away = same_beside (P.key_of a) (spot_prepared P u.catalog n stamp a) (here P u (P.key_of a)) away
    same_away (Applied n k) away =
        same_beside k (spot_applied (here P u k) n)
        (tally_after (here P u k) (u.spot k) (image_or (u.spot k).row (u.spot k).pend) (stamp_or (u.spot k).stamp (u.spot k).pend)) away
    same_away (Released n k) away = same_beside k (λ x. spot_released x) (here P u k) away
    same_away (Changed d moment) away = absurd away
    same_away (Begun stamp actions) away = record { items = s.items; numbers = s.numbers; catalog = s.catalog }
    same_away (Commits n) away = record { items = s.items; numbers = s.numbers; catalog = s.catalog }
    same_away (Cancels n) away = record { items = s.items; numbers = s.numbers; catalog = s.catalog }
    same_away (Finished n) away = record { items = s.items; numbers = s.numbers; catalog = s.catalog }
    same_away (Forgot n) away = record { items = s.items; numbers = s.numbers; catalog = s.catalog }
    same_away Quiet away = s

    -- what is kept of transactions goes by effects alone
    pub same_ledger : w.ledger ≡ u.ledger → (e : Effect K A D) → (step P w e).ledger ≡ (step P u e).ledger
    same_ledger l (Begun stamp actions) = λ j. ledger_begun (l j) stamp actions
    same_ledger l (Commits n) = λ j. ledger_decided (l j) n Committed
    same_ledger l (Cancels n) = λ j. ledger_decided (l j) n Cancelled
    same_ledger l (Finished n) = λ j. ledger_finished (l j) n
    same_ledger l (Forgot n) = λ j. ledger_forgot (l j) n
    same_ledger l (Wrote a moment) = l
    same_ledger l (Prepared n stamp a) = l
    same_ledger l (Applied n k) = l
    same_ledger l (Released n k) = l
    same_ledger l (Changed d moment) = l
    same_ledger l Quiet = l

  away_where : (b : Bool) (e : Effect K A D) → IsAway e → IsAway (where_so b e)
  away_where true e h = h
  away_where false e h = tt

  away_begin : {B : Type 0} (actions : List A) (a : Answer K V A F B) → IsAway (begin_effect actions a)
  away_begin actions (Answer.Begun n stamp) = tt
  away_begin actions _ = tt

  away_decide : {B : Type 0} (n : ℕ) (a : Answer K V A F B) → IsAway (decide_effect n a)
  away_decide n (Answer.Decided Fate.Committed true) = tt
  away_decide n (Answer.Decided Fate.Cancelled true) = tt
  away_decide n _ = tt

-- the feed beside the state
module _ {K V A F C D : Type 0} (P : Protocol K V A F C D) (law : IsLawful P) (X : Indexing K V C D) (index : IsIndexingLawful P X) (i : ℕ) where
  module _ (w u : State K V A C) (s : AreSame P law i w u) (f h : Feed K V C) (a : AlikeAt (indexed P X) i f h) where
    -- an item of any cell is set: of this one to the same in both
    sets_alike : (k : K) (v : State K V A C → Option V) → (P.cell_of k ≡ i → v w ≡ v u)
        → AlikeAt (indexed P X) i (feed_step (indexed P X) f (Sets k (v w))) (feed_step (indexed P X) h (Sets k (v u)))
    sets_alike k v same =
        let I = indexed P X in
        elim (cases_Bool (nat_eq (P.cell_of k) i)) [
          | inl t ↦ subst (λ x. AlikeAt I i (feed_step I f (Sets k (v w))) (feed_step I h (Sets k x))) (same (eqb-true (P.cell_of k) i t)) (any_alike I index.feed i f h (Sets k (v w)) a)
          | inr t ↦
              feed_on I i (feed_step I f (Sets k (v w))) f (feed_step I h (Sets k (v u))) (others_leave I index.feed i f (Sets k (v w)) (eqb-false (P.cell_of k) i t))
              (feed_on I i f h (feed_step I h (Sets k (v u))) a (feed_turned I i (feed_step I h (Sets k (v u))) h (others_leave I index.feed i h (Sets k (v u)) (eqb-false (P.cell_of k) i t))))
        ]

    -- both take the same effect, or else the same message
    feed_same_step : (e : Effect K A D) (x : FeedEvent K V C)
        → AlikeAt (indexed P X) i (feed_step (indexed P X) f (item_event P X w e x)) (feed_step (indexed P X) h (item_event P X u e x))
    feed_same_step (Wrote b moment) x =
        let k = P.key_of b in
        sets_alike k (λ y. after (P.act y.catalog b (y.spot k).row) (y.spot k).row)
        (λ home j. let row = (s.items k home j).row in after (P.act (s.catalog j) b row) row)
    feed_same_step (Applied n k) x =
        sets_alike k (λ y. image_or (y.spot k).row (y.spot k).pend) (λ home j. let t = s.items k home j in image_or t.row t.pend)
    feed_same_step (Changed d moment) x =
        subst (λ c. AlikeAt (indexed P X) i (feed_step (indexed P X) f (item_event P X w (Changed d moment) x)) (feed_step (indexed P X) h (Commands (P.change d moment c) (X.brings d c) (λ q. kept_or (P.there c q) (P.there (P.change d moment c) q) (u.spot q).row (P.adds d c q))))) s.catalog
        (command_alike (indexed P X) index.feed i f h (P.change d moment w.catalog) (X.brings d w.catalog)
        (λ q. kept_or (P.there w.catalog q) (P.there (P.change d moment w.catalog) q) (w.spot q).row (P.adds d w.catalog q))
        (λ q. kept_or (P.there w.catalog q) (P.there (P.change d moment w.catalog) q) (u.spot q).row (P.adds d w.catalog q))
        (λ q home j. kept_or (P.there w.catalog q) (P.there (P.change d moment w.catalog) q) (s.items q home j).row (P.adds d w.catalog q)) a)
    feed_same_step _ x = any_alike (indexed P X) index.feed i f h x a

  -- an effect of another cell with a message to another one
  feed_away : (u : State K V A C) (e : Effect K A D) (x : FeedEvent K V C) → IsAway P law i e → (IsOf (indexed P X) i x → ⊥)
      → IsOf (indexed P X) i (item_event P X u e x) → ⊥
  feed_away u (Wrote b moment) x away other h = away h
  feed_away u (Applied n k) x away other h = away h
  feed_away u (Changed d moment) x away other h = away
  feed_away u _ x away other h = other h

module _ {K V A F C D Q B : Type 0} (S : Service K V A F C D Q B) (law : IsServiceLawful S) where
  -- what went to another cell changes nothing of this one
  away_entry : (i moment : ℕ) (m : Message K V A F D Q) (a : Answer K V A F B) → reaches (sent_to S m) i ≡ false → IsAway S.core law.core i (effect_of moment m a)
  away_entry i moment (Message.Write action) a e = away_where S.core law.core i _ (Wrote action moment) (reach_other (S.core.cell_of (S.core.key_of action)) i e)
  away_entry i moment (Message.Expire action) a e = away_where S.core law.core i _ (Wrote action moment) (reach_other (S.core.cell_of (S.core.key_of action)) i e)
  away_entry i moment (Message.Prepare n stamp action) a e = away_where S.core law.core i _ (Prepared n stamp action) (reach_other (S.core.cell_of (S.core.key_of action)) i e)
  away_entry i moment (Message.Apply n key) a e = away_where S.core law.core i _ (Applied n key) (reach_other (S.core.cell_of key) i e)
  away_entry i moment (Message.Release n key) a e = away_where S.core law.core i _ (Released n key) (reach_other (S.core.cell_of key) i e)
  away_entry i moment (Message.Begin token actions) a e = away_begin S.core law.core i actions a
  away_entry i moment (Message.Decide n commit reasons) a e = away_decide S.core law.core i n a
  away_entry i moment (Message.Done n) a e = away_where S.core law.core i _ (Finished n) tt
  away_entry i moment (Message.Forget n) a e = away_where S.core law.core i _ (Forgot n) tt
  away_entry i moment (Message.Command d) a e = absurd (cc)
  away_entry i moment _ a e = tt

  away_message : (i : ℕ) (m : Message K V A F D Q) (a : Answer K V A F B) → reaches (sent_to S m) i ≡ false → IsOf (indexed S.core S.index) i (message_event m a) → ⊥
  away_message i (Message.PeekOut source) a e h = reach_other source i e h
  away_message i (Message.ApplyIndex source sequence index row_key after) a e h = reach_other (S.core.cell_of row_key) i e h
  away_message i (Message.Ack source sequence) a e h = reach_other source i e h
  away_message i _ a e h = h

  module _ (u : State K V A C) where
    ledger_where : (b : Bool) (e : Effect K A D) → (step S.core u e).ledger ≡ u.ledger → (step S.core u (where_so b e)).ledger ≡ u.ledger
    ledger_where true e h = h
    ledger_where false e h = refl

    -- what went to another cell changes nothing of the control cell
    same_control : (moment : ℕ) (m : Message K V A F D Q) (a : Answer K V A F B) → reaches (sent_to S m) S.control ≡ false → ((step S.core u (effect_of moment m a)).ledger ≡ u.ledger) × ((t : List ℕ) (old : Option (KeptToken A)) → kept_after moment m a t old ≡ old) × ((n : ℕ) (older : List (Reason V F)) → reasons_in n m a older ≡ older)
    same_control moment (Message.Write action) a e = (ledger_where _ (Wrote action moment) refl, λ t old. refl, λ n older. refl)
    same_control moment (Message.Expire action) a e = (ledger_where _ (Wrote action moment) refl, λ t old. refl, λ n older. refl)
    same_control moment (Message.Prepare n stamp action) a e = (ledger_where _ (Prepared n stamp action) refl, λ t old. refl, λ n older. refl)
    same_control moment (Message.Apply n key) a e = (ledger_where _ (Applied n key) refl, λ t old. refl, λ n older. refl)
    same_control moment (Message.Release n key) a e = (ledger_where _ (Released n key) refl, λ t old. refl, λ n older. refl)
    same_control moment (Message.Command d) a e = absurd (cc)
    same_control moment (Message.Begin token actions) a e = absurd (eqb-false S.control S.control e refl)
    same_control moment (Message.Decide n commit reasons) a e = absurd (eqb-false S.control S.control e refl)
    same_control moment (Message.Done n) a e = absurd (eqb-false S.control S.control e refl)
    same_control moment (Message.Forget n) a e = absurd (eqb-false S.control S.control e refl)
    same_control moment _ a e = (refl, λ t old. refl, λ n older. refl)

  -- both take the same entry
  alike_step : (i : ℕ) (e : Entry K V A F D Q B) (es fs : List (Entry K V A F D Q B)) → IsAlike S i es fs → IsAlike S i (e ∷ es) (e ∷ fs)
  alike_step i e es fs s =
      let same = same_step S.core law.core i (state S es) (state S fs) (record { items = s.items; numbers = s.numbers; catalog = s.catalog }) (effect e) in
      record {
        items = same.items;
        numbers = same.numbers;
        catalog = same.catalog;
        feed =
            feed_same_step S.core law.core S.index law.index i (state S es) (state S fs)
            (record { items = s.items; numbers = s.numbers; catalog = s.catalog }) (feed_after S es) (feed_after S fs) s.feed (effect e) (message_event e.message e.answer);
        ledger = λ c. same_ledger S.core law.core i (state S es) (state S fs) (record { items = s.items; numbers = s.numbers; catalog = s.catalog }) (s.ledger c) (effect e);
        tokens = λ c t j. kept_after e.moment e.message e.answer t (s.tokens c t j);
        reasons = λ c n j. reasons_in n e.message e.answer (s.reasons c n j);
      }

  -- the second takes an entry of another cell
  alike_away : (i : ℕ) (e : Entry K V A F D Q B) (es fs : List (Entry K V A F D Q B)) → IsAlike S i es fs → e.cell ≡ sent_to S e.message → reaches e.cell i ≡ false → IsAlike S i es (e ∷ fs)
  alike_away i e es fs s at apart =
      let away = subst (λ c. reaches c i ≡ false) at apart in
      let same = same_away S.core law.core i (state S es) (state S fs) (record { items = s.items; numbers = s.numbers; catalog = s.catalog }) (effect e) (away_entry i e.moment e.message e.answer away) in
      record {
        items = same.items;
        numbers = same.numbers;
        catalog = same.catalog;
        feed =
            let I = indexed S.core S.index in
            feed_on I i (feed_after S es) (feed_after S fs) (feed_after S (e ∷ fs)) s.feed
            (feed_turned I i (feed_after S (e ∷ fs)) (feed_after S fs)
            (others_leave I law.index.feed i (feed_after S fs) (event_of S (state S fs) e.moment e.message e.answer)
            (feed_away S.core law.core S.index law.index i (state S fs) (effect e) (message_event e.message e.answer) (away_entry i e.moment e.message e.answer away) (away_message i e.message e.answer away))));
        ledger = λ c. s.ledger c ∙ sym (same_control (state S fs) e.moment e.message e.answer (subst (λ k. reaches (sent_to S e.message) k ≡ false) c away)).0;
        tokens = λ c t. s.tokens c t ∙ sym ((same_control (state S fs) e.moment e.message e.answer (subst (λ k. reaches (sent_to S e.message) k ≡ false) c away)).1 t (kept fs t));
        reasons = λ c n. s.reasons c n ∙ sym ((same_control (state S fs) e.moment e.message e.answer (subst (λ k. reaches (sent_to S e.message) k ≡ false) c away)).2 n (reasons_of fs n));
      }

  -- a cell's own entries leave it with what the whole history does
  pub own_entries_tell : (es : List (Entry K V A F D Q B)) → IsLegal S es → (i : ℕ) → IsAlike S i (of_cell i es) es
  own_entries_tell [] legal i =
      record { items = λ q at. refl; numbers = refl; catalog = refl; feed = alike_itself (indexed S.core S.index) i (feed_after S []); ledger = λ c. refl; tokens = λ c t. refl; reasons = λ c n. refl }
  own_entries_tell (e ∷ es) legal i =
      let s = own_entries_tell es legal.0 i in
      cond_both (reaches e.cell i) (e ∷ of_cell i es) (of_cell i es) (λ own. IsAlike S i own (e ∷ es))
      (λ _. alike_step i e (of_cell i es) es s)
      (λ apart. alike_away i e (of_cell i es) es s legal.1.cell apart)

  pub alike_turned : (i : ℕ) (es fs : List (Entry K V A F D Q B)) → IsAlike S i es fs → IsAlike S i fs es
  alike_turned i es fs s =
      record {
        items = λ q at. sym (s.items q at);
        numbers = sym s.numbers;
        catalog = sym s.catalog;
        feed = feed_turned (indexed S.core S.index) i (feed_after S es) (feed_after S fs) s.feed;
        ledger = λ c. sym (s.ledger c);
        tokens = λ c t. sym (s.tokens c t);
        reasons = λ c n. sym (s.reasons c n);
      }

  pub alike_on : (i : ℕ) (es fs gs : List (Entry K V A F D Q B)) → IsAlike S i es fs → IsAlike S i fs gs → IsAlike S i es gs
  alike_on i es fs gs s r =
      record {
        items = λ q at. s.items q at ∙ r.items q at;
        numbers = s.numbers ∙ r.numbers;
        catalog = s.catalog ∙ r.catalog;
        feed = feed_on (indexed S.core S.index) i (feed_after S es) (feed_after S fs) (feed_after S gs) s.feed r.feed;
        ledger = λ c. s.ledger c ∙ r.ledger c;
        tokens = λ c t. s.tokens c t ∙ r.tokens c t;
        reasons = λ c n. s.reasons c n ∙ r.reasons c n;
      }

  -- two legal histories in which a cell has the same entries leave it with the same
  pub same_entries_alike : (es fs : List (Entry K V A F D Q B)) → IsLegal S es → IsLegal S fs → (i : ℕ) → of_cell i es ≡ of_cell i fs → IsAlike S i es fs
  same_entries_alike es fs legal legal' i same =
      alike_on i es (of_cell i es) fs (alike_turned i (of_cell i es) es (own_entries_tell es legal i))
      (subst (λ own. IsAlike S i own fs) (sym same) (own_entries_tell fs legal' i))
