-- The three messages of a feed: what they are answered, and why each may be sent.
use Rattle.std.proofs.Common.{◌≡◌, ℕ, Bool, true, ◌&&◌, ◌||◌, nat_eq, [], ◌∷◌, ◌++◌, Option, None, Some, inl, inr, refl, sym, ap, ◌∙◌, subst, arith, eq-eqb}
use Rattle.turnstile.specs.Passes.{PassView, most_units}
use Rattle.index_feed.specs.Feed.{Out, showing}
use Rattle.txn_core.specs.declared.message.Message.{Message}
use Rattle.txn_core.specs.declared.answer.Answer.{Answer}
use Rattle.txn_core.specs.Answers.{out_answer, feed_answer, ack_answer}
use Rattle.txn_core.specs.Feeding.{change, has_sequence}
use Rattle.txn_core.specs.History.{Had}
use Rattle.txn_core.specs.Legal.{Allowed, feeds, feeds_after, out_after, WasPeeked}
use Rattle.txn_core.specs.Service.{Service, Reply, Event, History}
use Rattle.cluster.specs.declared.step.StepError.{StepError}
use Rattle.cluster.specs.Events.{event_of}
use Rattle.cluster.specs.Steps.{IsLater}
use Rattle.cluster.specs.Counts.{Counts, CountsUntil}
use Rattle.cluster.proofs.OwnEntries.{counts_on, counts_until, same_event}
use Rattle.index_feeder.specs.declared.feeding.Feed.{Feed}
use Rattle.index_feeder.specs.Feeds.{shows, applies, acknowledges, Feeds, FeedsPartly}
use Rattle.index_feeder.proofs.Refused.{had_none, had_on}

module _ {K V A F B : Type 0} (cell_of : K → ℕ) where
  abbrev Same : Answer K V A F B → Option (Out K V) → Type 0
  Same a o = a ≡ out_answer cell_of o

  -- a PeekOut is answered by a change or by none
  no_other :
      (a : Answer K V A F B) (o : Option (Out K V)) → Same a o
      → ((s i t : ℕ) (k : K) (v : Option V) → a ≡ Answer.Out s i t k v → ⊥) → (a ≡ Answer.Empty → ⊥) → ⊥
  no_other a None is out empty = empty is
  no_other a (Some o) is out empty = out o.sequence o.change.index (cell_of o.change.key) o.change.key o.change.after is

  -- the cell that is named is that of the row
  named : (s i t : ℕ) (k : K) (v : Option V) (o : Option (Out K V)) → Same (Answer.Out s i t k v) o → t ≡ cell_of k
  named s i t k v None is = absurd (cc)
  named s i t k v (Some o) is =
      let cell : t ≡ cell_of o.change.key = cc in
      let key : k ≡ o.change.key = cc in
      cell ∙ ap cell_of (sym key)

module _ {K V A F C D Q B : Type 0} (S : Service K V A F C D Q B) where
  pub is_answered :
      (es later : History S) (p : PassView (Event S)) (cell : ℕ) (a : Reply S)
      → IsLater S es (event_of p (Some cell) (Message.PeekOut cell) a) later
      → ((s i t : ℕ) (k : K) (v : Option V) → a ≡ Answer.Out s i t k v → ⊥) → (a ≡ Answer.Empty → ⊥) → ⊥
  is_answered es later p cell a step out empty =
      no_other S.core.cell_of a (out_after S (step.newer ++ es) cell) step.legal.1.answer.1 out empty

  module _ (es later : History S) (p : PassView (Event S)) (cell s i t : ℕ) (k : K) (v : Option V) (step : IsLater S es (event_of p (Some cell) (Message.PeekOut cell) (Answer.Out s i t k v)) later) where
    -- the change's row lives in the cell that the answer names
    pub target_is : t ≡ S.core.cell_of k
    target_is = named S.core.cell_of s i t k v (out_after S (step.newer ++ es) cell) step.legal.1.answer.1

    -- what was shown may be applied
    pub may_apply : (pass : ℕ) → Allowed S later pass (Message.ApplyIndex cell s i k v)
    may_apply pass =
        let e : Event S = event_of p (Some cell) (Message.PeekOut cell) (Answer.Out s i t k v) in
        let newest : WasPeeked S (e ∷ (step.newer ++ es)) cell s i k v =
        (0, e, omega arith, refl, (refl, ap (λ c. Answer.Out s i c k v) target_is)) in
        subst (λ h. WasPeeked S h cell s i k v) step.is newest

  -- what was applied may be acknowledged
  pub may_acknowledge :
      (es later : History S) (p : PassView (Event S)) (cell : Option ℕ) (source s i : ℕ) (k : K) (v : Option V) (a : Reply S)
      → IsLater S es (event_of p cell (Message.ApplyIndex source s i k v) a) later
      → (pass : ℕ) → Allowed S later pass (Message.Ack source s)
  may_acknowledge es later p cell source s i k v a step pass =
      subst (λ h. Had (feeds S source s) h) step.is (first _ (nat_eq source source) (nat_eq s s) (eq-eqb source source refl) (eq-eqb s s refl))
    where
      first : (r x y : Bool) → x ≡ true → y ≡ true → ((x && y) || r) ≡ true
      first r x y e f = λ j. (e j && f j) || r

  -- what the two are answered
  pub applied_answer :
      (es later : History S) (p : PassView (Event S)) (cell : Option ℕ) (source s i : ℕ) (k : K) (v : Option V) (a : Reply S)
      → IsLater S es (event_of p cell (Message.ApplyIndex source s i k v) a) later → (now : Bool) × (a ≡ feed_answer now)
  applied_answer es later p cell source s i k v a step = (feeds_after S (step.newer ++ es) source s (change i k v), step.legal.1.answer)

  pub acked_answer :
      (es later : History S) (p : PassView (Event S)) (cell : Option ℕ) (source s : ℕ) (a : Reply S)
      → IsLater S es (event_of p cell (Message.Ack source s) a) later → (now : Bool) × (a ≡ ack_answer now)
  acked_answer es later p cell source s a step = (has_sequence (out_after S (step.newer ++ es) source) s, step.legal.1.answer.1)

  -- a feed: what it counted so far, after each of its messages
  module _ (p q1 : PassView (Event S)) (cell s i t : ℕ) (k : K) (v : Option V) (here : t ≡ S.core.cell_of k)
      (shown : Counts S p (event_of p (Some cell) (Message.PeekOut cell) (Answer.Out s i t k v) ∷ []) 0 q1) where
    abbrev its : Out K V
    its = showing s (change i k v)

    shown_is : event_of p (Some cell) (Message.PeekOut cell) (Answer.Out s i t k v) ≡ shows S p cell its
    shown_is = ap (λ c. event_of p (Some cell) (Message.PeekOut cell) (Answer.Out s i c k v)) here

    counts_shown : Counts S p (shows S p cell its ∷ []) 0 q1
    counts_shown = subst (λ e. Counts S p (e ∷ []) 0 q1) shown_is shown

    -- it was cut off behind the first
    pub cut_shown : (why : StepError) (r : PassView (Event S)) → CountsUntil S q1 [] why r → (q1.used ≡ most_units → why ≡ StepError.Spent) → FeedsPartly S p cell why r
    cut_shown why r until full =
        record {
          part = shows S p cell its ∷ [];
          cut = inr (its, inl refl);
          counts = counts_until S p (shows S p cell its ∷ []) q1 [] why r counts_shown until;
          had = had_on S p (shows S p cell its ∷ []) q1 [] why counts_shown (had_none S q1 why full);
        }

    module _ (q2 : PassView (Event S)) (a : Reply S) (now : Bool) (is : a ≡ feed_answer now)
        (applied : Counts S q1 (event_of q1 (Some t) (Message.ApplyIndex cell s i k v) a ∷ []) 0 q2) where
      applied_is : event_of q1 (Some t) (Message.ApplyIndex cell s i k v) a ≡ applies S p cell its now
      applied_is =
          same_event S p (shows S p cell its ∷ []) 0 q1 counts_shown (Some t) (Message.ApplyIndex cell s i k v) a
          ∙ (λ j. event_of p (Some (here j)) (Message.ApplyIndex cell s i k v) (is j))

      counts_applied : Counts S p (shows S p cell its ∷ applies S p cell its now ∷ []) 0 q2
      counts_applied =
          counts_on S p (shows S p cell its ∷ []) 0 q1 (applies S p cell its now ∷ []) 0 q2 counts_shown
          (subst (λ e. Counts S q1 (e ∷ []) 0 q2) applied_is applied)

      -- or behind the second
      pub cut_applied : (why : StepError) (r : PassView (Event S)) → CountsUntil S q2 [] why r → (q2.used ≡ most_units → why ≡ StepError.Spent) → FeedsPartly S p cell why r
      cut_applied why r until full =
          record {
            part = shows S p cell its ∷ applies S p cell its now ∷ [];
            cut = inr (its, inr (now, refl));
            counts = counts_until S p (shows S p cell its ∷ applies S p cell its now ∷ []) q2 [] why r counts_applied until;
            had = had_on S p (shows S p cell its ∷ applies S p cell its now ∷ []) q2 [] why counts_applied (had_none S q2 why full);
          }

      -- it is whole
      pub counts_fed :
          (q3 : PassView (Event S)) (b : Reply S) (first : Bool) → b ≡ ack_answer first
          → Counts S q2 (event_of q2 (Some cell) (Message.Ack cell s) b ∷ []) 0 q3 → Feeds S p cell Feed.Fed q3
      counts_fed q3 b first is_so acked =
          let same : event_of q2 (Some cell) (Message.Ack cell s) b ≡ acknowledges S p cell its first =
          same_event S p (shows S p cell its ∷ applies S p cell its now ∷ []) 0 q2 counts_applied (Some cell) (Message.Ack cell s) b
          ∙ ap (λ x. event_of p (Some cell) (Message.Ack cell s) x) is_so in (
            its,
            now,
            first,
            counts_on S p (shows S p cell its ∷ applies S p cell its now ∷ []) 0 q2 (acknowledges S p cell its first ∷ []) 0 q3 counts_applied
                (subst (λ e. Counts S q2 (e ∷ []) 0 q3) same acked),
          )

  -- nothing was shown yet
  pub cut_at_first :
      (p : PassView (Event S)) (cell : ℕ) (why : StepError) (q : PassView (Event S)) → CountsUntil S p [] why q
      → (p.used ≡ most_units → why ≡ StepError.Spent) → FeedsPartly S p cell why q
  cut_at_first p cell why q until full = record { part = []; cut = inl refl; counts = until; had = had_none S p why full }
