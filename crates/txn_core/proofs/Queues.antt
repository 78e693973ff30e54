-- What queues nothing leaves an outbox, or takes its first away.
use Rattle.std.proofs.Common.{◌≡◌, inl, inr, ℕ, suc, Bool, true, false, nat_eq, List, [], ◌∷◌, refl, ap, ◌∙◌, subst, sym}
use Rattle.std.proofs.lemmas.Bool.{cond_both}
use Rattle.index_feed.specs.declared.change.Change.{Change}
use Rattle.index_feed.specs.Feed.{Feed, Event as FeedEvent, Rests, at, is_fed, fed, acked, step}
use Rattle.index_feed.proofs.Kept.{at_split}
use Rattle.txn_core.specs.declared.fate.Fate.{Fate}
use Rattle.txn_core.specs.declared.message.Message.{Message}
use Rattle.txn_core.specs.declared.answer.Answer.{Answer}
use Rattle.txn_core.specs.Indexing.{indexed}
use Rattle.txn_core.specs.Service.{Service}
use Rattle.txn_core.specs.Effects.{Effect, Wrote, Prepared, Applied, Released, Finished, Forgot, Changed}
use Rattle.txn_core.specs.State.{State, state_after}
use Rattle.txn_core.specs.History.{is_written, is_expired, is_applied, is_changed, where_so, begin_effect, decide_effect, effects}
use Rattle.txn_core.specs.Feeding.{change, item_event, event_of, feed_after}
use Rattle.txn_core.specs.Indexes.{IsRestOf, queues, OthersQueueNothing}

module _ {K V A F C D Q B : Type 0} (S : Service K V A F C D Q B) where
  module _ (w : State K V A C) (f : Feed K V C) (i : ℕ) where
    abbrev IsRest : FeedEvent K V C → Type 0
    IsRest x = IsRestOf (f.outbox i) ((step (indexed S.core S.index) f x).outbox i)

    rest_where : (b : Bool) (e : Effect K A D) → item_event S.core S.index w e Rests ≡ Rests → IsRest (item_event S.core S.index w (where_so b e) Rests)
    rest_where true e h = subst (λ x. IsRest x) (sym h) (inl refl)
    rest_where false e h = inl refl

    rest_unless : (b : Bool) (e : Effect K A D) → b ≡ false → IsRest (item_event S.core S.index w (where_so b e) Rests)
    rest_unless b e no' = subst (λ c. IsRest (item_event S.core S.index w (where_so c e) Rests)) (sym no') (inl refl)

    rest_begin : (actions : List A) (a : Answer K V A F B) → IsRest (item_event S.core S.index w (begin_effect {D = D} actions a) Rests)
    rest_begin actions (Answer.Begun n stamp) = inl refl
    rest_begin actions _ = inl refl

    rest_decide : (n : ℕ) (a : Answer K V A F B) → IsRest (item_event S.core S.index w (decide_effect {D = D} n a) Rests)
    rest_decide n (Answer.Decided Fate.Committed true) = inl refl
    rest_decide n (Answer.Decided Fate.Cancelled true) = inl refl
    rest_decide n _ = inl refl

    rest_acked : (source s : ℕ) (xs : List (Change K V)) → f.outbox source ≡ xs → IsRestOf (f.outbox i) ((acked (indexed S.core S.index) f source s xs).outbox i)
    rest_acked source s [] is = inl refl
    rest_acked source s (x ∷ xs) is =
        cond_both (nat_eq s (suc (f.sent source))) (record f { sent = at f.sent source s; outbox = at f.outbox source xs }) f (λ h. IsRestOf (f.outbox i) (h.outbox i))
        (λ _. at_split f.outbox source xs i (λ ys. IsRestOf (f.outbox i) ys) (λ here. inr (x, sym (ap (λ j. f.outbox j) here) ∙ is)) (λ _. inl refl))
        (λ _. inl refl)

    rest_message : (moment : ℕ) (m : Message K V A F D Q) (a : Answer K V A F B) → queues S m a ≡ false → IsRest (event_of S w moment m a)
    rest_message moment (Message.Write action) a no' = rest_unless (is_written a) (Wrote action moment) no'
    rest_message moment (Message.Expire action) a no' = rest_unless (is_expired a) (Wrote action moment) no'
    rest_message moment (Message.Apply n key) a no' = rest_unless (is_applied a) (Applied n key) no'
    rest_message moment (Message.Command d) a no' = rest_unless (is_changed a) (Changed d moment) no'
    rest_message moment (Message.Prepare n stamp action) a no' = rest_where _ (Prepared n stamp action) refl
    rest_message moment (Message.Release n key) a no' = rest_where _ (Released n key) refl
    rest_message moment (Message.Done n) a no' = rest_where _ (Finished n) refl
    rest_message moment (Message.Forget n) a no' = rest_where _ (Forgot n) refl
    rest_message moment (Message.Begin token actions) a no' = rest_begin actions a
    rest_message moment (Message.Decide n commit reasons) a no' = rest_decide n a
    rest_message moment (Message.ApplyIndex source sequence index key after) a no' =
        let I = indexed S.core S.index in
        let x = change index key after in
        cond_both (is_fed I f source sequence x) (fed I f source sequence x) f (λ h. IsRestOf (f.outbox i) (h.outbox i)) (λ _. inl refl) (λ _. inl refl)
    rest_message moment (Message.Ack source sequence) a no' = rest_acked source sequence (f.outbox source) refl
    rest_message moment _ a no' = inl refl

  pub others_queue_nothing : OthersQueueNothing S
  others_queue_nothing e es no' i = rest_message (state_after S.core (effects es)) (feed_after S es) i e.moment e.message e.answer no'
