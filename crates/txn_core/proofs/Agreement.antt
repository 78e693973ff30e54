-- The rows and the catalog of the feed are those of the state.
use Rattle.std.proofs.Common.{◌≡◌, ℕ, suc, Bool, true, false, nat_eq, List, [], ◌∷◌, Option, if◌then◌else◌, refl, ap, ◌∙◌}
use Rattle.std.proofs.lemmas.Bool.{cond_both}
use Rattle.index_feed.specs.declared.change.Change.{Change}
use Rattle.index_feed.specs.Feed.{Out, Feed, Event as FeedEvent, Peeks, Feeds, Acks, Rests, at, is_fed, fed, acked, step as feed_step}
use Rattle.txn_core.specs.declared.message.Message.{Message}
use Rattle.txn_core.specs.declared.answer.Answer.{Answer}
use Rattle.txn_core.specs.declared.entry.Entry.{Entry}
use Rattle.txn_core.specs.Protocol.{after, Protocol}
use Rattle.txn_core.specs.Indexing.{Indexing, indexed, IsIndexingLawful}
use Rattle.txn_core.specs.Service.{Service, IsServiceLawful}
use Rattle.txn_core.specs.Effects.{Effect, Wrote, Begun, Prepared, Commits, Cancels, Applied, Released, Finished, Forgot, Changed, Quiet}
use Rattle.txn_core.specs.State.{Spot, State, image_or, state_after, step}
use Rattle.txn_core.specs.History.{effect, effects}
use Rattle.txn_core.specs.Feeding.{change, out_of, message_event, item_event, feed_after}

split : {V : Type 0} (b : Bool) (s t : Spot V) (v u : Option V) → (b ≡ true → v ≡ s.row) → (b ≡ false → u ≡ t.row) → (if b then v else u) ≡ (if b then s else t).row
split true s t v u h l = h refl
split false s t v u h l = l refl

both : {V : Type 0} (b : Bool) (s t : Spot V) (u : Option V) → u ≡ s.row → u ≡ t.row → u ≡ (if b then s else t).row
both true s t u h l = h
both false s t u h l = l

module _ {K V A F C D : Type 0} (P : Protocol K V A F C D) (X : Indexing K V C D) where
  pub record Agrees (w : State K V A C) (f : Feed K V C) : Type 0 where
    pub catalog : f.catalog ≡ w.catalog
    pub row : (q : K) → f.row q ≡ (w.spot q).row

  -- the event changes no item and no catalog
  record IsApart (x : FeedEvent K V C) : Type 0 where
    pub catalog : (f : Feed K V C) → (feed_step (indexed P X) f x).catalog ≡ f.catalog
    pub row : (f : Feed K V C) (q : K) → (feed_step (indexed P X) f x).row q ≡ f.row q

  acked_catalog : (f : Feed K V C) (i s : ℕ) (xs : List (Change K V)) → (acked (indexed P X) f i s xs).catalog ≡ f.catalog
  acked_catalog f i s [] = refl
  acked_catalog f i s (x ∷ xs) =
      cond_both (nat_eq s (suc (f.sent i))) (record f { sent = at f.sent i s; outbox = at f.outbox i xs }) f (λ h. h.catalog ≡ f.catalog) (λ _. refl) (λ _. refl)

  acked_row : (f : Feed K V C) (i s : ℕ) (xs : List (Change K V)) (q : K) → (acked (indexed P X) f i s xs).row q ≡ f.row q
  acked_row f i s [] q = refl
  acked_row f i s (x ∷ xs) q =
      cond_both (nat_eq s (suc (f.sent i))) (record f { sent = at f.sent i s; outbox = at f.outbox i xs }) f (λ h. h.row q ≡ f.row q) (λ _. refl) (λ _. refl)

  peeks_apart : (i : ℕ) (o : Option (Out K V)) → IsApart (Peeks i o)
  peeks_apart i o = record { catalog = λ f. refl; row = λ f q. refl }

  rests_apart : IsApart Rests
  rests_apart = record { catalog = λ f. refl; row = λ f q. refl }

  feeds_apart : (i s : ℕ) (x : Change K V) → IsApart (Feeds i s x)
  feeds_apart i s x =
      let I = indexed P X in
      record {
        catalog = λ f. cond_both (is_fed I f i s x) (fed I f i s x) f (λ h. h.catalog ≡ f.catalog) (λ _. refl) (λ _. refl);
        row = λ f q. cond_both (is_fed I f i s x) (fed I f i s x) f (λ h. h.row q ≡ f.row q) (λ _. refl) (λ _. refl);
      }

  acks_apart : (i s : ℕ) → IsApart (Acks i s)
  acks_apart i s = record { catalog = λ f. acked_catalog f i s (f.outbox i); row = λ f q. acked_row f i s (f.outbox i) q }

  module _ (law : IsIndexingLawful P X) where
    agrees_on : (w : State K V A C) (f : Feed K V C) (e : Effect K A D) (x : FeedEvent K V C) → Agrees w f → IsApart x
        → Agrees (step P w e) (feed_step (indexed P X) f (item_event P X w e x))
    agrees_on w f (Wrote a moment) x h p =
        record {
          catalog = h.catalog;
          row = λ q. split (P.same (P.key_of a) q) _ _ _ _ (λ e. ap (λ y. after (P.act w.catalog a (w.spot y).row) (w.spot y).row) (law.feed.exact (P.key_of a) q e)) (λ _. h.row q);
        }
    agrees_on w f (Applied n k) x h p =
        record {
          catalog = h.catalog;
          row = λ q. split (P.same k q) _ _ _ _ (λ e. ap (λ y. image_or (w.spot y).row (w.spot y).pend) (law.feed.exact k q e)) (λ _. h.row q);
        }
    agrees_on w f (Changed d moment) x h p = record { catalog = refl; row = λ q. refl }
    agrees_on w f (Prepared n stamp a) x h p = record { catalog = p.catalog f ∙ h.catalog; row = λ q. p.row f q ∙ both (P.same (P.key_of a) q) _ _ _ (h.row q) (h.row q) }
    agrees_on w f (Released n k) x h p = record { catalog = p.catalog f ∙ h.catalog; row = λ q. p.row f q ∙ both (P.same k q) _ _ _ (h.row q) (h.row q) }
    agrees_on w f (Commits n) x h p = record { catalog = p.catalog f ∙ h.catalog; row = λ q. p.row f q ∙ h.row q }
    agrees_on w f (Begun stamp actions) x h p = record { catalog = p.catalog f ∙ h.catalog; row = λ q. p.row f q ∙ h.row q }
    agrees_on w f (Cancels n) x h p = record { catalog = p.catalog f ∙ h.catalog; row = λ q. p.row f q ∙ h.row q }
    agrees_on w f (Finished n) x h p = record { catalog = p.catalog f ∙ h.catalog; row = λ q. p.row f q ∙ h.row q }
    agrees_on w f (Forgot n) x h p = record { catalog = p.catalog f ∙ h.catalog; row = λ q. p.row f q ∙ h.row q }
    agrees_on w f Quiet x h p = record { catalog = p.catalog f ∙ h.catalog; row = λ q. p.row f q ∙ h.row q }

module _ {K V A F C D Q B : Type 0} (S : Service K V A F C D Q B) where
  message_apart : (m : Message K V A F D Q) (a : Answer K V A F B) → IsApart S.core S.index (message_event m a)
  message_apart (Message.PeekOut source) a = peeks_apart S.core S.index source (out_of a)
  message_apart (Message.ApplyIndex source sequence index row_key after) a = feeds_apart S.core S.index source sequence (change index row_key after)
  message_apart (Message.Ack source sequence) a = acks_apart S.core S.index source sequence
  message_apart _ a = rests_apart S.core S.index

  pub agrees : IsServiceLawful S → (es : List (Entry K V A F D Q B)) → Agrees S.core S.index (state_after S.core (effects es)) (feed_after S es)
  agrees law [] = record { catalog = refl; row = λ q. refl }
  agrees law (e ∷ es) =
      agrees_on S.core S.index law.index (state_after S.core (effects es)) (feed_after S es) (effect e) (message_event e.message e.answer) (agrees law es) (message_apart e.message e.answer)
