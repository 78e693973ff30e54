-- Sources that are no partitions: no change of theirs is shown, so none is carried out.
use Rattle.std.proofs.Common.{◌≡◌, ℕ, zero, suc, ◌<◌, ◌≤◌, ◌&&◌, nat_eq, nat_lt, List, [], ◌∷◌, Option, if◌then◌else◌, refl, sym, ap, ◌∙◌, subst, arith}
use Rattle.std.proofs.lemmas.Bool.{and_right, cond_both, ne_eqb}
use Rattle.index_feed.specs.declared.change.Change.{Change}
use Rattle.index_feed.specs.Feed.{Feed, Event, Feeds, acked, at, fed, is_fed, served, step as feed_step}
use Rattle.txn_core.specs.declared.message.Message.{Message}
use Rattle.txn_core.specs.Indexing.{indexed}
use Rattle.txn_core.specs.Effects.{Effect, Wrote, Applied, Changed}
use Rattle.txn_core.specs.State.{State}
use Rattle.txn_core.specs.Service.{Service, Asked, Reply, History, IsServiceLawful}
use Rattle.txn_core.specs.Answers.{feed_answer}
use Rattle.txn_core.specs.History.{effect_of}
use Rattle.txn_core.specs.Feeding.{change, feed_after, item_event, message_event}
use Rattle.txn_core.specs.Legal.{Allowed, IsAnswer, IsLegal, WasPeeked, state}
use Rattle.txn_core.proofs.Exports.{agrees}

module _ {K V A F C D Q B : Type 0} (S : Service K V A F C D Q B) where
  -- what was shown was in the outbox of a partition
  pub peeked_below :
      (es : History S) → IsLegal S es → (source n index : ℕ) (key : K) (after : Option V) → WasPeeked S es source n index key after
      → source < S.control
  peeked_below [] legal source n index key after (k, e, lt, is, shown) = absurd (omega arith)
  peeked_below (x ∷ es) legal source n index key after (zero, e, lt, is, shown) =
      let here : x ≡ e = is in
      (subst (λ m. IsAnswer S es x.moment m x.answer) (ap (λ y. y.message) here ∙ shown.0) legal.1.answer).0
  peeked_below (x ∷ es) legal source n index key after (suc k, e, lt, is, shown) =
      peeked_below es legal.0 source n index key after (k, e, omega arith, is, shown)

  module _ (t source : ℕ) where
    fed_mark :
        (f : Feed K V C) (j s : ℕ) (x : Change K V) → (j ≡ source → ⊥) → (fed (indexed S.core S.index) f j s x).mark t source ≡ f.mark t source
    fed_mark f j s x apart =
        ap (λ b. if b then s else f.mark t source)
        (and_right (nat_eq t (S.core.cell_of x.key)) (nat_eq source j) (ne_eqb source j (λ same. apart (sym same))))

    feeds_mark :
        (f : Feed K V C) (j s : ℕ) (x : Change K V) → (j ≡ source → ⊥)
        → (feed_step (indexed S.core S.index) f (Feeds j s x)).mark t source ≡ f.mark t source
    feeds_mark f j s x apart =
        cond_both (is_fed (indexed S.core S.index) f j s x) (fed (indexed S.core S.index) f j s x) f (λ h. h.mark t source ≡ f.mark t source)
        (λ _. fed_mark f j s x apart) (λ _. refl)

    acked_mark :
        (f : Feed K V C) (j s : ℕ) (xs : List (Change K V)) → (acked (indexed S.core S.index) f j s xs).mark t source ≡ f.mark t source
    acked_mark f j s [] = refl
    acked_mark f j s (x ∷ xs) =
        cond_both (nat_eq s (suc (f.sent j))) (record f { sent = at f.sent j s; outbox = at f.outbox j xs }) f
        (λ h. h.mark t source ≡ f.mark t source) (λ _. refl) (λ _. refl)

    message_mark :
        (f : Feed K V C) (m : Asked S) (a : Reply S)
        → ((s index : ℕ) (key : K) (after : Option V) → m ≡ Message.ApplyIndex source s index key after → ⊥)
        → (feed_step (indexed S.core S.index) f (message_event m a)).mark t source ≡ f.mark t source
    message_mark f (Message.ApplyIndex j s index key after) a other =
        feeds_mark f j s (change index key after) (λ same. other s index key after (λ i. Message.ApplyIndex (same i) s index key after))
    message_mark f (Message.Ack j s) a other = acked_mark f j s (f.outbox j)
    message_mark f _ a other = refl

    effect_mark :
        (w : State K V A C) (f : Feed K V C) (x : Effect K A D) (e : Event K V C)
        → (feed_step (indexed S.core S.index) f e).mark t source ≡ f.mark t source
        → (feed_step (indexed S.core S.index) f (item_event S.core S.index w x e)).mark t source ≡ f.mark t source
    effect_mark w f (Wrote a moment) e h = refl
    effect_mark w f (Applied n k) e h = refl
    effect_mark w f (Changed d moment) e h = refl
    effect_mark w f _ e h = h

    pub unmarked : (es : History S) → IsLegal S es → S.control ≤ source → (feed_after S es).mark t source ≡ 0
    unmarked [] legal none = refl
    unmarked (e ∷ es) legal none =
        effect_mark (state S es) (feed_after S es) (effect_of e.moment e.message e.answer) (message_event e.message e.answer)
        (message_mark (feed_after S es) e.message e.answer
        (λ s index key after is.
        let below = peeked_below es legal.0 source s index key after (subst (λ m. Allowed S es e.pass m) is legal.1.allowed) in
        absurd (omega arith)))
        ∙ unmarked es legal.0 none

  -- so what its changes are answered hangs on the index alone
  pub fed_by_none :
      IsServiceLawful S → (es : History S) → IsLegal S es → (moment source s index : ℕ) (key : K) (after : Option V) → S.control ≤ source
      → (c : C) → c ≡ (state S es).catalog → (a : Reply S)
      → a ≡ feed_answer (nat_lt 0 s && served (indexed S.core S.index) c index (S.index.item_of key))
      → IsAnswer S es moment (Message.ApplyIndex source s index key after) a
  fed_by_none law es legal moment source s index key after none c is a given =
      given
      ∙ (λ j. feed_answer (nat_lt (sym (unmarked (S.core.cell_of key) source es legal none) j) s
      && served (indexed S.core S.index) ((is ∙ sym (agrees S law es).catalog) j) index (S.index.item_of key)))
