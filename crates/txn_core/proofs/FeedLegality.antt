-- A legal history gives a legal list of events of the feed, so the laws of the feed hold of it.
use Rattle.std.proofs.Common.{◌≡◌, ◌⊎◌, inl, inr, ℕ, zero, suc, ◌<◌, ◌≤◌, Bool, true, false, nat_eq, List, [], ◌∷◌, Option, None, Some, is_some, refl, sym, ap, ◌∙◌, subst, arith}
use Rattle.std.specs.List.{list_any}
use Rattle.std.proofs.lemmas.Bool.{and_parts, eqb-true, or_cases}
use Rattle.index_feed.specs.declared.change.Change.{Change}
use Rattle.index_feed.specs.Feed.{Out, Indexed, Feed, Event as FeedEvent, Sets, Commands, Peeks, Feeds, Acks, Rests, served, WasPeeked as WasShown, WasSent, IsRuled as IsCommanded, Allowed as MayHappen, IsLegal as IsLegalFeed}
use Rattle.txn_core.specs.declared.message.Message.{Message}
use Rattle.txn_core.specs.declared.answer.Answer.{Answer}
use Rattle.txn_core.specs.declared.entry.Entry.{Entry}
use Rattle.txn_core.specs.Indexing.{indexed}
use Rattle.txn_core.specs.Service.{Service, IsServiceLawful}
use Rattle.txn_core.specs.Effects.{Effect, Wrote, Applied, Changed}
use Rattle.txn_core.specs.State.{State, kept_or, state_after}
use Rattle.txn_core.specs.Answers.{out_answer}
use Rattle.txn_core.specs.History.{effect, effects, Had}
use Rattle.txn_core.specs.Feeding.{change, out_of, message_event, item_event, event_of, feed_events, feed_after}
use Rattle.txn_core.specs.Legal.{out_after, feeds, WasPeeked, IsAnswer, Allowed, IsLegal}
use Rattle.txn_core.proofs.Agreement.{Agrees, agrees}

kept_some : {V : Type 0} (before now : Bool) (old new : Option V) → is_some (kept_or before now old new) ≡ true → (is_some old ≡ true) ⊎ (is_some new ≡ true)
kept_some true true old new e = inl e
kept_some false true old new e = inr e
kept_some before false old new e = absurd (cc)

pub kept_stays : {V : Type 0} (before now : Bool) (old new : Option V) → before ≡ true → now ≡ true → kept_or before now old new ≡ old
kept_stays before now old new e h = ap (λ b. kept_or b now old new) e ∙ ap (λ b. kept_or true b old new) h

module _ {K V C : Type 0} (I : Indexed K V C) where
  shown_on : (x : FeedEvent K V C) (es : List (FeedEvent K V C)) (i s : ℕ) (c : Change K V) → WasShown I es i s c → WasShown I (x ∷ es) i s c
  shown_on (Peeks j o) es i s c h = inr h
  shown_on (Sets k v) es i s c h = h
  shown_on (Commands d ks row) es i s c h = h
  shown_on (Feeds j t y) es i s c h = h
  shown_on (Acks j t) es i s c h = h
  shown_on Rests es i s c h = h

  sent_on : (x : FeedEvent K V C) (es : List (FeedEvent K V C)) (i s : ℕ) → WasSent I es i s → WasSent I (x ∷ es) i s
  sent_on (Feeds j t y) es i s h = inr h
  sent_on (Sets k v) es i s h = h
  sent_on (Commands d ks row) es i s h = h
  sent_on (Peeks j o) es i s h = h
  sent_on (Acks j t) es i s h = h
  sent_on Rests es i s h = h

module _ {K V A F C D Q B : Type 0} (S : Service K V A F C D Q B) (law : IsServiceLawful S) where
  out_is : (o : Option (Out K V)) → out_of (out_answer {A = A} {F = F} {B = B} S.core.cell_of o) ≡ o
  out_is None = refl
  out_is (Some o) = refl

  was_shown :
      (es : List (Entry K V A F D Q B)) (source sequence index : ℕ) (key : K) (after : Option V)
      → WasPeeked S es source sequence index key after
      → WasShown (indexed S.core S.index) (feed_events S es) source sequence (change index key after)
  was_shown [] source sequence index key after (k, y, lt, is, q) = absurd (omega arith)
  was_shown (e ∷ es) source sequence index key after (suc k, y, lt, is, q) =
      shown_on (indexed S.core S.index) (event_of S (state_after S.core (effects es)) e.moment e.message e.answer) (feed_events S es) source sequence (change index key after)
      (was_shown es source sequence index key after (k, y, omega arith, is, q))
  was_shown (e ∷ es) source sequence index key after (zero, y, lt, is, q) =
      let p : (e.message ≡ Message.PeekOut source) × (e.answer ≡ Answer.Out sequence index (S.core.cell_of key) key after) =
      subst (λ z. (z.message ≡ Message.PeekOut source) × (z.answer ≡ Answer.Out sequence index (S.core.cell_of key) key after)) (sym is) q
      in
      subst (λ x. WasShown (indexed S.core S.index) (x ∷ feed_events S es) source sequence (change index key after))
      (sym (ap (λ m. event_of S (state_after S.core (effects es)) e.moment m e.answer) p.0 ∙ ap (λ a. event_of S (state_after S.core (effects es)) e.moment (Message.PeekOut source) a) p.1))
      (inl (refl, refl))

  sent_here :
      (w : State K V A C) (xs : List (FeedEvent K V C)) (moment : ℕ) (m : Message K V A F D Q) (a : Answer K V A F B) (source sequence : ℕ)
      → feeds S source sequence m a ≡ true → WasSent (indexed S.core S.index) (event_of S w moment m a ∷ xs) source sequence
  sent_here w xs moment (Message.ApplyIndex s n index key after) a source sequence e =
      let p = and_parts (nat_eq s source) (nat_eq n sequence) e in inl (eqb-true s source p.0, eqb-true n sequence p.1)
  sent_here w xs moment _ a source sequence e = absurd (cc)

  pub was_sent :
      (es : List (Entry K V A F D Q B)) (source sequence : ℕ) → Had (feeds S source sequence) es
      → WasSent (indexed S.core S.index) (feed_events S es) source sequence
  was_sent [] source sequence h = absurd (cc)
  was_sent (e ∷ es) source sequence h =
      elim (or_cases (feeds S source sequence e.message e.answer) (list_any (λ e. feeds S source sequence e.message e.answer) es) h) [
        | inl a ↦ sent_here (state_after S.core (effects es)) (feed_events S es) e.moment e.message e.answer source sequence a
        | inr b ↦ sent_on (indexed S.core S.index) (event_of S (state_after S.core (effects es)) e.moment e.message e.answer) (feed_events S es) source sequence (was_sent es source sequence b)
      ]

  message_allowed :
      (es : List (Entry K V A F D Q B)) (pass moment : ℕ) (m : Message K V A F D Q) (a : Answer K V A F B) → Allowed S es pass m
      → IsAnswer S es moment m a → MayHappen (indexed S.core S.index) S.core.empty (feed_events S es) (message_event m a)
  message_allowed es pass moment (Message.PeekOut source) a h is = ap (λ x. out_of x) is.1 ∙ out_is (out_after S es source)
  message_allowed es pass moment (Message.ApplyIndex source sequence index key after) a h is = was_shown es source sequence index key after h
  message_allowed es pass moment (Message.Ack source sequence) a h is = was_sent es source sequence h
  message_allowed es pass moment _ a h is = tt

  commanded :
      (w : State K V A C) (f : Feed K V C) (d : D) (moment : ℕ) → Agrees S.core S.index w f
      → IsCommanded (indexed S.core S.index) f (S.core.change d moment w.catalog) (S.index.brings d w.catalog)
      (λ q. kept_or (S.core.there w.catalog q) (S.core.there (S.core.change d moment w.catalog) q) (w.spot q).row (S.core.adds d w.catalog q))
  commanded w f d moment h =
      let I = indexed S.core S.index in
      let next = S.core.change d moment w.catalog in
      record {
        grows = subst (λ c. S.core.drawn c ≤ S.core.drawn next) (sym h.catalog) (law.core.grows d moment w.catalog);
        comes = λ g k s. subst (λ c. (served I c g k ≡ true) ⊎ (S.core.drawn c < g)) (sym h.catalog) (law.index.comes d moment w.catalog g k s);
        steady = λ g k v s t.
            law.index.steady d moment w.catalog g k v s (subst (λ c. served I c g k ≡ true) h.catalog t) ∙ ap (λ c. S.index.row_of c g k v) (sym h.catalog);
        stays = λ g k s t.
            kept_stays (S.core.there w.catalog k) (S.core.there next k) (w.spot k).row (S.core.adds d w.catalog k)
            (law.index.there w.catalog g k (subst (λ c. served I c g k ≡ true) h.catalog t)) (law.index.there next g k s)
            ∙ sym (h.row k);
        lists = λ k s. elim (kept_some (S.core.there w.catalog k) (S.core.there next k) (w.spot k).row (S.core.adds d w.catalog k) s) [
          | inl a ↦ inl (subst (λ v. is_some v ≡ true) (sym (h.row k)) a)
          | inr b ↦ inr (law.index.brings d w.catalog k b)
        ];
      }

  item_allowed :
      (es : List (Entry K V A F D Q B)) (e : Effect K A D) (x : FeedEvent K V C) → MayHappen (indexed S.core S.index) S.core.empty (feed_events S es) x
      → MayHappen (indexed S.core S.index) S.core.empty (feed_events S es) (item_event S.core S.index (state_after S.core (effects es)) e x)
  item_allowed es (Wrote a moment) x h = tt
  item_allowed es (Applied n k) x h = tt
  item_allowed es (Changed d moment) x h = commanded (state_after S.core (effects es)) (feed_after S es) d moment (agrees S law es)
  item_allowed es _ x h = h

  pub legal_events : (es : List (Entry K V A F D Q B)) → IsLegal S es → IsLegalFeed (indexed S.core S.index) S.core.empty (feed_events S es)
  legal_events [] legal = tt
  legal_events (e ∷ es) legal = (
    legal_events es legal.0,
    item_allowed es (effect e) (message_event e.message e.answer) (message_allowed es e.pass e.moment e.message e.answer legal.1.allowed legal.1.answer),
  )
