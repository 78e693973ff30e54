-- After every list of entries the feed lists all items of a cell, and all its rows of each index.
use Rattle.std.proofs.Common.{◌≡◌, ◌⊎◌, inl, inr, ℕ, suc, Bool, true, false, nat_eq, if◌then◌else◌, List, [], ◌∷◌, Option, None, is_some, refl, sym, ap, ◌∙◌, subst}
use Rattle.std.proofs.Common.{Less, Equal, Greater}
use Rattle.std.specs.List.{AllByRecursion, list_any}
use Rattle.std.specs.List.Sorted.{IsStrictlySortedBy}
use Rattle.std.specs.Ordering.{ordering_reverse}
use Rattle.std.specs.declared.cmp.Ordering.{Ordering}
use Rattle.std.proofs.lemmas.Bool.{and_right, cond_both, cases_Bool, or_cases, eqb-true, eq-eqb}
use Rattle.index_feed.specs.declared.change.Change.{Change}
use Rattle.index_feed.specs.Feed.{Each, Indexed, Feed, Event as FeedEvent, Sets, Commands, Peeks, Feeds, Acks, Rests, IsLawful, acked, arranged, at, fed, gather, is_at, is_fed, placed, served, step}
use Rattle.index_feed.proofs.Arranged.{added, others}
use Rattle.index_feed.proofs.Kept.{at_split}
use Rattle.txn_core.specs.declared.message.Message.{Message}
use Rattle.txn_core.specs.declared.answer.Answer.{Answer}
use Rattle.txn_core.specs.Effects.{Effect, Wrote, Applied, Changed}
use Rattle.txn_core.specs.Feeding.{event_of, feed_after, item_event, message_event}
use Rattle.txn_core.specs.History.{effect_of}
use Rattle.txn_core.specs.Indexing.{indexed}
use Rattle.txn_core.specs.Legal.{state}
use Rattle.txn_core.specs.Service.{Service, History, IsServiceLawful}
use Rattle.txn_core.specs.State.{State, kept_or}
use Rattle.txn_core.proofs.Agreement.{Agrees, agrees}
use Rattle.partition.specs.Listed.{AreAllOf, ListsAll}

all_weaker : {X : Type 0} (P Q : X → Type 0) (xs : List X) → ((x : X) → P x → Q x) → AllByRecursion P xs → AllByRecursion Q xs
all_weaker P Q [] up all = tt
all_weaker P Q (x ∷ xs) up all = (up x all.0, all_weaker P Q xs up all.1)

kept_some : {V : Type 0} (before now : Bool) (old new : Option V) → is_some (kept_or before now old new) ≡ true → (is_some old ≡ true) ⊎ (is_some new ≡ true)
kept_some true true old new there = inl there
kept_some false true old new there = inr there
kept_some before false old new there = absurd (cc)

module _ {K V C : Type 0} (I : Indexed K V C) where
  -- an event that brings items lists their keys
  abbrev pub Brings : Feed K V C → FeedEvent K V C → Type 0
  Brings f (Commands c ks row) = (k : K) → is_some (row k) ≡ true → (is_some (f.row k) ≡ true) ⊎ (list_any (λ x. I.same x k) ks ≡ true)
  Brings f _ = Unit {0}

  each_arranged : (P : K → Type 0) (k : K) (ks : List K) → P k → Each P ks → Each P (arranged I k ks)
  each_arranged P k [] here all = (here, tt)
  each_arranged P k (q ∷ qs) here all = by_order (I.cmp k q) (each_arranged P k qs here all.1)
    where
      by_order : (o : Ordering) → Each P (arranged I k qs) → Each P (placed I k q qs (arranged I k qs) o)
      by_order Less rest = (here, all)
      by_order Equal rest = all
      by_order Greater rest = (all.0, rest)

  all_arranged : (P : K → Type 0) (k : K) (ks : List K) → P k → AllByRecursion P ks → AllByRecursion P (arranged I k ks)
  all_arranged P k [] here all = (here, tt)
  all_arranged P k (q ∷ qs) here all = by_order (I.cmp k q) (all_arranged P k qs here all.1)
    where
      by_order : (o : Ordering) → AllByRecursion P (arranged I k qs) → AllByRecursion P (placed I k q qs (arranged I k qs) o)
      by_order Less rest = (here, all)
      by_order Equal rest = all
      by_order Greater rest = (all.0, rest)

  -- the same keys list the rows of another kind, where no more stand there
  fewer : (i : ℕ) (row other : K → Option V) (ks : List K) → ((k : K) → I.cell_of k ≡ i → is_some (other k) ≡ true → is_some (row k) ≡ true)
      → AreAllOf I i row ks → AreAllOf I i other ks
  fewer i row other ks less are = record { homes = are.homes; rise = are.rise; all = λ k home there. are.all k home (less k home there) }

  module _ (law : IsLawful I) where
    rise_arranged : (k : K) (ks : List K) → IsStrictlySortedBy I.cmp ks → IsStrictlySortedBy I.cmp (arranged I k ks)
    unfolding IsStrictlySortedBy
    rise_arranged k [] rise = (tt, tt)
    rise_arranged k (q ∷ qs) rise = by_order (I.cmp k q) refl (rise_arranged k qs rise.1)
      where
        by_order : (o : Ordering) → I.cmp k q ≡ o → IsStrictlySortedBy I.cmp (arranged I k qs) → IsStrictlySortedBy I.cmp (placed I k q qs (arranged I k qs) o)
        by_order Less is rest = ((is, all_weaker (λ y. I.cmp q y ≡ Less) (λ y. I.cmp k y ≡ Less) qs (λ y h. law.ordered.trans k q y is h) rise.0), rise)
        by_order Equal is rest = rise
        by_order Greater is rest =
            (all_arranged (λ y. I.cmp q y ≡ Less) k qs (law.ordered.antisymm q k ∙ ap (λ o. ordering_reverse o) is) rise.0, rest)

    -- a key of the cell more, at which anything may stand now
    more : (i : ℕ) (k : K) (row other : K → Option V) (ks : List K) → I.cell_of k ≡ i
        → ((q : K) → I.same k q ≡ false → is_some (other q) ≡ true → is_some (row q) ≡ true)
        → AreAllOf I i row ks → AreAllOf I i other (arranged I k ks)
    more i k row other ks home apart are =
        record {
          homes = each_arranged (λ q. I.cell_of q ≡ i) k ks home are.homes;
          rise = rise_arranged k ks are.rise;
          all = λ q at_home there. elim (cases_Bool (I.same k q)) [
            | inl one ↦ subst (λ z. list_any (λ x. I.same x z) (arranged I k ks) ≡ true) (law.exact k q one) (added I law k ks)
            | inr not_one ↦ others I law k q ks (are.all q at_home (apart q not_one there))
          ];
        }

    -- the same where it is put into the keys of its own cell
    put : (i : ℕ) (keys : ℕ → List K) (k : K) (row other : K → Option V) → ((q : K) → I.same k q ≡ false → is_some (other q) ≡ true → is_some (row q) ≡ true)
        → AreAllOf I i row (keys i) → AreAllOf I i other (at keys (I.cell_of k) (arranged I k (keys (I.cell_of k))) i)
    put i keys k row other apart are =
        at_split keys (I.cell_of k) (arranged I k (keys (I.cell_of k))) i (λ ks. AreAllOf I i other ks)
        (λ home. more i k row other (keys (I.cell_of k)) home apart (subst (λ j. AreAllOf I i row (keys j)) (sym home) are))
        (λ away. fewer i row other (keys i) (λ q home there. apart q (elsewhere q away home) there) are)
      where
        elsewhere : (q : K) → (I.cell_of k ≡ i → ⊥) → I.cell_of q ≡ i → I.same k q ≡ false
        elsewhere q away home = elim (cases_Bool (I.same k q)) [
          | inl one ↦ absurd (away (ap I.cell_of (law.exact k q one) ∙ home))
          | inr not_one ↦ not_one
        ]

    -- a key is one of those that come, or a later one of them
    first_or : (i : ℕ) (q k : K) (ks keys : List K) → (I.same k q ≡ true → list_any (λ x. I.same x q) (arranged I k (gather I i ks keys)) ≡ true)
    first_or i q k ks keys one =
        subst (λ z. list_any (λ x. I.same x z) (arranged I k (gather I i ks keys)) ≡ true) (law.exact k q one) (added I law k (gather I i ks keys))

    -- of keys that come those of the cell are put in, and the others stay
    gathered : (i : ℕ) (q : K) (ks keys : List K) → I.cell_of q ≡ i
        → (list_any (λ x. I.same x q) keys ≡ true) ⊎ (list_any (λ x. I.same x q) ks ≡ true) → list_any (λ x. I.same x q) (gather I i ks keys) ≡ true
    gathered i q [] keys home (inl had) = had
    gathered i q [] keys home (inr none) = absurd (cc)
    gathered i q (k ∷ ks) keys home (inl had) =
        let rest = gathered i q ks keys home (inl had) in
        cond_both (nat_eq (I.cell_of k) i) (arranged I k (gather I i ks keys)) (gather I i ks keys) (λ ys. list_any (λ x. I.same x q) ys ≡ true)
        (λ _. others I law k q (gather I i ks keys) rest) (λ _. rest)
    gathered i q (k ∷ ks) keys home (inr new) = elim (or_cases (I.same k q) (list_any (λ x. I.same x q) ks) new) [
      | inl one ↦
          ap (λ b. list_any (λ x. I.same x q) (if b then arranged I k (gather I i ks keys) else gather I i ks keys)) (eq-eqb (I.cell_of k) i (ap I.cell_of (law.exact k q one) ∙ home))
          ∙ first_or i q k ks keys one
      | inr later ↦
          let rest = gathered i q ks keys home (inr later) in
          cond_both (nat_eq (I.cell_of k) i) (arranged I k (gather I i ks keys)) (gather I i ks keys) (λ ys. list_any (λ x. I.same x q) ys ≡ true)
          (λ _. others I law k q (gather I i ks keys) rest) (λ _. rest)
    ]

    gathered_at_home : (i : ℕ) (ks keys : List K) → Each (λ k. I.cell_of k ≡ i) keys → Each (λ k. I.cell_of k ≡ i) (gather I i ks keys)
    gathered_at_home i [] keys homes = homes
    gathered_at_home i (k ∷ ks) keys homes =
        cond_both (nat_eq (I.cell_of k) i) (arranged I k (gather I i ks keys)) (gather I i ks keys) (λ ys. Each (λ q. I.cell_of q ≡ i) ys)
        (λ home. each_arranged (λ q. I.cell_of q ≡ i) k (gather I i ks keys) (eqb-true (I.cell_of k) i home) (gathered_at_home i ks keys homes))
        (λ _. gathered_at_home i ks keys homes)

    gathered_rise : (i : ℕ) (ks keys : List K) → IsStrictlySortedBy I.cmp keys → IsStrictlySortedBy I.cmp (gather I i ks keys)
    gathered_rise i [] keys rise = rise
    gathered_rise i (k ∷ ks) keys rise =
        cond_both (nat_eq (I.cell_of k) i) (arranged I k (gather I i ks keys)) (gather I i ks keys) (λ ys. IsStrictlySortedBy I.cmp ys)
        (λ _. rise_arranged k (gather I i ks keys) (gathered_rise i ks keys rise)) (λ _. gathered_rise i ks keys rise)

    acked_lists : (i j s : ℕ) (f : Feed K V C) (xs : List (Change K V)) → ListsAll I i f → ListsAll I i (acked I f j s xs)
    acked_lists i j s f [] are = are
    acked_lists i j s f (x ∷ xs) are =
        cond_both (nat_eq s (suc (f.sent j))) (record f { sent = at f.sent j s; outbox = at f.outbox j xs }) f (λ g. ListsAll I i g)
        (λ _. record { items = are.items; rows = are.rows }) (λ _. are)

    -- every event leaves all listed, where those that it brings are
    pub step_lists : (i : ℕ) (f : Feed K V C) (x : FeedEvent K V C) → Brings f x → ListsAll I i f → ListsAll I i (step I f x)
    step_lists i f (Sets k new) brings are =
        record {
          items = put i f.keys k f.row (λ q. if I.same k q then new else f.row q)
              (λ q apart there. ap (λ b. is_some (if b then new else f.row q)) (sym apart) ∙ there) are.items;
          rows = are.rows;
        }
    step_lists i f (Commands c ks row) brings are =
        record {
          items = record {
            homes = gathered_at_home i ks (f.keys i) are.items.homes;
            rise = gathered_rise i ks (f.keys i) are.items.rise;
            all = λ k home there. gathered i k ks (f.keys i) home (elim (brings k there) [
              | inl old ↦ inl (are.items.all k home old)
              | inr new ↦ inr new
            ]);
          };
          rows = λ g. fewer i (f.shown g) (λ q. if served I c g (I.item_of q) then f.shown g q else None) (f.row_keys i)
              (λ q home. cond_both (served I c g (I.item_of q)) (f.shown g q) None (λ o. is_some o ≡ true → is_some (f.shown g q) ≡ true) (λ _ there. there) (λ _ none. absurd (cc)))
              (are.rows g);
        }
    step_lists i f (Peeks j o) brings are = are
    step_lists i f (Feeds j s x) brings are =
        cond_both (is_fed I f j s x) (fed I f j s x) f (λ h. ListsAll I i h)
        (λ _. record {
          items = are.items;
          rows = λ g. put i f.row_keys x.key (f.shown g) (λ q. if is_at I x g q then x.after else f.shown g q)
              (λ q apart there. ap (λ b. is_some (if b then x.after else f.shown g q)) (sym (and_right (nat_eq x.index g) (I.same x.key q) apart)) ∙ there)
              (are.rows g);
        })
        (λ _. are)
    step_lists i f (Acks j s) brings are = acked_lists i j s f (f.outbox j) are
    step_lists i f Rests brings are = are

module _ {K V A F C D Q B : Type 0} (S : Service K V A F C D Q B) (law : IsServiceLawful S) where
  brought_by_message : (f : Feed K V C) (m : Message K V A F D Q) (a : Answer K V A F B) → Brings (indexed S.core S.index) f (message_event m a)
  brought_by_message f (Message.PeekOut source) a = tt
  brought_by_message f (Message.ApplyIndex source sequence index row_key after) a = tt
  brought_by_message f (Message.Ack source sequence) a = tt
  brought_by_message f _ a = tt

  brought : (w : State K V A C) (f : Feed K V C) (e : Effect K A D) (x : FeedEvent K V C) → Agrees S.core S.index w f
      → Brings (indexed S.core S.index) f x → Brings (indexed S.core S.index) f (item_event S.core S.index w e x)
  brought w f (Changed d moment) x agree h = λ k there.
      elim (kept_some (S.core.there w.catalog k) (S.core.there (S.core.change d moment w.catalog) k) (w.spot k).row (S.core.adds d w.catalog k) there) [
        | inl old ↦ inl (subst (λ v. is_some v ≡ true) (sym (agree.row k)) old)
        | inr new ↦ inr (law.index.brings d w.catalog k new)
      ]
  brought w f (Wrote a moment) x agree h = tt
  brought w f (Applied n k) x agree h = tt
  brought w f _ x agree h = h

  -- the feed of every list of entries lists all
  pub lists_after : (i : ℕ) (es : History S) → ListsAll (indexed S.core S.index) i (feed_after S es)
  unfolding IsStrictlySortedBy
  lists_after i [] =
      record {
        items = record { homes = tt; rise = tt; all = λ k home none. absurd (cc) };
        rows = λ g. record { homes = tt; rise = tt; all = λ k home none. absurd (cc) };
      }
  lists_after i (e ∷ es) =
      let w = state S es in
      step_lists (indexed S.core S.index) law.index.feed i (feed_after S es) (event_of S w e.moment e.message e.answer)
      (brought w (feed_after S es) (effect_of e.moment e.message e.answer) (message_event e.message e.answer) (agrees S law es) (brought_by_message (feed_after S es) e.message e.answer))
      (lists_after i es)
