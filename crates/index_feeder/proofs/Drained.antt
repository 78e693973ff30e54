-- What is drained where no other pass queued anything.
use Rattle.std.proofs.Common.{◌≡◌, ◌⊎◌, ℕ, suc, ◌+◌, ◌≤◌, ◌<◌, Bool, true, false, cond, leb, leb-true, leb-false, append-nil, ◌==◌, List, [], ◌∷◌, ◌++◌, length, map, filter, reverse, drop, inl, inr, ⊎_elim, refl, sym, ap, ◌∙◌, subst, arith, append_assoc, eq-eqb}
use Rattle.std.proofs.Math.Seq.{drop-append_seam}
use Rattle.std.proofs.lemmas.List.{append_cancel_left}
use Rattle.std.specs.List.{AllByRecursion, range_with_len}
use mathlib.Core.Logic.{dite}
use native.Mathlib.Decide.{ℕ_discrete}
use Rattle.turnstile.specs.Histories.{Trail}
use Rattle.turnstile.specs.Passes.{PassView}
use Rattle.turnstile.proofs.Histories.{at}
use Rattle.index_feed.specs.declared.change.Change.{Change}
use Rattle.index_feed.specs.Feed.{Each}
use Rattle.index_feed.proofs.Always.{always}
use Rattle.index_feed.proofs.Kept.{Sound}
use Rattle.txn_core.specs.Indexes.{IsRestOf, outbox, queues}
use Rattle.txn_core.specs.Indexing.{indexed}
use Rattle.txn_core.specs.Feeding.{feed_after, feed_events}
use Rattle.txn_core.specs.Legal.{IsLegal}
use Rattle.txn_core.specs.Service.{Service, IsServiceLawful, Event, History}
use Rattle.txn_core.proofs.Exports.{beginning_is_tail, newest, legal_before, legal_events, empty_is_empty, others_queue_nothing}
use Rattle.cluster.specs.Events.{pass_of}
use Rattle.index_feeder.specs.Feeds.{Feeding, Found, Fed, all_empty, entries, finds_empty, Drains, LeavesDrained}
use Rattle.index_feeder.proofs.Made.{entries_append}

-- what holds of each that passes a test, and of each that doesn't
all_behind : {X : Type 0} (P : X → Type 0) (xs ys : List X) → AllByRecursion P (xs ++ ys) → AllByRecursion P ys
all_behind P [] ys h = h
all_behind P (x ∷ xs) ys h = all_behind P xs ys h.1

module _ {X : Type 0} (P : X → Type 0) (test : X → Bool) where
  all_so : (xs : List X) → AllByRecursion P (filter test xs) → AllByRecursion (λ x. (test x ≡ true) ⊎ P x) xs → AllByRecursion P xs
  all_so [] kept each = tt
  all_so (x ∷ xs) kept each = by_test (test x) refl (λ k. all_so xs k each.1)
    where
      by_test : (b : Bool) → test x ≡ b → (AllByRecursion P (filter test xs) → AllByRecursion P xs) → AllByRecursion P (x ∷ xs)
      by_test true is below =
          let both = subst (λ ys. AllByRecursion P ys) (ap (λ b. cond b (x ∷ filter test xs) (filter test xs)) is) kept in
          (both.0, below both.1)
      by_test false is below =
          let rest = subst (λ ys. AllByRecursion P ys) (ap (λ b. cond b (x ∷ filter test xs) (filter test xs)) is) kept in
          (⊎_elim (λ e. let no' : true ≡ false = sym e ∙ is in absurd (cc)) (λ p. p) each.0, below rest)

all_weaker : {X : Type 0} (P Q : X → Type 0) → ((x : X) → P x → Q x) → (xs : List X) → AllByRecursion P xs → AllByRecursion Q xs
all_weaker P Q f [] h = tt
all_weaker P Q f (x ∷ xs) h = (f x h.0, all_weaker P Q f xs h.1)

module _ {K V A F C D Q B : Type 0} (S : Service K V A F C D Q B) where
  abbrev QueuesNothing : Event S → Type 0
  QueuesNothing e = queues S e.message e.answer ≡ false

  -- no message of the feed queues anything
  feeds_queue_nothing : (p : PassView (Event S)) (fs : List (Feeding K V)) → AllByRecursion QueuesNothing (entries S p fs)
  feeds_queue_nothing p [] = tt
  feeds_queue_nothing p (Found cell ∷ fs) = (refl, feeds_queue_nothing p fs)
  feeds_queue_nothing p (Fed cell out applied acked ∷ fs) = (refl, (refl, (refl, feeds_queue_nothing p fs)))

  none_left : (xs ys : List (Change K V)) → xs ≡ [] → IsRestOf xs ys → ys ≡ []
  none_left xs ys none (inl same) = same ∙ none
  none_left xs ys none (inr (x, is)) = absurd (cc)

  -- an empty outbox stays empty
  stays_empty :
      (i : ℕ) (log rest : List (Event S)) → AllByRecursion QueuesNothing rest → outbox S (reverse log) i ≡ []
      → outbox S (reverse (log ++ rest)) i ≡ []
  stays_empty i log [] quiet none = subst (λ es. outbox S (reverse es) i ≡ []) (sym (append-nil log)) none
  stays_empty i log (e ∷ rest) quiet none =
      let one : outbox S (e ∷ reverse log) i ≡ [] =
      none_left (outbox S (reverse log) i) (outbox S (e ∷ reverse log) i) none (others_queue_nothing S e (reverse log) quiet.0 i) in
      subst (λ es. outbox S (reverse es) i ≡ []) (append_assoc log (e ∷ []) rest)
      (stays_empty i (log ++ e ∷ []) rest quiet.1 (subst (λ es. outbox S es i ≡ []) (sym (newest log e)) one))

  -- where a partition was found empty among others
  split_at :
      (p : PassView (Event S)) (s n i : ℕ) → s ≤ i → i < s + n
      → (xs : List (Event S)) × (ys : List (Event S)) × (entries S p (map Found (range_with_len s n)) ≡ xs ++ finds_empty S p i ∷ ys)
  split_at p s Rattle.std.specs.Prelude.zero i from below = absurd (omega arith)
  split_at p s (suc n) i from below =
      let rest = entries S p (map Found (range_with_len (s + 1) n)) in
      dite (ℕ_discrete s i)
      (λ same. ([], rest, ap (λ k. finds_empty S p k ∷ rest) same))
      (λ other.
      let t = split_at p (s + 1) n i (omega arith) (omega arith) in
      (finds_empty S p s ∷ t.0, t.1, ap (λ es. finds_empty S p s ∷ es) t.2))

  module _ (law : IsServiceLawful S) where
    -- the cells that are no partitions queue nothing
    no_partition : (es : History S) → IsLegal S es → 1 ≤ S.control → (i : ℕ) → S.control ≤ i → outbox S es i ≡ []
    no_partition es legal some i past =
        let I = indexed S.core S.index in
        let kept = always I law.index.feed S.core.empty (feed_events S es) (legal_events S law es legal) in
        none (outbox S es i) (kept.sound i)
      where
        none : (xs : List (Change K V)) → Each (Sound (indexed S.core S.index) S.core.empty (feed_events S es) (feed_after S es).catalog i) xs → xs ≡ []
        none [] h = refl
        none (x ∷ xs) h =
            let home = h.0.home in
            let below = law.cell_below some (S.index.item_of x.key) in
            absurd (omega arith)

    -- a partition that was found empty, with nothing queued since
    found_empty :
        (p : PassView (Event S)) (i : ℕ) (xs ys log : List (Event S)) → IsLegal S (reverse log)
        → (trail : Trail pass_of p.number p.front (xs ++ finds_empty S p i ∷ ys) log) → AllByRecursion QueuesNothing trail.rest
        → outbox S (reverse log) i ≡ []
    found_empty p i xs ys log legal trail quiet =
        let e = finds_empty S p i in
        let t = at pass_of p.number p.front xs e ys log trail in
        let past = t.0 in
        let before = t.1 in
        let after = t.2 in
        let whole : reverse log ≡ reverse after.rest ++ reverse (past ++ e ∷ []) =
        ap reverse (sym after.is) ∙ beginning_is_tail (past ++ e ∷ []) after.rest in
        let so_far : IsLegal S (reverse (past ++ e ∷ [])) =
        legal_before S (reverse after.rest) (reverse (past ++ e ∷ [])) (subst (IsLegal S) whole legal) in
        let here : IsLegal S (e ∷ reverse past) = subst (IsLegal S) (newest past e) so_far in
        let parts : trail.rest ≡ (before.rest ++ e ∷ []) ++ after.rest =
        append_cancel_left p.front trail.rest ((before.rest ++ e ∷ []) ++ after.rest)
        (trail.is
        ∙ (sym after.is
        ∙ (ap (λ es. (es ++ e ∷ []) ++ after.rest) (sym before.is)
        ∙ (ap (λ es. es ++ after.rest) (append_assoc p.front before.rest (e ∷ []))
        ∙ append_assoc p.front (before.rest ++ e ∷ []) after.rest)))) in
        let since = all_behind QueuesNothing (before.rest ++ e ∷ []) after.rest (subst (λ es. AllByRecursion QueuesNothing es) parts quiet) in
        let none = empty_is_empty S law (reverse past) p.moment i here.1.answer in
        subst (λ es. outbox S (reverse es) i ≡ []) after.is
        (stays_empty i (past ++ e ∷ []) after.rest since (stays_empty i past (e ∷ []) (refl, tt) none))

    -- every partition was found empty, with nothing queued since the call began
    module _ (n : ℕ) (p : PassView (Event S)) (fed : ℕ) (q : PassView (Event S)) (all : n ≡ S.control) (some : 1 ≤ n) (legal : IsLegal S (reverse q.front)) (drains : Drains S n p fed q) where
      abbrev trail : Trail pass_of p.number p.front (entries S p (drains.feedings ++ all_empty n)) q.front
      trail = drains.makes.counts.trail

      since : drop (length p.front) q.front ≡ trail.rest
      since = ap (drop (length p.front)) (sym trail.is) ∙ drop-append_seam p.front trail.rest

      -- own entries queue nothing either
      quiet : AllByRecursion (λ e. (e.pass ≡ p.number) ⊎ QueuesNothing e) (drop (length p.front) q.front) → AllByRecursion QueuesNothing trail.rest
      quiet others =
          all_so QueuesNothing (λ e. pass_of e == p.number) trail.rest
          (subst (λ es. AllByRecursion QueuesNothing es) (sym trail.mine) (feeds_queue_nothing p (drains.feedings ++ all_empty n)))
          (all_weaker (λ e. (e.pass ≡ p.number) ⊎ QueuesNothing e) (λ e. ((pass_of e == p.number) ≡ true) ⊎ QueuesNothing e)
          (λ e h. ⊎_elim (λ mine. inl (eq-eqb (pass_of e) p.number mine)) (λ other. inr other) h) trail.rest
          (subst (λ es. AllByRecursion (λ e. (e.pass ≡ p.number) ⊎ QueuesNothing e) es) since others))

      one_empty : AllByRecursion QueuesNothing trail.rest → (i : ℕ) → i < n → outbox S (reverse q.front) i ≡ []
      one_empty nothing i below =
          let here = split_at p 0 n i (omega arith) (omega arith) in
          let xs = entries S p drains.feedings ++ here.0 in
          let list : entries S p (drains.feedings ++ all_empty n) ≡ xs ++ finds_empty S p i ∷ here.1 =
          entries_append S p drains.feedings (all_empty n)
          ∙ (ap (λ es. entries S p drains.feedings ++ es) here.2
          ∙ sym (append_assoc (entries S p drains.feedings) here.0 (finds_empty S p i ∷ here.1))) in
          found_empty p i xs here.1 q.front legal (record { rest = trail.rest; is = trail.is; mine = trail.mine ∙ list }) nothing

      each_empty : AllByRecursion QueuesNothing trail.rest → (i : ℕ) → outbox S (reverse q.front) i ≡ []
      each_empty nothing i = by_place (leb n i) refl
        where
          by_place : (b : Bool) → leb n i ≡ b → outbox S (reverse q.front) i ≡ []
          by_place true is =
              let past = leb-true n i is in
              let control : 1 ≤ S.control = omega arith in
              let beyond : S.control ≤ i = omega arith in
              no_partition (reverse q.front) legal control i beyond
          by_place false is =
              let short = leb-false n i is in
              let below : i < n = omega arith in
              one_empty nothing i below

      pub leaves_drained : LeavesDrained S p q
      leaves_drained = λ others settled. record { empty = each_empty (quiet others); settled = settled }
