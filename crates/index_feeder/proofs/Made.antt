-- Feeds one after another.
use Rattle.std.proofs.Common.{◌≡◌, ℕ, suc, ◌+◌, ◌*◌, ◌≤◌, List, [], ◌∷◌, ◌++◌, length, refl, sym, ap, ◌∙◌, subst, arith, length-append, append_assoc, append-nil}
use Rattle.std.proofs.Math.Nat.{mul-le-mul_left, mul-le-mul_right}
use Rattle.std.proofs.lemmas.List.{nil_from_length}
use Rattle.std.proofs.lemmas.List.FromFn.{length-map-range_with_len, map-range_with_len_more}
use Rattle.turnstile.specs.Passes.{PassView}
use Rattle.txn_core.specs.Service.{Service, Event}
use Rattle.cluster.specs.declared.step.StepError.{StepError}
use Rattle.cluster.specs.Counts.{Counts, CountsUntil}
use Rattle.cluster.proofs.OwnEntries.{counts_none, counts_on, counts_until}
use Rattle.index_feeder.specs.declared.feeding.Feed.{Feed}
use Rattle.index_feeder.specs.Feeds.{Feeding, Found, Fed, fed_in, all_empty, entries_of, entries, IsCutOff, Feeds, FeedsPartly, Makes, MakesPartly, Empties, GoesRound, Drains, HadUnit}
use Rattle.index_feeder.proofs.Refused.{had_on}

-- what is not none is some
pub some_more : (more : ℕ) → (more ≡ 0 → ⊥) → 1 ≤ more
some_more Rattle.std.specs.Prelude.zero not = absurd (not refl)
some_more (suc more) not = omega arith

module _ {K V : Type 0} where
  fed_append : (fs gs : List (Feeding K V)) → fed_in (fs ++ gs) ≡ fed_in fs + fed_in gs
  fed_append [] gs = omega arith
  fed_append (Found cell ∷ fs) gs = fed_append fs gs
  fed_append (Fed cell out applied acked ∷ fs) gs = let rest = fed_append fs gs in omega arith

module _ {K V A F C D Q B : Type 0} (S : Service K V A F C D Q B) where
  pub entries_append : (p : PassView (Event S)) (fs gs : List (Feeding K V)) → entries S p (fs ++ gs) ≡ entries S p fs ++ entries S p gs
  entries_append p [] gs = refl
  entries_append p (f ∷ fs) gs =
      ap (λ es. entries_of S p f ++ es) (entries_append p fs gs) ∙ sym (append_assoc (entries_of S p f) (entries S p fs) (entries S p gs))

  pub how_many : (p : PassView (Event S)) (fs : List (Feeding K V)) → length (entries S p fs) ≡ length fs + 2 * fed_in fs
  how_many p [] = refl
  how_many p (Found cell ∷ fs) = let rest = how_many p fs in omega arith
  how_many p (Fed cell out applied acked ∷ fs) = let rest = how_many p fs in omega arith

  -- a feed's entries are the same whatever the pass counted before
  forgets : (p : PassView (Event S)) (used : ℕ) (front : List (Event S)) (fs : List (Feeding K V)) → entries S (record p { used = used; front = front }) fs ≡ entries S p fs
  forgets p used front [] = refl
  forgets p used front (Found cell ∷ fs) = ap (λ es. entries_of S p (Found cell) ++ es) (forgets p used front fs)
  forgets p used front (Fed cell out applied acked ∷ fs) = ap (λ es. entries_of S p (Fed cell out applied acked) ++ es) (forgets p used front fs)

  same_entries :
      (p : PassView (Event S)) (xs : List (Event S)) (a : ℕ) (q : PassView (Event S)) → Counts S p xs a q → (fs : List (Feeding K V))
      → entries S q fs ≡ entries S p fs
  same_entries p xs a q counts fs = ap (λ (z : PassView (Event S)). entries S z fs) counts.pass ∙ forgets p q.used q.front fs

  same_cut :
      (p : PassView (Event S)) (xs : List (Event S)) (a : ℕ) (q : PassView (Event S)) → Counts S p xs a q → (cell : ℕ) (es : List (Event S))
      → IsCutOff S q cell es → IsCutOff S p cell es
  same_cut p xs a q counts cell es cut = subst (λ (z : PassView (Event S)). IsCutOff S z cell es) counts.pass cut

  pub makes_none : (p : PassView (Event S)) → Makes S p [] 0 p
  makes_none p = record { counts = counts_none S p; fed_is = refl }

  -- some feeds after others
  pub makes_on :
      (p : PassView (Event S)) (fs : List (Feeding K V)) (a : ℕ) (q : PassView (Event S)) (gs : List (Feeding K V)) (b : ℕ) (r : PassView (Event S))
      → Makes S p fs a q → Makes S q gs b r → Makes S p (fs ++ gs) (a + b) r
  makes_on p fs a q gs b r one two =
      let same = same_entries p (entries S p fs) 0 q one.counts gs in
      let x = one.fed_is in
      let y = two.fed_is in
      let sum = fed_append fs gs in
      record {
        counts =
            subst (λ es. Counts S p es 0 r) (sym (entries_append p fs gs))
            (counts_on S p (entries S p fs) 0 q (entries S p gs) 0 r one.counts (subst (λ es. Counts S q es 0 r) same two.counts));
        fed_is = omega arith;
      }

  -- one of them
  pub makes_one :
      (p : PassView (Event S)) (f : Feeding K V) (q : PassView (Event S)) → Counts S p (entries_of S p f) 0 q → Makes S p (f ∷ []) (fed_in (f ∷ [])) q
  makes_one p f q counts = record { counts = subst (λ es. Counts S p es 0 q) (sym (append-nil (entries_of S p f))) counts; fed_is = refl }

  -- what was fed took units
  pub fed_below : (p : PassView (Event S)) (fs : List (Feeding K V)) (a : ℕ) (q : PassView (Event S)) → Makes S p fs a q → p.used + length fs + 2 * a ≡ q.used
  fed_below p fs a q makes =
      let units = makes.counts.units in
      let many = how_many p fs in
      let is = makes.fed_is in
      omega arith

  -- some that ended by an error, after others
  partly_on :
      (k m n : ℕ) (p : PassView (Event S)) (fs : List (Feeding K V)) (a : ℕ) (q : PassView (Event S)) (why : StepError) (r : PassView (Event S))
      → Makes S p fs a q → length fs ≤ k * a + m → MakesPartly S k n q why r → MakesPartly S k (m + n) p why r
  partly_on k m n p fs a q why r one few two =
      let gs = two.feedings in
      let same = same_entries p (entries S p fs) 0 q one.counts gs in
      let sum = fed_append fs gs in
      let long = length-append fs gs in
      let is = one.fed_is in
      let later = two.few in
      let all : fed_in (fs ++ gs) ≡ a + fed_in gs = omega arith in
      let bound : length (fs ++ gs) ≤ k * (a + fed_in gs) + (m + n) = omega arith in
      record {
        feedings = fs ++ gs;
        few = subst (λ (z : ℕ). length (fs ++ gs) ≤ k * z + (m + n)) (sym all) bound;
        cell = two.cell;
        part = two.part;
        cut = same_cut p (entries S p fs) 0 q one.counts two.cell two.part two.cut;
        counts =
            subst (λ es. CountsUntil S p es why r)
            (sym (ap (λ es. es ++ two.part) (entries_append p fs gs) ∙ append_assoc (entries S p fs) (entries S p gs) two.part))
            (counts_until S p (entries S p fs) q (entries S p gs ++ two.part) why r one.counts
            (subst (λ es. CountsUntil S q (es ++ two.part) why r) same two.counts));
        had =
            subst (λ es. HadUnit S p es why)
            (sym (ap (λ es. es ++ two.part) (entries_append p fs gs) ∙ append_assoc (entries S p fs) (entries S p gs) two.part))
            (had_on S p (entries S p fs) q (entries S p gs ++ two.part) why one.counts (subst (λ es. HadUnit S q (es ++ two.part) why) same two.had));
      }

  partly_wider :
      (k n j m : ℕ) (p : PassView (Event S)) (why : StepError) (q : PassView (Event S)) → k ≤ j → n ≤ m → MakesPartly S k n p why q
      → MakesPartly S j m p why q
  partly_wider k n j m p why q wide more partly =
      let few = partly.few in
      let times = mul-le-mul_right (fed_in partly.feedings) wide in
      record {
        feedings = partly.feedings;
        few = omega arith;
        cell = partly.cell;
        part = partly.part;
        cut = partly.cut;
        counts = partly.counts;
        had = partly.had;
      }

  -- one partition, fed so often so far
  pub record FeedsOn (p : PassView (Event S)) (fed : ℕ) (q : PassView (Event S)) : Type 0 where
    pub feedings : List (Feeding K V)
    pub makes : Makes S p feedings fed q
    pub many : length feedings ≡ fed

  pub feeds_none : (p : PassView (Event S)) → FeedsOn p 0 p
  feeds_none p = record { feedings = []; makes = makes_none p; many = refl }

  module _ (p : PassView (Event S)) (fed : ℕ) (q : PassView (Event S)) (so : FeedsOn p fed q) where
    pub feeds_more : (cell : ℕ) (r : PassView (Event S)) → Feeds S q cell Feed.Fed r → FeedsOn p (fed + 1) r
    feeds_more cell r h =
        let f = Fed cell h.0 h.1 h.2 in
        let long = length-append so.feedings (f ∷ []) in
        let many = so.many in
        record {
          feedings = so.feedings ++ f ∷ [];
          makes = makes_on p so.feedings fed q (f ∷ []) 1 r so.makes (makes_one q f r h.3);
          many = omega arith;
        }

    pub feeds_end : (cell : ℕ) (r : PassView (Event S)) → Feeds S q cell Feed.Empty r → Empties S cell p fed r
    feeds_end cell r h =
        let same : fed + 0 ≡ fed = omega arith in
        record {
          feedings = so.feedings;
          makes =
              subst (λ (k : ℕ). Makes S p (so.feedings ++ Found cell ∷ []) k r) same
              (makes_on p so.feedings fed q (Found cell ∷ []) 0 r so.makes (makes_one q (Found cell) r h));
          many = so.many;
        }

    pub feeds_partly : (cell : ℕ) (why : StepError) (r : PassView (Event S)) → FeedsPartly S q cell why r → MakesPartly S 1 0 p why r
    feeds_partly cell why r h =
        let many = so.many in
        partly_on 1 0 0 p so.feedings fed q why r so.makes (omega arith)
        record { feedings = []; few = omega arith; cell = cell; part = h.part; cut = h.cut; counts = h.counts; had = h.had }

    pub feeds_used : p.used + 3 * fed ≡ q.used
    feeds_used = let below = fed_below p so.feedings fed q so.makes in let many = so.many in omega arith

  -- partitions one after another
  pub round_none : (p : PassView (Event S)) → GoesRound S 0 p 0 p
  round_none p = record { feedings = []; makes = makes_none p; many = refl; none = λ _. refl }

  module _ (i : ℕ) (p : PassView (Event S)) (fed : ℕ) (q : PassView (Event S)) (so : GoesRound S i p fed q) where
    pub round_more : (more : ℕ) (r : PassView (Event S)) → Empties S i q more r → GoesRound S (i + 1) p (fed + more) r
    round_more more r h =
        let gs = h.feedings ++ Found i ∷ [] in
        let long = length-append so.feedings gs in
        let last = length-append h.feedings (Found i ∷ []) in
        let many = so.many in
        let again = h.many in
        record {
          feedings = so.feedings ++ gs;
          makes = makes_on p so.feedings fed q gs more r so.makes h.makes;
          many = omega arith;
          none = λ e.
              let before : fed ≡ 0 = omega (arith, e) in
              let now : more ≡ 0 = omega (arith, e) in
              let nothing : h.feedings ≡ [] = nil_from_length h.feedings (again ∙ now) in
              let place : 0 + i ≡ i = omega arith in
              (λ j. so.none before j ++ (nothing j ++ Found i ∷ [])) ∙ sym (map-range_with_len_more Found 0 i i place);
        }

    pub round_partly : (n : ℕ) (why : StepError) (r : PassView (Event S)) → i ≤ n → MakesPartly S 1 0 q why r → MakesPartly S 1 n p why r
    round_partly n why r within h =
        let many = so.many in
        partly_wider 1 (i + 0) 1 n p why r (omega arith) (omega arith) (partly_on 1 i 0 p so.feedings fed q why r so.makes (omega arith) h)

    pub round_used : p.used + 3 * fed + i ≡ q.used
    round_used = let below = fed_below p so.feedings fed q so.makes in let many = so.many in omega arith

  -- rounds one after another, each of which fed something
  pub record RoundsOn (n : ℕ) (p : PassView (Event S)) (fed : ℕ) (q : PassView (Event S)) : Type 0 where
    pub feedings : List (Feeding K V)
    pub makes : Makes S p feedings fed q
    pub few : length feedings ≤ (n + 1) * fed

  pub rounds_none : (n : ℕ) (p : PassView (Event S)) → RoundsOn n p 0 p
  rounds_none n p = record { feedings = []; makes = makes_none p; few = omega arith }

  module _ (n : ℕ) (p : PassView (Event S)) (fed : ℕ) (q : PassView (Event S)) (so : RoundsOn n p fed q) where
    pub rounds_more : (more : ℕ) (r : PassView (Event S)) → 1 ≤ more → GoesRound S n q more r → RoundsOn n p (fed + more) r
    rounds_more more r some h =
        let long = length-append so.feedings h.feedings in
        let few = so.few in
        let many = h.many in
        let times = mul-le-mul_left n some in
        record {
          feedings = so.feedings ++ h.feedings;
          makes = makes_on p so.feedings fed q h.feedings more r so.makes h.makes;
          few = omega arith;
        }

    pub rounds_end : (more : ℕ) (r : PassView (Event S)) → more ≡ 0 → GoesRound S n q more r → Drains S n p fed r
    rounds_end more r none h =
        let same : fed + more ≡ fed = omega arith in
        record {
          feedings = so.feedings;
          makes =
              subst (λ (z : List (Feeding K V) × ℕ). Makes S p (so.feedings ++ z.0) z.1 r)
              (λ j. (h.none none j, same j))
              (makes_on p so.feedings fed q h.feedings more r so.makes h.makes);
          few = so.few;
        }

    pub rounds_partly : (why : StepError) (r : PassView (Event S)) → MakesPartly S 1 n q why r → MakesPartly S (n + 1) n p why r
    rounds_partly why r h =
        let few = so.few in
        let same : 0 + n ≡ n = omega arith in
        subst (λ (z : ℕ). MakesPartly S (n + 1) z p why r) same
        (partly_on (n + 1) 0 n p so.feedings fed q why r so.makes (omega arith) (partly_wider 1 n (n + 1) n q why r (omega arith) (omega arith) h))

    pub rounds_used : p.used + 2 * fed ≤ q.used
    rounds_used = let below = fed_below p so.feedings fed q so.makes in omega arith

  all_long : (fs : List (Feeding K V)) (n : ℕ) → fs ≡ all_empty n → length fs ≡ n
  all_long fs n is = ap length is ∙ length-map-range_with_len Found 0 n

  -- how many units a whole drain takes
  pub drain_units : (n : ℕ) (p : PassView (Event S)) (fed : ℕ) (q : PassView (Event S)) → Drains S n p fed q → q.used ≤ p.used + n + (n + 3) * fed
  drain_units n p fed q drains =
      let below = fed_below p (drains.feedings ++ all_empty n) fed q drains.makes in
      let long = length-append drains.feedings (all_empty n) in
      let last = all_long (all_empty n) n refl in
      let few = drains.few in
      omega arith
