-- A version that is the same twice: the item stood still between, and what waited on it waits.
use Rattle.std.proofs.Common.{◌≡◌, ◌⊎◌, inl, inr, ℕ, ◌+◌, ◌<◌, ◌≤◌, true, false, List, [], ◌∷◌, ◌++◌, Option, None, Some, is_some, if◌then◌else◌, refl, sym, ap, ◌∙◌, subst, arith}
use Rattle.std.proofs.lemmas.Bool.{cond_both, cond-true, cond-false, cases_Bool}
use Rattle.txn_core.specs.declared.stamp.Stamp.{Stamp}
use Rattle.txn_core.specs.declared.fate.Fate.TheVariants.{Undecided, Committed, Cancelled}
use Rattle.txn_core.specs.Stamps.{single}
use Rattle.txn_core.specs.Protocol.{after, Protocol, IsLawful}
use Rattle.txn_core.specs.Effects.{Effect, Wrote, Begun, Prepared, Commits, Cancels, Applied, Released, Changed}
use Rattle.txn_core.specs.State.{Pending, Spot, Tally, State, holder, at, kept_or, hold, image_or, stamp_or, tally_after, spot_wrote, spot_prepared, spot_applied, spot_released, here, on_key, step, state_after}
use Rattle.txn_core.specs.Runs.{May, IsRun}
use Rattle.txn_core.specs.Serial.{serial, tables}
use Rattle.txn_core.specs.Laws.{version_of}
use Rattle.txn_core.proofs.Basics.{none_some, some_is, at_split, holder_is}
use Rattle.txn_core.proofs.Invariant.{Good}
use Rattle.txn_core.proofs.Kept.{good, released_open}
use Rattle.txn_core.proofs.Readings.{tab_read}

count_after : {V : Type 0} (c : Tally) (s : Spot V) (v : Option V) (own : Stamp) → (tally_after c s v own).count ≡ c.count + 1
count_after c s None own = refl
count_after c s (Some x) own = refl

gone_after : {V : Type 0} (c : Tally) (s : Spot V) (v : Option V) (own : Stamp) → c.gone ≤ c.count → (tally_after c s v own).gone ≤ c.count + 1
gone_after c s None own h = omega arith
gone_after c s (Some x) own h = omega arith

-- the version of the item that was changed is new
version_after : {V : Type 0} (c : Tally) (s : Spot V) (v : Option V) (own : Stamp) → (if is_some v then c.count + 1 else (tally_after c s v own).gone) ≡ c.count + 1
version_after c s None own = refl
version_after c s (Some x) own = refl

module _ {K V A F C D : Type 0} (P : Protocol K V A F C D) where
  -- no version is past its cell's count
  pub record Counted (w : State K V A C) : Type 0 where
    pub versions : (q : K) → (w.spot q).version ≤ (here P w q).count
    pub gone : (i : ℕ) → (w.cell i).gone ≤ (w.cell i).count

  version_counted : (w : State K V A C) → Counted w → (q : K) → version_of P w q ≤ (here P w q).count
  version_counted w h q = cond_both (is_some (w.spot q).row) (w.spot q).version (here P w q).gone (λ x. x ≤ (here P w q).count) (λ _. h.versions q) (λ _. h.gone (P.cell_of q))

  module _ (law : IsLawful P) where
    counted_on_key : (w : State K V A C) (k : K) (f : Spot V → Spot V) (c : Tally) → Counted w → ((s : Spot V) → s.version ≤ (here P w k).count → (f s).version ≤ c.count) → (here P w k).count ≤ c.count → c.gone ≤ c.count → Counted (on_key P w k f c)
    counted_on_key w k f c h touched up gone =
        record {
          versions = λ q. cond_both (P.same k q) (f (w.spot q)) (w.spot q) (λ s. s.version ≤ (at w.cell (P.cell_of k) c (P.cell_of q)).count)
              (λ e. at_split w.cell (P.cell_of k) c (P.cell_of q) (λ d. (f (w.spot q)).version ≤ d.count)
              (λ m. touched (w.spot q) (subst (λ i. (w.spot q).version ≤ (w.cell i).count) (sym m) (h.versions q))) (λ m. absurd (m (law.one_cell k q e))))
              (λ e. at_split w.cell (P.cell_of k) c (P.cell_of q) (λ d. (w.spot q).version ≤ d.count)
              (λ m. let v : (w.spot q).version ≤ (here P w k).count = subst (λ i. (w.spot q).version ≤ (w.cell i).count) (sym m) (h.versions q) in omega arith) (λ m. h.versions q));
          gone = λ i. at_split w.cell (P.cell_of k) c i (λ d. d.gone ≤ d.count) (λ _. gone) (λ _. h.gone i);
        }

    counted_step : (w : State K V A C) (e : Effect K A D) → Counted w → Counted (step P w e)
    counted_step w (Wrote a moment) h =
        let k = P.key_of a in
        let v = after (P.act w.catalog a (w.spot k).row) (w.spot k).row in
        let n = count_after (here P w k) (w.spot k) v (single moment) in
        counted_on_key w k (spot_wrote P w.catalog (here P w k) a moment) (tally_after (here P w k) (w.spot k) v (single moment)) h
        (λ s _. omega arith) (omega arith) (let m = gone_after (here P w k) (w.spot k) v (single moment) (h.gone (P.cell_of k)) in omega arith)
    counted_step w (Applied n k) h =
        let v = image_or (w.spot k).row (w.spot k).pend in
        let own = stamp_or (w.spot k).stamp (w.spot k).pend in
        let c = count_after (here P w k) (w.spot k) v own in
        counted_on_key w k (spot_applied (here P w k) n) (tally_after (here P w k) (w.spot k) v own) h
        (λ s _. omega arith) (omega arith) (let m = gone_after (here P w k) (w.spot k) v own (h.gone (P.cell_of k)) in omega arith)
    counted_step w (Prepared n stamp a) h =
        counted_on_key w (P.key_of a) (spot_prepared P w.catalog n stamp a) (here P w (P.key_of a)) h (λ s v. v) (omega arith) (h.gone (P.cell_of (P.key_of a)))
    counted_step w (Released n k) h = counted_on_key w k (λ s. spot_released s) (here P w k) h (λ s v. v) (omega arith) (h.gone (P.cell_of k))
    counted_step w (Changed d moment) h =
        record {
          versions = λ q. cond_both (P.there w.catalog q) (w.spot q).version ((here P w q).count + 1) (λ n. n ≤ (here P w q).count + 1) (λ _. let v = h.versions q in omega arith) (λ _. omega arith);
          gone = λ i. let g = h.gone i in omega arith;
        }
    counted_step w (Commits n) h = record { versions = h.versions; gone = h.gone }
    counted_step w _ h = record { versions = h.versions; gone = h.gone }

    pub counted : (es : List (Effect K A D)) → Counted (state_after P es)
    counted [] = record { versions = λ q. omega arith; gone = λ i. omega arith }
    counted (e ∷ es) = counted_step (state_after P es) e (counted es)

    -- an item stands still: its row, its version, and a committed pending on it
    pub record Still (w u : State K V A C) (q : K) : Type 0 where
      pub row : (u.spot q).row ≡ (w.spot q).row
      pub version : version_of P u q ≡ version_of P w q
      pub stays : (p : Pending V) → (w.spot q).pend ≡ Some p → w.ledger.fate p.number ≡ Committed → ((u.spot q).pend ≡ Some p) × (u.ledger.fate p.number ≡ Committed)

    module _ (w : State K V A C) (good_w : Good P w) (q : K) where
      -- an item's cell, where one item of a cell is changed
      new_here : (k : K) (c : Tally) → P.same k q ≡ true → at w.cell (P.cell_of k) c (P.cell_of q) ≡ c
      new_here k c e = at_split w.cell (P.cell_of k) c (P.cell_of q) (λ d. d ≡ c) (λ _. refl) (λ m. absurd (m (law.one_cell k q e)))

      -- a change of the item itself: its version is new
      touched : (k : K) (f : Spot V → Spot V) (v : Spot V → Option V) (own : Stamp) → P.same k q ≡ true → (f (w.spot q)).row ≡ v (w.spot q) → (f (w.spot q)).version ≡ (here P w k).count + 1 → (here P w q).count < version_of P (on_key P w k f (tally_after (here P w k) (w.spot k) (v (w.spot k)) own)) q
      touched k f v own e row version =
          let c = tally_after (here P w k) (w.spot k) (v (w.spot k)) own in
          let one = good_w.alike k q e in
          let cells : here P w q ≡ here P w k = ap w.cell (sym (law.one_cell k q e)) in
          let spot_is : (if P.same k q then f (w.spot q) else w.spot q) ≡ f (w.spot q) = cond-true (P.same k q) (f (w.spot q)) (w.spot q) e in
          let first : version_of P (on_key P w k f c) q ≡ (if is_some (f (w.spot q)).row then (f (w.spot q)).version else c.gone) =
          λ i. if is_some (spot_is i).row then (spot_is i).version else (new_here k c e i).gone in
          let second : (if is_some (f (w.spot q)).row then (f (w.spot q)).version else c.gone) ≡ (if is_some (v (w.spot k)) then (here P w k).count + 1 else c.gone) =
          λ i. if is_some ((row ∙ ap v (sym one)) i) then version i else c.gone in
          let all = first ∙ second ∙ version_after (here P w k) (w.spot k) (v (w.spot k)) own in
          let counts = ap (λ (d : Tally). d.count) cells in
          omega arith

      -- a change of another item: it may take the version of what is absent on
      beside : (k : K) (f : Spot V → Spot V) (v : Option V) (own : Stamp) → P.same k q ≡ false → Still w (on_key P w k f (tally_after (here P w k) (w.spot k) v own)) q ⊎ ((here P w q).count < version_of P (on_key P w k f (tally_after (here P w k) (w.spot k) v own)) q)
      beside k f v own e =
          let c = tally_after (here P w k) (w.spot k) v own in
          let spot_is : (if P.same k q then f (w.spot q) else w.spot q) ≡ w.spot q = cond-false (P.same k q) (f (w.spot q)) (w.spot q) e in
          let first : version_of P (on_key P w k f c) q ≡ (if is_some (w.spot q).row then (w.spot q).version else (at w.cell (P.cell_of k) c (P.cell_of q)).gone) =
          λ i. if is_some (spot_is i).row then (spot_is i).version else (at w.cell (P.cell_of k) c (P.cell_of q)).gone in
          by_cell c spot_is first v refl
        where
          still : (c : Tally) → (if P.same k q then f (w.spot q) else w.spot q) ≡ w.spot q → version_of P (on_key P w k f c) q ≡ version_of P w q → Still w (on_key P w k f c) q
          still c spot_is same =
              record {
                row = ap (λ (s : Spot V). s.row) spot_is;
                version = same;
                stays = λ p h fate. (ap (λ (s : Spot V). s.pend) spot_is ∙ h, fate);
              }

          by_cell : (c : Tally) → (if P.same k q then f (w.spot q) else w.spot q) ≡ w.spot q → version_of P (on_key P w k f c) q ≡ (if is_some (w.spot q).row then (w.spot q).version else (at w.cell (P.cell_of k) c (P.cell_of q)).gone) → (x : Option V) → c ≡ tally_after (here P w k) (w.spot k) x own → Still w (on_key P w k f c) q ⊎ ((here P w q).count < version_of P (on_key P w k f c) q)
          by_cell c spot_is first (Some x) is =
              inl (still c spot_is
              (first ∙ ap (λ n. if is_some (w.spot q).row then (w.spot q).version else n)
              (at_split w.cell (P.cell_of k) c (P.cell_of q) (λ d. d.gone ≡ (here P w q).gone) (λ m. ap (λ (d : Tally). d.gone) is ∙ ap (λ i. (w.cell i).gone) m) (λ m. refl))))
          by_cell c spot_is first None is =
              elim (cases_Bool (is_some (w.spot q).row)) [
                | inl some ↦ inl (still c spot_is (first ∙ ap (λ b. if b then (w.spot q).version else (at w.cell (P.cell_of k) c (P.cell_of q)).gone) some ∙ sym (ap (λ b. if b then (w.spot q).version else (here P w q).gone) some)))
                | inr none ↦
                    (let absent : version_of P (on_key P w k f c) q ≡ (at w.cell (P.cell_of k) c (P.cell_of q)).gone = first ∙ ap (λ b. if b then (w.spot q).version else (at w.cell (P.cell_of k) c (P.cell_of q)).gone) none in
                    let was : version_of P w q ≡ (here P w q).gone = ap (λ b. if b then (w.spot q).version else (here P w q).gone) none in
                    at_split w.cell (P.cell_of k) c (P.cell_of q) (λ d. version_of P (on_key P w k f c) q ≡ d.gone → Still w (on_key P w k f c) q ⊎ ((here P w q).count < version_of P (on_key P w k f c) q))
                    (λ m h.
                    let new : version_of P (on_key P w k f c) q ≡ (here P w k).count + 1 = h ∙ ap (λ (d : Tally). d.gone) is in
                    let counts : (here P w k).count ≡ (here P w q).count = ap (λ i. (w.cell i).count) m in
                    inr (omega arith))
                    (λ m h. inl (still c spot_is (h ∙ sym was))) absent)
              ]

      -- a change of the pending alone
      pending_alone : (k : K) (f : Spot V → Spot V) → ((s : Spot V) → (f s).row ≡ s.row) → ((s : Spot V) → (f s).version ≡ s.version) → (P.same k q ≡ true → (p : Pending V) → (w.spot q).pend ≡ Some p → w.ledger.fate p.number ≡ Committed → (f (w.spot q)).pend ≡ Some p) → Still w (on_key P w k f (here P w k)) q
      pending_alone k f row version keeps =
          record {
            row = cond_both (P.same k q) (f (w.spot q)) (w.spot q) (λ s. s.row ≡ (w.spot q).row) (λ _. row (w.spot q)) (λ _. refl);
            version =
                (λ i. if is_some (cond_both (P.same k q) (f (w.spot q)) (w.spot q) (λ s. s.row ≡ (w.spot q).row) (λ _. row (w.spot q)) (λ _. refl) i)
                then cond_both (P.same k q) (f (w.spot q)) (w.spot q) (λ s. s.version ≡ (w.spot q).version) (λ _. version (w.spot q)) (λ _. refl) i
                else at_split w.cell (P.cell_of k) (here P w k) (P.cell_of q) (λ d. d.gone ≡ (here P w q).gone) (λ m. ap (λ i. (w.cell i).gone) m) (λ m. refl) i);
            stays = λ p h fate. (cond_both (P.same k q) (f (w.spot q)) (w.spot q) (λ s. s.pend ≡ Some p) (λ e. keeps e p h fate) (λ _. h), fate);
          }

      -- each effect leaves the item still, or gives it a version that no item of its cell had
      still_or_new : (e : Effect K A D) → May P w e → P.there w.catalog q ≡ true → P.there (step P w e).catalog q ≡ true → Still w (step P w e) q ⊎ ((here P w q).count < version_of P (step P w e) q)
      still_or_new (Wrote a moment) may before now =
          let k = P.key_of a in
          elim (cases_Bool (P.same k q)) [
            | inl e ↦ inr (touched k (spot_wrote P w.catalog (here P w k) a moment) (λ s. after (P.act w.catalog a s.row) s.row) (single moment) e refl refl)
            | inr e ↦ beside k (spot_wrote P w.catalog (here P w k) a moment) (after (P.act w.catalog a (w.spot k).row) (w.spot k).row) (single moment) e
          ]
      still_or_new (Applied n k) may before now =
          elim (cases_Bool (P.same k q)) [
            | inl e ↦ inr (touched k (spot_applied (here P w k) n) (λ s. image_or s.row s.pend) (stamp_or (w.spot k).stamp (w.spot k).pend) e refl refl)
            | inr e ↦ beside k (spot_applied (here P w k) n) (image_or (w.spot k).row (w.spot k).pend) (stamp_or (w.spot k).stamp (w.spot k).pend) e
          ]
      still_or_new (Prepared n stamp a) may before now =
          inl (pending_alone (P.key_of a) (spot_prepared P w.catalog n stamp a) (λ s. refl) (λ s. refl)
          (λ e p h fate. ap (λ o. hold o (record { number = n; stamp = stamp; image = after (P.act w.catalog a (w.spot q).row) (w.spot q).row })) h))
      still_or_new (Released n k) may before now =
          inl (pending_alone k (λ s. spot_released s) (λ s. refl) (λ s. refl)
          (λ e p h fate.
          let ends = released_open P law w good_w n k may.0 may.1 in
          let same : p.number ≡ n = some_is p.number n (sym (holder_is (w.spot q).pend p h) ∙ ap (λ (s : Spot V). holder s.pend) (sym (good_w.alike k q e)) ∙ may.0) in
          absurd (ends.0 (subst (λ x. w.ledger.fate x ≡ Committed) same fate))))
      still_or_new (Commits n) may before now =
          inl (record { row = refl; version = refl; stays = λ p h fate. (h, at_split w.ledger.fate n Committed p.number (λ x. x ≡ Committed) (λ _. refl) (λ _. fate)) })
      still_or_new (Cancels n) may before now =
          inl (record {
            row = refl;
            version = refl;
            stays = λ p h fate. (h, at_split w.ledger.fate n Cancelled p.number (λ x. x ≡ Committed) (λ e. let u = subst (λ x. w.ledger.fate x ≡ Undecided) e may.1 in absurd (cc)) (λ _. fate));
          })
      still_or_new (Changed d moment) may before now =
          let row : kept_or (P.there w.catalog q) (P.there (P.change d moment w.catalog) q) (w.spot q).row (P.adds d w.catalog q) ≡ (w.spot q).row =
          ap (λ b. kept_or b (P.there (P.change d moment w.catalog) q) (w.spot q).row (P.adds d w.catalog q)) before
          ∙ ap (λ b. kept_or true b (w.spot q).row (P.adds d w.catalog q)) now in
          inl (record { row = row; version = λ i. if is_some (row i) then (if before i then (w.spot q).version else (here P w q).count + 1) else (here P w q).gone; stays = λ p h fate. (h, fate) })
      still_or_new (Begun stamp actions) may before now = inl (record { row = refl; version = refl; stays = λ p h fate. (h, fate) })
      still_or_new _ may before now = inl (record { row = refl; version = refl; stays = λ p h fate. (h, fate) })

    -- between two points of a history: a version never falls, and where it is the same the item stood still
    pub record Steady (w u : State K V A C) (q : K) : Type 0 where
      pub counts : (here P w q).count ≤ (here P u q).count
      pub rises : version_of P w q ≤ version_of P u q
      pub row : version_of P u q ≡ version_of P w q → (u.spot q).row ≡ (w.spot q).row
      pub stays : version_of P u q ≡ version_of P w q → (p : Pending V) → (w.spot q).pend ≡ Some p → w.ledger.fate p.number ≡ Committed → ((u.spot q).pend ≡ Some p) × (u.ledger.fate p.number ≡ Committed)

    count_on_key : (w : State K V A C) (k : K) (f : Spot V → Spot V) (c : Tally) (q : K) → (here P w k).count ≤ c.count → (here P w q).count ≤ (here P (on_key P w k f c) q).count
    count_on_key w k f c q up =
        at_split w.cell (P.cell_of k) c (P.cell_of q) (λ d. (here P w q).count ≤ d.count)
        (λ m. let same : (here P w k).count ≡ (here P w q).count = ap (λ i. (w.cell i).count) m in omega arith) (λ m. omega arith)

    count_step : (w : State K V A C) (e : Effect K A D) (q : K) → (here P w q).count ≤ (here P (step P w e) q).count
    count_step w (Wrote a moment) q =
        let k = P.key_of a in
        let v = after (P.act w.catalog a (w.spot k).row) (w.spot k).row in
        let n = count_after (here P w k) (w.spot k) v (single moment) in
        count_on_key w k (spot_wrote P w.catalog (here P w k) a moment) (tally_after (here P w k) (w.spot k) v (single moment)) q (omega arith)
    count_step w (Applied n k) q =
        let v = image_or (w.spot k).row (w.spot k).pend in
        let own = stamp_or (w.spot k).stamp (w.spot k).pend in
        let c = count_after (here P w k) (w.spot k) v own in
        count_on_key w k (spot_applied (here P w k) n) (tally_after (here P w k) (w.spot k) v own) q (omega arith)
    count_step w (Prepared n stamp a) q = count_on_key w (P.key_of a) (spot_prepared P w.catalog n stamp a) (here P w (P.key_of a)) q (omega arith)
    count_step w (Released n k) q = count_on_key w k (λ s. spot_released s) (here P w k) q (omega arith)
    count_step w (Commits n) q = omega arith
    count_step w (Changed d moment) q = omega arith
    count_step w _ q = omega arith

    steady_step : (w u : State K V A C) (q : K) (e : Effect K A D) → Counted w → Counted u → Good P u → May P u e → P.there u.catalog q ≡ true → P.there (step P u e).catalog q ≡ true → Steady w u q → Steady w (step P u e) q
    steady_step w u q e cw cu gu may before now s = go (still_or_new u gu q e may before now)
      where
        go : Still u (step P u e) q ⊎ ((here P u q).count < version_of P (step P u e) q) → Steady w (step P u e) q
        go (inl still) =
            let same = still.version in
            record {
              counts = (let a = s.counts in let b = count_step u e q in omega arith);
              rises = (let r = s.rises in omega arith);
              row = λ h. still.row ∙ s.row (sym same ∙ h);
              stays = λ h p held' fate. let k = s.stays (sym same ∙ h) p held' fate in still.stays p k.0 k.1;
            }
        go (inr new) =
            let v = version_counted w cw q in
            let c = s.counts in
            record {
              counts = (let a = s.counts in let b = count_step u e q in omega arith);
              rises = omega arith;
              row = λ h. absurd (omega arith);
              stays = λ h p held' fate. absurd (omega arith);
            }

    -- a table that is there was there all along, or its number was not drawn yet
    drawn_step : (w : State K V A C) (e : Effect K A D) → P.drawn w.catalog ≤ P.drawn (step P w e).catalog
    drawn_step w (Changed d moment) = law.grows d moment w.catalog
    drawn_step w (Wrote a moment) = omega arith
    drawn_step w (Commits n) = omega arith
    drawn_step w _ = omega arith

    was_there : (w : State K V A C) (e : Effect K A D) (q : K) → P.table q ≤ P.drawn w.catalog → P.there (step P w e).catalog q ≡ true → P.there w.catalog q ≡ true
    was_there w (Changed d moment) q known h = go (law.comes d moment w.catalog q h)
      where
        go : (P.there w.catalog q ≡ true) ⊎ (P.drawn w.catalog < P.table q) → P.there w.catalog q ≡ true
        go (inl is) = is
        go (inr new) = absurd (omega arith)
    was_there w (Wrote a moment) q known h = h
    was_there w (Commits n) q known h = h
    was_there w _ q known h = h

    drawn_more : (newer es : List (Effect K A D)) → P.drawn (state_after P es).catalog ≤ P.drawn (state_after P (newer ++ es)).catalog
    drawn_more [] es = omega arith
    drawn_more (e ∷ newer) es = let a = drawn_more newer es in let b = drawn_step (state_after P (newer ++ es)) e in omega arith

    -- there at the end and known at the start: there at every point between
    there_between : (newer es : List (Effect K A D)) (q : K) → P.table q ≤ P.drawn (state_after P es).catalog → P.there (state_after P (newer ++ es)).catalog q ≡ true → P.there (state_after P es).catalog q ≡ true
    there_between [] es q known h = h
    there_between (e ∷ newer) es q known h =
        there_between newer es q known (was_there (state_after P (newer ++ es)) e q (let a = drawn_more newer es in omega arith) h)

    steady : (newer es : List (Effect K A D)) (q : K) → IsRun P (newer ++ es) → P.table q ≤ P.drawn (state_after P es).catalog → P.there (state_after P (newer ++ es)).catalog q ≡ true → Steady (state_after P es) (state_after P (newer ++ es)) q
    steady [] es q run known now = record { counts = omega arith; rises = omega arith; row = λ h. refl; stays = λ h p is fate. (is, fate) }
    steady (e ∷ newer) es q run known now =
        let u = state_after P (newer ++ es) in
        let before = was_there u e q (let a = drawn_more newer es in omega arith) now in
        steady_step (state_after P es) u q e (counted es) (counted (newer ++ es)) (good P law (newer ++ es) run.0) run.1 before now (steady newer es q run.0 known before)

    run_of : (newer es : List (Effect K A D)) → IsRun P (newer ++ es) → IsRun P es
    run_of [] es run = run
    run_of (e ∷ newer) es run = run_of newer es run.0

    -- an item that a reader found twice with one version, the second time unheld, is the item of the tables between
    pub one_point : (newer middle es : List (Effect K A D)) (q : K) → IsRun P (newer ++ (middle ++ es)) → P.there (state_after P es).catalog q ≡ true → P.there (state_after P (newer ++ (middle ++ es))).catalog q ≡ true → version_of P (state_after P es) q ≡ version_of P (state_after P (newer ++ (middle ++ es))) q → holder ((state_after P (newer ++ (middle ++ es))).spot q).pend ≡ None → (((state_after P es).spot q).row ≡ tables P (serial (middle ++ es)) q) × (((state_after P (newer ++ (middle ++ es))).spot q).row ≡ tables P (serial (middle ++ es)) q)
    one_point newer middle es q run first second same free =
        let mid = middle ++ es in
        let run_mid = run_of newer mid run in
        let known = law.known (state_after P es).catalog q first in
        let known_mid : P.table q ≤ P.drawn (state_after P mid).catalog = (let a = drawn_more middle es in omega arith) in
        let there_mid = there_between newer mid q known_mid second in
        let one = steady middle es q run_mid known there_mid in
        let two = steady newer mid q run known_mid second in
        let v1 : version_of P (state_after P mid) q ≡ version_of P (state_after P es) q = (let a = one.rises in let b = two.rises in omega arith) in
        let v2 : version_of P (state_after P (newer ++ mid)) q ≡ version_of P (state_after P mid) q = (let a = one.rises in let b = two.rises in omega arith) in
        let plain : ((state_after P mid).spot q).row ≡ ((state_after P mid).spot q).tab =
        unveiled mid run_mid (λ p is fate. let k = two.stays v2 p is fate in none_some (holder ((state_after P (newer ++ mid)).spot q).pend) p.number free (holder_is ((state_after P (newer ++ mid)).spot q).pend p k.0)) ((state_after P mid).spot q).pend refl in
        (sym (one.row v1) ∙ plain ∙ tab_read P mid run_mid q, two.row v2 ∙ plain ∙ tab_read P mid run_mid q)
      where
        unveiled : (mid : List (Effect K A D)) → IsRun P mid → ((p : Pending V) → ((state_after P mid).spot q).pend ≡ Some p → (state_after P mid).ledger.fate p.number ≡ Committed → ⊥) → (o : Option (Pending V)) → ((state_after P mid).spot q).pend ≡ o → ((state_after P mid).spot q).row ≡ ((state_after P mid).spot q).tab
        unveiled mid run none None is = ((good P law mid run).spots q).free is
        unveiled mid run none (Some p) is = ((good P law mid run).spots q).open_ p is (λ f. none p is f)
