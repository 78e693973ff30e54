-- The point of the history at which an item is shown never goes back.
use Rattle.std.proofs.Common.{◌≡◌, ◌⊎◌, inl, inr, ℕ, ◌≤◌, true, false, not, ◌&&◌, ◌||◌, nat_eq, List, [], ◌∷◌, ◌++◌, length, Option, None, Some, is_some, refl, sym, ap, ◌∙◌, arith}
use Rattle.std.proofs.lemmas.Bool.{eqb-true, cond_both, or_parts, and_parts, not-true}
use Rattle.txn_core.specs.Protocol.{Protocol, IsLawful}
use Rattle.txn_core.specs.Effects.{Effect, Wrote, Begun, Prepared, Commits, Cancels, Applied, Released, Finished, Forgot, Changed, Quiet}
use Rattle.txn_core.specs.State.{on_item, holder, state_after}
use Rattle.txn_core.specs.Runs.{IsRun}
use Rattle.txn_core.specs.Serial.{begun_actions, committed_numbers, is_committed, is_applied, waits_on, waiting, place, point_by, point}
use Rattle.txn_core.specs.declared.entry.Entry.{Entry}
use Rattle.txn_core.specs.History.{effect, effects}
use Rattle.txn_core.proofs.Basics.{true_false}
use Rattle.txn_core.proofs.Ends.{find_passes}
use Rattle.txn_core.proofs.Kept.{good}
use Rattle.txn_core.proofs.Readings.{actions_read, applied_read}
use Rattle.txn_core.proofs.SerialLaws.{find_listed, find_none, committed_is, committed_before}

module _ {K V A F C D : Type 0} (P : Protocol K V A F C D) (law : IsLawful P) where
  place_within : (es : List (Effect K A D)) (n : ℕ) → place es n ≤ length es
  place_within [] n = omega arith
  place_within (Commits m ∷ es) n =
      cond_both (nat_eq m n) (length es) (place es n) (λ x. x ≤ length (Commits m ∷ es)) (λ e. omega arith) (λ e. let h = place_within es n in omega arith)
  place_within (Wrote a moment ∷ es) n = let h = place_within es n in omega arith
  place_within (Begun stamp actions ∷ es) n = let h = place_within es n in omega arith
  place_within (Prepared m stamp a ∷ es) n = let h = place_within es n in omega arith
  place_within (Cancels m ∷ es) n = let h = place_within es n in omega arith
  place_within (Applied m k ∷ es) n = let h = place_within es n in omega arith
  place_within (Released m k ∷ es) n = let h = place_within es n in omega arith
  place_within (Finished m ∷ es) n = let h = place_within es n in omega arith
  place_within (Forgot m ∷ es) n = let h = place_within es n in omega arith
  place_within (Changed d moment ∷ es) n = let h = place_within es n in omega arith
  place_within (Quiet ∷ es) n = let h = place_within es n in omega arith

  point_within : (es : List (Effect K A D)) (o : Option ℕ) → point_by es o ≤ length es
  point_within es None = omega arith
  point_within es (Some n) = place_within es n

  record WaitsIn (es : List (Effect K A D)) (q : K) (n : ℕ) : Type 0 where
    committed : is_committed es n ≡ true
    acts : is_some (on_item P (begun_actions es n) q) ≡ true
    unapplied : is_applied P es q n ≡ false

  waits_now : (es : List (Effect K A D)) (q : K) (n : ℕ) → waiting P es q ≡ Some n → WaitsIn es q n
  waits_now es q n e =
      let parts = and_parts (is_some (on_item P (begun_actions es n) q)) (not (is_applied P es q n)) (find_passes (waits_on P es q) (committed_numbers es) n e) in
      record { committed = find_listed (waits_on P es q) (committed_numbers es) n e; acts = parts.0; unapplied = not-true (is_applied P es q n) parts.1 }

  holds : (es : List (Effect K A D)) → IsRun P es → (q : K) (n : ℕ) → WaitsIn es q n → holder ((state_after P es).spot q).pend ≡ Some n
  holds es run q n w =
      ((good P law es run).spots q).waits n (committed_is P law es run n w.committed)
      (ap (λ x. is_some (on_item P x q)) (actions_read P es run n) ∙ w.acts)
      (applied_read P es q n ∙ w.unapplied)

  -- what waits is found, since one transaction alone can wait on an item
  found : (es : List (Effect K A D)) → IsRun P es → (q : K) (n : ℕ) → WaitsIn es q n → waiting P es q ≡ Some n
  found es run q n w = go (waiting P es q) refl
    where
      go : (o : Option ℕ) → waiting P es q ≡ o → waiting P es q ≡ Some n
      go None e =
          absurd (true_false (waits_on P es q n)
          ((λ i. w.acts i && not (is_applied P es q n)) ∙ ap not w.unapplied)
          (find_none (waits_on P es q) (committed_numbers es) n e w.committed))
      go (Some m) e = e ∙ sym (holds es run q m (waits_now es q m e)) ∙ holds es run q n w

  -- what waits after an effect waited before it, or was committed by it
  waited : (e : Effect K A D) (es : List (Effect K A D)) → IsRun P (e ∷ es) → (q : K) (n : ℕ) → WaitsIn (e ∷ es) q n → (place (e ∷ es) n ≡ length es) ⊎ (WaitsIn es q n × (place (e ∷ es) n ≡ place es n))
  waited (Commits m) es run q n w =
      cond_both (nat_eq m n) (length es) (place es n) (λ x. (x ≡ length es) ⊎ (WaitsIn es q n × (x ≡ place es n)))
      (λ e. inl refl)
      (λ e. inr (record { committed = sym (ap (λ b. b || is_committed es n) e) ∙ w.committed; acts = w.acts; unapplied = w.unapplied }, refl))
  waited (Begun stamp actions) es run q n w =
      inr (
        record {
          committed = w.committed;
          acts = cond_both (nat_eq stamp.number n) actions (begun_actions es n) (λ x. is_some (on_item P x q) ≡ true → is_some (on_item P (begun_actions es n) q) ≡ true)
              (λ e h. absurd (committed_before P law es run.0 n w.committed (sym run.1 ∙ eqb-true stamp.number n e))) (λ e h. h) w.acts;
          unapplied = w.unapplied;
        },
        refl,
      )
  waited (Applied m k) es run q n w =
      inr (record { committed = w.committed; acts = w.acts; unapplied = (or_parts (P.same k q && nat_eq m n) (is_applied P es q n) w.unapplied).1 }, refl)
  waited (Wrote a moment) es run q n w = inr (record { committed = w.committed; acts = w.acts; unapplied = w.unapplied }, refl)
  waited (Changed d moment) es run q n w = inr (record { committed = w.committed; acts = w.acts; unapplied = w.unapplied }, refl)
  waited _ es run q n w = inr (record { committed = w.committed; acts = w.acts; unapplied = w.unapplied }, refl)

  point_step : (e : Effect K A D) (es : List (Effect K A D)) → IsRun P (e ∷ es) → (q : K) → point P es q ≤ point P (e ∷ es) q
  point_step e es run q = go (waiting P (e ∷ es) q) refl
    where
      back : (n : ℕ) → (place (e ∷ es) n ≡ length es) ⊎ (WaitsIn es q n × (place (e ∷ es) n ≡ place es n)) → point P es q ≤ place (e ∷ es) n
      back n (inl h) = let k = point_within es (waiting P es q) in omega arith
      back n (inr h) =
          let same : point P es q ≡ place es n = ap (λ o. point_by es o) (found es run.0 q n h.0) in
          let k = h.1 in omega arith

      go : (o : Option ℕ) → waiting P (e ∷ es) q ≡ o → point P es q ≤ point_by (e ∷ es) o
      go None h = let k = point_within es (waiting P es q) in omega arith
      go (Some n) h = back n (waited e es run q n (waits_now (e ∷ es) q n h))

  pub point_forward : (xs es : List (Effect K A D)) → IsRun P (xs ++ es) → (q : K) → point P es q ≤ point P (xs ++ es) q
  point_forward [] es run q = omega arith
  point_forward (x ∷ xs) es run q = let h = point_forward xs es run.0 q in let k = point_step x (xs ++ es) run q in omega arith

  pub history_forward : {V' Q B : Type 0} (newer es : List (Entry K V' A F D Q B)) → IsRun P (effects (newer ++ es)) → (q : K) → point P (effects es) q ≤ point P (effects (newer ++ es)) q
  history_forward [] es run q = omega arith
  history_forward (x ∷ newer) es run q = let h = history_forward newer es run.0 q in let k = point_step (effect x) (effects (newer ++ es)) run q in omega arith
