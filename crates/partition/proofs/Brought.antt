-- What a command of the catalog leaves of an item.
use Rattle.std.proofs.Common.{◌≡◌, ℕ, ◌+◌, nat_eq, not, ◌&&◌, Bool, true, false, if◌then◌else◌, List, Option, None, Some, refl, sym, ap, ◌∙◌}
use Rattle.std.proofs.lemmas.Bool.{eq-eqb}
use Rattle.txn_core.specs.declared.stamp.Stamp.{Stamp}
use Rattle.txn_core.specs.Service.{Service, IsServiceLawful}
use Rattle.txn_core.specs.Stamps.{later, single}
use Rattle.txn_core.specs.State.{Pending as Held, Spot, State, spot_changed}
use Rattle.item_store.specs.declared.slot.Slot.{Slot}
use Rattle.item_store.specs.Slots.{committed_at, slot_of}
use Rattle.index_changes.specs.declared.command_rules.TableChange.{TableChange}
use Rattle.index_changes.specs.declared.command_rules.TableChange.TheVariants.{Makes, Drops, Alters, Nothing}
use Rattle.index_changes.specs.Commands.{AreCommandsLawful, alters, drops, is_number, makes, subject}
use Rattle.partition.specs.Holds.{pending_for, queued_by, slot_for}
use Rattle.index_changes.specs.Plans.{brought}
use Rattle.index_changes.proofs.Basics.{no_both, not_true, not_false}
use Rattle.partition.proofs.Spared.{next, not_made, others, same_changes, stays_there}

-- the slot of an item without a row that nobody holds
slot_without : {V : Type 0} (r : Option V) (p : Option (Held V)) (s : Stamp) (v : ℕ) → r ≡ None → p ≡ None → slot_of (committed_at r s v) (pending_for p) ≡ None
slot_without r p s v a b = λ j. slot_of (committed_at (a j) s v) (pending_for (b j))

held_not : {V : Type 0} (p : Held V) → Some p ≡ None → ⊥
held_not p e = absurd (cc)

-- a command's table that it doesn't drop it alters
pub altered : (t : TableChange) (u : ℕ) → drops t u ≡ false → is_number (subject t) u ≡ true → alters t u ≡ true
altered (Makes n) u a e = absurd (cc)
altered (Drops n) u a e = absurd (no_both _ e a)
altered (Alters n) u a e = e
altered Nothing u a e = absurd (cc)

module _
    {K V A F C D Q B : Type 0} (S : Service K V A F C D Q B) (law : IsServiceLawful S) {sound : C → Type 0} {target : D → C → TableChange}
    {numbers : C → ℕ → List ℕ} (laws : AreCommandsLawful S sound target numbers) (d : D) (moment : ℕ) (w : State K V A C) (ok : sound w.catalog)
    (kept : S.refuses d w.catalog ≡ None) where
  abbrev pub after : C
  after = next S law laws d moment w.catalog ok kept

  -- an item afterwards
  abbrev pub spot : K → Spot V
  spot q = spot_changed (w.cell (S.core.cell_of q)) moment (S.core.there w.catalog q) (S.core.there after q) (S.core.adds d w.catalog q) (w.spot q)

  -- items of tables that are not there are absent and free, and none of the command's table is held
  pub record IsClean : Type 0 where
    pub absent : (q : K) → S.core.there w.catalog q ≡ false → (w.spot q).row ≡ None
    pub free : (q : K) → S.core.there w.catalog q ≡ false → (w.spot q).pend ≡ None
    pub clear : (q : K) → S.concerns d w.catalog q ≡ true → (w.spot q).pend ≡ None

  module _ (clean : IsClean) (q : K) where
    -- whether the item's table was there and is there
    both : S.core.there w.catalog q ≡ true → S.core.there after q ≡ true → slot_for (spot q) ≡ slot_for (w.spot q)
    both b n = λ j. slot_for (spot_changed (w.cell (S.core.cell_of q)) moment (b j) (n j) (S.core.adds d w.catalog q) (w.spot q))

    neither : S.core.there w.catalog q ≡ false → S.core.there after q ≡ false → slot_for (spot q) ≡ None
    neither b n =
        (λ j. slot_for (spot_changed (w.cell (S.core.cell_of q)) moment (b j) (n j) (S.core.adds d w.catalog q) (w.spot q)))
        ∙ (λ j. slot_of None (pending_for (clean.free q b j)))

    was_nothing : S.core.there w.catalog q ≡ false → slot_for (w.spot q) ≡ None
    was_nothing b = slot_without (w.spot q).row (w.spot q).pend _ _ (clean.absent q b) (clean.free q b)

    -- another table than the command's, or one that is altered
    module _ (t : TableChange) (is : target d w.catalog ≡ t) where
      pub still_there : drops t (S.core.table q) ≡ false → S.core.there w.catalog q ≡ true → S.core.there after q ≡ true
      still_there away b = by_subject (is_number (subject t) (S.core.table q)) refl
        where
          by_subject : (x : Bool) → is_number (subject t) (S.core.table q) ≡ x → S.core.there after q ≡ true
          by_subject true e = laws.stays d moment w.catalog q ok kept (ap (λ y. alters y (S.core.table q)) is ∙ altered t (S.core.table q) away e) b
          by_subject false e = stays_there S law laws d moment w.catalog ok kept q b (others S law laws d moment w.catalog ok kept t is q e)

      pub left_alone : drops t (S.core.table q) ≡ false → makes t (S.core.table q) ≡ false → slot_for (w.spot q) ≡ slot_for (spot q)
      left_alone away not_new = by_there (S.core.there w.catalog q) refl
        where
          by_there : (b : Bool) → S.core.there w.catalog q ≡ b → slot_for (w.spot q) ≡ slot_for (spot q)
          by_there true b = sym (both b (still_there away b))
          by_there false b =
              was_nothing b
              ∙ sym (neither b (not_made S law laws d moment w.catalog ok kept q (ap (λ y. makes y (S.core.table q)) is ∙ not_new) b))

      -- one that is dropped
      pub gone : drops t (S.core.table q) ≡ true → S.core.there after q ≡ false
      gone e = laws.goes d moment w.catalog q ok kept (ap (λ y. drops y (S.core.table q)) is ∙ e)

      subject_of_dropped : (u : TableChange) → drops u (S.core.table q) ≡ true → is_number (subject u) (S.core.table q) ≡ true
      subject_of_dropped (Makes n) e = absurd (cc)
      subject_of_dropped (Drops n) e = e
      subject_of_dropped (Alters n) e = absurd (cc)
      subject_of_dropped Nothing e = absurd (cc)

      pub is_dropped : drops t (S.core.table q) ≡ true → slot_for (spot q) ≡ None
      is_dropped e =
          let concerned = laws.concerned d w.catalog q ∙ ap (λ y. is_number (subject y) (S.core.table q)) is ∙ subject_of_dropped t e in
          (λ j. slot_for (spot_changed (w.cell (S.core.cell_of q)) moment (S.core.there w.catalog q) (gone e j) (S.core.adds d w.catalog q) (w.spot q)))
          ∙ (λ j. slot_of None (pending_for (clean.clear q concerned j)))

      -- one that is made
      pub not_before : makes t (S.core.table q) ≡ true → S.core.there w.catalog q ≡ false
      not_before e = laws.fresh d w.catalog q ok (ap (λ y. makes y (S.core.table q)) is ∙ e)

      pub is_brought :
          (i : ℕ) → S.core.cell_of q ≡ i → makes t (S.core.table q) ≡ true
          → brought S i d w.catalog after (later (w.cell i).floor (single moment)) ((w.cell i).count + 1) q ≡ slot_for (spot q)
      is_brought i at_q e = by_now (S.core.there after q) refl
        where
          b : S.core.there w.catalog q ≡ false
          b = not_before e

          home : nat_eq (S.core.cell_of q) i ≡ true
          home = eq-eqb (S.core.cell_of q) i at_q

          by_now :
              (n : Bool) → S.core.there after q ≡ n
              → brought S i d w.catalog after (later (w.cell i).floor (single moment)) ((w.cell i).count + 1) q ≡ slot_for (spot q)
          by_now false n =
              (λ j. if home j && (not (b j) && n j) then slot_of (committed_at (S.core.adds d w.catalog q) (later (w.cell i).floor (single moment)) ((w.cell i).count + 1)) None else None)
              ∙ sym (neither b n)
          by_now true n =
              (λ j. if home j && (not (b j) && n j) then slot_of (committed_at (S.core.adds d w.catalog q) (later (w.cell i).floor (single moment)) ((w.cell i).count + 1)) None else None)
              ∙ sym
              ((λ j. slot_for (spot_changed (w.cell (at_q j)) moment (b j) (n j) (S.core.adds d w.catalog q) (w.spot q)))
              ∙ (λ j. slot_of (committed_at (S.core.adds d w.catalog q) (later (w.cell i).floor (single moment)) ((w.cell i).count + 1)) (pending_for (clean.free q b j))))

      -- of another table than the one that is made none is brought
      pub is_not_brought :
          (i : ℕ) (stamp : Stamp) (version : ℕ) → makes t (S.core.table q) ≡ false → brought S i d w.catalog after stamp version q ≡ None
      is_not_brought i stamp version e = by_there (S.core.there w.catalog q) refl
        where
          last : (a b : Bool) (x : Option (Slot V)) → (if a && (b && false) then x else None) ≡ None
          last true true x = refl
          last true false x = refl
          last false b x = refl

          first : (a : Bool) (x : Option (Slot V)) → (if a && false then x else None) ≡ None
          first true x = refl
          first false x = refl

          by_there : (b : Bool) → S.core.there w.catalog q ≡ b → brought S i d w.catalog after stamp version q ≡ None
          by_there true b =
              (λ j. if nat_eq (S.core.cell_of q) i && (not (b j) && S.core.there after q) then slot_of (committed_at (S.core.adds d w.catalog q) stamp version) None else None)
              ∙ first (nat_eq (S.core.cell_of q) i) _
          by_there false b =
              (λ j. if nat_eq (S.core.cell_of q) i && (not (S.core.there w.catalog q) && not_made S law laws d moment w.catalog ok kept q (ap (λ y. makes y (S.core.table q)) is ∙ e) b j) then slot_of (committed_at (S.core.adds d w.catalog q) stamp version) None else None)
              ∙ last (nat_eq (S.core.cell_of q) i) (not (S.core.there w.catalog q)) _

    -- what the end of the transaction that holds an item queues is the same
    pub queues_same : queued_by S w.catalog q (w.spot q).row (w.spot q).pend ≡ queued_by S after q (spot q).row (spot q).pend
    queues_same = by_pend (w.spot q).pend refl
      where
        by_pend : (p : Option (Held V)) → (w.spot q).pend ≡ p → queued_by S w.catalog q (w.spot q).row p ≡ queued_by S after q (spot q).row p
        by_pend None e = refl
        by_pend (Some p) e =
            let b = not_false (S.core.there w.catalog q) (λ none. held_not p (sym e ∙ clean.free q none)) in
            let away = not_true (S.concerns d w.catalog q) (λ c. held_not p (sym e ∙ clean.clear q c)) in
            let n = stays_there S law laws d moment w.catalog ok kept q b away in
            same_changes S law laws d moment w.catalog ok kept q b away (w.spot q).row p.image
            ∙ sym (λ j. queued_by S after q (spot_changed (w.cell (S.core.cell_of q)) moment (b j) (n j) (S.core.adds d w.catalog q) (w.spot q)).row (Some p))
