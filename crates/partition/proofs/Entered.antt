-- The local entries of a cell that carries a planned command out stay in step with its items.
use Rattle.std.proofs.Common.{◌≡◌, ℕ, ◌+◌, nat_eq, Bool, true, false, if◌then◌else◌, List, Option, None, Some, refl, sym, ap, ◌∙◌, subst}
use Rattle.std.specs.BTreeMap.{get, is_at}
use Rattle.std.proofs.lemmas.Bool.{eqb-true}
use Rattle.std.specs.declared.cmp.Ord as ord
use Rattle.std.specs.declared.cmp.PartialEq as eq
use Rattle.std.specs.declared.cmp.PartialOrd as partial
use Rattle.index_feed.specs.Feed.{Feed}
use Rattle.txn_core.specs.Service.{Service, IsServiceLawful}
use Rattle.txn_core.specs.Stamps.{later, single}
use Rattle.txn_core.specs.State.{State}
use Rattle.item_store.specs.declared.slot.Pending.{Pending}
use Rattle.item_store.specs.declared.slot.Slot.{Slot}
use Rattle.item_store.specs.Slots.{image_of, pending_of, row_of}
use Rattle.item_store.specs.Changes.{slot_at}
use Rattle.local_index.specs.declared.claim.Claim.{Claim}
use Rattle.local_index.specs.Claims.{claim_of, is_committed, is_held}
use Rattle.local_index.specs.Entries.{is_among}
use Rattle.local_index.specs.Tables.{claim_under}
use Rattle.index_changes.specs.Prepared.{moves_in}
use Rattle.index_changes.specs.declared.command_rules.TableChange.{TableChange}
use Rattle.index_changes.specs.declared.command_rules.TableChange.TheVariants.{Makes, Drops, Alters, Nothing}
use Rattle.index_changes.specs.declared.plan.CatalogPlan.{CatalogPlan}
use Rattle.index_changes.specs.declared.plan.MadeTable.{MadeTable}
use Rattle.index_changes.specs.Commands.{AreCommandsLawful, KeepsEntries, dropped_by, drops, is_number, makes, subject}
use Rattle.index_changes.specs.Entering.{AreEntered}
use Rattle.index_changes.specs.Entries.{AreEntriesLawful, LocalEntries, entries_at}
use Rattle.index_changes.specs.Plans.{IsMade, IsPlan, brought}
use Rattle.index_changes.proofs.Basics.{and_both, no_both, not_false, not_true}
use Rattle.index_changes.proofs.BroughtOver.{none_pending}
use Rattle.partition.specs.declared.cell.Partition.{Partition}
use Rattle.partition.specs.Holds.{Holds, lives, pending_for, slot_for}
use Rattle.partition.specs.InStep.{IsInStep, moves_for, moves_kept}
use Rattle.partition.specs.Plans.{LeftByPlan, entered, filled}
use Rattle.partition.proofs.Brought.{IsClean, altered}
use Rattle.partition.proofs.Keeping.{pending_back, row_back}

drops_is : (t : TableChange) (u : ℕ) → drops t u ≡ is_number (dropped_by t) u
drops_is (Makes n) u = refl
drops_is (Drops n) u = refl
drops_is (Alters n) u = refl
drops_is Nothing u = refl

-- a command drops no other table than its own
undropped : (t : TableChange) (u : ℕ) → is_number (subject t) u ≡ false → is_number (dropped_by t) u ≡ false
undropped (Makes n) u e = refl
undropped (Drops n) u e = e
undropped (Alters n) u e = refl
undropped Nothing u e = refl

committed_only : (b : Bool) → is_committed (claim_of b false) ≡ b
committed_only true = refl
committed_only false = refl

never_held : (b : Bool) → is_held (claim_of b false) ≡ false
never_held true = refl
never_held false = refl

nothing_is_something : {X : Type 0} (o : Option X) (x : X) → o ≡ None → o ≡ Some x → ⊥
nothing_is_something None x e s = absurd (cc)
nothing_is_something (Some y) x e s = absurd (cc)

module _
    {K V A F C D Q B N : Type 0} (S : Service K V A F C D Q B) (law : IsServiceLawful S) {sound : C → Type 0} {target : D → C → TableChange}
    {numbers : C → ℕ → List ℕ} (laws : AreCommandsLawful S sound target numbers) (L : LocalEntries K V C N)
    {X : ord.Ghosts N} (fair : AreEntriesLawful S L X.cmp) (stay : KeepsEntries S L sound target) (d : D) (moment : ℕ) (w : State K V A C) (ok : sound w.catalog)
    (kept : S.refuses d w.catalog ≡ None) where
  abbrev then_catalog : C
  then_catalog = S.core.change d moment w.catalog

  abbrev change : TableChange
  change = target d w.catalog

  -- an item of a table that was there and is not dropped has the entries that it had
  same_entries :
      (k : K) (o : Option V) → S.core.there w.catalog k ≡ true → is_number (dropped_by change) (S.core.table k) ≡ false
      → entries_at L w.catalog k o ≡ entries_at L then_catalog k o
  same_entries k None there away = refl
  same_entries k (Some v) there away = by_subject (S.concerns d w.catalog k) refl
    where
      by_subject : (b : Bool) → S.concerns d w.catalog k ≡ b → L.entries w.catalog k v ≡ L.entries then_catalog k v
      by_subject false e = sym (fair.spared d moment w.catalog k v kept e there)
      by_subject true e =
          sym
          (stay d moment w.catalog k v ok kept
          (altered change (S.core.table k) (drops_is change (S.core.table k) ∙ away) (sym (laws.concerned d w.catalog k) ∙ e)) there)

  module _
      {O : ord.Ghosts K} {E : eq.Ghosts K} {P : partial.Ghosts K} {Y : eq.Ghosts N} {Z : partial.Ghosts N}
      (clean : IsClean S law laws d moment w ok kept) (i : ℕ) (c : Partition K V C N O E P X Y Z) (f : Feed K V C) (here : Holds S i c w f) where
    -- an item that is there, or held, lives in this table, which is there
    at_home : (u : ℕ) (k : K) → lives S i u k ≡ true → (S.core.table k ≡ u) × (slot_at c.items u k ≡ slot_for (w.spot k))
    at_home u k l = (
      eqb-true (S.core.table k) u (and_both (nat_eq (S.core.table k) u) (nat_eq (S.core.cell_of k) i) l).0,
      here.items u k ∙ (λ j. if l j then slot_for (w.spot k) else None),
    )

    away : (u : ℕ) (k : K) → lives S i u k ≡ false → slot_at c.items u k ≡ None
    away u k l = here.items u k ∙ (λ j. if l j then slot_for (w.spot k) else None)

    of_row : (u : ℕ) (k : K) (v : V) → row_of (slot_at c.items u k) ≡ Some v → (S.core.table k ≡ u) × (S.core.there w.catalog k ≡ true)
    of_row u k v e = by_lives (lives S i u k) refl
      where
        by_lives : (b : Bool) → lives S i u k ≡ b → (S.core.table k ≡ u) × (S.core.there w.catalog k ≡ true)
        by_lives false l = absurd (nothing_is_something (row_of (slot_at c.items u k)) v (ap row_of (away u k l)) e)
        by_lives true l =
            let h = at_home u k l in (
              h.0,
              not_false (S.core.there w.catalog k)
                  (λ none. nothing_is_something (row_of (slot_at c.items u k)) v (ap row_of h.1 ∙ row_back (w.spot k) ∙ clean.absent k none) e),
            )

    of_pending :
        (u : ℕ) (k : K) (p : Pending V) → pending_of (slot_at c.items u k) ≡ Some p
        → (S.core.table k ≡ u) × (S.core.there w.catalog k ≡ true) × (S.concerns d w.catalog k ≡ false)
    of_pending u k p e = by_lives (lives S i u k) refl
      where
        by_lives :
            (b : Bool) → lives S i u k ≡ b
            → (S.core.table k ≡ u) × (S.core.there w.catalog k ≡ true) × (S.concerns d w.catalog k ≡ false)
        by_lives false l = absurd (nothing_is_something (pending_of (slot_at c.items u k)) p (ap pending_of (away u k l)) e)
        by_lives true l =
            let h = at_home u k l in
            let free : (w.spot k).pend ≡ None → ⊥ =
            λ none. nothing_is_something (pending_of (slot_at c.items u k)) p (ap pending_of h.1 ∙ pending_back (w.spot k) ∙ ap pending_for none) e in (
              h.0,
              not_false (S.core.there w.catalog k) (λ none. free (clean.free k none)),
              not_true (S.concerns d w.catalog k) (λ concerned. free (clean.clear k concerned)),
            )

    of_image : (u : ℕ) (k : K) (v : V) → image_of (pending_of (slot_at c.items u k)) ≡ Some v → (S.core.table k ≡ u) × (S.core.there w.catalog k ≡ true)
    of_image u k v e = by_pending (pending_of (slot_at c.items u k)) refl
      where
        by_pending :
            (o : Option (Pending V)) → pending_of (slot_at c.items u k) ≡ o → (S.core.table k ≡ u) × (S.core.there w.catalog k ≡ true)
        by_pending None is = absurd (nothing_is_something (image_of (pending_of (slot_at c.items u k))) v (ap image_of is) e)
        by_pending (Some p) is = let h = of_pending u k p is in (h.0, h.1)

    -- what one part of a slot has for entries, where its table stays
    part_same :
        (u : ℕ) (k : K) (o : Option V) → ((v : V) → o ≡ Some v → (S.core.table k ≡ u) × (S.core.there w.catalog k ≡ true))
        → is_number (dropped_by change) u ≡ false → entries_at L c.catalog k o ≡ entries_at L then_catalog k o
    part_same u k None lives_there stays = refl
    part_same u k (Some v) lives_there stays =
        let h = lives_there v refl in
        (λ j. entries_at L (here.catalog j) k (Some v))
        ∙ same_entries k (Some v) h.1 (ap (λ n. is_number (dropped_by change) n) h.0 ∙ stays)

    module _
        (e : Partition K V C N O E P X Y Z) (p : CatalogPlan K V C N O E P X Y Z)
        (plan : IsPlan S target numbers i c.catalog c.items d moment p) (left : LeftByPlan c e p) (comes : AreEntered L p.catalog p.made)
        (step : IsInStep S L c) where
      next_is : p.catalog ≡ then_catalog
      next_is = plan.catalog ∙ ap (λ y. S.core.change d moment y) here.catalog

      dropped_is : (u : ℕ) → is_number p.dropped u ≡ is_number (dropped_by change) u
      dropped_is u = ap (λ o. is_number o u) plan.dropped ∙ ap (λ y. is_number (dropped_by (target d y)) u) here.catalog

      abbrev bring : K → Option (Slot V)
      bring = brought S i d c.catalog p.catalog (later c.items.counts.floor (single moment)) (c.items.counts.count + 1)

      made_is : IsMade change bring p.made
      made_is = subst (λ y. IsMade (target d y) bring p.made) here.catalog plan.made

      -- an entry's claim and an item's slot afterwards
      abbrev claim_left : ℕ → N → Bool → Option Claim
      claim_left u q b = if b then None else entered p.made u q (claim_under X.cmp c.locals.tables u q)

      abbrev slot_left : ℕ → K → Bool → Option (Slot V)
      slot_left u k b = if b then None else filled p.made u k (slot_at c.items u k)

      -- where the entries of a part of the items are those of a kind of claims, and those of the items that come are too
      module _
          (kind : Option Claim → Bool) (part : Option (Slot V) → Option V) (none : kind None ≡ false) (empty : part None ≡ None)
          (was : (u : ℕ) (q : N) → kind (claim_under X.cmp c.locals.tables u q) ≡ is_among X.cmp (entries_at L c.catalog (L.item q) (part (slot_at c.items u (L.item q)))) q)
          (home : (u : ℕ) (k : K) (v : V) → part (slot_at c.items u k) ≡ Some v → (S.core.table k ≡ u) × (S.core.there w.catalog k ≡ true))
          (came : (m : MadeTable K V N O E P X Y Z) → AreEntered L p.catalog (Some m) → (q : N)
          → kind (get X.cmp m.entries q) ≡ is_among X.cmp (entries_at L p.catalog (L.item q) (part (get O.cmp m.items.slots (L.item q)))) q) where
        of_kept :
            (u : ℕ) (q : N) → is_number p.dropped u ≡ false
            → kind (claim_under X.cmp c.locals.tables u q) ≡ is_among X.cmp (entries_at L p.catalog (L.item q) (part (slot_at c.items u (L.item q)))) q
        of_kept u q stays =
            was u q
            ∙ (λ j. is_among X.cmp (part_same u (L.item q) (part (slot_at c.items u (L.item q))) (home u (L.item q)) (sym (dropped_is u) ∙ stays) j) q)
            ∙ (λ j. is_among X.cmp (entries_at L (sym next_is j) (L.item q) (part (slot_at c.items u (L.item q)))) q)

        of_left :
            (u : ℕ) (q : N) (b : Bool) → is_number p.dropped u ≡ b
            → kind (claim_left u q b) ≡ is_among X.cmp (entries_at L p.catalog (L.item q) (part (slot_left u (L.item q) b))) q
        of_left u q true is = none ∙ sym (λ j. is_among X.cmp (entries_at L p.catalog (L.item q) (empty j)) q)
        of_left u q false is = by_made p.made comes
          where
            by_made :
                (made : Option (MadeTable K V N O E P X Y Z)) → AreEntered L p.catalog made
                → kind (entered made u q (claim_under X.cmp c.locals.tables u q))
                ≡ is_among X.cmp (entries_at L p.catalog (L.item q) (part (filled made u (L.item q) (slot_at c.items u (L.item q))))) q
            by_made None h = of_kept u q is
            by_made (Some m) h = by_number (nat_eq m.number u)
              where
                by_number :
                    (n : Bool)
                    → kind (if n then get X.cmp m.entries q else claim_under X.cmp c.locals.tables u q)
                    ≡ is_among X.cmp (entries_at L p.catalog (L.item q) (part (if n then get O.cmp m.items.slots (L.item q) else slot_at c.items u (L.item q)))) q
                by_number true = came m h q
                by_number false = of_kept u q is

        of_then :
            (u : ℕ) (q : N)
            → kind (claim_under X.cmp e.locals.tables u q) ≡ is_among X.cmp (entries_at L e.catalog (L.item q) (part (slot_at e.items u (L.item q)))) q
        of_then u q =
            ap kind (left.entries u q)
            ∙ of_left u q (is_number p.dropped u) refl
            ∙ sym
            ((λ j. is_among X.cmp (entries_at L (left.catalog j) (L.item q) (part (slot_at e.items u (L.item q)))) q)
            ∙ (λ j. is_among X.cmp (entries_at L p.catalog (L.item q) (part (left.slots u (L.item q) j))) q))

      -- no item that comes is held
      none_held : (m : MadeTable K V N O E P X Y Z) (k : K) → pending_of (get O.cmp m.items.slots k) ≡ None
      none_held m k = none_pending (is_at (O.cmp k)) m.items.slots.entries (sym m.items.counted ∙ m.free)

      came_committed :
          (m : MadeTable K V N O E P X Y Z) → AreEntered L p.catalog (Some m) → (q : N)
          → is_committed (get X.cmp m.entries q) ≡ is_among X.cmp (entries_at L p.catalog (L.item q) (row_of (get O.cmp m.items.slots (L.item q)))) q
      came_committed m h q = ap (λ o. is_committed o) (h q) ∙ committed_only _

      came_held :
          (m : MadeTable K V N O E P X Y Z) → AreEntered L p.catalog (Some m) → (q : N)
          → is_held (get X.cmp m.entries q)
          ≡ is_among X.cmp (entries_at L p.catalog (L.item q) (image_of (pending_of (get O.cmp m.items.slots (L.item q))))) q
      came_held m h q =
          ap (λ o. is_held o) (h q) ∙ never_held _
          ∙ sym (λ j. is_among X.cmp (entries_at L p.catalog (L.item q) (image_of (none_held m (L.item q) j))) q)

      -- what is prepared for the end of the transaction that holds an item
      module _ (k : K) where
        abbrev home : ℕ
        home = S.core.table k

        abbrev old : Option (Slot V)
        old = slot_at c.items home k

        abbrev new : Option (Slot V)
        new = slot_left home k (is_number p.dropped home)

        free_left : pending_of old ≡ None → (b : Bool) → pending_of (slot_left home k b) ≡ None
        free_left free true = refl
        free_left free false = by_made p.made
          where
            by_made : (made : Option (MadeTable K V N O E P X Y Z)) → pending_of (filled made home k old) ≡ None
            by_made None = free
            by_made (Some m) = by_number (nat_eq m.number home)
              where
                by_number : (n : Bool) → pending_of (if n then get O.cmp m.items.slots k else old) ≡ None
                by_number true = none_held m k
                by_number false = free

        -- a table that was there is not made
        not_filled : S.core.there w.catalog k ≡ true → (t : TableChange) → change ≡ t → (made : Option (MadeTable K V N O E P X Y Z)) → IsMade t bring made
            → old ≡ filled made home k old
        not_filled there t is None m = refl
        not_filled there (Makes n) is (Some m) h = by_number (nat_eq m.number home) refl
          where
            by_number : (b : Bool) → nat_eq m.number home ≡ b → old ≡ (if b then get O.cmp m.items.slots k else old)
            by_number false e = refl
            by_number true e =
                absurd
                (no_both (S.core.there w.catalog k) there
                (laws.fresh d w.catalog k ok (ap (λ t. makes t home) is ∙ (λ j. nat_eq (sym h.number j) home) ∙ e)))
        not_filled there (Drops n) is (Some m) h = absurd h
        not_filled there (Alters n) is (Some m) h = absurd h
        not_filled there Nothing is (Some m) h = absurd h

        by_pending : (o : Option (Pending V)) → pending_of old ≡ o → moves_kept L c.catalog k old ≡ moves_kept L p.catalog k new
        by_pending None free =
            (λ j. moves_for L c.catalog k (row_of old) (free j))
            ∙ sym (λ j. moves_for L p.catalog k (row_of new) (free_left free (is_number p.dropped home) j))
        by_pending (Some x) held =
            let h = of_pending home k x held in
            let stays : is_number (dropped_by change) home ≡ false = undropped change home (sym (laws.concerned d w.catalog k) ∙ h.2) in
            let same : old ≡ new = not_filled h.1 change refl p.made made_is ∙ sym (λ j. slot_left home k ((dropped_is home ∙ stays) j)) in
            (λ j. moves_kept L (here.catalog j) k old)
            ∙ (λ j. moves_for L w.catalog k (row_of old) (held j))
            ∙ (λ j. record {
              old = same_entries k (row_of old) h.1 stays j;
              new = same_entries k x.image h.1 stays j;
            })
            ∙ sym (λ j. moves_for L then_catalog k (row_of old) (held j))
            ∙ sym (λ j. moves_kept L (next_is j) k old)
            ∙ (λ j. moves_kept L p.catalog k (same j))

        moves_then : moves_in O.cmp e.prepared.lists k ≡ moves_kept L e.catalog k (slot_at e.items home k)
        moves_then =
            (λ j. moves_in O.cmp (left.prepared j).lists k)
            ∙ step.moves k
            ∙ by_pending (pending_of old) refl
            ∙ sym ((λ j. moves_kept L (left.catalog j) k (slot_at e.items home k)) ∙ (λ j. moves_kept L p.catalog k (left.slots home k j)))

      pub stays_in_step : IsInStep S L e
      stays_in_step =
          record {
            entries =
                record {
                  committed = of_then (λ o. is_committed o) (λ s. row_of s) refl refl step.entries.committed of_row came_committed;
                  held = of_then (λ o. is_held o) (λ s. image_of (pending_of s)) refl refl step.entries.held of_image came_held;
                };
            moves = moves_then;
          }
