-- A cell that has carried out a plan holds the state and the feed after the command.
use Rattle.std.proofs.Common.{◌≡◌, ℕ, ◌+◌, ◌++◌, nat_eq, not, ◌&&◌, Bool, true, false, if◌then◌else◌, List, [], Option, None, Some, refl, sym, ap, ◌∙◌, subst}
use Rattle.std.specs.List.{flat_map}
use Rattle.std.specs.Ordering.{nat_cmp}
use Rattle.std.specs.Cmp.{IsTotalOrder}
use Rattle.std.specs.BTreeMap.{get}
use Rattle.std.proofs.lemmas.Bool.{cond-true, eq-eqb, eqb-true}
use Rattle.std.specs.declared.cmp.Ord as ord
use Rattle.std.specs.declared.cmp.PartialEq as eq
use Rattle.std.specs.declared.cmp.PartialOrd as partial
use Rattle.index_feed.specs.declared.change.Change.{Change}
use Rattle.index_feed.specs.Feed.{Commands, Feed, at_keys, founded, gather, served, step as feed_step}
use Rattle.index_feed.specs.Laws.{IsListOf}
use Rattle.txn_core.specs.Effects.{Changed}
use Rattle.txn_core.specs.Indexing.{indexed}
use Rattle.txn_core.specs.Service.{Service, IsServiceLawful}
use Rattle.txn_core.specs.Stamps.{later, single}
use Rattle.txn_core.specs.State.{State, Tally, kept_or, step, tally_changed}
use Rattle.item_store.specs.declared.slot.Slot.{Slot}
use Rattle.item_store.specs.declared.table.TableItems.{TableItems}
use Rattle.item_store.specs.Slots.{committed_at, row_of, slot_of}
use Rattle.item_store.specs.Tables.{slot_in}
use Rattle.item_store.specs.Changes.{slot_at}
use Rattle.global_index.specs.Marks.{mark_in}
use Rattle.index_changes.specs.Prepared.{prepared_in}
use Rattle.partition.specs.declared.cell.Partition.{Partition}
use Rattle.index_changes.specs.declared.command_rules.TableChange.{TableChange}
use Rattle.index_changes.specs.declared.command_rules.TableChange.TheVariants.{Makes, Drops, Alters, Nothing}
use Rattle.index_changes.specs.declared.plan.CatalogPlan.{CatalogPlan}
use Rattle.index_changes.specs.declared.plan.MadeTable.{MadeTable}
use Rattle.index_changes.specs.Commands.{AreCommandsLawful, dropped_by, drops, is_in, is_number, makes, subject}
use Rattle.partition.specs.Holds.{Holds, lives, queued_by, slot_for}
use Rattle.index_changes.specs.Plans.{IsMade, IsOrderedFor, IsPlan, IsRising, brought, closed_by, founding_in, has_new, queued_for, slots_of}
use Rattle.partition.specs.Plans.{filled, LeftByPlan}
use Rattle.index_changes.proofs.Basics.{and_both, no_both, not_true}
use Rattle.partition.proofs.Brought.{IsClean, after, gone, is_brought, is_dropped, is_not_brought, left_alone, queues_same, spot}
use Rattle.index_changes.proofs.Keys.{at_is}
use Rattle.partition.proofs.Changing.{same_here}
use Rattle.partition.proofs.Keeping.{row_back}
use Rattle.partition.proofs.Lists.{ascend}
use Rattle.partition.proofs.Queued.{by_rows, found_by, none_found, table_queues}
use Rattle.partition.proofs.Spared.{closes, founds_none, founds_nothing, not_made, others}

module _
    {K V A F C D Q B : Type 0} (S : Service K V A F C D Q B) (law : IsServiceLawful S) {sound : C → Type 0} {target : D → C → TableChange}
    {numbers : C → ℕ → List ℕ} (laws : AreCommandsLawful S sound target numbers)
    (d : D) (moment : ℕ) (w : State K V A C) (ok : sound w.catalog) (kept : S.refuses d w.catalog ≡ None)
    (clean : IsClean S law laws d moment w ok kept) (i : ℕ) where
  abbrev pub next : C
  next = after S law laws d moment w ok kept

  abbrev pub now : K → Option V
  now q = kept_or (S.core.there w.catalog q) (S.core.there next q) (w.spot q).row (S.core.adds d w.catalog q)

  -- the items that come with a table
  abbrev pub bring : K → Option (Slot V)
  bring q = brought S i d w.catalog next (later (w.cell i).floor (single moment)) ((w.cell i).count + 1) q

  -- a row that is there afterwards is of a table that is there
  now_there : (q : K) (v : V) → now q ≡ Some v → S.core.there next q ≡ true
  now_there q v e = by_now (S.core.there next q) refl
    where
      by_now : (n : Bool) → S.core.there next q ≡ n → S.core.there next q ≡ true
      by_now true n = n
      by_now false n =
          let none : None ≡ Some v = sym (ap (λ b. kept_or (S.core.there w.catalog q) b (w.spot q).row (S.core.adds d w.catalog q)) n) ∙ e in absurd (cc)

  -- what an item of another table queues: nothing
  module _ (t : TableChange) (is : target d w.catalog ≡ t) where
    elsewhere :
        (r : K × V) → now r.0 ≡ Some r.1 → is_number (subject t) (S.core.table r.0) ≡ false → makes t (S.core.table r.0) ≡ false
        → found_by (indexed S.core S.index) w.catalog next r ≡ []
    elsewhere r e away not_new = by_there (S.core.there w.catalog r.0) refl
      where
        by_there : (b : Bool) → S.core.there w.catalog r.0 ≡ b → found_by (indexed S.core S.index) w.catalog next r ≡ []
        by_there true b = founds_nothing S law laws d moment w.catalog ok kept r.0 b (others S law laws d moment w.catalog ok kept t is r.0 away) (Some r.1)
        by_there false b =
            absurd
            (no_both (S.core.there next r.0) (now_there r.0 r.1 e)
            (not_made S law laws d moment w.catalog ok kept r.0 (ap (λ y. makes y (S.core.table r.0)) is ∙ not_new) b))

    -- one of a table that goes is not there
    of_dropped : (r : K × V) → now r.0 ≡ Some r.1 → drops t (S.core.table r.0) ≡ true → found_by (indexed S.core S.index) w.catalog next r ≡ []
    of_dropped r e dropped =
        absurd (no_both (S.core.there next r.0) (now_there r.0 r.1 e) (gone S law laws d moment w ok kept clean r.0 t is dropped))

  -- the row of an item that was there, and of one that comes
  row_of_slot : (q : K) (s : Option (Slot V)) → s ≡ slot_for (spot S law laws d moment w ok kept q) → row_of s ≡ now q
  row_of_slot q s e = ap row_of e ∙ row_back (spot S law laws d moment w ok kept q)

  module _
      {O : ord.Ghosts K} {E : eq.Ghosts K} {P : partial.Ghosts K} {N : Type 0} {X : ord.Ghosts N} {Y : eq.Ghosts N} {Z : partial.Ghosts N} (total : IsTotalOrder O.cmp) (ordered : (x y : K) → S.index.cmp x y ≡ O.cmp x y)
      (c : Partition K V C N O E P X Y Z) (f : Feed K V C) (here : Holds S i c w f) where
    -- the slot of an item under its table's number
    at_home : (q : K) (u : ℕ) → S.core.cell_of q ≡ i → S.core.table q ≡ u → slot_at c.items u q ≡ slot_for (w.spot q)
    at_home q u home table =
        here.items u q
        ∙ cond-true (lives S i u q) (slot_for (w.spot q)) None (λ j. eq-eqb (S.core.table q) u table j && eq-eqb (S.core.cell_of q) i home j)

    only_home : (q : K) (u : ℕ) (v : V) → row_of (slot_at c.items u q) ≡ Some v → (S.core.cell_of q ≡ i) × (S.core.table q ≡ u)
    only_home q u v e = by_lives (lives S i u q) refl
      where
        by_lives : (b : Bool) → lives S i u q ≡ b → (S.core.cell_of q ≡ i) × (S.core.table q ≡ u)
        by_lives true t =
            let l = and_both (nat_eq (S.core.table q) u) (nat_eq (S.core.cell_of q) i) t in
            (eqb-true (S.core.cell_of q) i l.1, eqb-true (S.core.table q) u l.0)
        by_lives false t =
            let none : None ≡ Some v = sym (ap row_of (here.items u q ∙ (λ j. if t j then slot_for (w.spot q) else None))) ∙ e in absurd (cc)

    -- what the plan queues
    module _ (rows : List (K × V)) (listed : IsListOf (indexed S.core S.index) i now rows) where
      abbrev all_found : List (Change K V)
      all_found = flat_map (found_by (indexed S.core S.index) w.catalog next) rows

      queues :
          (t : TableChange) → target d w.catalog ≡ t → (made : Option (MadeTable K V N O E P X Y Z)) → IsMade t bring made
          → IsOrderedFor t c.items.tables → queued_for S numbers t w.catalog next c.items.tables made ≡ all_found
      queues Nothing is made m o = sym (none_found (indexed S.core S.index) w.catalog next _ rows listed.each (λ r h. elsewhere Nothing is r h.1 refl refl))
      queues (Drops n) is made m o =
          sym
          (none_found (indexed S.core S.index) w.catalog next _ rows listed.each
          (λ r h. by_table r h.1 (nat_eq n (S.core.table r.0)) refl))
        where
          by_table : (r : K × V) → now r.0 ≡ Some r.1 → (b : Bool) → nat_eq n (S.core.table r.0) ≡ b → found_by (indexed S.core S.index) w.catalog next r ≡ []
          by_table r e true t = of_dropped (Drops n) is r e t
          by_table r e false t = elsewhere (Drops n) is r e t refl
      queues (Makes n) is None m o = absurd m
      queues (Makes n) is (Some made) m o =
          table_queues (indexed S.core S.index) O.cmp total (λ x y. at_is S law ordered x y) ordered law.index.feed.exact law.core.turned i now rows listed
          S.core.table n made.items.slots.entries (ascend O.cmp made.items.slots.entries m.order)
          (λ q home table.
          let new = eq-eqb n (S.core.table q) (sym table) in
          row_of_slot q (get O.cmp made.items.slots q) (m.slots q ∙ is_brought S law laws d moment w ok kept clean q (Makes n) is i home new))
          (λ q v e. by_table q v (ap row_of (sym (m.slots q)) ∙ e) (nat_eq n (S.core.table q)) refl)
          w.catalog next (λ r h away. elsewhere (Makes n) is r h.1 refl (turned_false (S.core.table r.0) n away))
        where
          turned_false : (x y : ℕ) → nat_eq x y ≡ false → nat_eq y x ≡ false
          turned_false x y e = not_true (nat_eq y x) (λ h. no_both (nat_eq x y) (eq-eqb x y (sym (eqb-true y x h))) e)

          by_table : (q : K) (v : V) → row_of (bring q) ≡ Some v → (b : Bool) → nat_eq n (S.core.table q) ≡ b → (S.core.cell_of q ≡ i) × (S.core.table q ≡ n)
          by_table q v e false t =
              let none : None ≡ Some v = sym (ap row_of (is_not_brought S law laws d moment w ok kept clean q (Makes n) is i _ _ t)) ∙ e in absurd (cc)
          by_table q v e true t = (by_home (nat_eq (S.core.cell_of q) i) refl, sym (eqb-true n (S.core.table q) t))
            where
              by_home : (b : Bool) → nat_eq (S.core.cell_of q) i ≡ b → S.core.cell_of q ≡ i
              by_home true h = eqb-true (S.core.cell_of q) i h
              by_home false h =
                  let none : None ≡ Some v = sym (λ j. row_of (if h j && (not (S.core.there w.catalog q) && S.core.there next q) then slot_of (committed_at (S.core.adds d w.catalog q) (later (w.cell i).floor (single moment)) ((w.cell i).count + 1)) None else None)) ∙ e in absurd (cc)
      queues (Alters n) is made m o = by_new (has_new numbers n w.catalog next) refl
        where
          turned_false : (x y : ℕ) → nat_eq x y ≡ false → nat_eq y x ≡ false
          turned_false x y e = not_true (nat_eq y x) (λ h. no_both (nat_eq x y) (eq-eqb x y (sym (eqb-true y x h))) e)

          by_table :
              has_new numbers n w.catalog next ≡ false → (r : K × V) → now r.0 ≡ Some r.1 → (b : Bool) → nat_eq n (S.core.table r.0) ≡ b
              → found_by (indexed S.core S.index) w.catalog next r ≡ []
          by_table none r e false t = elsewhere (Alters n) is r e t refl
          by_table none r e true t = by_there (S.core.there w.catalog r.0) refl
            where
              by_there : (b : Bool) → S.core.there w.catalog r.0 ≡ b → found_by (indexed S.core S.index) w.catalog next r ≡ []
              by_there true b =
                  founds_none S law laws d moment w.catalog ok kept r.0 b n (eqb-true n (S.core.table r.0) t) (now_there r.0 r.1 e) none (Some r.1)
              by_there false b =
                  absurd
                  (no_both (S.core.there next r.0) (now_there r.0 r.1 e)
                  (not_made S law laws d moment w.catalog ok kept r.0 (ap (λ y. makes y (S.core.table r.0)) is) b))

          altered_row : (q : K) (t : Option (TableItems K V O E P)) → get nat_cmp c.items.tables n ≡ t → S.core.cell_of q ≡ i → S.core.table q ≡ n → row_of (slot_in t q) ≡ now q
          altered_row q t got home table =
              row_of_slot q (slot_in t q)
              (sym (ap (λ o. slot_in o q) got) ∙ at_home q n home table
              ∙ left_alone S law laws d moment w ok kept clean q (Alters n) is refl refl)

          with_table : (t : Option (TableItems K V O E P)) → get nat_cmp c.items.tables n ≡ t → IsOrderedFor (Alters n) c.items.tables → founding_in S w.catalog next (slots_of t) ≡ all_found
          with_table None got o =
              sym
              (none_found (indexed S.core S.index) w.catalog next _ rows listed.each
              (λ r h. by_number r h (nat_eq n (S.core.table r.0)) refl))
            where
              by_number :
                  (r : K × V) → (S.core.cell_of r.0 ≡ i) × (now r.0 ≡ Some r.1) → (b : Bool) → nat_eq n (S.core.table r.0) ≡ b
                  → found_by (indexed S.core S.index) w.catalog next r ≡ []
              by_number r h false t = elsewhere (Alters n) is r h.1 t refl
              by_number r h true t =
                  let none : None ≡ Some r.1 = altered_row r.0 None got h.0 (sym (eqb-true n (S.core.table r.0) t)) ∙ h.1 in absurd (cc)
          with_table (Some t) got o =
              table_queues (indexed S.core S.index) O.cmp total (λ x y. at_is S law ordered x y) ordered law.index.feed.exact law.core.turned i now rows listed
              S.core.table n t.slots.entries
              (ascend O.cmp t.slots.entries (subst (λ x. IsRising x) got o))
              (λ q home table. altered_row q (Some t) got home table)
              (λ q v e. only_home q n v (ap (λ o. row_of (slot_in o q)) got ∙ e))
              w.catalog next (λ r h away. elsewhere (Alters n) is r h.1 (turned_false (S.core.table r.0) n away) refl)

          by_new : (b : Bool) → has_new numbers n w.catalog next ≡ b → (if b then founding_in S w.catalog next (slots_of (get nat_cmp c.items.tables n)) else []) ≡ all_found
          by_new false none =
              sym (none_found (indexed S.core S.index) w.catalog next _ rows listed.each (λ r h. by_table none r h.1 (nat_eq n (S.core.table r.0)) refl))
          by_new true new = with_table (get nat_cmp c.items.tables n) refl o

    -- what is kept of an item afterwards
    kept_slot :
        (t : TableChange) → target d w.catalog ≡ t → (made : Option (MadeTable K V N O E P X Y Z)) → IsMade t bring made → (u : ℕ) (q : K)
        → (if is_number (dropped_by t) u then None else filled made u q (slot_at c.items u q)) ≡ (if lives S i u q then slot_for (spot S law laws d moment w ok kept q) else None)
    kept_slot Nothing is None m u q =
        here.items u q
        ∙ same_here (lives S i u q) (slot_for (w.spot q)) (slot_for (spot S law laws d moment w ok kept q)) None
        (λ l. left_alone S law laws d moment w ok kept clean q Nothing is refl refl)
    kept_slot Nothing is (Some made) m u q = absurd m
    kept_slot (Alters n) is None m u q =
        here.items u q
        ∙ same_here (lives S i u q) (slot_for (w.spot q)) (slot_for (spot S law laws d moment w ok kept q)) None
        (λ l. left_alone S law laws d moment w ok kept clean q (Alters n) is refl refl)
    kept_slot (Alters n) is (Some made) m u q = absurd m
    kept_slot (Drops n) is (Some made) m u q = absurd m
    kept_slot (Drops n) is None m u q = by_number (nat_eq n u) refl
      where
        its_table : lives S i u q ≡ true → S.core.table q ≡ u
        its_table l = eqb-true (S.core.table q) u (and_both (nat_eq (S.core.table q) u) (nat_eq (S.core.cell_of q) i) l).0

        by_number : (b : Bool) → nat_eq n u ≡ b → (if b then None else slot_at c.items u q) ≡ (if lives S i u q then slot_for (spot S law laws d moment w ok kept q) else None)
        by_number true e = by_lives (lives S i u q) refl
          where
            by_lives : (b : Bool) → lives S i u q ≡ b → None ≡ (if b then slot_for (spot S law laws d moment w ok kept q) else None)
            by_lives true l = sym (is_dropped S law laws d moment w ok kept clean q (Drops n) is (eq-eqb n (S.core.table q) (eqb-true n u e ∙ sym (its_table l))))
            by_lives false l = refl
        by_number false e =
            here.items u q
            ∙ same_here (lives S i u q) (slot_for (w.spot q)) (slot_for (spot S law laws d moment w ok kept q)) None
            (λ l. left_alone S law laws d moment w ok kept clean q (Drops n) is (ap (λ z. nat_eq n z) (its_table l) ∙ e) refl)
    kept_slot (Makes n) is None m u q = absurd m
    kept_slot (Makes n) is (Some made) m u q = by_number (nat_eq made.number u) refl
      where
        parts : lives S i u q ≡ true → (nat_eq (S.core.table q) u ≡ true) × (nat_eq (S.core.cell_of q) i ≡ true)
        parts l = and_both (nat_eq (S.core.table q) u) (nat_eq (S.core.cell_of q) i) l

        by_number : (b : Bool) → nat_eq made.number u ≡ b
            → (if b then get O.cmp made.items.slots q else slot_at c.items u q) ≡ (if lives S i u q then slot_for (spot S law laws d moment w ok kept q) else None)
        by_number true e = m.slots q ∙ by_lives (lives S i u q) refl
          where
            own : n ≡ u
            own = sym m.number ∙ eqb-true made.number u e

            by_table : lives S i u q ≡ false → (b : Bool) → nat_eq n (S.core.table q) ≡ b → bring q ≡ None
            by_table l false t = is_not_brought S law laws d moment w ok kept clean q (Makes n) is i _ _ t
            by_table l true t =
                let table : nat_eq (S.core.table q) u ≡ true = eq-eqb (S.core.table q) u (sym (eqb-true n (S.core.table q) t) ∙ own) in
                let away : nat_eq (S.core.cell_of q) i ≡ false = sym (ap (λ b. b && nat_eq (S.core.cell_of q) i) table) ∙ l in
                λ j. if away j && (not (S.core.there w.catalog q) && S.core.there next q) then slot_of (committed_at (S.core.adds d w.catalog q) (later (w.cell i).floor (single moment)) ((w.cell i).count + 1)) None else None

            by_lives : (b : Bool) → lives S i u q ≡ b → bring q ≡ (if b then slot_for (spot S law laws d moment w ok kept q) else None)
            by_lives true l =
                is_brought S law laws d moment w ok kept clean q (Makes n) is i (eqb-true (S.core.cell_of q) i (parts l).1)
                (eq-eqb n (S.core.table q) (own ∙ sym (eqb-true (S.core.table q) u (parts l).0)))
            by_lives false l = by_table l (nat_eq n (S.core.table q)) refl
        by_number false e =
            here.items u q
            ∙ same_here (lives S i u q) (slot_for (w.spot q)) (slot_for (spot S law laws d moment w ok kept q)) None
            (λ l. left_alone S law laws d moment w ok kept clean q (Makes n) is refl
            (ap (λ z. nat_eq z (S.core.table q)) (sym m.number) ∙ ap (λ z. nat_eq made.number z) (eqb-true (S.core.table q) u (parts l).0) ∙ e))

    module _
        (e : Partition K V C N O E P X Y Z) (p : CatalogPlan K V C N O E P X Y Z) (plan : IsPlan S target numbers i c.catalog c.items d moment p) (left : LeftByPlan c e p)
        (listed : IsListOf (indexed S.core S.index) i now (at_keys (indexed S.core S.index) now (gather (indexed S.core S.index) i (S.index.brings d w.catalog) (f.keys i))))
        (unserved : (g : ℕ) (q : K) → S.core.cell_of q ≡ i → served (indexed S.core S.index) w.catalog g (S.index.item_of q) ≡ false → f.shown g q ≡ None) where
      next_is : p.catalog ≡ next
      next_is = plan.catalog ∙ ap (λ y. S.core.change d moment y) here.catalog

      made_is : IsMade (target d w.catalog) bring p.made
      made_is =
          subst (λ (y : C × C × Tally). IsMade (target d y.0) (brought S i d y.0 y.1 (later y.2.floor (single moment)) (y.2.count + 1)) p.made)
          (λ j. (here.catalog j, next_is j, here.numbers j)) plan.made

      order_is : IsOrderedFor (target d w.catalog) c.items.tables
      order_is = subst (λ y. IsOrderedFor (target d y) c.items.tables) here.catalog plan.order

      abbrev keys_then : List K
      keys_then = gather (indexed S.core S.index) i (S.index.brings d w.catalog) (f.keys i)

      changes_are : p.changes.items ≡ flat_map (founded (indexed S.core S.index) f.catalog next now i) keys_then
      changes_are =
          let I = indexed S.core S.index in
          plan.changes
          ∙ (λ j. queued_for S numbers (target d (here.catalog j)) (here.catalog j) (next_is j) c.items.tables p.made)
          ∙ queues (at_keys I now keys_then) listed (target d w.catalog) refl p.made made_is order_is
          ∙ sym (by_rows I w.catalog next i now keys_then listed.each)
          ∙ (λ j. flat_map (founded I (sym here.under j) next now i) keys_then)

      neither : (b : Bool) → (let none : Option V = None in if b then none else none) ≡ None
      neither true = refl
      neither false = refl

      row_kept :
          (g : ℕ) (q : K)
          → (if is_in (closed_by numbers (subject (target d w.catalog)) w.catalog next) g then None else (if nat_eq (S.core.cell_of q) i then f.shown g q else None))
          ≡ (if nat_eq (S.core.cell_of q) i then (if served (indexed S.core S.index) next g (S.index.item_of q) then f.shown g q else None) else None)
      row_kept g q = by_home (nat_eq (S.core.cell_of q) i) refl
        where
          turned : (s : Bool) → (if not s then None else f.shown g q) ≡ (if s then f.shown g q else None)
          turned true = refl
          turned false = refl

          by_served : (s : Bool) → S.core.cell_of q ≡ i → served (indexed S.core S.index) w.catalog g (S.index.item_of q) ≡ s
              → (if is_in (closed_by numbers (subject (target d w.catalog)) w.catalog next) g then None else f.shown g q)
              ≡ (if served (indexed S.core S.index) next g (S.index.item_of q) then f.shown g q else None)
          by_served true home had =
              let k = S.index.item_of q in
              (λ j. if closes S law laws d moment w.catalog ok kept k (law.index.there w.catalog g k had) g had (target d w.catalog) refl j then None else f.shown g q)
              ∙ turned (served (indexed S.core S.index) next g k)
          by_served false home had =
              let none = unserved g q home had in
              (λ j. if is_in (closed_by numbers (subject (target d w.catalog)) w.catalog next) g then None else none j)
              ∙ neither _
              ∙ sym ((λ j. if served (indexed S.core S.index) next g (S.index.item_of q) then none j else None) ∙ neither _)

          by_home :
              (b : Bool) → nat_eq (S.core.cell_of q) i ≡ b
              → (if is_in (closed_by numbers (subject (target d w.catalog)) w.catalog next) g then None else (if b then f.shown g q else None))
              ≡ (if b then (if served (indexed S.core S.index) next g (S.index.item_of q) then f.shown g q else None) else None)
          by_home true h = by_served (served (indexed S.core S.index) w.catalog g (S.index.item_of q)) (eqb-true (S.core.cell_of q) i h) refl
          by_home false h = neither _

      pub carried : Holds S i e (step S.core w (Changed d moment)) (feed_step (indexed S.core S.index) f (Commands next (S.index.brings d w.catalog) now))
      carried =
          record {
            partitions = left.partitions ∙ here.partitions;
            items = λ u q.
                left.slots u q
                ∙ ap (λ o. if is_number o u then None else filled p.made u q (slot_at c.items u q)) (plan.dropped ∙ ap (λ y. dropped_by (target d y)) here.catalog)
                ∙ kept_slot (target d w.catalog) refl p.made made_is u q;
            numbers = left.numbers ∙ ap (λ t. tally_changed t) here.numbers;
            catalog = left.catalog ∙ next_is;
            prepared = λ q.
                ap (λ m. prepared_in O.cmp m.lists q) left.prepared
                ∙ here.prepared q
                ∙ same_here (nat_eq (S.core.cell_of q) i) (queued_by S w.catalog q (w.spot q).row (w.spot q).pend)
                (queued_by S next q (spot S law laws d moment w ok kept q).row (spot S law laws d moment w ok kept q).pend) []
                (λ at_q. queues_same S law laws d moment w ok kept clean q);
            waiting = left.waiting ∙ (λ j. here.waiting j ++ changes_are j);
            sent = left.sent ∙ here.sent;
            marks = λ j. ap (λ m. mark_in m.last.items j) left.marks ∙ here.marks j;
            rows = λ g q.
                left.rows g q
                ∙ (λ j. if is_in ((plan.closed ∙ (λ x. closed_by numbers (subject (target d (here.catalog x))) (here.catalog x) (next_is x))) j) g then None else here.rows g q j)
                ∙ row_kept g q;
            under = refl;
            shown = λ q at_q. refl;
          }
