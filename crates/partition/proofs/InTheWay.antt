-- The least number that a cell finds among those that hold an item of a table is that of the states that it holds.
use Rattle.std.proofs.Common.{◌≡◌, ℕ, ◌+◌, ◌≤◌, min, ◌⊎◌, inl, inr, is_some, if◌then◌else◌, nat_eq, ◌&&◌, true, false, List, [], ◌∷◌, Option, None, Some, MatchOption, refl, sym, ap, ◌∙◌, subst, arith}
use Rattle.std.specs.Ordering.{nat_cmp}
use Rattle.std.specs.Cmp.{IsTotalOrder}
use Rattle.std.specs.BTreeMap.{IsOrdered, get, is_at}
use Rattle.std.specs.Map.{lookup, values_of}
use Rattle.std.specs.List.{sum_by}
use Rattle.std.proofs.lemmas.Bool.{cases_lt, cond-true, eq-eqb, eqb-true}
use Rattle.std.proofs.lemmas.List.Sums.{sum_by-cons}
use Rattle.std.specs.declared.cmp.Ord as ord
use Rattle.std.specs.declared.cmp.PartialEq as eq
use Rattle.std.specs.declared.cmp.PartialOrd as partial
use Rattle.index_feed.specs.Feed.{Each, Feed}
use Rattle.txn_core.specs.Service.{Service}
use Rattle.txn_core.specs.State.{State, holder}
use Rattle.txn_core.specs.Cells.{IsClearThere, IsFirstHolder}
use Rattle.item_store.specs.declared.slot.Pending.{Pending}
use Rattle.item_store.specs.declared.slot.Slot.{Slot}
use Rattle.item_store.specs.declared.table.TableItems.{TableItems}
use Rattle.item_store.specs.Slots.{held_in, holder_of, number_of}
use Rattle.item_store.specs.Tables.{slot_in}
use Rattle.item_store.specs.Changes.{slot_at}
use Rattle.partition.specs.declared.cell.Partition.{Partition}
use Rattle.index_changes.specs.declared.command_rules.TableChange.{TableChange}
use Rattle.index_changes.specs.Commands.{AreCommandsLawful, is_number, subject}
use Rattle.partition.specs.Holds.{Holds, lives, slot_for}
use Rattle.partition.specs.Holders.{TellsHolder, least_in, lesser}
use Rattle.index_changes.proofs.Basics.{some_is, and_both}
use Rattle.partition.proofs.Holders.{told}
use Rattle.partition.proofs.Keeping.{holder_back}
use Rattle.partition.proofs.Lists.{ascend, found, looked}
use Rattle.partition.proofs.Stepping.{none_held}

lesser_none : (a : Option ℕ) → lesser a None ≡ a
lesser_none None = refl
lesser_none (Some a) = refl

min_assoc : (a b d : ℕ) → min (min a b) d ≡ min a (min b d)
min_assoc a b d = omega arith

pub lesser_assoc : (a b d : Option ℕ) → lesser (lesser a b) d ≡ lesser a (lesser b d)
lesser_assoc None b d = refl
lesser_assoc (Some a) None d = refl
lesser_assoc (Some a) (Some b) None = refl
lesser_assoc (Some a) (Some b) (Some d) = λ j. Some (min_assoc a b d j)

none_of : (a b : Option ℕ) → lesser a b ≡ None → (a ≡ None) × (b ≡ None)
none_of None b e = (refl, e)
none_of (Some a) None e = absurd (cc)
none_of (Some a) (Some b) e = absurd (cc)

-- the number is at most this one, where there is one
abbrev IsBelow : ℕ → Option ℕ → Type 0
IsBelow n None = Unit {0}
IsBelow n (Some m) = n ≤ m

both_below : (n : ℕ) (a b : Option ℕ) → IsBelow n (lesser a b) → IsBelow n a × IsBelow n b
both_below n None b h = (tt, h)
both_below n (Some a) None h = (h, tt)
both_below n (Some a) (Some b) h = (omega arith, omega arith)

itself_below : (n : ℕ) (o : Option ℕ) → o ≡ Some n → IsBelow n o
itself_below n o e = subst (λ p. IsBelow n p) (sym e) (omega arith)

below_is : (n m : ℕ) (o : Option ℕ) → IsBelow n o → o ≡ Some m → n ≤ m
below_is n m o h e = subst (λ p. IsBelow n p) e h

-- the lesser of two is one of them
one_of : (a b : Option ℕ) (n : ℕ) → lesser a b ≡ Some n → (a ≡ Some n) ⊎ (b ≡ Some n)
one_of None b n e = inr e
one_of (Some a) None n e = inl e
one_of (Some a) (Some b) n e =
    let is : min a b ≡ n = some_is (min a b) n e in
    elim (cases_lt a b) [ inl lt ↦ let h : a ≡ n = omega (arith, lt, is) in inl (ap (λ x. Some x) h) | inr ge ↦ let h : b ≡ n = omega (arith, ge, is) in inr (ap (λ x. Some x) h) ]

module _ {K V : Type 0} where
  pub none_least : (es : List (K × Slot V)) → sum_by held_in (values_of es) ≡ 0 → least_in es ≡ None
  none_least [] e = refl
  none_least (x ∷ es) e = by_pending x.1.pending (sum_by held_in (values_of es)) (sym (sum_by-cons held_in x.1 (values_of es)) ∙ e) (none_least es)
    where
      by_pending :
          (o : Option (Pending V)) (n : ℕ) → (if is_some o then 1 else 0) + n ≡ 0 → (n ≡ 0 → least_in es ≡ None)
          → lesser (number_of o) (least_in es) ≡ None
      by_pending None n z rest = rest (omega arith)
      by_pending (Some q) n z rest = absurd (omega arith)

  -- an item that is not held changes nothing, one that is held counts
  pub free_step : (x : K × Slot V) (best : Option ℕ) (rest : List (K × Slot V)) → x.1.pending ≡ None → lesser best (least_in (x ∷ rest)) ≡ lesser best (least_in rest)
  free_step x best rest e = λ j. lesser best (lesser (number_of (e j)) (least_in rest))

  pub held_step :
      (x : K × Slot V) (best more : Option ℕ) (p : Pending V) (rest : List (K × Slot V)) → x.1.pending ≡ Some p → more ≡ lesser best (Some p.number)
      → lesser best (least_in (x ∷ rest)) ≡ lesser more (least_in rest)
  held_step x best more p rest e is =
      (λ j. lesser best (lesser (number_of (e j)) (least_in rest)))
      ∙ sym (lesser_assoc best (Some p.number) (least_in rest))
      ∙ sym (ap (λ o. lesser o (least_in rest)) is)

  -- nobody holds an item where there is no least number; none is less than it, and it is one's
  all_free : (es : List (K × Slot V)) → least_in es ≡ None → Each (λ (e : K × Slot V). number_of e.1.pending ≡ None) es
  all_free [] e = tt
  all_free (x ∷ es) e = let h = none_of (number_of x.1.pending) (least_in es) e in (h.0, all_free es h.1)

  all_below : (es : List (K × Slot V)) (n : ℕ) → IsBelow n (least_in es) → Each (λ (e : K × Slot V). IsBelow n (number_of e.1.pending)) es
  all_below [] n h = tt
  all_below (x ∷ es) n h = let b = both_below n (number_of x.1.pending) (least_in es) h in (b.0, all_below es n b.1)

  some_one :
      (P : K × Slot V → Type 0) (es : List (K × Slot V)) (n : ℕ) → Each P es → least_in es ≡ Some n
      → (e : K × Slot V) × P e × (number_of e.1.pending ≡ Some n)
  some_one P [] n all e = absurd (cc)
  some_one P (x ∷ es) n all e = elim (one_of (number_of x.1.pending) (least_in es) n e) [
    | inl a ↦ (x, all.0, a)
    | inr b ↦ some_one P es n all.1 b
  ]

module _
    {K V A F C D Q B : Type 0} (S : Service K V A F C D Q B) {O : ord.Ghosts K} {E : eq.Ghosts K} {P : partial.Ghosts K} {N : Type 0} {X : ord.Ghosts N} {Y : eq.Ghosts N} {Z : partial.Ghosts N} (total : IsTotalOrder O.cmp)
    {sound : C → Type 0} {target : D → C → TableChange} {numbers : C → ℕ → List ℕ} (laws : AreCommandsLawful S sound target numbers)
    (i : ℕ) (d : D) (c : Partition K V C N O E P X Y Z) where
  module _ (w : State K V A C) (f : Feed K V C) (here : Holds S i c w f) where
    concerns_is : (q : K) → S.concerns d w.catalog q ≡ is_number (subject (target d c.catalog)) (S.core.table q)
    concerns_is q = laws.concerned d w.catalog q ∙ (λ j. is_number (subject (target d (sym here.catalog j))) (S.core.table q))

    module _ (u : ℕ) (its : subject (target d c.catalog) ≡ Some u) where
      table_is : (q : K) → S.concerns d w.catalog q ≡ true → u ≡ S.core.table q
      table_is q e = eqb-true u (S.core.table q) (sym (ap (λ o. is_number o (S.core.table q)) its) ∙ sym (concerns_is q) ∙ e)

      is_concerned : (q : K) → S.core.table q ≡ u → S.concerns d w.catalog q ≡ true
      is_concerned q e = concerns_is q ∙ ap (λ o. is_number o (S.core.table q)) its ∙ eq-eqb u (S.core.table q) (sym e)

      -- the slot of an item of the table is the one under its number
      slot_is : (q : K) → S.core.cell_of q ≡ i → S.concerns d w.catalog q ≡ true → slot_at c.items u q ≡ slot_for (w.spot q)
      slot_is q at_q e =
          here.items u q
          ∙ cond-true (lives S i u q) (slot_for (w.spot q)) None (λ j. eq-eqb (S.core.table q) u (sym (table_is q e)) j && eq-eqb (S.core.cell_of q) i at_q j)

      holder_is : (q : K) (s : Option (Slot V)) → S.core.cell_of q ≡ i → S.concerns d w.catalog q ≡ true → slot_at c.items u q ≡ s → holder (w.spot q).pend ≡ holder_of s
      holder_is q s at_q e is = sym (holder_back (w.spot q)) ∙ sym (ap holder_of (sym is ∙ slot_is q at_q e))

      clear_without : get nat_cmp c.items.tables u ≡ None → IsClearThere S w d i
      clear_without none q at_q e = none_held (w.spot q).pend (holder_is q None at_q e (ap (λ o. slot_in o q) none))

      module _ (t : TableItems K V O E P) (got : get nat_cmp c.items.tables u ≡ Some t) (order : IsOrdered O.cmp t.slots) where
        slot_got : (q : K) → slot_at c.items u q ≡ get O.cmp t.slots q
        slot_got q = ap (λ o. slot_in o q) got

        clear_with : least_in t.slots.entries ≡ None → IsClearThere S w d i
        clear_with none q at_q e = none_held (w.spot q).pend (by_slot (get O.cmp t.slots q) refl)
          where
            by_slot : (s : Option (Slot V)) → get O.cmp t.slots q ≡ s → holder (w.spot q).pend ≡ None
            by_slot None is = holder_is q None at_q e (slot_got q ∙ is)
            by_slot (Some s) is =
                holder_is q (Some s) at_q e (slot_got q ∙ is)
                ∙ (looked (λ (x : K × Slot V). number_of x.1.pending ≡ None) (is_at (O.cmp q)) s t.slots.entries (all_free t.slots.entries none) is).2

        first_is : (n : ℕ) → least_in t.slots.entries ≡ Some n → IsFirstHolder S w d i n
        first_is n e =
            let x = some_one (λ (x : K × Slot V). lookup (is_at (O.cmp x.0)) t.slots.entries ≡ Some x.1) t.slots.entries n
            (found O.cmp total t.slots.entries (ascend O.cmp t.slots.entries order)) e in
            let k = x.0.0 in
            let h = told S i c w f here u k x.0.1 (slot_got k ∙ x.1) in
            let l = and_both (nat_eq (S.core.table k) u) (nat_eq (S.core.cell_of k) i) h.0 in
            record {
              item = k;
              its_cell = eqb-true (S.core.cell_of k) i l.1;
              concerned = is_concerned k (eqb-true (S.core.table k) u l.0);
              holds = sym (holder_back (w.spot k)) ∙ ap holder_of h.1 ∙ x.2;
              least = λ q m at_q concerned holds. by_slot q m (get O.cmp t.slots q) refl (holder_is q (get O.cmp t.slots q) at_q concerned (slot_got q)) holds;
            }
          where
            by_slot : (q : K) (m : ℕ) (s : Option (Slot V)) → get O.cmp t.slots q ≡ s → holder (w.spot q).pend ≡ holder_of s → holder (w.spot q).pend ≡ Some m → n ≤ m
            by_slot q m None is same holds = let none : None ≡ Some m = sym same ∙ holds in absurd (cc)
            by_slot q m (Some s) is same holds =
                let below = (looked (λ (x : K × Slot V). IsBelow n (number_of x.1.pending)) (is_at (O.cmp q)) s t.slots.entries
                (all_below t.slots.entries n (itself_below n (least_in t.slots.entries) e)) is).2 in
                below_is n m (number_of s.pending) below (sym same ∙ holds)

        by_least : (r : Option ℕ) → least_in t.slots.entries ≡ r → MatchOption r (IsClearThere S w d i) (λ n. IsFirstHolder S w d i n)
        by_least None e = clear_with e
        by_least (Some n) e = first_is n e

  -- a command that neither drops nor alters a table; one whose table has no place; one whose table has
  pub free_of_all : subject (target d c.catalog) ≡ None → TellsHolder S i c d None
  free_of_all none w f here q at_q e =
      let no' : false ≡ true = sym (ap (λ o. is_number o (S.core.table q)) none) ∙ sym (concerns_is w f here q) ∙ e in absurd (cc)

  module _ (u : ℕ) (its : subject (target d c.catalog) ≡ Some u) where
    pub free_without : get nat_cmp c.items.tables u ≡ None → TellsHolder S i c d None
    free_without none w f here = clear_without w f here u its none

    pub tells :
        (t : TableItems K V O E P) → get nat_cmp c.items.tables u ≡ Some t → IsOrdered O.cmp t.slots → (r : Option ℕ) → r ≡ least_in t.slots.entries
        → TellsHolder S i c d r
    tells t got order r e w f here = by_least w f here u its t got order r (sym e)
