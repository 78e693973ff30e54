-- What has come at a key when all have come.
use Rattle.std.proofs.Common.{◌≡◌, ℕ, ◌+◌, nat_eq, not, ◌&&◌, ◌||◌, Bool, true, false, List, [], ◌∷◌, Option, None, Some, is_some, if◌then◌else◌, arith, refl, sym, ap, ◌∙◌}
use Rattle.std.specs.List.{list_any, sum_by}
use Rattle.std.specs.Map.{lookup, values_of}
use Rattle.std.specs.BTreeMap.{is_at}
use Rattle.std.specs.declared.cmp.Ordering.{Ordering}
use Rattle.std.proofs.lemmas.List.Sums.{sum_by-cons}
use Rattle.item_store.specs.declared.slot.Pending.{Pending}
use Rattle.item_store.specs.declared.slot.Slot.{Slot}
use Rattle.item_store.specs.Slots.{committed_at, held_in, pending_of, slot_of}
use Rattle.txn_core.specs.declared.stamp.Stamp.{Stamp}
use Rattle.txn_core.specs.Service.{Service}
use Rattle.index_changes.specs.Bringing.{brought_over, over}
use Rattle.index_changes.specs.Plans.{brought}

-- a table of which no item is held has no pending
pub none_pending :
    {K V : Type 0} (at : K → Bool) (es : List (K × Slot V)) → sum_by held_in (values_of es) ≡ 0 → pending_of (lookup at es) ≡ None
none_pending at [] e = refl
none_pending {K} {V} at (x ∷ es) e =
    by_key (at x.0) x.1.pending refl (sum_by held_in (values_of es)) (sym (sum_by-cons held_in x.1 (values_of es)) ∙ e) (none_pending at es)
  where
    by_key :
        (b : Bool) (o : Option (Pending V)) → x.1.pending ≡ o → (n : ℕ) → (if is_some o then 1 else 0) + n ≡ 0
        → (n ≡ 0 → pending_of (lookup at es) ≡ None) → pending_of (if b then Some x.1 else lookup at es) ≡ None
    by_key true None is n z rest = is
    by_key true (Some p) is n z rest = absurd (omega arith)
    by_key false o is n z rest = rest (omega arith)

module _
    {K X : Type 0} (cmp : K → K → Ordering) (same : K → K → Bool) (exact : (x y : K) → is_at (cmp x) y ≡ true → x ≡ y)
    (at : (x y : K) → same x y ≡ true → is_at (cmp x) y ≡ true) (slot : K → Option X) (q : K) where
  itself : (o : Option X) → over o o ≡ o
  itself None = refl
  itself (Some x) = refl

  from_none : (o : Option X) → over o None ≡ o
  from_none None = refl
  from_none (Some x) = refl

  -- what is there already stays
  stays : (ks : List K) (old : Option X) → old ≡ slot q → brought_over cmp slot ks q old ≡ slot q
  stays [] old e = e
  stays (k ∷ ks) old e = stays_on (is_at (cmp k) q) refl (λ o h. stays ks o h)
    where
      stays_on : (b : Bool) → is_at (cmp k) q ≡ b → ((o : Option X) → o ≡ slot q → brought_over cmp slot ks q o ≡ slot q)
          → brought_over cmp slot ks q (if b then over (slot k) old else old) ≡ slot q
      stays_on true t rest = rest (over (slot k) old) ((λ j. over (slot (exact k q t j)) (e j)) ∙ itself (slot q))
      stays_on false t rest = rest old e

  comes : (ks : List K) → list_any (λ k. same k q) ks ≡ true → brought_over cmp slot ks q None ≡ slot q
  comes [] any = absurd (cc)
  comes (k ∷ ks) any = by_head (is_at (cmp k) q) refl (same k q) refl any (λ a. comes ks a) (λ o h. stays ks o h)
    where
      by_head :
          (b : Bool) → is_at (cmp k) q ≡ b → (a : Bool) → same k q ≡ a → (a || list_any (λ k. same k q) ks) ≡ true
          → (list_any (λ k. same k q) ks ≡ true → brought_over cmp slot ks q None ≡ slot q)
          → ((o : Option X) → o ≡ slot q → brought_over cmp slot ks q o ≡ slot q)
          → brought_over cmp slot ks q (if b then over (slot k) None else None) ≡ slot q
      by_head true t a s any rest had = had (over (slot k) None) (from_none (slot k) ∙ ap slot (exact k q t))
      by_head false t true s any rest had = let no' : true ≡ false = sym (at k q s) ∙ t in absurd (cc)
      by_head false t false s any rest had = rest any

  pub all_brought : (ks : List K) → (is_some (slot q) ≡ true → list_any (λ k. same k q) ks ≡ true) → brought_over cmp slot ks q None ≡ slot q
  all_brought ks listed = by_slot (slot q) refl
    where
      by_slot : (o : Option X) → slot q ≡ o → brought_over cmp slot ks q None ≡ slot q
      by_slot None e = stays ks None (sym e)
      by_slot (Some x) e = comes ks (listed (ap (λ o. is_some o) e))

-- what is brought is an item that the command adds
pub brought_adds :
    {K V A F C D Q B : Type 0} (S : Service K V A F C D Q B) (i : ℕ) (d : D) (c next : C) (stamp : Stamp) (version : ℕ) (q : K)
    → is_some (brought S i d c next stamp version q) ≡ true → is_some (S.core.adds d c q) ≡ true
brought_adds {K} {V} S i d c next stamp version q some =
    by_test (nat_eq (S.core.cell_of q) i && (not (S.core.there c q) && S.core.there next q)) (S.core.adds d c q) some
  where
    by_test : (b : Bool) (o : Option V) → is_some (if b then slot_of (committed_at o stamp version) None else None) ≡ true → is_some o ≡ true
    by_test true None e = absurd (cc)
    by_test true (Some x) e = refl
    by_test false None e = absurd (cc)
    by_test false (Some x) e = absurd (cc)
