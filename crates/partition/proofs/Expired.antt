-- What a cell lists as expired is what the states that it holds have there, expired and held by nobody.
use Rattle.std.proofs.Common.{◌≡◌, ℕ, ◌≤◌, zero, suc, nat_eq, nat_lt, Bool, true, false, not, ◌&&◌, if◌then◌else◌, filter, map, take, length, List, [], ◌∷◌, ◌++◌, Option, None, Some, option_map, is_some, refl, sym, ap, ◌∙◌, subst, arith}
use Rattle.std.specs.List.{cons_option, flat_map}
use Rattle.std.specs.Ordering.{nat_cmp}
use Rattle.std.specs.Cmp.{IsTotalOrder, nat_cmp_total}
use Rattle.std.specs.BTreeMap.{IsOrdered, get, is_at}
use Rattle.std.specs.Map.{lookup}
use Rattle.std.specs.declared.cmp.Ord as ord
use Rattle.std.specs.declared.cmp.PartialEq as eq
use Rattle.std.specs.declared.cmp.PartialOrd as partial
use Rattle.std.proofs.lemmas.Bool.{cond-true, eq-eqb, eqb-true, ltb-true}
use Rattle.std.proofs.lemmas.List.{take-append-le}
use Rattle.index_feed.specs.Feed.{Each, Feed, Indexed, at_keys, items_in}
use Rattle.index_feed.proofs.Overlays.{each_weaker}
use Rattle.txn_core.specs.declared.answer.Answer.{Answer}
use Rattle.txn_core.specs.declared.message.Message.{Message}
use Rattle.txn_core.specs.Indexing.{indexed}
use Rattle.txn_core.specs.Feeding.{feed_after}
use Rattle.txn_core.specs.Legal.{IsAnswer, due_among, expired_keys, is_due, state}
use Rattle.txn_core.specs.Service.{Service, History, IsServiceLawful, Reply}
use Rattle.txn_core.specs.State.{Pending as Held, State}
use Rattle.item_store.specs.declared.slot.Committed.{Committed}
use Rattle.item_store.specs.declared.slot.Slot.{Slot}
use Rattle.item_store.specs.declared.table.TableItems.{TableItems}
use Rattle.item_store.specs.Slots.{item_of, pending_of, row_of}
use Rattle.item_store.specs.Tables.{slot_in}
use Rattle.item_store.specs.Changes.{slot_at}
use Rattle.index_changes.specs.Expiry.{NeverExpires}
use Rattle.index_changes.proofs.Basics.{and_both}
use Rattle.partition.specs.declared.cell.Partition.{Partition}
use Rattle.partition.specs.Expiry.{AreAtHome, AreOfTable, SaysExpired, due_in, due_of_all, is_due_slot, is_over}
use Rattle.partition.specs.Holds.{Holds, lives, pending_for, slot_for}
use Rattle.partition.specs.Listed.{ListsAll}
use Rattle.partition.specs.Pages.{AreItemsOrdered, committed_among, items_of}
use Rattle.partition.specs.Pendings.{AreOrdered}
use Rattle.partition.specs.Says.{Stands}
use Rattle.partition.specs.Steps.{is_served}
use Rattle.partition.proofs.Grouped.{each_filter, filter_swap, flat_same, in_groups, map_flat, of_number}
use Rattle.partition.proofs.Holders.{told}
use Rattle.partition.proofs.Keeping.{pending_back, row_back}
use Rattle.partition.proofs.Listed.{lists_after}
use Rattle.partition.proofs.Lists.{Ascend, ascend, each_both, found}
use Rattle.partition.proofs.Paged.{items_are}

-- beginnings of lists
module _ {X : Type 0} where
  pub take_front : (n : ℕ) (xs ys zs : List X) → take n xs ≡ take n ys → take n (xs ++ zs) ≡ take n (ys ++ zs)
  take_front zero xs ys zs e = refl
  take_front (suc n) [] [] zs e = refl
  take_front (suc n) [] (y ∷ ys) zs e = absurd (cc)
  take_front (suc n) (x ∷ xs) [] zs e = absurd (cc)
  take_front (suc n) (x ∷ xs) (y ∷ ys) zs e =
      let head : x ≡ y = first_of (cc) in
      let tail : take n xs ≡ take n ys = first_of (cc) in
      λ j. head j ∷ take_front n xs ys zs tail j

  pub take_few : (n : ℕ) (xs : List X) → length xs ≤ n → take n xs ≡ xs
  take_few zero [] few = refl
  take_few zero (x ∷ xs) few = absurd (omega arith)
  take_few (suc n) [] few = refl
  take_few (suc n) (x ∷ xs) few = ap (λ ys. x ∷ ys) (take_few n xs (omega arith))

  append_one : (xs ys : List X) (x : X) → (xs ++ (x ∷ [])) ++ ys ≡ xs ++ (x ∷ ys)
  append_one [] ys x = refl
  append_one (z ∷ zs) ys x = ap (λ rest. z ∷ rest) (append_one zs ys x)

  append_none : (xs : List X) → xs ++ [] ≡ xs
  append_none [] = refl
  append_none (x ∷ xs) = ap (λ ys. x ∷ ys) (append_none xs)

append_both : {X : Type 0} (xs ys zs : List X) → (xs ++ ys) ++ zs ≡ xs ++ (ys ++ zs)
append_both [] ys zs = refl
append_both (x ∷ xs) ys zs = ap (λ rest. x ∷ rest) (append_both xs ys zs)

-- one table more
pub next_due : {X Z : Type 0} (f : Z → List X) (limit : ℕ) (keys new : List X) (z : Z) (zs : List Z) → take limit new ≡ take limit (keys ++ f z)
    → take limit (new ++ flat_map f zs) ≡ take limit (keys ++ flat_map f (z ∷ zs))
next_due f limit keys new z zs e = take_front limit new (keys ++ f z) (flat_map f zs) e ∙ ap (λ ks. take limit ks) (append_both keys (f z) (flat_map f zs))

pub last_due : {X : Type 0} (limit : ℕ) (keys all : List X) → length keys ≤ limit → take limit (keys ++ []) ≡ all → keys ≡ all
last_due limit keys all few e = sym (take_few limit keys few) ∙ ap (λ ks. take limit ks) (sym (append_none keys)) ∙ e

-- what is listed of a table, one slot after the other
module _ {K V A F C D Q B : Type 0} (S : Service K V A F C D Q B) (cat : C) (moment : ℕ) where
  pub one_due : (limit : ℕ) (keys : List K) (e : K × Slot V) (es : List (K × Slot V)) → is_due_slot S cat moment e ≡ true
      → take limit ((keys ++ (e.0 ∷ [])) ++ due_in S cat moment es) ≡ take limit (keys ++ due_in S cat moment (e ∷ es))
  one_due limit keys e es due =
      ap (λ ks. take limit ks) (append_one keys (due_in S cat moment es) e.0)
      ∙ sym (ap (λ b. take limit (keys ++ map (λ (x : K × Slot V). x.0) (if b then e ∷ filter (λ x. is_due_slot S cat moment x) es else filter (λ x. is_due_slot S cat moment x) es))) due)

  pub none_due : (limit : ℕ) (keys : List K) (e : K × Slot V) (es : List (K × Slot V)) → is_due_slot S cat moment e ≡ false
      → take limit (keys ++ due_in S cat moment es) ≡ take limit (keys ++ due_in S cat moment (e ∷ es))
  none_due limit keys e es other =
      sym (ap (λ b. take limit (keys ++ map (λ (x : K × Slot V). x.0) (if b then e ∷ filter (λ x. is_due_slot S cat moment x) es else filter (λ x. is_due_slot S cat moment x) es))) other)

  pub all_due : (limit : ℕ) (keys : List K) → take limit keys ≡ take limit (keys ++ due_in S cat moment [])
  all_due limit keys = ap (λ ks. take limit ks) (sym (append_none keys))

  pub full : (limit : ℕ) (keys more : List K) → limit ≤ length keys → take limit keys ≡ take limit (keys ++ more)
  full limit keys more le = sym (take-append-le limit keys more le)

  -- of a table whose items never expire none is listed
  pub never_due : (u : ℕ) → NeverExpires S.core cat u → (es : List (K × Slot V)) → AreOfTable S u es → due_in S cat moment es ≡ []
  never_due u never [] all = refl
  never_due u never (e ∷ es) all =
      ap (λ b. map (λ (x : K × Slot V). x.0) (if b && not (is_some e.1.pending) then e ∷ filter (λ x. is_due_slot S cat moment x) es else filter (λ x. is_due_slot S cat moment x) es)) (not_over e.1.committed)
      ∙ never_due u never es all.1
    where
      not_over : (o : Option (Committed V)) → is_over S cat moment e.0 o ≡ false
      not_over None = refl
      not_over (Some x) = never.never e.0 x.item moment all.0

-- what is kept at keys of a cell
each_standing : {K V C : Type 0} (I : Indexed K V C) (i : ℕ) (row : K → Option V) (ks : List K) → Each (λ k. I.cell_of k ≡ i) ks
    → Each (λ (r : K × V). (I.cell_of r.0 ≡ i) × (row r.0 ≡ Some r.1)) (at_keys I row ks)
each_standing I i row [] homes = tt
each_standing {K = K} {V = V} I i row (k ∷ ks) homes = by_row (row k) refl (each_standing I i row ks homes.1)
  where
    by_row : (o : Option V) → row k ≡ o → Each (λ (r : K × V). (I.cell_of r.0 ≡ i) × (row r.0 ≡ Some r.1)) (at_keys I row ks)
        → Each (λ (r : K × V). (I.cell_of r.0 ≡ i) × (row r.0 ≡ Some r.1)) (cons_option (option_map (λ v. (k, v)) o) (at_keys I row ks))
    by_row None is rest = rest
    by_row (Some v) is rest = ((homes.0, is), rest)

held_some : {V : Type 0} (p : Option (Held V)) → is_some (pending_for p) ≡ is_some p
held_some None = refl
held_some (Some p) = refl

module _
    {K V A F C D Q B : Type 0} (S : Service K V A F C D Q B) (law : IsServiceLawful S)
    {O : ord.Ghosts K} {E : eq.Ghosts K} {P : partial.Ghosts K} {N : Type 0} {X : ord.Ghosts N} {Y : eq.Ghosts N} {Z : partial.Ghosts N} (order : (x y : K) → S.index.cmp x y ≡ O.cmp x y) (total : IsTotalOrder O.cmp)
    (i : ℕ) (c : Partition K V C N O E P X Y Z) (w : State K V A C) (f : Feed K V C) (here : Holds S i c w f) (moment : ℕ) where
  -- the slots of a table are those of items that live there
  abbrev LiveIn : ℕ → List (K × Slot V) → Type 0
  LiveIn u es = Each (λ (e : K × Slot V). (lives S i u e.0 ≡ true) × (slot_for (w.spot e.0) ≡ Some e.1)) es

  due_slots : (u : ℕ) (es : List (K × Slot V)) → LiveIn u es
      → map (λ (x : K × V). x.0) (filter (λ x. is_due S w moment x) (committed_among es)) ≡ due_in S w.catalog moment es
  due_slots u [] live = refl
  due_slots u (e ∷ es) live = by_item e.1.committed refl (due_slots u es live.1)
    where
      rest : List K
      rest = due_in S w.catalog moment es

      held : is_some (w.spot e.0).pend ≡ is_some e.1.pending
      held = sym (held_some (w.spot e.0).pend) ∙ ap (λ p. is_some p) (sym (pending_back (w.spot e.0)) ∙ ap pending_of live.0.1)

      picked : (b : Bool) (v : V) → map (λ (x : K × V). x.0) (filter (λ x. is_due S w moment x) (committed_among es)) ≡ due_in S w.catalog moment es
          → map (λ (x : K × V). x.0) (if b then (e.0, v) ∷ filter (λ x. is_due S w moment x) (committed_among es) else filter (λ x. is_due S w moment x) (committed_among es))
          ≡ map (λ (x : K × Slot V). x.0) (if b then e ∷ filter (λ x. is_due_slot S w.catalog moment x) es else filter (λ x. is_due_slot S w.catalog moment x) es)
      picked true v same = ap (λ ks. e.0 ∷ ks) same
      picked false v same = same

      by_item : (o : Option (Committed V)) → e.1.committed ≡ o
          → map (λ (x : K × V). x.0) (filter (λ x. is_due S w moment x) (committed_among es)) ≡ due_in S w.catalog moment es
          → map (λ (x : K × V). x.0) (filter (λ x. is_due S w moment x) (cons_option (option_map (λ v. (e.0, v)) (item_of e.1.committed)) (committed_among es)))
          ≡ map (λ (x : K × Slot V). x.0) (if is_over S w.catalog moment e.0 e.1.committed && not (is_some e.1.pending) then e ∷ filter (λ x. is_due_slot S w.catalog moment x) es else filter (λ x. is_due_slot S w.catalog moment x) es)
      by_item None is same =
          (λ j. map (λ (x : K × V). x.0) (filter (λ x. is_due S w moment x) (cons_option (option_map (λ v. (e.0, v)) (item_of (is j))) (committed_among es))))
          ∙ same
          ∙ sym (λ j. map (λ (x : K × Slot V). x.0) (if is_over S w.catalog moment e.0 (is j) && not (is_some e.1.pending) then e ∷ filter (λ x. is_due_slot S w.catalog moment x) es else filter (λ x. is_due_slot S w.catalog moment x) es))
      by_item (Some y) is same =
          (λ j. map (λ (x : K × V). x.0) (filter (λ x. is_due S w moment x) (cons_option (option_map (λ v. (e.0, v)) (item_of (is j))) (committed_among es))))
          ∙ picked (is_due S w moment (e.0, y.item)) y.item same
          ∙ (λ j. map (λ (x : K × Slot V). x.0) (if S.core.expired w.catalog e.0 y.item moment && not (held j) then e ∷ filter (λ x. is_due_slot S w.catalog moment x) es else filter (λ x. is_due_slot S w.catalog moment x) es))
          ∙ sym (λ j. map (λ (x : K × Slot V). x.0) (if is_over S w.catalog moment e.0 (is j) && not (is_some e.1.pending) then e ∷ filter (λ x. is_due_slot S w.catalog moment x) es else filter (λ x. is_due_slot S w.catalog moment x) es))

  module _ (sorted : AreOrdered c.items.tables) where
    rise : Ascend nat_cmp c.items.tables.entries
    rise = ascend nat_cmp c.items.tables.entries sorted.outer

    tables_found : Each (λ (t : ℕ × TableItems K V O E P). get nat_cmp c.items.tables t.0 ≡ Some t.1) c.items.tables.entries
    tables_found = found nat_cmp nat_cmp_total c.items.tables.entries rise

    lives_there : (t : ℕ × TableItems K V O E P) → get nat_cmp c.items.tables t.0 ≡ Some t.1 → IsOrdered O.cmp t.1.slots → LiveIn t.0 t.1.slots.entries
    lives_there t got up =
        each_weaker (λ (e : K × Slot V). lookup (is_at (O.cmp e.0)) t.1.slots.entries ≡ Some e.1)
        (λ (e : K × Slot V). (lives S i t.0 e.0 ≡ true) × (slot_for (w.spot e.0) ≡ Some e.1)) t.1.slots.entries
        (λ e looked. told S i c w f here t.0 e.0 e.1 (ap (λ o. slot_in o e.0) got ∙ looked))
        (found O.cmp total t.1.slots.entries (ascend O.cmp t.1.slots.entries up))

    pub at_home : AreAtHome S c.items.tables.entries
    at_home =
        each_both (λ (t : ℕ × TableItems K V O E P). get nat_cmp c.items.tables t.0 ≡ Some t.1) (λ (t : ℕ × TableItems K V O E P). IsOrdered O.cmp t.1.slots)
        (λ (t : ℕ × TableItems K V O E P). AreOfTable S t.0 t.1.slots.entries)
        (λ t got up.
        each_weaker (λ (e : K × Slot V). (lives S i t.0 e.0 ≡ true) × (slot_for (w.spot e.0) ≡ Some e.1)) (λ (e : K × Slot V). S.core.table e.0 ≡ t.0) t.1.slots.entries
        (λ e live. eqb-true (S.core.table e.0) t.0 (and_both (nat_eq (S.core.table e.0) t.0) (nat_eq (S.core.cell_of e.0) i) live.0).0)
        (lives_there t got up))
        c.items.tables.entries tables_found sorted.inner

    module _ (lists : ListsAll (indexed S.core S.index) i f) where
      abbrev items : List (K × V)
      items = items_in (indexed S.core S.index) f i

      abbrev due : List (K × V)
      due = filter (λ x. is_due S w moment x) items

      in_a_table : (r : K × V) → (S.core.cell_of r.0 ≡ i) × (f.row r.0 ≡ Some r.1) → is_some (get nat_cmp c.items.tables (S.core.table r.0)) ≡ true
      in_a_table r home = by_table (get nat_cmp c.items.tables (S.core.table r.0)) refl
        where
          kept : slot_at c.items (S.core.table r.0) r.0 ≡ slot_for (w.spot r.0)
          kept =
              here.items (S.core.table r.0) r.0
              ∙ cond-true (lives S i (S.core.table r.0) r.0) (slot_for (w.spot r.0)) None
              (λ j. eq-eqb (S.core.table r.0) (S.core.table r.0) refl j && eq-eqb (S.core.cell_of r.0) i home.0 j)

          row : row_of (slot_at c.items (S.core.table r.0) r.0) ≡ Some r.1
          row = ap row_of kept ∙ row_back (w.spot r.0) ∙ sym (here.shown r.0 home.0) ∙ home.1

          by_table : (o : Option (TableItems K V O E P)) → get nat_cmp c.items.tables (S.core.table r.0) ≡ o → is_some o ≡ true
          by_table (Some t) is = refl
          by_table None is = let none : None ≡ Some r.1 = sym (ap (λ o. row_of (slot_in o r.0)) is) ∙ row in absurd (cc)

      of_table : (t : ℕ × TableItems K V O E P) → get nat_cmp c.items.tables t.0 ≡ Some t.1 → IsOrdered O.cmp t.1.slots
          → map (λ (x : K × V). x.0) (of_number (λ (x : K × V). S.core.table x.0) t.0 due) ≡ due_in S c.catalog moment t.1.slots.entries
      of_table t got up =
          ap (λ xs. map (λ (x : K × V). x.0) xs)
          (filter_swap (λ (x : K × V). nat_eq (S.core.table x.0) t.0) (λ x. is_due S w moment x) items
          ∙ ap (λ xs. filter (λ x. is_due S w moment x) xs)
          (items_are S law order i c w f here lists t.0 (subst (λ o. AreItemsOrdered o) (sym got) up) ∙ ap (λ o. items_of o) got))
          ∙ due_slots t.0 t.1.slots.entries (lives_there t got up)
          ∙ sym (ap (λ cat. due_in S cat moment t.1.slots.entries) here.catalog)

      pub due_is : due_among S w moment items ≡ due_of_all S c.catalog moment c.items.tables
      due_is =
          ap (λ xs. map (λ (x : K × V). x.0) xs)
          (in_groups (λ (x : K × V). S.core.table x.0) due c.items.tables.entries rise
          (each_filter (λ (x : K × V). is_some (lookup (is_at (nat_cmp (S.core.table x.0))) c.items.tables.entries) ≡ true) (λ x. is_due S w moment x) items
          (each_weaker (λ (r : K × V). (S.core.cell_of r.0 ≡ i) × (f.row r.0 ≡ Some r.1)) (λ (r : K × V). is_some (lookup (is_at (nat_cmp (S.core.table r.0))) c.items.tables.entries) ≡ true) items
          (λ r home. in_a_table r home) (each_standing (indexed S.core S.index) i f.row (f.keys i) lists.items.homes))))
          ∙ map_flat (λ (x : K × V). x.0) (λ (t : ℕ × TableItems K V O E P). of_number (λ (x : K × V). S.core.table x.0) t.0 due) c.items.tables.entries
          ∙ flat_same (λ (t : ℕ × TableItems K V O E P). map (λ (x : K × V). x.0) (of_number (λ (x : K × V). S.core.table x.0) t.0 due))
          (λ (t : ℕ × TableItems K V O E P). due_in S c.catalog moment t.1.slots.entries) c.items.tables.entries
          (each_both (λ (t : ℕ × TableItems K V O E P). get nat_cmp c.items.tables t.0 ≡ Some t.1) (λ (t : ℕ × TableItems K V O E P). IsOrdered O.cmp t.1.slots)
          (λ (t : ℕ × TableItems K V O E P). map (λ (x : K × V). x.0) (of_number (λ (x : K × V). S.core.table x.0) t.0 due) ≡ due_in S c.catalog moment t.1.slots.entries)
          (λ t got up. of_table t got up) c.items.tables.entries tables_found sorted.inner)

module _ {K V A F C D Q B : Type 0} (S : Service K V A F C D Q B) (law : IsServiceLawful S) {O : ord.Ghosts K} {E : eq.Ghosts K} {P : partial.Ghosts K} {N : Type 0} {X : ord.Ghosts N} {Y : eq.Ghosts N} {Z : partial.Ghosts N} where
  -- so it answers as legal histories have it
  pub expired_answered :
      (i : ℕ) (c : Partition K V C N O E P X Y Z) (moment limit : ℕ) (a : Reply S) (es : History S) → SaysExpired S i c moment limit a → Stands S i c es
      → a ≡ Answer.ExpiredList (take limit (expired_keys S es i moment))
  expired_answered i c moment limit a es says here = says (state S es) (feed_after S es) here (lists_after S law i es)

  pub expired_listed :
      (i : ℕ) (c : Partition K V C N O E P X Y Z) (moment limit : ℕ) (a : Reply S) (es : History S)
      → is_served {K = K} {V = V} {A = A} {F = F} {D = D} {Q = Q} c.partitions (Message.ExpiredKeys i limit) ≡ true
      → SaysExpired S i c moment limit a → Stands S i c es → IsAnswer S es moment (Message.ExpiredKeys i limit) a
  expired_listed i c moment limit a es served says here =
      (ltb-true i S.control (ap (λ k. nat_lt i k) (sym here.partitions) ∙ served), expired_answered i c moment limit a es says here)
