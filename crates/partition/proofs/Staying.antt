-- What calls on an item leave keeps a cell's entries in step with its items.
use Rattle.std.specs.Ordering.{nat_cmp}
use Rattle.std.specs.BTreeMap.{is_at}
use Rattle.std.specs.Cmp.{IsTotalOrder}
use Rattle.std.proofs.Common.{◌≡◌, ℕ, ◌&&◌, ◌||◌, Bool, true, false, if◌then◌else◌, Option, None, Some, IsSome, Result, Ok, Err, OnOk, OnErr, refl, sym, ap, ◌∙◌, subst}
use Rattle.std.specs.declared.cmp.Ord as ord
use Rattle.std.specs.declared.cmp.PartialEq as eq
use Rattle.std.specs.declared.cmp.PartialOrd as partial
use Rattle.txn_core.specs.declared.stamp.Stamp.{Stamp}
use Rattle.txn_core.specs.Service.{Service, IsServiceLawful}
use Rattle.txn_core.specs.State.{Tally}
use Rattle.item_store.specs.declared.slot.Pending.{Pending}
use Rattle.item_store.specs.declared.slot.Slot.{Slot}
use Rattle.item_store.specs.Slots.{committed_at, committed_of, image_of, item_of, pending_of, row_of}
use Rattle.item_store.specs.Changes.{slot_at}
use Rattle.local_index.specs.declared.claim.Claim.{Claim}
use Rattle.local_index.specs.declared.claim.Claim.TheVariants.{Committed as IsCommitted, Held as IsHeld, Both}
use Rattle.local_index.specs.Claims.{claim_of, is_committed, is_held}
use Rattle.local_index.specs.Entries.{held_too, let_go, noted, settled}
use Rattle.local_index.specs.Tables.{ClaimsUnder, claim_under}
use Rattle.index_changes.specs.Prepared.{Moves, moves_in, no_moves}
use Rattle.partition.specs.declared.cell.Partition.{Partition}
use Rattle.index_changes.specs.Entries.{AreEntriesLawful, LocalEntries, entries_at, moves_by}
use Rattle.partition.specs.Stores.{slot_held, slot_let_go, slot_settled, slot_written}
use Rattle.partition.specs.Moves.{AreUnheld, HasNoMoves, MovesEntries, SameEntries, moves_at}
use Rattle.partition.specs.InStep.{AreInStep, StaysInStep}
use Rattle.partition.proofs.Keeping.{committed_made, item_back, pending_made}
use Rattle.partition.proofs.Shares.{held_in_step, let_go_in_step, noted_in_step, same_in_step, settled_in_step, unheld, unmoved}

-- a transaction holds the item
some_pending : {V : Type 0} (p : Option (Pending V)) → IsSome p → (q : Pending V) × (p ≡ Some q)
some_pending None e = absurd (cc)
some_pending (Some q) e = (q, refl)

-- what follows where a call was carried out, and where it was refused
pub either_way : {X Y A B Z : Type 0} (r : Result X Y) → OnOk r A → OnErr r B → (A → Z) → (B → Z) → Z
either_way (Ok x) a b f g = f a
either_way (Err e) a b f g = g b

-- the same of two facts each
pub either_with :
    {X Y A B C D Z : Type 0} (r : Result X Y) → OnOk r A → OnOk r C → OnErr r B → OnErr r D → (A → C → Z) → (B → D → Z) → Z
either_with (Ok x) a c b d f g = f a c
either_with (Err e) a c b d f g = g b d

-- a claim with no entry more
held_none : (b : Bool) (c : Option Claim) → c ≡ (if b then claim_of (is_committed c) (is_held c || false) else c)
held_none false c = refl
held_none true None = refl
held_none true (Some IsCommitted) = refl
held_none true (Some IsHeld) = refl
held_none true (Some Both) = refl

module _
    {K V A F C D Q B : Type 0} (S : Service K V A F C D Q B) (law : IsServiceLawful S)
    {O : ord.Ghosts K} {E : eq.Ghosts K} {P : partial.Ghosts K}
    {N : Type 0} {X : ord.Ghosts N} {Y : eq.Ghosts N} {Z : partial.Ghosts N}
    (ordered : (x y : K) → S.index.cmp x y ≡ O.cmp x y) (L : LocalEntries K V C N) (fair : AreEntriesLawful S L X.cmp)
    (total : IsTotalOrder X.cmp) (c d : Partition K V C N O E P X Y Z) (catalog : d.catalog ≡ c.catalog) where
  under_same : AreInStep S L X.cmp c.catalog d.items d.prepared.lists d.locals.tables → AreInStep S L X.cmp d.catalog d.items d.prepared.lists d.locals.tables
  under_same step = subst (λ cat. AreInStep S L X.cmp cat d.items d.prepared.lists d.locals.tables) (sym catalog) step

  abbrev Same : Type 0
  Same = (v : ℕ) (q : K) → slot_at d.items v q ≡ slot_at c.items v q

  pub same_stays : Same → SameEntries c d → StaysInStep S L c d
  same_stays slots same step =
      under_same (same_in_step S law L X.cmp ordered fair total c.catalog c.items d.items c.prepared.lists d.prepared.lists c.locals.tables d.locals.tables slots same.0 same.1 step)

  module _ (u : ℕ) (k : K) (table : u ≡ S.core.table k) where
    abbrev old : Option (Slot V)
    old = slot_at c.items u k

    abbrev Slots : Option (Slot V) → Type 0
    Slots new = (v : ℕ) (q : K) → slot_at d.items v q ≡ (if is_at (nat_cmp u) v && is_at (O.cmp k) q then new else slot_at c.items v q)

    -- what the state before says of the item
    module _ (step : AreInStep S L X.cmp c.catalog c.items c.prepared.lists c.locals.tables) (free : pending_of old ≡ None) where
      none_held : (o : Option V) → AreUnheld X.cmp c.locals.tables u (entries_at L c.catalog k o)
      none_held = unheld S law L X.cmp ordered fair total c.catalog c.items u k c.prepared.lists c.locals.tables table step free

      none_moved : HasNoMoves c k
      none_moved = unmoved S law L X.cmp ordered fair total c.catalog c.items u k c.prepared.lists c.locals.tables table step free

    -- after a write
    pub written_stays :
        (t : Tally) (item : Option V) (own : Stamp) (m : Moves N) → Slots (slot_written t old item own) → pending_of old ≡ None
        → m ≡ moves_by L c.catalog k (row_of old) item
        → (AreUnheld X.cmp c.locals.tables u m.new → MovesEntries c d u (noted X.cmp m.old m.new) (λ q. moves_in O.cmp c.prepared.lists q))
        → StaysInStep S L c d
    written_stays t item own m slots free is moves step =
        let h = moves (subst (λ es. AreUnheld X.cmp c.locals.tables u es) (λ i. (sym is i).new) (none_held step free item)) in
        under_same (noted_in_step S law L X.cmp ordered fair total c.catalog c.items d.items u k (slot_written t old item own) slots c.prepared.lists d.prepared.lists c.locals.tables d.locals.tables table step item free
        (ap item_of (committed_made (committed_at item _ _) None) ∙ item_back item _ _) (pending_made (committed_at item _ _) None)
        (subst (λ x. ClaimsUnder X.cmp (noted X.cmp x.old x.new) c.locals.tables d.locals.tables u) is h.0) h.1)

    -- where it was refused
    pub write_refused_stays :
        (item : Option V) (m : Moves N) → Same → pending_of old ≡ None → m ≡ moves_by L c.catalog k (row_of old) item
        → (AreUnheld X.cmp c.locals.tables u m.new → SameEntries c d) → StaysInStep S L c d
    write_refused_stays item m slots free is same step =
        same_stays slots (same (subst (λ es. AreUnheld X.cmp c.locals.tables u es) (λ i. (sym is i).new) (none_held step free item))) step

    -- after an item was held for which nothing is prepared
    pub held_plain_stays :
        (p : Pending V) → Slots (slot_held old p) → pending_of old ≡ None → no_moves ≡ moves_by L c.catalog k (row_of old) p.image
        → SameEntries c d → StaysInStep S L c d
    held_plain_stays p slots free is same step =
        under_same (held_in_step S law L X.cmp ordered fair total c.catalog c.items d.items u k (slot_held old p) slots c.prepared.lists d.prepared.lists c.locals.tables d.locals.tables table step p free
        (ap item_of (committed_made (committed_of old) (Some p))) (pending_made (committed_of old) (Some p))
        (subst (λ es. ClaimsUnder X.cmp (held_too X.cmp es) c.locals.tables d.locals.tables u) (λ i. (is i).new)
        (λ v q. same.0 v q ∙ held_none (is_at (nat_cmp u) v) (claim_under X.cmp c.locals.tables v q)))
        (λ q. same.1 q ∙ by_key q (is_at (O.cmp k) q) refl))
      where
        by_key :
            (q : K) (b : Bool) → is_at (O.cmp k) q ≡ b
            → moves_in O.cmp c.prepared.lists q ≡ (if b then moves_by L c.catalog k (row_of old) p.image else moves_in O.cmp c.prepared.lists q)
        by_key q true e = none_moved step free q e ∙ is
        by_key q false e = refl

    -- after one was held for which these moves are prepared
    pub held_with_stays :
        (p : Pending V) (m : Moves N) → Slots (slot_held old p) → pending_of old ≡ None → m ≡ moves_by L c.catalog k (row_of old) p.image
        → MovesEntries c d u (held_too X.cmp m.new) (moves_at c k m) → StaysInStep S L c d
    held_with_stays p m slots free is moves step =
        under_same (held_in_step S law L X.cmp ordered fair total c.catalog c.items d.items u k (slot_held old p) slots c.prepared.lists d.prepared.lists c.locals.tables d.locals.tables table step p free
        (ap item_of (committed_made (committed_of old) (Some p))) (pending_made (committed_of old) (Some p))
        (subst (λ x. ClaimsUnder X.cmp (held_too X.cmp x.new) c.locals.tables d.locals.tables u) is moves.0)
        (subst (λ x. (q : K) → moves_in O.cmp d.prepared.lists q ≡ (if is_at (O.cmp k) q then x else moves_in O.cmp c.prepared.lists q)) is moves.1))

    pub hold_refused_stays :
        (p : Pending V) (m : Moves N) → Same → pending_of old ≡ None → m ≡ moves_by L c.catalog k (row_of old) p.image
        → (HasNoMoves c k → AreUnheld X.cmp c.locals.tables u m.new → SameEntries c d) → StaysInStep S L c d
    hold_refused_stays p m slots free is same step =
        same_stays slots
        (same (none_moved step free) (subst (λ es. AreUnheld X.cmp c.locals.tables u es) (λ i. (sym is i).new) (none_held step free p.image))) step

    -- after the end of the transaction that held it
    pub settled_stays :
        (t : Tally) → Slots (slot_settled t old) → IsSome (pending_of old)
        → MovesEntries c d u (settled X.cmp (moves_in O.cmp c.prepared.lists k).old (moves_in O.cmp c.prepared.lists k).new) (moves_at c k no_moves)
        → StaysInStep S L c d
    settled_stays t slots held moves step =
        let some = some_pending (pending_of old) held in
        let p : Pending V = some.0 in
        under_same (settled_in_step S law L X.cmp ordered fair total c.catalog c.items d.items u k (slot_settled t old) slots c.prepared.lists d.prepared.lists c.locals.tables d.locals.tables table step p some.1
        (ap item_of (committed_made (committed_at (image_of (pending_of old)) _ _) None) ∙ item_back (image_of (pending_of old)) _ _ ∙ ap image_of some.1)
        (pending_made (committed_at (image_of (pending_of old)) _ _) None) moves.0 moves.1)

    -- after it was let go
    pub let_go_stays :
        Slots (slot_let_go old) → IsSome (pending_of old)
        → MovesEntries c d u (let_go X.cmp (moves_in O.cmp c.prepared.lists k).new) (moves_at c k no_moves) → StaysInStep S L c d
    let_go_stays slots held moves step =
        let some = some_pending (pending_of old) held in
        let p : Pending V = some.0 in
        under_same (let_go_in_step S law L X.cmp ordered fair total c.catalog c.items d.items u k (slot_let_go old) slots c.prepared.lists d.prepared.lists c.locals.tables d.locals.tables table step p some.1
        (ap item_of (committed_made (committed_of old) None)) (pending_made (committed_of old) None) moves.0 moves.1)
