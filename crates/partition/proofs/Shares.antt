-- The entries of a cell stay in step with its items, whichever of these changes.
use Rattle.std.specs.Ordering.{nat_cmp}
use Rattle.std.specs.BTreeMap.{BTreeMap, is_at}
use Rattle.std.specs.Cmp.{IsTotalOrder}
use Rattle.std.proofs.Common.{◌≡◌, ℕ, ◌&&◌, Bool, true, false, if◌then◌else◌, List, [], Option, None, Some, refl, sym, ap, ◌∙◌, subst}
use Rattle.std.proofs.lemmas.Bool.{eqb-true, eq-eqb}
use Rattle.std.specs.declared.cmp.Ordering.{Ordering}
use Rattle.std.specs.declared.cmp.Ord as ord
use Rattle.std.specs.declared.cmp.PartialEq as eq
use Rattle.std.specs.declared.cmp.PartialOrd as partial
use Rattle.txn_core.specs.Service.{Service, IsServiceLawful}
use Rattle.item_store.specs.declared.slot.Pending.{Pending}
use Rattle.item_store.specs.declared.slot.Slot.{Slot}
use Rattle.item_store.specs.declared.store.ItemStore.{ItemStore}
use Rattle.item_store.specs.Slots.{image_of, pending_of, row_of}
use Rattle.item_store.specs.Changes.{slot_at}
use Rattle.local_index.specs.declared.claim.Claim.{Claim}
use Rattle.local_index.specs.Claims.{is_committed, is_held}
use Rattle.local_index.specs.Entries.{held_too, is_among, let_go, noted, settled}
use Rattle.local_index.specs.Tables.{ClaimsUnder}
use Rattle.local_index.specs.Items.{AreOf, AreShares, Belong, KeepsToItems, with_share}
use Rattle.local_index.proofs.Kept.{kept}
use Rattle.index_changes.specs.declared.change.IndexChanges.{IndexChanges}
use Rattle.index_changes.specs.Prepared.{Moves, moves_in, no_moves}
use Rattle.index_changes.specs.Entries.{AreEntriesLawful, LocalEntries, entries_at, moves_by}
use Rattle.partition.specs.Moves.{AreUnheld, SameClaims}
use Rattle.partition.specs.InStep.{AreInStep, moves_for, moves_kept}
use Rattle.index_changes.proofs.Keys.{at_is, number_at, one_key}

-- a slot's image
abbrev image_in : {V : Type 0} → Option (Slot V) → Option V
image_in s = image_of (pending_of s)

module _ {K V A F C D Q B N : Type 0} (S : Service K V A F C D Q B) (L : LocalEntries K V C N) (cmp : N → N → Ordering) where
  -- the entries of an item name it
  entries_name : AreEntriesLawful S L cmp → (cat : C) (k : K) (o : Option V) → Belong cmp S.core.same L.item k (entries_at L cat k o)
  entries_name fair cat k None q among = absurd (cc)
  entries_name fair cat k (Some v) q among = fair.named cat k v q among

  -- entries that are of some shares are of all that are the same
  of_same :
      (rows images others more : ℕ → K → List N) (tables : BTreeMap ℕ (BTreeMap N Claim)) → AreOf cmp S.core.same L.item rows images tables
      → ((u : ℕ) (k : K) → rows u k ≡ others u k) → ((u : ℕ) (k : K) → images u k ≡ more u k)
      → AreOf cmp S.core.same L.item others more tables
  of_same rows images others more tables of same_rows same_images =
      record {
        committed = λ u q. of.committed u q ∙ ap (λ xs. is_among cmp xs q) (same_rows u (L.item q));
        held = λ u q. of.held u q ∙ ap (λ xs. is_among cmp xs q) (same_images u (L.item q));
      }

module _
    {K V A F C D Q B N : Type 0} (S : Service K V A F C D Q B) (law : IsServiceLawful S) (L : LocalEntries K V C N)
    {O : ord.Ghosts K} {E : eq.Ghosts K} {P : partial.Ghosts K} (cmp : N → N → Ordering)
    (ordered : (x y : K) → S.index.cmp x y ≡ O.cmp x y) (fair : AreEntriesLawful S L cmp) (total : IsTotalOrder cmp) (cat : C) where
  -- what each item of a store has by one part of its slot
  abbrev shares_by : (Option (Slot V) → Option V) → ItemStore K V O E P → ℕ → K → List N
  shares_by part items u k = entries_at L cat k (part (slot_at items u k))

  are_shares : (part : Option (Slot V) → Option V) (items : ItemStore K V O E P) → AreShares cmp S.core.same L.item (shares_by part items)
  are_shares part items =
      record {
        named = λ u k. entries_name S L cmp fair cat k (part (slot_at items u k));
        alike = λ u k j e. subst (λ z. shares_by part items u k ≡ shares_by part items u z) (one_key S law k j e) refl;
      }

  -- what is so of an item of a cell that is in step
  module _
      (items : ItemStore K V O E P) (u : ℕ) (k : K) (lists : BTreeMap K (IndexChanges K V N)) (tables : BTreeMap ℕ (BTreeMap N Claim))
      (table : u ≡ S.core.table k) (step : AreInStep S L cmp cat items lists tables) where
    pub moves_are : moves_in O.cmp lists k ≡ moves_kept L cat k (slot_at items u k)
    moves_are = step.moves k ∙ (λ i. moves_kept L cat k (slot_at items (sym table i) k))

    -- where no transaction holds the item, it has no entries that are held, and no moves are prepared
    pub unheld : pending_of (slot_at items u k) ≡ None → (o : Option V) → AreUnheld cmp tables u (entries_at L cat k o)
    unheld free o q among =
        step.entries.held u q
        ∙ (λ i. is_among cmp (shares_by (λ s. image_in s) items u (sym (one_key S law k (L.item q) (entries_name S L cmp fair cat k o q among)) i)) q)
        ∙ (λ i. is_among cmp (entries_at L cat k (image_of (free i))) q)

    pub unmoved : pending_of (slot_at items u k) ≡ None → (q : K) → is_at (O.cmp k) q ≡ true → moves_in O.cmp lists q ≡ no_moves
    unmoved free q at =
        subst (λ z. moves_in O.cmp lists z ≡ no_moves) (one_key S law k q (sym (at_is S law ordered k q) ∙ at))
        (moves_are ∙ (λ i. moves_for L cat k (row_of (slot_at items u k)) (free i)))

  module _
      (items new_items : ItemStore K V O E P) (u : ℕ) (k : K) (new : Option (Slot V))
      (slots : (v : ℕ) (q : K) → slot_at new_items v q ≡ (if is_at (nat_cmp u) v && is_at (O.cmp k) q then new else slot_at items v q)) where
    abbrev before : (Option (Slot V) → Option V) → ℕ → K → List N
    before part = shares_by part items

    -- the share of the item that changed is this one, and each other one its own
    share_moves :
        (part : Option (Slot V) → Option V) (es : List N) → es ≡ entries_at L cat k (part new) → (v : ℕ) (j : K)
        → with_share cmp S.core.same L.item (before part) u k es v j ≡ shares_by part new_items v j
    share_moves part es is v j =
        by_place (is_at (nat_cmp u) v) (S.core.same k j) refl
        ∙ sym ((λ i. entries_at L cat j (part (slots v j i))) ∙ (λ i. entries_at L cat j (part (if is_at (nat_cmp u) v && at_is S law ordered k j i then new else slot_at items v j))))
      where
        by_place :
            (a b : Bool) → S.core.same k j ≡ b
            → (if a && b then es else before part v j) ≡ entries_at L cat j (part (if a && b then new else slot_at items v j))
        by_place true true e = subst (λ z. es ≡ entries_at L cat z (part new)) (one_key S law k j e) is
        by_place true false e = refl
        by_place false b e = refl

    -- a share that is put in its own place
    share_stays :
        (part : Option (Slot V) → Option V) (v : ℕ) (j : K)
        → before part v j ≡ with_share cmp S.core.same L.item (before part) u k (before part u k) v j
    share_stays part v j = by_place (is_at (nat_cmp u) v) (S.core.same k j) refl refl
      where
        by_place :
            (a b : Bool) → is_at (nat_cmp u) v ≡ a → S.core.same k j ≡ b
            → before part v j ≡ (if a && b then before part u k else before part v j)
        by_place true true at e =
            λ i. before part (sym (eqb-true u v (sym (number_at u v) ∙ at)) i) (sym (one_key S law k j e) i)
        by_place true false at e = refl
        by_place false b at e = refl

    -- what is prepared for the item that changed, and for each other one its own
    moves_stay :
        (lists : BTreeMap K (IndexChanges K V N)) (m : Moves N) → u ≡ S.core.table k
        → ((q : K) → moves_in O.cmp lists q ≡ moves_kept L cat q (slot_at items (S.core.table q) q)) → m ≡ moves_kept L cat k new → (q : K)
        → (if is_at (O.cmp k) q then m else moves_in O.cmp lists q) ≡ moves_kept L cat q (slot_at new_items (S.core.table q) q)
    moves_stay lists m table was is q =
        (λ i. if at_is S law ordered k q i then m else moves_in O.cmp lists q)
        ∙ by_key (is_at (nat_cmp u) (S.core.table q)) (S.core.same k q) refl refl
        ∙ sym ((λ i. moves_kept L cat q (slots (S.core.table q) q i)) ∙ (λ i. moves_kept L cat q (if is_at (nat_cmp u) (S.core.table q) && at_is S law ordered k q i then new else slot_at items (S.core.table q) q)))
      where
        own : (a : Bool) → is_at (nat_cmp u) (S.core.table k) ≡ a → m ≡ moves_kept L cat k (if a && true then new else slot_at items (S.core.table k) k)
        own true at = is
        own false at = absurd (let itself : is_at (nat_cmp u) (S.core.table k) ≡ true = number_at u (S.core.table k) ∙ eq-eqb u (S.core.table k) table in cc)

        none_of : (a : Bool) → moves_kept L cat q (slot_at items (S.core.table q) q) ≡ moves_kept L cat q (if a && false then new else slot_at items (S.core.table q) q)
        none_of true = refl
        none_of false = refl

        by_key :
            (a b : Bool) → is_at (nat_cmp u) (S.core.table q) ≡ a → S.core.same k q ≡ b
            → (if b then m else moves_in O.cmp lists q) ≡ moves_kept L cat q (if a && b then new else slot_at items (S.core.table q) q)
        by_key a true at e =
            subst (λ z. (c : Bool) → is_at (nat_cmp u) (S.core.table z) ≡ c → m ≡ moves_kept L cat z (if c && true then new else slot_at items (S.core.table z) z)) (one_key S law k q e) own a at
        by_key a false at e = was q ∙ none_of a

    module _
        (lists new_lists : BTreeMap K (IndexChanges K V N)) (tables new_tables : BTreeMap ℕ (BTreeMap N Claim)) (table : u ≡ S.core.table k)
        (step : AreInStep S L cmp cat items lists tables) where
      -- what is so of the item before
      abbrev row : Option V
      row = row_of (slot_at items u k)

      abbrev pending : Option (Pending V)
      pending = pending_of (slot_at items u k)

      keeps : KeepsToItems cmp S.core.same L.item (before (λ s. row_of s)) (before (λ s. image_in s)) tables new_tables u k
      keeps = kept cmp S.core.same L.item total (before (λ s. row_of s)) (before (λ s. image_in s)) tables new_tables u k (are_shares (λ s. row_of s) items) (are_shares (λ s. image_in s) items) step.entries

      in_step :
          (es fs : List N) (m : Moves N) → es ≡ entries_at L cat k (row_of new) → fs ≡ entries_at L cat k (image_in new)
          → m ≡ moves_kept L cat k new
          → AreOf cmp S.core.same L.item (with_share cmp S.core.same L.item (before (λ s. row_of s)) u k es) (with_share cmp S.core.same L.item (before (λ s. image_in s)) u k fs) new_tables
          → ((q : K) → moves_in O.cmp new_lists q ≡ (if is_at (O.cmp k) q then m else moves_in O.cmp lists q))
          → AreInStep S L cmp cat new_items new_lists new_tables
      in_step es fs m es_are fs_are m_is of moves =
          record {
            entries =
                of_same S L cmp (with_share cmp S.core.same L.item (before (λ s. row_of s)) u k es) (with_share cmp S.core.same L.item (before (λ s. image_in s)) u k fs) (shares_by (λ s. row_of s) new_items) (shares_by (λ s. image_in s) new_items) new_tables of
                (share_moves (λ s. row_of s) es es_are) (share_moves (λ s. image_in s) fs fs_are);
            moves = λ q. moves q ∙ moves_stay lists m table step.moves m_is q;
          }

      -- moves that stay are none for the item, where none were prepared
      same_moves :
          pending ≡ None → ((q : K) → moves_in O.cmp new_lists q ≡ moves_in O.cmp lists q) → (q : K)
          → moves_in O.cmp new_lists q ≡ (if is_at (O.cmp k) q then no_moves else moves_in O.cmp lists q)
      same_moves free same q = same q ∙ by_key (is_at (O.cmp k) q) refl
        where
          by_key : (b : Bool) → is_at (O.cmp k) q ≡ b → moves_in O.cmp lists q ≡ (if b then no_moves else moves_in O.cmp lists q)
          by_key true e = unmoved items u k lists tables table step free q e
          by_key false e = refl

      -- after a write that made the item this
      pub noted_in_step :
          (item : Option V) → pending ≡ None → row_of new ≡ item → pending_of new ≡ None
          → ClaimsUnder cmp (noted cmp (entries_at L cat k row) (entries_at L cat k item)) tables new_tables u
          → ((q : K) → moves_in O.cmp new_lists q ≡ moves_in O.cmp lists q) → AreInStep S L cmp cat new_items new_lists new_tables
      noted_in_step item free row_is none claims moves =
          in_step (entries_at L cat k item) (before (λ s. image_in s) u k) no_moves (λ i. entries_at L cat k (sym row_is i))
          (λ i. entries_at L cat k (image_of ((free ∙ sym none) i)))
          (λ i. moves_for L cat k (row_of new) (sym none i))
          (of_same S L cmp (with_share cmp S.core.same L.item (before (λ s. row_of s)) u k (entries_at L cat k item)) (before (λ s. image_in s)) (with_share cmp S.core.same L.item (before (λ s. row_of s)) u k (entries_at L cat k item)) (with_share cmp S.core.same L.item (before (λ s. image_in s)) u k (before (λ s. image_in s) u k)) new_tables
          (keeps.note (entries_at L cat k item) (entries_name S L cmp fair cat k item) claims) (λ v j. refl) (share_stays (λ s. image_in s)))
          (same_moves free moves)

      -- after an item was held, which will be this
      pub held_in_step :
          (p : Pending V) → pending ≡ None → row_of new ≡ row → pending_of new ≡ Some p
          → ClaimsUnder cmp (held_too cmp (entries_at L cat k p.image)) tables new_tables u
          → ((q : K) → moves_in O.cmp new_lists q ≡ (if is_at (O.cmp k) q then moves_by L cat k row p.image else moves_in O.cmp lists q))
          → AreInStep S L cmp cat new_items new_lists new_tables
      held_in_step p free row_is held claims moves =
          in_step (before (λ s. row_of s) u k) (entries_at L cat k p.image) (moves_by L cat k row p.image) (λ i. entries_at L cat k (sym row_is i))
          (λ i. entries_at L cat k (image_of (sym held i)))
          (λ i. moves_for L cat k (sym row_is i) (sym held i))
          (of_same S L cmp (before (λ s. row_of s)) (with_share cmp S.core.same L.item (before (λ s. image_in s)) u k (entries_at L cat k p.image)) (with_share cmp S.core.same L.item (before (λ s. row_of s)) u k (before (λ s. row_of s) u k)) (with_share cmp S.core.same L.item (before (λ s. image_in s)) u k (entries_at L cat k p.image)) new_tables
          (keeps.hold (entries_at L cat k p.image) (entries_name S L cmp fair cat k p.image) (λ i. entries_at L cat k (image_of (free i))) claims) (share_stays (λ s. row_of s)) (λ v j. refl))
          moves

      -- after the end of the transaction that held it, which made it what it was to be
      pub settled_in_step :
          (p : Pending V) → pending ≡ Some p → row_of new ≡ p.image → pending_of new ≡ None
          → ClaimsUnder cmp (settled cmp (moves_in O.cmp lists k).old (moves_in O.cmp lists k).new) tables new_tables u
          → ((q : K) → moves_in O.cmp new_lists q ≡ (if is_at (O.cmp k) q then no_moves else moves_in O.cmp lists q))
          → AreInStep S L cmp cat new_items new_lists new_tables
      settled_in_step p held row_is none claims moves =
          let known : moves_in O.cmp lists k ≡ moves_by L cat k row p.image = moves_are items u k lists tables table step ∙ (λ i. moves_for L cat k row (held i)) in
          let image : entries_at L cat k p.image ≡ before (λ s. image_in s) u k = λ i. entries_at L cat k (image_of (sym held i)) in
          in_step (before (λ s. image_in s) u k) [] no_moves (sym image ∙ (λ i. entries_at L cat k (sym row_is i)))
          (λ i. entries_at L cat k (image_of (sym none i)))
          (λ i. moves_for L cat k (row_of new) (sym none i))
          (keeps.settle (subst (λ es. ClaimsUnder cmp (settled cmp (before (λ s. row_of s) u k) es) tables new_tables u) image
          (subst (λ m. ClaimsUnder cmp (settled cmp m.old m.new) tables new_tables u) known claims)))
          moves

      -- after it was let go
      pub let_go_in_step :
          (p : Pending V) → pending ≡ Some p → row_of new ≡ row → pending_of new ≡ None
          → ClaimsUnder cmp (let_go cmp (moves_in O.cmp lists k).new) tables new_tables u
          → ((q : K) → moves_in O.cmp new_lists q ≡ (if is_at (O.cmp k) q then no_moves else moves_in O.cmp lists q))
          → AreInStep S L cmp cat new_items new_lists new_tables
      let_go_in_step p held row_is none claims moves =
          let known : moves_in O.cmp lists k ≡ moves_by L cat k row p.image = moves_are items u k lists tables table step ∙ (λ i. moves_for L cat k row (held i)) in
          let image : entries_at L cat k p.image ≡ before (λ s. image_in s) u k = λ i. entries_at L cat k (image_of (sym held i)) in
          in_step (before (λ s. row_of s) u k) [] no_moves (λ i. entries_at L cat k (sym row_is i))
          (λ i. entries_at L cat k (image_of (sym none i)))
          (λ i. moves_for L cat k (row_of new) (sym none i))
          (of_same S L cmp (before (λ s. row_of s)) (with_share cmp S.core.same L.item (before (λ s. image_in s)) u k []) (with_share cmp S.core.same L.item (before (λ s. row_of s)) u k (before (λ s. row_of s) u k)) (with_share cmp S.core.same L.item (before (λ s. image_in s)) u k []) new_tables
          (keeps.let_go (subst (λ es. ClaimsUnder cmp (let_go cmp es) tables new_tables u) image
          (subst (λ m. ClaimsUnder cmp (let_go cmp m.new) tables new_tables u) known claims)))
          (share_stays (λ s. row_of s)) (λ v j. refl))
          moves

  -- where slots, moves and claims are as they were
  pub same_in_step :
      (items new_items : ItemStore K V O E P) (lists new_lists : BTreeMap K (IndexChanges K V N)) (tables new_tables : BTreeMap ℕ (BTreeMap N Claim))
      → ((v : ℕ) (q : K) → slot_at new_items v q ≡ slot_at items v q) → SameClaims cmp tables new_tables
      → ((q : K) → moves_in O.cmp new_lists q ≡ moves_in O.cmp lists q) → AreInStep S L cmp cat items lists tables
      → AreInStep S L cmp cat new_items new_lists new_tables
  same_in_step items new_items lists new_lists tables new_tables slots claims moves step =
      record {
        entries = record {
          committed = λ u q. ap (λ c. is_committed c) (claims u q) ∙ step.entries.committed u q ∙ (λ i. is_among cmp (entries_at L cat (L.item q) (row_of (sym (slots u (L.item q)) i))) q);
          held = λ u q. ap (λ c. is_held c) (claims u q) ∙ step.entries.held u q ∙ (λ i. is_among cmp (entries_at L cat (L.item q) (image_of (pending_of (sym (slots u (L.item q)) i)))) q);
        };
        moves = λ q. moves q ∙ step.moves q ∙ (λ i. moves_kept L cat q (sym (slots (S.core.table q) q) i));
      }
