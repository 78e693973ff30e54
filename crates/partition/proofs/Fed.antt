-- What a cell answers to the messages of the feed, and what it is after them.
use Rattle.std.specs.Ordering.{nat_cmp}
use Rattle.std.specs.BTreeMap.{is_at}
use Rattle.std.proofs.Common.{◌≡◌, ℕ, suc, ◌+◌, ◌&&◌, nat_eq, nat_lt, Bool, true, false, if◌then◌else◌, List, [], ◌∷◌, drop, Option, None, refl, sym, ap, ◌∙◌, subst, arith}
use Rattle.std.proofs.lemmas.Bool.{cond-true, eq-eqb, eqb-true, eqb-false}
use Rattle.std.specs.declared.cmp.Ord as ord
use Rattle.std.specs.declared.cmp.PartialEq as eq
use Rattle.std.specs.declared.cmp.PartialOrd as partial
use Rattle.index_feed.specs.declared.change.Change.{Change}
use Rattle.index_feed.specs.Feed.{at, Feed, acked, is_fed, fed, peek, served}
use Rattle.txn_core.specs.Indexing.{indexed}
use Rattle.txn_core.specs.Service.{Service, IsServiceLawful}
use Rattle.txn_core.specs.Answers.{out_answer, feed_answer, ack_answer}
use Rattle.txn_core.specs.Feeding.{has_sequence}
use Rattle.txn_core.specs.State.{State}
use Rattle.item_store.specs.Changes.{slot_at}
use Rattle.item_store.specs.Counts.{tally}
use Rattle.global_index.specs.Marks.{mark_in}
use Rattle.global_index.specs.Outboxes.{has_first}
use Rattle.global_index.specs.Rows.{row_under}
use Rattle.index_changes.specs.Prepared.{prepared_in}
use Rattle.partition.specs.declared.cell.Partition.{Partition}
use Rattle.partition.specs.Holds.{Holds}
use Rattle.partition.specs.Knows.{KeepsRows, LeftByAck, LeftByFeed, acked_by, fed_by, shown_by}
use Rattle.partition.specs.Says.{ack_says, feed_says, out_says}
use Rattle.index_changes.proofs.Keys.{at_is, number_at, one_key}
use Rattle.partition.proofs.Changing.{unchanged}

first_is : {K V : Type 0} (n : ℕ) (xs : List (Change K V)) (s : ℕ) → has_first n xs s ≡ has_sequence (peek n xs) s
first_is n [] s = refl
first_is n (x ∷ xs) s = refl

module _
    {K V A F C D Q B : Type 0} (S : Service K V A F C D Q B) {O : ord.Ghosts K} {E : eq.Ghosts K} {P : partial.Ghosts K}
    {N : Type 0} {X : ord.Ghosts N} {Y : eq.Ghosts N} {Z : partial.Ghosts N}
    (i : ℕ) (c d : Partition K V C N O E P X Y Z) (w : State K V A C) (f : Feed K V C) (here : Holds S i c w f) where
  pub out_is : shown_by S c ≡ out_says S f i
  out_is = λ j. out_answer S.core.cell_of (peek (here.sent j) (here.waiting j))

  pub ack_is : (s : ℕ) → acked_by S c s ≡ ack_says S f i s
  ack_is s =
      (λ j. ack_answer (has_first (here.sent j) (here.waiting j) s)) ∙ (λ j. ack_answer (first_is (f.sent i) (f.outbox i) s j))

  -- where memory was refused to an ApplyIndex
  pub rows_kept : KeepsRows c d → Holds S i d w f
  rows_kept left =
      record {
        partitions = left.partitions ∙ here.partitions;
        items = λ u q. ap (λ m. slot_at m u q) left.items ∙ here.items u q;
        numbers = ap (λ m. tally m.counts) left.items ∙ here.numbers;
        catalog = left.catalog ∙ here.catalog;
        prepared = λ q. ap (λ m. prepared_in O.cmp m.lists q) left.prepared ∙ here.prepared q;
        waiting = ap (λ m. m.waiting.items) left.outbox ∙ here.waiting;
        sent = ap (λ m. m.sent) left.outbox ∙ here.sent;
        marks = λ j. ap (λ m. mark_in m.last.items j) left.marks ∙ here.marks j;
        rows = λ x q. left.rows x q ∙ here.rows x q;
        under = here.under;
        shown = here.shown;
      }

  its : nat_eq i i ≡ true
  its = eq-eqb i i refl

  -- the feed without the first of the cell's outbox
  taken :
      (s : ℕ) (g : Feed K V C) → g.catalog ≡ f.catalog → ((q : K) → g.row q ≡ f.row q) → ((j : ℕ) → g.mark i j ≡ f.mark i j)
      → ((x : ℕ) (q : K) → g.shown x q ≡ f.shown x q) → LeftByAck c d s → d.outbox.waiting.items ≡ g.outbox i → d.outbox.sent ≡ g.sent i
      → Holds S i d w g
  taken s g cat row mark shown left waiting sent =
      record {
        partitions = left.partitions ∙ here.partitions;
        items = λ u q. ap (λ m. slot_at m u q) left.items ∙ here.items u q;
        numbers = ap (λ m. tally m.counts) left.items ∙ here.numbers;
        catalog = left.catalog ∙ here.catalog;
        prepared = λ q. ap (λ m. prepared_in O.cmp m.lists q) left.prepared ∙ here.prepared q;
        waiting = waiting;
        sent = sent;
        marks = λ j. ap (λ m. mark_in m.last.items j) left.marks ∙ here.marks j ∙ sym (mark j);
        rows = λ x q. ap (λ r. row_under O.cmp r.indexes x q) left.rows ∙ here.rows x q ∙ (λ j. if nat_eq (S.core.cell_of q) i then sym (shown x q) j else None);
        under = cat ∙ here.under;
        shown = λ q at_q. row q ∙ here.shown q at_q;
      }

  -- after an Ack
  pub acked_holds : (s : ℕ) → LeftByAck c d s → Holds S i d w (acked (indexed S.core S.index) f i s (f.outbox i))
  acked_holds s left = by_outbox (f.outbox i) refl
    where
      one_more : (m n : ℕ) → m ≡ n + 1 → m ≡ suc n
      one_more m n e = omega arith

      waiting_is : (xs : List (Change K V)) → f.outbox i ≡ xs → d.outbox.waiting.items ≡ (if has_first (f.sent i) xs s then drop 1 xs else xs)
      waiting_is xs e = left.waiting ∙ (λ j. if has_first (here.sent j) ((here.waiting ∙ e) j) s then drop 1 ((here.waiting ∙ e) j) else (here.waiting ∙ e) j)

      sent_is : (xs : List (Change K V)) → f.outbox i ≡ xs → d.outbox.sent ≡ (if has_first (f.sent i) xs s then f.sent i + 1 else f.sent i)
      sent_is xs e = left.sent ∙ (λ j. if has_first (here.sent j) ((here.waiting ∙ e) j) s then here.sent j + 1 else here.sent j)

      by_test :
          (x : Change K V) (xs : List (Change K V)) → f.outbox i ≡ x ∷ xs → (b : Bool) → nat_eq s (suc (f.sent i)) ≡ b
          → Holds S i d w (if b then record f { sent = at f.sent i s; outbox = at f.outbox i xs } else f)
      by_test x xs e true t =
          taken s (record f { sent = at f.sent i s; outbox = at f.outbox i xs }) refl (λ q. refl) (λ j. refl) (λ y q. refl) left
          (waiting_is (x ∷ xs) e ∙ (λ j. if t j then drop 1 (x ∷ xs) else x ∷ xs) ∙ sym (cond-true (nat_eq i i) xs (f.outbox i) its))
          (sent_is (x ∷ xs) e ∙ (λ j. if t j then f.sent i + 1 else f.sent i) ∙ one_more (f.sent i + 1) (f.sent i) refl ∙ sym (eqb-true s (suc (f.sent i)) t)
          ∙ sym (cond-true (nat_eq i i) s (f.sent i) its))
      by_test x xs e false t =
          taken s f refl (λ q. refl) (λ j. refl) (λ y q. refl) left
          (waiting_is (x ∷ xs) e ∙ (λ j. if t j then drop 1 (x ∷ xs) else x ∷ xs) ∙ sym e)
          (sent_is (x ∷ xs) e ∙ (λ j. if t j then f.sent i + 1 else f.sent i))

      by_outbox : (xs : List (Change K V)) → f.outbox i ≡ xs → Holds S i d w (acked (indexed S.core S.index) f i s xs)
      by_outbox [] e = taken s f refl (λ q. refl) (λ j. refl) (λ y q. refl) left (waiting_is [] e ∙ sym e) (sent_is [] e)
      by_outbox (x ∷ xs) e = by_test x xs e (nat_eq s (suc (f.sent i))) refl

module _
    {K V A F C D Q B : Type 0} (S : Service K V A F C D Q B) {O : ord.Ghosts K} {E : eq.Ghosts K} {P : partial.Ghosts K}
    {N : Type 0} {X : ord.Ghosts N} {Y : eq.Ghosts N} {Z : partial.Ghosts N}
    (x : Change K V) (c d : Partition K V C N O E P X Y Z) (w : State K V A C) (f : Feed K V C) (here : Holds S (S.core.cell_of x.key) c w f) where
  pub fed_is : (source s : ℕ) → fed_by S c source s x ≡ is_fed (indexed S.core S.index) f source s x
  fed_is source s = λ j. nat_lt (here.marks source j) s && served (indexed S.core S.index) ((here.catalog ∙ sym here.under) j) x.index (S.index.item_of x.key)

  pub feed_is : (source s : ℕ) → feed_answer {K = K} {V = V} {A = A} {F = F} {B = B} (fed_by S c source s x) ≡ feed_says S f source s x
  feed_is source s = λ j. feed_answer (fed_is source s j)

  module _ (law : IsServiceLawful S) (ordered : (a b : K) → S.index.cmp a b ≡ O.cmp a b) where
    its_own : nat_eq (S.core.cell_of x.key) (S.core.cell_of x.key) ≡ true
    its_own = eq-eqb (S.core.cell_of x.key) (S.core.cell_of x.key) refl

    turned : (m n : ℕ) (b : Bool) → nat_eq m n ≡ b → nat_eq n m ≡ b
    turned m n true e = eq-eqb n m (sym (eqb-true m n e))
    turned m n false e = not_so (nat_eq n m) refl
      where
        not_so : (b : Bool) → nat_eq n m ≡ b → nat_eq n m ≡ false
        not_so true t = absurd (eqb-false m n e (sym (eqb-true n m t)))
        not_so false t = t

    -- after an ApplyIndex that was carried out
    carried : (source s : ℕ) → LeftByFeed S c d source s x true → Holds S (S.core.cell_of x.key) d w (fed (indexed S.core S.index) f source s x)
    carried source s left =
        record {
          partitions = left.partitions ∙ here.partitions;
          items = λ u q. ap (λ m. slot_at m u q) left.items ∙ here.items u q;
          numbers = ap (λ m. tally m.counts) left.items ∙ here.numbers;
          catalog = left.catalog ∙ here.catalog;
          prepared = λ q. ap (λ m. prepared_in O.cmp m.lists q) left.prepared ∙ here.prepared q;
          waiting = ap (λ m. m.waiting.items) left.outbox ∙ here.waiting;
          sent = ap (λ m. m.sent) left.outbox ∙ here.sent;
          marks = λ j. left.marks j ∙ (λ e. if turned j source (nat_eq j source) refl e then s else here.marks j e)
              ∙ sym (λ e. if its_own e && nat_eq j source then s else f.mark (S.core.cell_of x.key) j);
          rows = λ g q. left.rows g q ∙ rows g q (S.core.same x.key q) refl;
          under = here.under;
          shown = here.shown;
        }
      where
        none_of : (b : Bool) (u v : Option V) → (if b && false then u else v) ≡ v
        none_of true u v = refl
        none_of false u v = refl

        own_row :
            (g : ℕ) (b : Bool) → nat_eq x.index g ≡ b
            → (if b && true then x.after else row_under O.cmp c.rows.indexes g x.key) ≡ (if b && true then x.after else f.shown g x.key)
        own_row g true e = refl
        own_row g false e =
            here.rows g x.key ∙ cond-true (nat_eq (S.core.cell_of x.key) (S.core.cell_of x.key)) (f.shown g x.key) None its_own

        own_rows :
            (g : ℕ) → (if is_at (nat_cmp x.index) g && is_at (O.cmp x.key) x.key then x.after else row_under O.cmp c.rows.indexes g x.key)
            ≡ (if nat_eq (S.core.cell_of x.key) (S.core.cell_of x.key) then (if nat_eq x.index g && S.core.same x.key x.key then x.after else f.shown g x.key) else None)
        own_rows g =
            (λ j. if number_at x.index g j && (at_is S law ordered x.key x.key ∙ law.core.itself x.key) j then x.after else row_under O.cmp c.rows.indexes g x.key)
            ∙ own_row g (nat_eq x.index g) refl
            ∙ sym (λ j. if nat_eq x.index g && law.core.itself x.key j then x.after else f.shown g x.key)
            ∙ sym (cond-true (nat_eq (S.core.cell_of x.key) (S.core.cell_of x.key)) (if nat_eq x.index g && S.core.same x.key x.key then x.after else f.shown g x.key) None its_own)

        rows :
            (g : ℕ) (q : K) (b : Bool) → S.core.same x.key q ≡ b
            → (if is_at (nat_cmp x.index) g && is_at (O.cmp x.key) q then x.after else row_under O.cmp c.rows.indexes g q)
            ≡ (if nat_eq (S.core.cell_of q) (S.core.cell_of x.key) then (if nat_eq x.index g && S.core.same x.key q then x.after else f.shown g q) else None)
        rows g q true e =
            subst (λ z. (if is_at (nat_cmp x.index) g && is_at (O.cmp x.key) z then x.after else row_under O.cmp c.rows.indexes g z)
            ≡ (if nat_eq (S.core.cell_of z) (S.core.cell_of x.key) then (if nat_eq x.index g && S.core.same x.key z then x.after else f.shown g z) else None))
            (one_key S law x.key q e) (own_rows g)
        rows g q false e =
            (λ j. if is_at (nat_cmp x.index) g && (at_is S law ordered x.key q ∙ e) j then x.after else row_under O.cmp c.rows.indexes g q)
            ∙ none_of (is_at (nat_cmp x.index) g) x.after (row_under O.cmp c.rows.indexes g q)
            ∙ here.rows g q
            ∙ sym (λ j. if nat_eq (S.core.cell_of q) (S.core.cell_of x.key) then ((λ e2. if nat_eq x.index g && e e2 then x.after else f.shown g q) ∙ none_of (nat_eq x.index g) x.after (f.shown g q)) j else None)

    pub fed_holds :
        (source s : ℕ) → LeftByFeed S c d source s x (fed_by S c source s x)
        → Holds S (S.core.cell_of x.key) d w (if is_fed (indexed S.core S.index) f source s x then fed (indexed S.core S.index) f source s x else f)
    fed_holds source s left = by_test (is_fed (indexed S.core S.index) f source s x) (subst (λ b. LeftByFeed S c d source s x b) (fed_is source s) left)
      where
        by_test : (b : Bool) → LeftByFeed S c d source s x b → Holds S (S.core.cell_of x.key) d w (if b then fed (indexed S.core S.index) f source s x else f)
        by_test true l = carried source s l
        by_test false l = unchanged S (S.core.cell_of x.key) c d w f l here
