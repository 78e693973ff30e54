-- What cells told when they were asked for lists.
use Rattle.std.proofs.Common.{◌≡◌, ℕ, ◌+◌, ◌≤◌, List, [], ◌∷◌, ◌++◌, length, map, reverse, Option, Some, refl, sym, ap, ◌∙◌, subst, inl, arith, length-append, append_assoc, append-nil}
use Rattle.std.proofs.lemmas.List.{map-append}
use Rattle.turnstile.specs.Passes.{PassView}
use Rattle.txn_core.specs.declared.message.Message.{Message}
use Rattle.txn_core.specs.declared.answer.Answer.{Answer}
use Rattle.txn_core.specs.declared.answer.HeldItem.{HeldItem}
use Rattle.txn_core.specs.Answers.{unfinished}
use Rattle.txn_core.specs.History.{Had, begins}
use Rattle.txn_core.specs.Legal.{state, IsAnswer}
use Rattle.txn_core.specs.Service.{Service, IsServiceLawful, Reply, Event, History}
use Rattle.txn_core.proofs.Exports.{had_more}
use Rattle.cluster.specs.declared.step.StepError.{StepError}
use Rattle.cluster.specs.Events.{event_of}
use Rattle.cluster.specs.Steps.{IsLater}
use Rattle.cluster.specs.Counts.{Counts, CountsUntil}
use Rattle.cluster.proofs.OwnEntries.{counts_none, counts_on, counts_until, same_event}
use Rattle.recovery_manager.specs.Lists.{all_items, lists_items, lists_held, AllBegun, ListsItems, ListsHeld, ListsPartly}
use Rattle.cluster.proofs.Lists.{each_append}
use Rattle.recovery_manager.proofs.Each.{each_of, each_so}
use Rattle.recovery_manager.proofs.Grown.{still_begun}
use Rattle.recovery_manager.proofs.Listed.{is_list, listed_begun, unfinished_begun}

module _ {K : Type 0} where
  items_more : (held : List (List (HeldItem K))) (items : List (HeldItem K)) → all_items (held ++ items ∷ []) ≡ all_items held ++ items
  items_more [] items = append-nil items
  items_more (first ∷ held) items = ap (λ xs. first ++ xs) (items_more held items) ∙ sym (append_assoc first (all_items held) items)

module _ {K V A F C D Q B : Type 0} (S : Service K V A F C D Q B) where
  -- what was begun before the entry was begun with it
  begun_then : (e : Event S) (es : History S) (n : ℕ) → Had (begins n) es → Had (begins n) (e ∷ es)
  begun_then e es n h = had_more (begins n) e es h

  module _ (law : IsServiceLawful S) (p q : PassView (Event S)) (cell : Option ℕ) where
    -- a partition lists the items that begun transactions hold
    pub is_list_of_items :
        (i : ℕ) (a : Reply S) → IsLater S (reverse p.front) (event_of p cell (Message.Pendings i) a) (reverse q.front)
        → ((items : List (HeldItem K)) → a ≡ Answer.PendingList items → ⊥) → ⊥
    is_list_of_items i a later none = is_list S (state S (later.newer ++ reverse p.front)) i a later.legal.1.answer.1 none

    pub items_begun :
        (i : ℕ) (items : List (HeldItem K)) (a : Reply S) → a ≡ Answer.PendingList items
        → IsLater S (reverse p.front) (event_of p cell (Message.Pendings i) a) (reverse q.front)
        → AllBegun S (reverse q.front) (map (λ item. item.number) items)
    items_begun i items a is later =
        let past : History S = later.newer ++ reverse p.front in
        let e : Event S = event_of p cell (Message.Pendings i) a in
        let its = subst (λ (z : Reply S). IsAnswer S past p.moment (Message.Pendings i) z) is later.legal.1.answer in
        subst (λ es. AllBegun S es (map (λ item. item.number) items)) later.is
        (each_of (λ n. Had (begins n) (e ∷ past)) (λ item. item.number) items
        (each_so (λ item. Had (begins item.number) past) (λ item. Had (begins item.number) (e ∷ past)) (λ item h. begun_then e past item.number h) items
        (listed_begun S law past later.legal.0 i items its.1)))

  module _ (p q : PassView (Event S)) (cell : Option ℕ) where
    -- the control cell lists numbers that are begun
    is_numbers : (a : Reply S) (numbers : List ℕ) → a ≡ Answer.Numbers numbers → ((others : List ℕ) → a ≡ Answer.Numbers others → ⊥) → ⊥
    is_numbers a numbers is none = none numbers is

    pub is_list_of_numbers :
        (a : Reply S) → IsLater S (reverse p.front) (event_of p cell Message.Unfinished a) (reverse q.front)
        → ((numbers : List ℕ) → a ≡ Answer.Numbers numbers → ⊥) → ⊥
    is_list_of_numbers a later none = none (unfinished (state S (later.newer ++ reverse p.front)).ledger) later.legal.1.answer

    same_numbers : (xs ys : List ℕ) (a : Reply S) → a ≡ Answer.Numbers xs → a ≡ Answer.Numbers ys → ys ≡ xs
    same_numbers xs ys a x y = cc

    pub numbers_begun :
        (numbers : List ℕ) (a : Reply S) → a ≡ Answer.Numbers numbers
        → IsLater S (reverse p.front) (event_of p cell Message.Unfinished a) (reverse q.front) → AllBegun S (reverse q.front) numbers
    numbers_begun numbers a is later =
        let past : History S = later.newer ++ reverse p.front in
        let e : Event S = event_of p cell Message.Unfinished a in
        subst (λ es. AllBegun S es numbers) later.is
        (each_so (λ n. Had (begins n) past) (λ n. Had (begins n) (e ∷ past)) (λ n h. begun_then e past n h) numbers
        (subst (λ xs. AllBegun S past xs) (same_numbers numbers (unfinished (state S past).ledger) a is later.legal.1.answer)
        (unfinished_begun S past later.legal.0)))

  -- the entries of one more partition
  held_more :
      (p : PassView (Event S)) (first : ℕ) (held : List (List (HeldItem K))) (items : List (HeldItem K)) (cell : ℕ) → first + length held ≡ cell
      → lists_held S p first (held ++ items ∷ []) ≡ lists_held S p first held ++ lists_items S p cell items ∷ []
  held_more p first [] items cell e = let same : first ≡ cell = omega arith in ap (λ k. lists_items S p k items ∷ []) same
  held_more p first (other ∷ held) items cell e =
      ap (λ es. lists_items S p first other ∷ es) (held_more p (first + 1) held items cell (omega arith))

  -- partitions one after another
  pub held_none : (p : PassView (Event S)) → ListsHeld S 0 p [] p
  held_none p = record { held = []; many = refl; items_are = refl; counts = counts_none S p; begun = tt }

  module _ (n : ℕ) (p : PassView (Event S)) (items : List (HeldItem K)) (q : PassView (Event S)) (so : ListsHeld S n p items q) where
    pub held_on : (new : List (HeldItem K)) (r : PassView (Event S)) → ListsItems S n q new r → ListsHeld S (n + 1) p (items ++ new) r
    held_on new r h =
        let many = so.many in
        let long = length-append so.held (new ∷ []) in
        let same = same_event S p (lists_held S p 0 so.held) 0 q so.counts (Some n) (Message.Pendings n) (Answer.PendingList new) in
        let place : 0 + length so.held ≡ n = omega arith in
        record {
          held = so.held ++ new ∷ [];
          many = omega arith;
          items_are = ap (λ xs. xs ++ new) so.items_are ∙ sym (items_more so.held new);
          counts =
              subst (λ es. Counts S p es 0 r) (sym (held_more p 0 so.held new n place))
              (counts_on S p (lists_held S p 0 so.held) 0 q (lists_items S p n new ∷ []) 0 r so.counts
              (subst (λ (e : Event S). Counts S q (e ∷ []) 0 r) same h.counts));
          begun =
              subst (AllBegun S (reverse r.front)) (sym (map-append (λ item. item.number) items new))
              (each_append (λ m. Had (begins m) (reverse r.front)) (map (λ item. item.number) items) (map (λ item. item.number) new)
              (still_begun S q.number q.front (lists_items S q n new ∷ []) r.front h.counts.trail (map (λ item. item.number) items) so.begun) h.begun);
        }

    -- and then an error
    pub held_until : (most : ℕ) (why : StepError) (r : PassView (Event S)) → n ≤ most → CountsUntil S q [] why r → ListsPartly S most p why r
    held_until most why r within h =
        let many = so.many in
        record {
          held = so.held;
          few = omega arith;
          counts =
              subst (λ es. CountsUntil S p es why r) (append-nil (lists_held S p 0 so.held))
              (counts_until S p (lists_held S p 0 so.held) q [] why r so.counts h);
        }

    pub held_in_vain : (most : ℕ) → n ≤ most → ListsPartly S most p StepError.NoMemory q
    held_in_vain most within = let many = so.many in record { held = so.held; few = omega arith; counts = inl so.counts }
