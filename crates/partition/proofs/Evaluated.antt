-- What an action comes to on the item that a cell keeps is what it comes to in the cell.
use Rattle.std.proofs.Common.{◌≡◌, ℕ, Bool, true, false, if◌then◌else◌, Option, None, Some, refl, sym, ap, ◌∙◌, subst}
use Rattle.std.specs.declared.cmp.Ord as ord
use Rattle.std.specs.declared.cmp.PartialEq as eq
use Rattle.std.specs.declared.cmp.PartialOrd as partial
use Rattle.txn_core.specs.Answers.{expire_answer, outcome_answer, prepare_answer, write_answer}
use Rattle.txn_core.specs.declared.answer.Answer.{Answer}
use Rattle.txn_core.specs.declared.outcome.Outcome.{Outcome}
use Rattle.txn_core.specs.declared.outcome.Outcome.TheVariants.{New, Unmet, Fails}
use Rattle.txn_core.specs.declared.stamp.Stamp.{Stamp}
use Rattle.txn_core.specs.History.{is_accepted, is_expired, is_written}
use Rattle.txn_core.specs.Legal.{only_expired}
use Rattle.txn_core.specs.Protocol.{after}
use Rattle.txn_core.specs.Service.{Service, Reply}
use Rattle.txn_core.specs.Stamps.{earlier}
use Rattle.item_store.specs.declared.slot.Slot.{Slot}
use Rattle.item_store.specs.Changes.{slot_at}
use Rattle.item_store.specs.Slots.{holder_of, last_of, row_of}
use Rattle.index_changes.specs.declared.change.IndexChanges.{IndexChanges}
use Rattle.index_changes.specs.Entries.{LocalEntries}
use Rattle.index_changes.proofs.Basics.{some_is}
use Rattle.partition.specs.declared.cell.Partition.{Partition}
use Rattle.partition.specs.declared.evaluation.Evaluation.{Evaluation}
use Rattle.partition.specs.declared.evaluation.Evaluation.TheVariants.{Answered, Made}
use Rattle.partition.specs.Changes.{Unchanged}
use Rattle.partition.specs.Evaluations.{EvaluatesExpire, EvaluatesPrepare, EvaluatesWrite, IsEvaluation, IsRefusal, IsRemoval, Removes}
use Rattle.partition.specs.Knows.{HeldFor, HeldOrSame, LeftByPrepare, LeftByWrite, expired, kept_at, outcome_at, prepared, wrote}
use Rattle.partition.specs.Expiry.{removal_answer}
use Rattle.partition.specs.Makes.{Makes, MakesItem}

module _ {K V A F B : Type 0} where
  -- a refusal is the answer to a Write, and to a Prepare, and neither says that it was carried out
  refused_write :
      (row : Option V) (o : Outcome V F) (a : Answer K V A F B) → IsRefusal row o a
      → (a ≡ write_answer true None row o) × (is_written a ≡ false)
  refused_write row (New item) a no' = absurd no'
  refused_write row Unmet a is = (is, ap (λ b. is_written b) is)
  refused_write row (Fails fault) a is = (is, ap (λ b. is_written b) is)

  refused_prepare :
      (row : Option V) (o : Outcome V F) (a : Answer K V A F B) → IsRefusal row o a
      → (a ≡ outcome_answer row o) × (is_accepted a ≡ false)
  refused_prepare row (New item) a no' = absurd no'
  refused_prepare row Unmet a is = (is, ap (λ b. is_accepted b) is)
  refused_prepare row (Fails fault) a is = (is, ap (λ b. is_accepted b) is)

module _
    {K V C : Type 0} {O : ord.Ghosts K} {E : eq.Ghosts K} {P : partial.Ghosts K}
    {N : Type 0} {X : ord.Ghosts N} {Y : eq.Ghosts N} {Z : partial.Ghosts N} where
  pub unchanged_itself : (c : Partition K V C N O E P X Y Z) → Unchanged c c
  unchanged_itself c =
      record {
        slots = λ v q. refl;
        numbers = refl;
        prepared = λ q. refl;
        waiting = refl;
        beside = record { partitions = refl; catalog = refl; sent = refl; marks = refl; rows = refl };
      }

module _
    {K V A F C D Q B : Type 0} (S : Service K V A F C D Q B) {O : ord.Ghosts K} {E : eq.Ghosts K} {P : partial.Ghosts K}
    {N : Type 0} {X : ord.Ghosts N} {Y : eq.Ghosts N} {Z : partial.Ghosts N} (c : Partition K V C N O E P X Y Z) (action : A) where
  -- the table of an action's item is there, nobody holds the item, and it is this
  pub record Found (row : Option V) : Type 0 where
    pub there : S.core.there c.catalog (S.core.key_of action) ≡ true
    pub free : holder_of (kept_at S c (S.core.key_of action)) ≡ None
    pub old : row ≡ row_of (kept_at S c (S.core.key_of action))

  module _ (x : K) (key : x ≡ S.core.key_of action) (u : ℕ) (table : u ≡ S.core.table x) (slot : Option (Slot V)) (is : slot ≡ slot_at c.items u x) where
    kept : slot ≡ kept_at S c (S.core.key_of action)
    kept = is ∙ (λ j. slot_at c.items ((table ∙ ap (λ y. S.core.table y) key) j) (key j))

    pub found :
        (b : Bool) → b ≡ S.core.there c.catalog x → b ≡ true → holder_of slot ≡ None → (row : Option V) → row ≡ row_of slot → Found row
    found b there passes none row old =
        record {
          there = sym (ap (λ y. S.core.there c.catalog y) key) ∙ sym there ∙ passes;
          free = sym (ap (λ s. holder_of s) kept) ∙ none;
          old = old ∙ ap (λ s. row_of s) kept;
        }

    pub is_early :
        (last stamp : Stamp) → last ≡ last_of c.items.counts.floor slot → (b : Bool) → b ≡ earlier last stamp → b ≡ true
        → earlier (last_of c.items.counts.floor (kept_at S c (S.core.key_of action))) stamp ≡ true
    is_early last stamp its b early passes =
        sym (ap (λ s. earlier (last_of c.items.counts.floor s) stamp) kept) ∙ sym (ap (λ y. earlier y stamp) its) ∙ sym early ∙ passes

  -- the same, of what stands there
  itself : (row : Option V) → Found row → Found (row_of (kept_at S c (S.core.key_of action)))
  itself row f = record { there = f.there; free = f.free; old = refl }

  -- an expiration that removed nothing leaves the cell
  pub expire_leaves : (a : Reply S) (moment : ℕ) → is_expired a ≡ false → LeftByWrite S c c action moment (is_expired a)
  expire_leaves a moment is = subst (λ b. LeftByWrite S c c action moment b) (sym is) (unchanged_itself c)

  -- a Write that was not carried out leaves the cell
  pub write_leaves : (a : Reply S) (moment : ℕ) → is_written a ≡ false → LeftByWrite S c c action moment (is_written a)
  write_leaves a moment is = subst (λ b. LeftByWrite S c c action moment b) (sym is) (unchanged_itself c)

  -- it is answered by the outcome
  by_outcome :
      (n : ℕ) (stamp : Stamp) → Found (row_of (kept_at S c (S.core.key_of action)))
      → earlier (last_of c.items.counts.floor (kept_at S c (S.core.key_of action))) stamp ≡ true
      → (o : Outcome V F) → outcome_at S c action ≡ o
      → prepared S c n stamp action ≡ outcome_answer (row_of (kept_at S c (S.core.key_of action))) o
  by_outcome n stamp f early o out =
      let kept = kept_at S c (S.core.key_of action) in
      let last = last_of c.items.counts.floor kept in
      (λ j. prepare_answer (f.there j) (f.free j) n last stamp (row_of kept) (out j))
      ∙ (λ j. if early j then outcome_answer (row_of kept) o else Answer.Late last)

  module _ (L : LocalEntries K V C N) where
    write_by_case :
        Found (row_of (kept_at S c (S.core.key_of action))) → (made : Evaluation (Reply S) V (IndexChanges K V N))
        → IsEvaluation S L c.catalog action (row_of (kept_at S c (S.core.key_of action))) made → EvaluatesWrite S L c action made
    write_by_case f (Answered a) is =
        let kept = row_of (kept_at S c (S.core.key_of action)) in
        let r = refused_write kept (outcome_at S c action) a is in
        (r.0 ∙ sym (λ j. write_answer (f.there j) (f.free j) kept (outcome_at S c action)), r.1)
    write_by_case f (Made item changes) is = (f.there, record { free = f.free; new = is.0; indexes = is.1 })

    pub write_evaluated :
        (row : Option V) → Found row → (made : Evaluation (Reply S) V (IndexChanges K V N)) → IsEvaluation S L c.catalog action row made
        → EvaluatesWrite S L c action made
    write_evaluated row f made is = write_by_case (itself row f) made (subst (λ r. IsEvaluation S L c.catalog action r made) f.old is)

    -- what is only there where it is expired
    none_there : (k : K) (moment : ℕ) (row : Option V) (old : V) → only_expired S c.catalog k moment row ≡ Some old
        → (row ≡ Some old) × (S.core.expired c.catalog k old moment ≡ true)
    none_there k moment None old e = absurd (cc)
    none_there k moment (Some v) old e = by_time (S.core.expired c.catalog k v moment) refl e
      where
        by_time : (b : Bool) → S.core.expired c.catalog k v moment ≡ b → (if b then Some v else None) ≡ Some old
            → (Some v ≡ Some old) × (S.core.expired c.catalog k old moment ≡ true)
        by_time true is h = (h, subst (λ z. S.core.expired c.catalog k z moment ≡ true) (some_is v old h) is)
        by_time false is h = absurd (cc)

    -- an expiration goes by the item where it is expired alone: where there is none, it is kept whatever its action does
    expire_by : (moment : ℕ) (over : Option V) → Found (row_of (kept_at S c (S.core.key_of action)))
        → only_expired S c.catalog (S.core.key_of action) moment (row_of (kept_at S c (S.core.key_of action))) ≡ over
        → expired S c action moment ≡ expire_answer true None over (S.core.act c.catalog action over)
    expire_by moment None f is = λ j. expire_answer (f.there j) (f.free j) (is j) (outcome_at S c action)
    expire_by moment (Some old) f is =
        let r = none_there (S.core.key_of action) moment (row_of (kept_at S c (S.core.key_of action))) old is in
        λ j. expire_answer (f.there j) (f.free j) (is j) (S.core.act c.catalog action (r.0 j))

    expire_by_case : (moment : ℕ) (over : Option V) → Found (row_of (kept_at S c (S.core.key_of action)))
        → only_expired S c.catalog (S.core.key_of action) moment (row_of (kept_at S c (S.core.key_of action))) ≡ over
        → (made : Evaluation (Reply S) V (IndexChanges K V N)) → IsRemoval S L c.catalog action over made → EvaluatesExpire S L c action moment made
    expire_by_case moment over f is (Answered a) h = (h.0 ∙ sym (expire_by moment over f is), h.1)
    expire_by_case moment None f is (Made item made) h = absurd (let none = h.0 in cc)
    expire_by_case moment (Some old) f is (Made item made) h =
        let r = none_there (S.core.key_of action) moment (row_of (kept_at S c (S.core.key_of action))) old is in
        record {
          old = old;
          there = f.there;
          found = r.0;
          over = r.1;
          none = h.1;
          makes = record {
            free = f.free;
            new = (λ j. S.core.act c.catalog action (r.0 j)) ∙ h.2 ∙ (λ j. New (sym h.1 j));
            indexes = subst (λ (p : Option V × Option V). Makes S L c.catalog (S.core.key_of action) p.0 p.1 made) (λ j. (sym r.0 j, sym h.1 j)) h.3;
          };
        }

    pub expire_evaluated : (moment : ℕ) (row over : Option V) → Found row → over ≡ only_expired S c.catalog (S.core.key_of action) moment row
        → (made : Evaluation (Reply S) V (IndexChanges K V N)) → IsRemoval S L c.catalog action over made → EvaluatesExpire S L c action moment made
    expire_evaluated moment row over f is made h =
        expire_by_case moment over (itself row f) (ap (λ r. only_expired S c.catalog (S.core.key_of action) moment r) (sym f.old) ∙ sym is) made h

    -- what an Expire comes to, by what it is
    pub expire_answers :
        (moment : ℕ) (made : Evaluation (Reply S) V (IndexChanges K V N)) (a : Reply S) → made ≡ Answered a → EvaluatesExpire S L c action moment made
        → (a ≡ expired S c action moment) × (is_expired a ≡ false)
    expire_answers moment made a is h = subst (λ m. EvaluatesExpire S L c action moment m) is h

    pub expire_removes :
        (moment : ℕ) (made : Evaluation (Reply S) V (IndexChanges K V N)) (item : Option V) (changes : IndexChanges K V N) → made ≡ Made item changes
        → EvaluatesExpire S L c action moment made → Removes S L c action moment item changes
    expire_removes moment made item changes is h = subst (λ m. EvaluatesExpire S L c action moment m) is h

    -- the removal of what is there and expired is the expiration's answer
    pub removed_is :
        (moment : ℕ) (item : Option V) (changes : IndexChanges K V N) → Removes S L c action moment item changes
        → removal_answer (row_of (kept_at S c (S.core.key_of action))) ≡ expired S c action moment
    removed_is moment item changes r =
        ap (λ v. removal_answer v) r.found
        ∙ sym (λ j. expire_answer (r.there j) (r.makes.free j) (if r.over j then Some r.old else None) (New (r.none j)))
        ∙ sym (λ j. expire_answer (S.core.there c.catalog (S.core.key_of action)) (holder_of (kept_at S c (S.core.key_of action))) (only_expired S c.catalog (S.core.key_of action) moment (r.found j)) (r.makes.new j))

    pub removed_says :
        (moment : ℕ) (item : Option V) (changes : IndexChanges K V N) → Removes S L c action moment item changes
        → (a : Reply S) → a ≡ removal_answer (row_of (kept_at S c (S.core.key_of action))) → is_expired a ≡ true
    removed_says moment item changes r a is = ap (λ b. is_expired b) (is ∙ ap (λ v. removal_answer v) r.found)

    -- what a Write comes to, by what it is
    pub write_answers :
        (made : Evaluation (Reply S) V (IndexChanges K V N)) (a : Reply S) → made ≡ Answered a → EvaluatesWrite S L c action made
        → (a ≡ wrote S c action) × (is_written a ≡ false)
    write_answers made a is h = subst (λ m. EvaluatesWrite S L c action m) is h

    pub write_makes :
        (made : Evaluation (Reply S) V (IndexChanges K V N)) (item : Option V) (changes : IndexChanges K V N) → made ≡ Made item changes
        → EvaluatesWrite S L c action made → (S.core.there c.catalog (S.core.key_of action) ≡ true) × MakesItem S L c action item changes
    write_makes made item changes is h = subst (λ m. EvaluatesWrite S L c action m) is h

    module _ (n : ℕ) (stamp : Stamp) where
      prepare_by_case :
          Found (row_of (kept_at S c (S.core.key_of action)))
          → earlier (last_of c.items.counts.floor (kept_at S c (S.core.key_of action))) stamp ≡ true
          → (made : Evaluation (Reply S) V (IndexChanges K V N))
          → IsEvaluation S L c.catalog action (row_of (kept_at S c (S.core.key_of action))) made → EvaluatesPrepare S L c n stamp action made
      prepare_by_case f early (Answered a) is =
          let r = refused_prepare (row_of (kept_at S c (S.core.key_of action))) (outcome_at S c action) a is in
          (r.0 ∙ sym (by_outcome n stamp f early (outcome_at S c action) refl), subst (λ b. LeftByPrepare S c c action n stamp b) (sym r.1) (unchanged_itself c))
      prepare_by_case f early (Made item changes) is =
          (by_outcome n stamp f early (New item) is.0, record { free = f.free; new = is.0; indexes = is.1 })

      pub prepare_evaluated :
          (row : Option V) → Found row → earlier (last_of c.items.counts.floor (kept_at S c (S.core.key_of action))) stamp ≡ true
          → (made : Evaluation (Reply S) V (IndexChanges K V N)) → IsEvaluation S L c.catalog action row made
          → EvaluatesPrepare S L c n stamp action made
      prepare_evaluated row f early made is =
          prepare_by_case (itself row f) early made (subst (λ r. IsEvaluation S L c.catalog action r made) f.old is)

      -- what a Prepare comes to, by what it is
      pub prepare_answers :
          (made : Evaluation (Reply S) V (IndexChanges K V N)) (a : Reply S) → made ≡ Answered a → EvaluatesPrepare S L c n stamp action made
          → (a ≡ prepared S c n stamp action) × LeftByPrepare S c c action n stamp (is_accepted a)
      prepare_answers made a is h = subst (λ m. EvaluatesPrepare S L c n stamp action m) is h

      pub prepare_makes :
          (made : Evaluation (Reply S) V (IndexChanges K V N)) (item : Option V) (changes : IndexChanges K V N) → made ≡ Made item changes
          → EvaluatesPrepare S L c n stamp action made
          → (Answer.Accepted ≡ prepared S c n stamp action) × MakesItem S L c action item changes
      prepare_makes made item changes is h =
          let m = subst (λ m. EvaluatesPrepare S L c n stamp action m) is h in (sym m.0, m.1)

      -- and one that held its item leaves what the item's holder says
      pub prepare_leaves :
          (d : Partition K V C N O E P X Y Z) (item : Option V) (changes : IndexChanges K V N) → MakesItem S L c action item changes
          → HeldFor S c d (S.core.key_of action) n stamp item
          → HeldOrSame S c d action n stamp (holder_of (kept_at S c (S.core.key_of action)))
      prepare_leaves d item changes m held =
          let k = S.core.key_of action in
          subst (λ o. HeldOrSame S c d action n stamp o) (sym m.free)
          (subst (λ v. HeldFor S c d k n stamp v) (sym (ap (λ o. after o (row_of (kept_at S c k))) m.new)) held)
