-- One message at the cell that it goes to: what is answered, and that the cells stand with its entry.
use Rattle.std.proofs.Common.{◌≡◌, ℕ, ◌<◌, ◌≤◌, ◌&&◌, nat_lt, true, false, List, ◌∷◌, Option, None, Some, length, refl, sym, ap, ◌∙◌, subst, arith}
use Rattle.std.specs.Prelude.{slice_index_or, slice_set}
use Rattle.std.proofs.lemmas.Bool.{ltb-false}
use Rattle.std.proofs.lemmas.List.{length-set}
use Rattle.std.proofs.lemmas.Option.{slice_get_within}
use Rattle.std.specs.declared.cmp.Ord as ord
use Rattle.std.specs.declared.cmp.PartialEq as eq
use Rattle.std.specs.declared.cmp.PartialOrd as partial
use Rattle.index_feed.specs.Feed.{served}
use Rattle.txn_core.specs.declared.message.Message.{Message}
use Rattle.txn_core.specs.Indexing.{indexed}
use Rattle.txn_core.specs.Service.{Service, IsServiceLawful, Asked, Reply, Event, History}
use Rattle.txn_core.specs.Answers.{feed_answer}
use Rattle.txn_core.specs.Replay.{is_command}
use Rattle.txn_core.specs.Legal.{Allowed, IsAnswer, IsLegal, sent_to, state}
use Rattle.txn_core.specs.Cells.{of_cell}
use Rattle.txn_core.proofs.Basics.{none_some, some_is, true_false}
use Rattle.txn_core.proofs.Exports.{own_entries_answer}
use Rattle.index_changes.specs.Entries.{LocalEntries}
use Rattle.partition.specs.declared.cell.Partition.{Partition}
use Rattle.partition.specs.InStep.{StaysInStep}
use Rattle.partition.specs.Steps.{StepAnswers, StepStands, is_served}
use Rattle.control_cell.specs.declared.cell.ControlCell.{ControlCell}
use Rattle.control_cell.specs.Holding.{Answers, Holds, IsEntry, OthersLeaveIt, TakesAllowed, goes_to_control, is_of_control}
use Rattle.txn_replay.specs.declared.cells.Cells.{Cells}
use Rattle.txn_replay.specs.Copies.{is_about_item, is_copied, is_of_ledger}
use Rattle.txn_replay.specs.Standing.{AllStand, EachStands, IsBeside, Leads, StandsAs, Tells, TellsBeside}
use Rattle.txn_replay.proofs.Lists.{lent, one_changed}
use Rattle.txn_replay.proofs.Staying.{catalog_stays, others_stay, own_more}
use Rattle.txn_replay.proofs.Unmarked.{fed_by_none, peeked_below}

below_not : (m n : ℕ) → nat_lt m n ≡ false → n ≤ m
below_not m n e = ltb-false m n e

module _ {K V A F C D Q B : Type 0} (S : Service K V A F C D Q B) where
  -- what a partition serves is copied, but for pages
  pub copied :
      (k : ℕ) (m : Asked S) → is_served k m ≡ true → ((page : Q) → m ≡ Message.QueryPage page → ⊥)
      → ((page : Q) → m ≡ Message.ScanPage page → ⊥) → is_copied m ≡ true
  copied k (Message.Get key) yes' query scan = refl
  copied k (Message.Write action) yes' query scan = refl
  copied k (Message.Expire action) yes' query scan = refl
  copied k (Message.Prepare n stamp action) yes' query scan = refl
  copied k (Message.Apply n key) yes' query scan = refl
  copied k (Message.Release n key) yes' query scan = refl
  copied k (Message.ReadVersion key) yes' query scan = refl
  copied k (Message.ExpiredKeys cell limit) yes' query scan = refl
  copied k (Message.Pendings cell) yes' query scan = refl
  copied k (Message.PeekOut source) yes' query scan = refl
  copied k (Message.ApplyIndex source sequence index row_key after) yes' query scan = refl
  copied k (Message.Ack source sequence) yes' query scan = refl
  copied k (Message.QueryPage page) yes' query scan = absurd (query page refl)
  copied k (Message.ScanPage page) yes' query scan = absurd (scan page refl)
  copied k _ yes' query scan = absurd (cc)

  -- what is copied names an item, but for the messages of the feed and lists of held items
  pub about_item :
      (m : Asked S) → is_copied m ≡ true → ((cell : ℕ) → m ≡ Message.Pendings cell → ⊥) → ((cell limit : ℕ) → m ≡ Message.ExpiredKeys cell limit → ⊥)
      → ((source : ℕ) → m ≡ Message.PeekOut source → ⊥)
      → ((source sequence index : ℕ) (key : K) (after : Option V) → m ≡ Message.ApplyIndex source sequence index key after → ⊥)
      → ((source sequence : ℕ) → m ≡ Message.Ack source sequence → ⊥) → is_about_item m ≡ true
  about_item (Message.Get key) yes' pendings expired peek apply ack = refl
  about_item (Message.Write action) yes' pendings expired peek apply ack = refl
  about_item (Message.Expire action) yes' pendings expired peek apply ack = refl
  about_item (Message.Prepare n stamp action) yes' pendings expired peek apply ack = refl
  about_item (Message.Apply n key) yes' pendings expired peek apply ack = refl
  about_item (Message.Release n key) yes' pendings expired peek apply ack = refl
  about_item (Message.ReadVersion key) yes' pendings expired peek apply ack = refl
  about_item (Message.ExpiredKeys cell limit) yes' pendings expired peek apply ack = absurd (expired cell limit refl)
  about_item (Message.Pendings cell) yes' pendings expired peek apply ack = absurd (pendings cell refl)
  about_item (Message.PeekOut source) yes' pendings expired peek apply ack = absurd (peek source refl)
  about_item (Message.ApplyIndex source sequence index row_key after) yes' pendings expired peek apply ack =
      absurd (apply source sequence index row_key after refl)
  about_item (Message.Ack source sequence) yes' pendings expired peek apply ack = absurd (ack source sequence refl)
  about_item _ yes' pendings expired peek apply ack = absurd (cc)

  -- what goes to the control cell is about transactions, but for questions
  pub of_ledger : (m : Asked S) → goes_to_control S m ≡ true → ((question : Q) → m ≡ Message.Ask question → ⊥) → is_of_ledger m ≡ true
  of_ledger (Message.Begin token actions) yes' other = refl
  of_ledger (Message.Decide n commit reasons) yes' other = refl
  of_ledger (Message.Done n) yes' other = refl
  of_ledger (Message.Forget n) yes' other = refl
  of_ledger (Message.FateOf n) yes' other = refl
  of_ledger (Message.Recall n) yes' other = refl
  of_ledger Message.Unfinished yes' other = refl
  of_ledger (Message.Ask question) yes' other = absurd (other question refl)
  of_ledger _ yes' other = absurd (cc)

  -- where they go
  goes_there : (m : Asked S) → goes_to_control S m ≡ true → sent_to S m ≡ Some S.control
  goes_there (Message.Begin token actions) yes' = refl
  goes_there (Message.Decide n commit reasons) yes' = refl
  goes_there (Message.Done n) yes' = refl
  goes_there (Message.Forget n) yes' = refl
  goes_there (Message.FateOf n) yes' = refl
  goes_there (Message.Recall n) yes' = refl
  goes_there Message.Unfinished yes' = refl
  goes_there (Message.Ask question) yes' = refl
  goes_there _ yes' = absurd (cc)

  -- a question leaves the control cell as it is
  pub question_answers :
      {R : Type 0} (cell : ControlCell R K V A F C D Q B) (moment : ℕ) (m : Asked S) (question : Q) (a : Reply S) → m ≡ Message.Ask question
      → Answers S cell moment (Message.Ask question) a → Answers S cell moment m a
  question_answers {R} cell moment m question a is says = subst (λ z. Answers {R = R} S cell moment z a) (sym is) says

  pub question_takes :
      {R : Type 0} → OthersLeaveIt R S → (cell : ControlCell R K V A F C D Q B) (moment : ℕ) (m : Asked S) (question : Q) (a : Reply S)
      → m ≡ Message.Ask question → TakesAllowed S cell cell moment m a
  question_takes {R} leave cell moment m question a is = λ es e holds allowed entry.
      leave es e cell holds (ap (λ z. is_of_control S z e.answer) (entry.message_is ∙ is))

  -- a message to one cell is no command
  pub one_cell : (m : Asked S) (i : ℕ) → sent_to S m ≡ Some i → is_command m ≡ false
  one_cell (Message.Command d) i sent = absurd (cc)
  one_cell _ i sent = refl

  not_of_control : (m : Asked S) (a : Reply S) → goes_to_control S m ≡ false → is_command m ≡ false → is_of_control S m a ≡ false
  not_of_control (Message.Begin token actions) a no' one = absurd (cc)
  not_of_control (Message.Decide n commit reasons) a no' one = absurd (cc)
  not_of_control (Message.Done n) a no' one = absurd (cc)
  not_of_control (Message.Forget n) a no' one = absurd (cc)
  not_of_control (Message.Command d) a no' one = absurd (cc)
  not_of_control _ a no' one = refl

  -- a message that goes to no cell has no answer
  pub no_home :
      IsServiceLawful S → 1 ≤ S.control → (m : Asked S) → is_command m ≡ false → goes_to_control S m ≡ false
      → ((i : ℕ) → sent_to S m ≡ Some i → i < S.control → ⊥) → (es : History S) (moment : ℕ) (a : Reply S) → IsAnswer S es moment m a → ⊥
  no_home law some (Message.Get key) one no' none es moment a is = none (S.core.cell_of key) refl (law.cell_below some key)
  no_home law some (Message.Write action) one no' none es moment a is =
      none (S.core.cell_of (S.core.key_of action)) refl (law.cell_below some (S.core.key_of action))
  no_home law some (Message.Expire action) one no' none es moment a is =
      none (S.core.cell_of (S.core.key_of action)) refl (law.cell_below some (S.core.key_of action))
  no_home law some (Message.Prepare n stamp action) one no' none es moment a is =
      none (S.core.cell_of (S.core.key_of action)) refl (law.cell_below some (S.core.key_of action))
  no_home law some (Message.Apply n key) one no' none es moment a is = none (S.core.cell_of key) refl (law.cell_below some key)
  no_home law some (Message.Release n key) one no' none es moment a is = none (S.core.cell_of key) refl (law.cell_below some key)
  no_home law some (Message.ReadVersion key) one no' none es moment a is = none (S.core.cell_of key) refl (law.cell_below some key)
  no_home law some (Message.QueryPage page) one no' none es moment a is = none (S.page_cell page) refl (law.page_below some page)
  no_home law some (Message.ScanPage page) one no' none es moment a is = none (S.page_cell page) refl (law.page_below some page)
  no_home law some (Message.ExpiredKeys cell limit) one no' none es moment a is = none cell refl is.0
  no_home law some (Message.Pendings cell) one no' none es moment a is = none cell refl is.0
  no_home law some (Message.PeekOut source) one no' none es moment a is = none source refl is.0
  no_home law some (Message.ApplyIndex source sequence index row_key after) one no' none es moment a is =
      none (S.core.cell_of row_key) refl (law.cell_below some row_key)
  no_home law some (Message.Ack source sequence) one no' none es moment a is = none source refl is.0
  no_home law some (Message.Command d) one no' none es moment a is = absurd (cc)
  no_home law some _ one no' none es moment a is = absurd (cc)

  -- a change of a source that is no partition
  pub beside_fed :
      IsServiceLawful S → (c : C) (source s index : ℕ) (key : K) (after : Option V) (m : Asked S) → m ≡ Message.ApplyIndex source s index key after
      → (a : Reply S) → a ≡ feed_answer (nat_lt 0 s && served (indexed S.core S.index) c index (S.index.item_of key))
      → TellsBeside S c m (Some a)
  beside_fed law c source s index key after m m_is a given =
      subst (λ z. TellsBeside S c z (Some a)) (sym m_is)
      record {
        tells = λ es moment b legal is.
            fed_by_none S law es legal moment source s index key after (below_not source S.control b.unserved) c is a given;
        never = λ es pass b legal allowed.
            let below = peeked_below S es legal source s index key after allowed in
            let none = below_not source S.control b.unserved in
            omega arith;
      }

  nothing_beside : (m : Asked S) → ((source s index : ℕ) (key : K) (after : Option V) → m ≡ Message.ApplyIndex source s index key after → ⊥) → IsBeside S m → ⊥
  nothing_beside (Message.ApplyIndex source s index key after) other b = other source s index key after refl
  nothing_beside (Message.Get key) other b = true_false true refl b.unserved
  nothing_beside (Message.Write action) other b = true_false true refl b.unserved
  nothing_beside (Message.Expire action) other b = true_false true refl b.unserved
  nothing_beside (Message.Prepare n stamp action) other b = true_false true refl b.unserved
  nothing_beside (Message.Apply n key) other b = true_false true refl b.unserved
  nothing_beside (Message.Release n key) other b = true_false true refl b.unserved
  nothing_beside (Message.ReadVersion key) other b = true_false true refl b.unserved
  nothing_beside (Message.QueryPage page) other b = true_false true refl b.unserved
  nothing_beside (Message.ScanPage page) other b = true_false true refl b.unserved
  nothing_beside (Message.ExpiredKeys cell limit) other b =
      let none = below_not cell S.control b.unserved in
      let same = some_is cell b.to b.sent in
      let below = b.below in
      omega arith
  nothing_beside (Message.Pendings cell) other b =
      let none = below_not cell S.control b.unserved in
      let same = some_is cell b.to b.sent in
      let below = b.below in
      omega arith
  nothing_beside (Message.PeekOut source) other b =
      let none = below_not source S.control b.unserved in
      let same = some_is source b.to b.sent in
      let below = b.below in
      omega arith
  nothing_beside (Message.Ack source sequence) other b =
      let none = below_not source S.control b.unserved in
      let same = some_is source b.to b.sent in
      let below = b.below in
      omega arith
  nothing_beside (Message.Command d) other b = none_some None b.to refl b.sent
  nothing_beside _ other b = true_false true refl b.elsewhere

  pub beside_none :
      (c : C) (m : Asked S) → ((source s index : ℕ) (key : K) (after : Option V) → m ≡ Message.ApplyIndex source s index key after → ⊥)
      → TellsBeside S c m None
  beside_none c m other = record {
    tells = λ es moment b legal is a answer. nothing_beside m other b;
    never = λ es pass b legal allowed. nothing_beside m other b;
  }

module _
    {K V A F C D Q B N : Type 0} (S : Service K V A F C D Q B) (L : LocalEntries K V C N)
    {O : ord.Ghosts K} {E : eq.Ghosts K} {P : partial.Ghosts K} {X : ord.Ghosts N} {Y : eq.Ghosts N} {Z : partial.Ghosts N} where
  module _
      (cells : List (Partition K V C N O E P X Y Z)) (i : ℕ) (old : Partition K V C N O E P X Y Z) (below : i < length cells)
      (is : old ≡ slice_index_or cells i old) where
    -- the partition that is lent
    here : (es : History S) → EachStands S L cells es → StandsAs S L i old (of_cell i es)
    here es stand = stand.each i old (lent cells i old below is)

    partition_leads :
        (new : Partition K V C N O E P X Y Z) (es : History S) (e : Event S) (m : Asked S) (moment : ℕ) (a : Reply S) → sent_to S m ≡ Some i
        → IsEntry S moment m a e → IsLegal S (e ∷ es) → StepStands S old new m moment a → StaysInStep S L old new → EachStands S L cells es
        → EachStands S L (slice_set cells i new) (e ∷ es)
    partition_leads new es e m moment a sent entry legal leaves steps stand =
        let at : e.cell ≡ Some i = legal.1.cell ∙ (ap (λ z. sent_to S z) entry.message_is ∙ sent) in
        let own = here es stand in
        record {
          count = length-set cells i new ∙ stand.count;
          each =
              one_changed (λ k p. StandsAs S L k p (of_cell k (e ∷ es))) cells i new
              (λ k p there apart. subst (λ xs. StandsAs S L k p xs) (sym (others_stay S es e i k at apart)) (stand.each k p there))
              (subst (λ xs. StandsAs S L i new xs) (sym (own_more S es e i at))
              (leaves i (of_cell i es) e entry.message_is entry.answer_is entry.moment_is sent own.0, steps own.1));
        }

module _
    {R K V A F C D Q B N : Type 0} (S : Service K V A F C D Q B) (L : LocalEntries K V C N)
    {O : ord.Ghosts K} {E : eq.Ghosts K} {P : partial.Ghosts K} {X : ord.Ghosts N} {Y : eq.Ghosts N} {Z : partial.Ghosts N}
    (law : IsServiceLawful S) where
  module _ (cells : Cells (Partition K V C N O E P X Y Z) (ControlCell R K V A F C D Q B) C) (m : Asked S) (moment : ℕ) where
    -- where there is no answer, nothing is to be led to
    pub leads_nowhere : (new : Cells (Partition K V C N O E P X Y Z) (ControlCell R K V A F C D Q B) C) → Leads S L cells new m moment None
    leads_nowhere new = record { leads = λ es e a same entry legal stand. none_some None a refl same }

    pub tells_none :
        1 ≤ S.control → is_command m ≡ false → goes_to_control S m ≡ false → ((i : ℕ) → sent_to S m ≡ Some i → i < S.control → ⊥)
        → Tells S L cells m moment None
    tells_none some one no' none = record { tells = λ es legal stand a is. no_home S law some m one no' none es moment a is }

    module _ (a : Reply S) where
      this_entry : (b : Reply S) (e : Event S) → Some a ≡ Some b → IsEntry S moment m b e → IsEntry S moment m a e
      this_entry b e same entry = subst (λ x. IsEntry S moment m x e) (sym (some_is a b same)) entry

      -- the control cell
      pub control_tells : Answers S cells.control moment m a → Tells S L cells m moment (Some a)
      control_tells says = record { tells = λ es legal stand. says es stand.control }

      pub control_leads :
          goes_to_control S m ≡ true → (new : Cells (Partition K V C N O E P X Y Z) (ControlCell R K V A F C D Q B) C)
          → new.partitions ≡ cells.partitions → new.catalog ≡ cells.catalog → TakesAllowed S cells.control new.control moment m a
          → Leads S L cells new m moment (Some a)
      control_leads goes new partitions_are catalog_is takes = record {
        leads = λ es e b same entry legal stand. lead es e (this_entry b e same entry) legal stand;
      }
        where
          lead : (es : History S) (e : Event S) → IsEntry S moment m a e → IsLegal S (e ∷ es) → AllStand S L cells es → AllStand S L new (e ∷ es)
          lead es e entry legal stand =
              let at : e.cell ≡ Some S.control = legal.1.cell ∙ (ap (λ z. sent_to S z) entry.message_is ∙ goes_there S m goes) in
              let one : is_command e.message ≡ false = ap (λ z. is_command z) entry.message_is ∙ one_cell S m S.control (goes_there S m goes) in
              record {
                partitions =
                    subst (λ ps. EachStands S L ps.items (e ∷ es)) (sym partitions_are)
                    record {
                      count = stand.partitions.count;
                      each = λ i p there.
                          let below = slice_get_within cells.partitions.items i p there in
                          let many = stand.partitions.count in
                          subst (λ xs. StandsAs S L i p xs) (sym (others_stay S es e S.control i at (λ last. omega arith)))
                          (stand.partitions.each i p there);
                    };
                control = takes es e stand.control (subst (λ z. Allowed S es e.pass z) entry.message_is legal.1.allowed) entry;
                catalog = catalog_is ∙ (stand.catalog ∙ sym (catalog_stays S (state S es) e.moment e.message e.answer one));
              }

    module _
        (i : ℕ) (old : Partition K V C N O E P X Y Z) (below : i < length cells.partitions.items)
        (is : old ≡ slice_index_or cells.partitions.items i old) (sent : sent_to S m ≡ Some i) where
      -- a partition
      pub partition_tells : (a : Reply S) → StepAnswers S L old m moment a → Tells S L cells m moment (Some a)
      partition_tells a says = record {
        tells = λ es legal stand.
            let own = here S L cells.partitions.items i old below is es stand.partitions in
            (own_entries_answer S law es legal i moment m a sent).1 (says i (of_cell i es) sent own.0 own.1);
      }

      pub partitions_lead :
          OthersLeaveIt R S → goes_to_control S m ≡ false → (a : Reply S) (p : Partition K V C N O E P X Y Z)
          (new : Cells (Partition K V C N O E P X Y Z) (ControlCell R K V A F C D Q B) C)
          → new.partitions.items ≡ slice_set cells.partitions.items i p → new.control ≡ cells.control → new.catalog ≡ cells.catalog
          → StepStands S old p m moment a → StaysInStep S L old p → Leads S L cells new m moment (Some a)
      partitions_lead leave elsewhere a p new items_are control_is catalog_is leaves steps = record {
        leads = λ es e b same entry legal stand. lead es e (this_entry a b e same entry) legal stand;
      }
        where
          lead : (es : History S) (e : Event S) → IsEntry S moment m a e → IsLegal S (e ∷ es) → AllStand S L cells es → AllStand S L new (e ∷ es)
          lead es e entry legal stand =
              let one : is_command e.message ≡ false = ap (λ z. is_command z) entry.message_is ∙ one_cell S m i sent in
              let not' : goes_to_control S e.message ≡ false = ap (λ z. goes_to_control S z) entry.message_is ∙ elsewhere in
              record {
                partitions =
                    subst (λ ps. EachStands S L ps (e ∷ es)) (sym items_are)
                    (partition_leads S L cells.partitions.items i old below is p es e m moment a sent entry legal leaves steps stand.partitions);
                control =
                    subst (λ c. Holds S (e ∷ es) c) (sym control_is)
                    (leave es e cells.control stand.control (not_of_control S e.message e.answer not' one));
                catalog = catalog_is ∙ (stand.catalog ∙ sym (catalog_stays S (state S es) e.moment e.message e.answer one));
              }

      -- what it doesn't serve
      module _
          (elsewhere : goes_to_control S m ≡ false) (unserved : is_served old.partitions m ≡ false) (answer : Option (Reply S))
          (t : TellsBeside S cells.catalog m answer) where
        beside : (es : History S) → AllStand S L cells es → IsBeside S m
        beside es stand =
            let many = stand.partitions.count in
            record {
              to = i;
              sent = sent;
              below = omega arith;
              elsewhere = elsewhere;
              unserved = subst (λ k. is_served k m ≡ false) (here S L cells.partitions.items i old below is es stand.partitions).0.partitions unserved;
            }

        pub beside_tells : Tells S L cells m moment answer
        beside_tells = record { tells = λ es legal stand. t.tells es moment (beside es stand) legal stand.catalog }

        pub beside_leads : (new : Cells (Partition K V C N O E P X Y Z) (ControlCell R K V A F C D Q B) C) → Leads S L cells new m moment answer
        beside_leads new = record {
          leads = λ es e a same entry legal stand.
              absurd (t.never es e.pass (beside es stand) legal.0 (subst (λ z. Allowed S es e.pass z) entry.message_is legal.1.allowed));
        }
