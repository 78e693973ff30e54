-- Legal histories: each entry has the answer that its cell gives, and nobody sends what the protocol forbids.
use Rattle.std.specs.Prelude.{◌≡◌, ◌≢◌, ◌⊎◌, ℕ, ◌<◌, ◌≤◌, Bool, true, false, ◌&&◌, nat_eq, nat_le, if◌then◌else◌, List, [], ◌∷◌, length, map, filter, take, not, All, Any, AllPairs, Option, None, Some, is_some}
use Rattle.std.specs.List.{list_any, list_all}
use Rattle.txn_core.specs.declared.reason.Reason.{Reason}
use Rattle.txn_core.specs.declared.message.Message.{Message}
use Rattle.txn_core.specs.declared.answer.Answer.{Answer}
use Rattle.txn_core.specs.declared.answer.HeldItem.{HeldItem}
use Rattle.txn_core.specs.declared.stamp.Stamp.{Stamp}
use Rattle.txn_core.specs.declared.outcome.Outcome.{Outcome}
use Rattle.txn_core.specs.declared.ruling.Ruling.{Ruling}
use Rattle.txn_core.specs.declared.ruling.Ruling.TheVariants.{Carries, Refuses}
use Rattle.txn_core.specs.Service.{Service, Asked, Reply, Event, History}
use Rattle.txn_core.specs.State.{State, holder, last, IsAmong, here, state_after}
use Rattle.txn_core.specs.Serial.{begun_stamp, begun_actions}
use Rattle.txn_core.specs.Answers.{get_answer, write_answer, expire_answer, prepare_answer, apply_answer, release_answer, version_answer, begin_answer, has_record, decide_answer, done_answer, forget_answer, fate_answer, recall_answer, unfinished, page_answer, out_answer, feed_answer, ack_answer}
use Rattle.index_feed.specs.declared.change.Change.{Change}
use Rattle.index_feed.specs.Feed.{Out, is_fed, out}
use Rattle.txn_core.specs.Indexing.{indexed}
use Rattle.txn_core.specs.Feeding.{change, has_sequence, feed_after, rows_for}
use Rattle.txn_core.specs.History.{is_accepted, reason_of, effects, Had, begins, commits, cancels, finishes, forgets, finds_no_table, is_own_begin, reasons_of, IsTimely, found_kept}

-- put before the first whose number is not less
abbrev pub placed_by : {X : Type 0} → (X → ℕ) → X → List X → List X
placed_by number x [] = x ∷ []
placed_by number x (y ∷ ys) = if nat_le (number x) (number y) then x ∷ (y ∷ ys) else y ∷ placed_by number x ys

-- these in the order of their numbers, those of one number as they stand
abbrev pub in_order_of : {X : Type 0} → (X → ℕ) → List X → List X
in_order_of number [] = []
in_order_of number (x ∷ xs) = placed_by number x (in_order_of number xs)

module _ {K V A F C D Q B : Type 0} (S : Service K V A F C D Q B) where
  -- the state after these entries
  abbrev pub state : History S → State K V A C
  state es = state_after S.core (effects es)

  -- of an item in a state: whether its table is there, who holds it, and the stamp at which it was changed last
  abbrev pub there_in : State K V A C → K → Bool
  there_in w k = S.core.there w.catalog k

  abbrev pub holder_in : State K V A C → K → Option ℕ
  holder_in w k = holder (w.spot k).pend

  abbrev pub last_in : State K V A C → K → Stamp
  last_in w k = last (here S.core w k) (w.spot k)

  -- what an action does there
  abbrev pub outcome_in : State K V A C → A → Outcome V F
  outcome_in w a = S.core.act w.catalog a (w.spot (S.core.key_of a)).row

  -- an item, where it is expired at a moment
  abbrev pub only_expired : C → K → ℕ → Option V → Option V
  only_expired c k moment None = None
  only_expired c k moment (Some v) = if S.core.expired c k v moment then Some v else None

  -- the item of a key with what it holds is expired at a moment, and no transaction holds it
  abbrev pub is_due : State K V A C → ℕ → K × V → Bool
  is_due w moment x = S.core.expired w.catalog x.0 x.1 moment && not (is_some (w.spot x.0).pend)

  -- the least number, in the first cell that has one, of those that hold an item of the command's table
  pub record IsInTheWay (w : State K V A C) (d : D) (n : ℕ) : Type 0 where
    pub item : K
    pub concerned : S.concerns d w.catalog item ≡ true
    pub holds : holder (w.spot item).pend ≡ Some n
    pub least :
        (q : K) (m : ℕ) → S.concerns d w.catalog q ≡ true → holder (w.spot q).pend ≡ Some m
        → (S.core.cell_of item < S.core.cell_of q) ⊎ ((S.core.cell_of item ≡ S.core.cell_of q) × (n ≤ m))

  -- no transaction holds an item of the command's table
  abbrev pub IsClear : State K V A C → D → Type 0
  IsClear w d = (q : K) → S.concerns d w.catalog q ≡ true → (w.spot q).pend ≡ None

  abbrev pub ruling_answer : Ruling B → Reply S
  ruling_answer (Carries told) = Answer.Changed told
  ruling_answer (Refuses told) = Answer.Refused told

  -- a command's answer: the refusal of the name or number; else Held; else what the catalog says
  abbrev pub IsRuled : State K V A C → D → ℕ → Option B → Reply S → Type 0
  IsRuled w d moment (Some told) a = a ≡ Answer.Refused told
  IsRuled w d moment None a =
      ((n : ℕ) × (a ≡ Answer.Held n) × IsInTheWay w d n)
      ⊎ ((a ≡ ruling_answer (S.rules d moment w.catalog)) × IsClear w d)

  -- the items of a cell that transactions hold, each once, with its holder
  pub record ArePendings (w : State K V A C) (cell : ℕ) (pendings : List (HeldItem K)) : Type 0 where
    pub each : All (λ p. (S.core.cell_of p.key ≡ cell) × (holder (w.spot p.key).pend ≡ Some p.number)) pendings
    pub all :
        (q : K) (n : ℕ) → S.core.cell_of q ≡ cell → holder (w.spot q).pend ≡ Some n
        → list_any (λ p. S.core.same p.key q) pendings ≡ true
    pub once : AllPairs (λ x y. S.core.same x.key y.key ≡ false) pendings

  abbrev pub IsPendingList : State K V A C → ℕ → Reply S → Type 0
  IsPendingList w cell (Answer.PendingList pendings) = ArePendings w cell pendings
  IsPendingList w cell _ = ⊥

  -- a page's answer, by the rows of its cell
  abbrev pub page_after : History S → Q → Reply S
  page_after es page =
      let c = (state es).catalog in
      page_answer (S.serves c page) (S.page c (rows_for S es (S.page_cell page) (S.page_index page)) page)

  -- the keys of those among these items that are expired and that no transaction holds, by the numbers of their tables
  abbrev pub due_among : State K V A C → ℕ → List (K × V) → List K
  due_among w moment rows = map (λ x. x.0) (in_order_of (λ x. S.core.table x.0) (filter (λ x. is_due w moment x) rows))

  -- of a cell's items, which come in the order of keys
  abbrev pub expired_keys : History S → ℕ → ℕ → List K
  expired_keys es cell moment = due_among (state es) moment (rows_for S es cell None)

  -- the first change in a source's outbox
  abbrev pub out_after : History S → ℕ → Option (Out K V)
  out_after es source = out (indexed S.core S.index) (feed_after S es) source

  -- a source's change is not applied yet, and its index is there
  abbrev pub feeds_after : History S → ℕ → ℕ → Change K V → Bool
  feeds_after es source sequence x = is_fed (indexed S.core S.index) (feed_after S es) source sequence x

  -- the answer that the cells give after the history
  abbrev pub IsAnswer : History S → ℕ → Asked S → Reply S → Type 0
  IsAnswer es moment (Message.Get key) a =
      let w = state es in a ≡ get_answer (there_in w key) (w.spot key).row
  IsAnswer es moment (Message.Write action) a =
      let w = state es in
      let k = S.core.key_of action in
      a ≡ write_answer (there_in w k) (holder_in w k) (w.spot k).row (outcome_in w action)
  IsAnswer es moment (Message.Expire action) a =
      let w = state es in
      let k = S.core.key_of action in
      let over = only_expired w.catalog k moment (w.spot k).row in
      a ≡ expire_answer (there_in w k) (holder_in w k) over (outcome_in w action)
  IsAnswer es moment (Message.Prepare n stamp action) a =
      let w = state es in
      let k = S.core.key_of action in
      a ≡ prepare_answer (there_in w k) (holder_in w k) n (last_in w k) stamp (w.spot k).row (outcome_in w action)
  IsAnswer es moment (Message.Apply n key) a = a ≡ apply_answer (holder_in (state es) key) n
  IsAnswer es moment (Message.Release n key) a = a ≡ release_answer (holder_in (state es) key) n
  IsAnswer es moment (Message.ReadVersion key) a =
      let w = state es in
      let s = w.spot key in
      a ≡ version_answer (there_in w key) s.row s.version (here S.core w key).gone (holder_in w key)
  IsAnswer es moment (Message.Begin token actions) a =
      let w = state es in
      let stamp : Stamp = record { moment = moment; number = w.ledger.next } in
      let there = list_all (λ x. there_in w (S.core.key_of x)) actions in
      a ≡ begin_answer S.same_actions there (found_kept es moment token) actions stamp
  IsAnswer es moment (Message.Decide n commit reasons) a =
      let l = (state es).ledger in a ≡ decide_answer (has_record l n) (l.fate n) commit
  IsAnswer es moment (Message.Done n) a = a ≡ done_answer (has_record (state es).ledger n)
  IsAnswer es moment (Message.Forget n) a = a ≡ forget_answer (has_record (state es).ledger n)
  IsAnswer es moment (Message.FateOf n) a =
      let l = (state es).ledger in a ≡ fate_answer (has_record l n) (l.fate n)
  IsAnswer es moment (Message.Recall n) a =
      let l = (state es).ledger in a ≡ recall_answer (has_record l n) (l.fate n) (l.stamp n) (l.actions n) (reasons_of es n)
  IsAnswer es moment Message.Unfinished a = a ≡ Answer.Numbers (unfinished (state es).ledger)
  IsAnswer es moment (Message.Ask question) a = a ≡ Answer.Told (S.tell (state es).catalog question)
  IsAnswer es moment (Message.QueryPage page) a = a ≡ page_after es page
  IsAnswer es moment (Message.ScanPage page) a = a ≡ page_after es page
  IsAnswer es moment (Message.ExpiredKeys cell limit) a =
      (cell < S.control) × (a ≡ Answer.ExpiredList (take limit (expired_keys es cell moment)))
  IsAnswer es moment (Message.Pendings cell) a = (cell < S.control) × IsPendingList (state es) cell a
  IsAnswer es moment (Message.PeekOut source) a =
      (source < S.control) × (a ≡ out_answer S.core.cell_of (out_after es source))
  IsAnswer es moment (Message.ApplyIndex source sequence index row_key after) a =
      a ≡ feed_answer (feeds_after es source sequence (change index row_key after))
  IsAnswer es moment (Message.Ack source sequence) a =
      (source < S.control) × (a ≡ ack_answer (has_sequence (out_after es source) sequence))
  IsAnswer es moment (Message.Command d) a =
      let w = state es in IsRuled w d moment (S.refuses d w.catalog) a

  -- a Prepare of the number on the item; it was accepted; an Apply of it there, and a Release
  abbrev pub prepares : ℕ → K → Asked S → Bool
  prepares n k (Message.Prepare m stamp action) = nat_eq m n && S.core.same (S.core.key_of action) k
  prepares n k _ = false

  abbrev pub accepts : ℕ → K → Asked S → Reply S → Bool
  accepts n k m a = prepares n k m && is_accepted a

  abbrev pub applies : ℕ → K → Asked S → Reply S → Bool
  applies n k (Message.Apply m key) a = nat_eq m n && S.core.same key k
  applies n k _ a = false

  abbrev pub releases : ℕ → K → Asked S → Reply S → Bool
  releases n k (Message.Release m key) a = nat_eq m n && S.core.same key k
  releases n k _ a = false

  -- an ApplyIndex of this change in a source's outbox
  abbrev pub feeds : ℕ → ℕ → Asked S → Reply S → Bool
  feeds source sequence (Message.ApplyIndex s n index row_key after) a = nat_eq s source && nat_eq n sequence
  feeds source sequence _ a = false

  -- a PeekOut of the source was answered with exactly this change
  abbrev pub WasPeeked : History S → ℕ → ℕ → ℕ → K → Option V → Type 0
  WasPeeked es source sequence index row_key after =
      Any (λ e. (e.message ≡ Message.PeekOut source) × (e.answer ≡ Answer.Out sequence index (S.core.cell_of row_key) row_key after)) es

  -- a Prepare of the action in the history was answered with this reason
  abbrev pub WasTold : History S → ℕ → A → Reason V F → Type 0
  WasTold es n action reason =
      Any (λ e. (prepares n (S.core.key_of action) e.message ≡ true) × (reason_of e.answer ≡ Some reason)) es

  -- each reason is one that a Prepare of its action was answered
  abbrev pub AreTold : History S → ℕ → List A → List (Reason V F) → Type 0
  AreTold es n [] [] = Unit {0}
  AreTold es n (action ∷ actions) (reason ∷ reasons) = WasTold es n action reason × AreTold es n actions reasons
  AreTold es n _ _ = ⊥

  -- a cancel has its cause: the reasons were told and one of them is a refusal; or a table was gone, and no reason is given
  abbrev pub HasCause : History S → ℕ → List A → List (Reason V F) → Type 0
  HasCause es n actions reasons =
      (AreTold es n actions reasons × Any (λ r. r ≢ Reason.None) reasons)
      ⊎ (Had (finds_no_table n) es × (length reasons ≡ length actions) × All (λ r. r ≡ Reason.None) reasons)

  -- this was told or sent of the number on the item of each of its actions
  abbrev pub HadOnAll : (K → Asked S → Reply S → Bool) → History S → ℕ → Type 0
  HadOnAll test es n = All (λ x. Had (test (S.core.key_of x)) es) (begun_actions (effects es) n)

  -- a decision's ground: every action was accepted, or there is a cause to cancel
  abbrev pub HasGround : History S → ℕ → Bool → List (Reason V F) → Type 0
  HasGround es n true reasons = HadOnAll (accepts n) es n
  HasGround es n false reasons = HasCause es n (begun_actions (effects es) n) reasons

  -- 1 to 100 actions, no two of them on one item
  abbrev pub BeginFits : List A → Type 0
  BeginFits actions =
      (1 ≤ length actions) × (length actions ≤ 100)
      × AllPairs (λ x y. S.core.same (S.core.key_of x) (S.core.key_of y) ≡ false) actions

  -- the action is the one on its item of those with which the number was begun
  abbrev pub IsActionOf : History S → ℕ → A → Type 0
  IsActionOf es n action = IsAmong S.core (begun_actions (effects es) n) action

  -- what may be sent after the history, by this pass
  abbrev pub Allowed : History S → ℕ → Asked S → Type 0
  Allowed es pass (Message.Begin token actions) = BeginFits actions
  -- a begun number, with its stamp and one of its actions
  Allowed es pass (Message.Prepare n stamp action) =
      Had (begins n) es × (stamp ≡ begun_stamp (effects es) n) × IsActionOf es n action
  Allowed es pass (Message.Decide n commit reasons) = Had (begins n) es × HasGround es n commit reasons
  -- after the commit
  Allowed es pass (Message.Apply n key) = Had (commits n) es
  -- after the cancel, or of a number that was forgotten
  Allowed es pass (Message.Release n key) = Had (cancels n) es ⊎ Had (forgets n) es
  -- after a commit an Apply of each action, after a cancel a Release
  Allowed es pass (Message.Done n) =
      Had (begins n) es
      × ((Had (commits n) es × HadOnAll (applies n) es n) ⊎ (Had (cancels n) es × HadOnAll (releases n) es n))
  -- after its Done, by the pass whose Begin drew it
  Allowed es pass (Message.Forget n) = Had (finishes n) es × (list_any (is_own_begin pass n) es ≡ true)
  -- after a PeekOut that showed this very change; after an ApplyIndex of it
  Allowed es pass (Message.ApplyIndex source sequence index row_key after) = WasPeeked es source sequence index row_key after
  Allowed es pass (Message.Ack source sequence) = Had (feeds source sequence) es
  Allowed es pass _ = Unit {0}

  -- where a message goes: to the cell of its key or its page, to the partition that it names, to the control cell, or to
  -- all cells
  abbrev pub sent_to : Asked S → Option ℕ
  sent_to (Message.Get key) = Some (S.core.cell_of key)
  sent_to (Message.Write action) = Some (S.core.cell_of (S.core.key_of action))
  sent_to (Message.Expire action) = Some (S.core.cell_of (S.core.key_of action))
  sent_to (Message.Prepare n stamp action) = Some (S.core.cell_of (S.core.key_of action))
  sent_to (Message.Apply n key) = Some (S.core.cell_of key)
  sent_to (Message.Release n key) = Some (S.core.cell_of key)
  sent_to (Message.ReadVersion key) = Some (S.core.cell_of key)
  sent_to (Message.QueryPage page) = Some (S.page_cell page)
  sent_to (Message.ScanPage page) = Some (S.page_cell page)
  sent_to (Message.ExpiredKeys cell limit) = Some cell
  sent_to (Message.Pendings cell) = Some cell
  sent_to (Message.PeekOut source) = Some source
  sent_to (Message.ApplyIndex source sequence index row_key after) = Some (S.core.cell_of row_key)
  sent_to (Message.Ack source sequence) = Some source
  sent_to (Message.Command d) = None
  sent_to _ = Some S.control

  -- an entry that may come after the history
  pub record Follows (es : History S) (e : Event S) : Type 0 where
    pub answer : IsAnswer es e.moment e.message e.answer
    pub allowed : Allowed es e.pass e.message
    pub cell : e.cell ≡ sent_to e.message
    pub timely : IsTimely es e.pass e.moment

  abbrev pub IsLegal : History S → Type 0
  IsLegal [] = Unit {0}
  IsLegal (e ∷ es) = IsLegal es × Follows es e
