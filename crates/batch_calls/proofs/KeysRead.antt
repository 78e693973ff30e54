-- Gets, one after another; and what is told of the items that they find.
use Rattle.std.proofs.Common.{◌≡◌, ℕ, suc, ◌+◌, ◌-◌, ◌≤◌, ◌<◌, Bool, true, false, cond, List, [], ◌∷◌, ◌++◌, append_assoc, length, length-append, take, Option, None, Some, reverse, refl, sym, ap, subst, ◌∙◌, inl, inr, arith}
use Rattle.std.specs.Prelude.{nat_lt}
use Rattle.std.specs.List.{AllZip}
use Rattle.std.proofs.lemmas.List.{append-nil, nil_from_length, take-append-le}
use Rattle.attr_value.specs.Tree.{Attributes}
use Rattle.attr_value.specs.Sizes.{item_size}
use Rattle.turnstile.specs.Passes.{PassView}
use Rattle.txn_core.specs.declared.message.Message.{Message}
use Rattle.txn_core.specs.declared.answer.Answer.{Answer}
use Rattle.cluster.proofs.OwnEntries.{counts_on}
use Rattle.table_request.specs.declared.items.GetItem.{GetItem}
use Rattle.table_request.specs.declared.batches.BatchGet.{BatchGet}
use Rattle.table_model.specs.declared.reply.Reply.TheVariants.{BatchRead}
use Rattle.table_model.specs.Batches.{most_batch_bytes, read_count, unread}
use Rattle.table_model.specs.Consumed.{where_asked}
use Rattle.table_batches.specs.Reads.{found_among, used_among, read_of}
use Rattle.table_batches.proofs.Reading.{ends_at, goes_on, within}
use Rattle.cell_model.specs.declared.key.CellKey.{CellKey}
use Rattle.cell_model.specs.Service.{service}
use Rattle.table_history.specs.Entries.{TableEvent}
use Rattle.cluster.specs.declared.step.StepError.{StepError}
use Rattle.cell_asks.specs.declared.asks.Got.{Got}
use Rattle.cell_asks.specs.declared.looks.Looks.{Looks}
use Rattle.cell_asks.specs.declared.tried.Tried.{Tried}
use Rattle.table_model.specs.Reads.{told_read}
use Rattle.cell_asks.specs.Told.{AreTold}
use Rattle.cell_asks.specs.Steps.{answered, One, Stops, GivesUp, IsInVain}
use Rattle.cell_asks.proofs.Trails.{one_counts, told_after, in_vain, not_answered, not_told}
use Rattle.item_calls.proofs.Requests.{read_rows}
use Rattle.item_calls.specs.Items.{Reads}
use Rattle.item_calls.specs.Places.{IsKnown}
use Rattle.item_calls.proofs.Tries.{read_try}
use Rattle.batch_calls.specs.Batches.{AreGot}
use Rattle.batch_calls.specs.Steps.{GotRows, AddsItem, ReadEnds, GotAll, GotOrGone}
use Rattle.batch_calls.specs.declared.get.Reading.{Reading}
use Rattle.batch_calls.proofs.Looked.{Asked, none_asked_yet}
use Rattle.batch_calls.proofs.Vain.{told_asked, vain_behind, gives_behind}
use Rattle.batch_calls.proofs.Places.{PlaceKnown, places_on, known_now}

module _ (n : ℕ) where
  pub rows_more : (p : PassView TableEvent) (ats : List CellKey) (items : List (Option Attributes)) (mid : PassView TableEvent) → length items ≡ length ats
      → GotRows n p ats items mid → (at : CellKey) (item : Option Attributes) (q : PassView TableEvent) → One n mid (Message.Get at) (Answer.Row item) q
      → GotRows n p (ats ++ at ∷ []) (items ++ item ∷ []) q
  rows_more p [] [] mid same is at item q one = (q, subst (λ x. One n x (Message.Get at) (Answer.Row item) q) is one, refl)
  rows_more p [] (i ∷ items) mid same is at item q one = absurd is
  rows_more p (a ∷ ats) [] mid same is at item q one = absurd (omega arith)
  rows_more p (a ∷ ats) (i ∷ items) mid same is at item q one = (is.0, is.1, rows_more is.0 ats items mid (omega arith) is.2 at item q one)

  -- whatever keys are behind
  pub rows_behind : (p : PassView TableEvent) (ats : List CellKey) (items : List (Option Attributes)) (q : PassView TableEvent) → GotRows n p ats items q
      → (more : List CellKey) → GotRows n p (ats ++ more) items q
  rows_behind p ats [] q is more = is
  rows_behind p [] (i ∷ items) q is more = absurd is
  rows_behind p (a ∷ ats) (i ∷ items) q is more = (is.0, is.1, rows_behind is.0 ats items q is.2 more)

  pub gets_asked : (p : PassView TableEvent) (ats : List CellKey) (items : List (Option Attributes)) (q : PassView TableEvent) → GotRows n p ats items q → Asked n p q
  gets_asked p ats [] q is = none_asked_yet n p q is
  gets_asked p [] (i ∷ items) q is = absurd is
  gets_asked p (at ∷ ats) (item ∷ items) q is =
      let rest = gets_asked is.0 ats items q is.2 in
      let e = answered n p (Message.Get at) (Answer.Row item) in record {
        own = e ∷ rest.own;
        counts = counts_on (service n) p (e ∷ []) 0 is.0 rest.own 0 q (one_counts n p (Message.Get at) (Answer.Row item) is.0 is.1) rest.counts;
        nothing = rest.nothing;
      }

  -- ---- key by key

  -- so far these were read, and the rest is left
  pub record ReadSoFar (p : PassView TableEvent) (ats rest : List CellKey) (reading : Reading) (q : PassView TableEvent) : Type 0 where
    pub front : List CellKey
    pub all : front ++ rest ≡ ats
    pub rows : GotRows n p front reading.items q
    pub many : length reading.items ≡ length front
    pub counted : (more : List (Option Attributes)) → read_count most_batch_bytes (reading.items ++ more) ≡ length reading.items + read_count reading.room more
    pub few : reading.room ≤ most_batch_bytes

  pub read_none : (p : PassView TableEvent) (ats rest : List CellKey) → rest ≡ ats → ReadSoFar p ats rest (record { items = []; room = most_batch_bytes }) p
  read_none p ats rest same = record {
    front = [];
    all = same;
    rows = refl;
    many = refl;
    counted = λ more. omega arith;
    few = omega arith;
  }

  module _ (p : PassView TableEvent) (ats : List CellKey) (at : CellKey) (rest : List CellKey) (reading : Reading) (mid : PassView TableEvent)
      (far : ReadSoFar p ats (at ∷ rest) reading mid) (item : Option Attributes) (q : PassView TableEvent) (one : One n mid (Message.Get at) (Answer.Row item) q) (next : Reading) where
    rows_now : GotRows n p (far.front ++ at ∷ []) (reading.items ++ item ∷ []) q
    rows_now = rows_more p far.front reading.items mid far.many far.rows at item q one

    pub read_more : AddsItem item true reading next → ReadSoFar p ats rest next q
    unfolding rows_now
    read_more adds =
        let long = length-append reading.items (item ∷ []) in
        let far_long = length-append far.front (at ∷ []) in
        let many = far.many in
        subst (λ r. ReadSoFar p ats rest r q) (sym adds.1) (record {
          front = far.front ++ at ∷ [];
          all = append_assoc far.front (at ∷ []) rest ∙ far.all;
          rows = rows_now;
          many = omega arith;
          counted = λ more.
              let first = ap (read_count most_batch_bytes) (append_assoc reading.items (item ∷ []) more) ∙ far.counted (item ∷ more) in
              let second = goes_on reading.room item more adds.0 far.few in
              omega arith;
          few = let h = far.few in omega arith;
        })

    pub read_full : AddsItem item false reading next → GotAll n p ats next.items q
    unfolding rows_now
    read_full adds =
        let long = length-append reading.items (item ∷ []) in
        let counted = far.counted (item ∷ []) in
        let none = ends_at reading.room item [] adds.0 in
        subst (λ items. GotAll n p ats items q) (sym adds.1) (record {
          rows =
              subst (λ all. GotRows n p all (reading.items ++ item ∷ []) q) (append_assoc far.front (at ∷ []) rest ∙ far.all)
              (rows_behind p (far.front ++ at ∷ []) (reading.items ++ item ∷ []) q rows_now rest);
          last = omega arith;
          ends = inr (omega arith);
        })

  pub read_to_end : (p : PassView TableEvent) (ats rest : List CellKey) (reading : Reading) (q : PassView TableEvent) → ReadSoFar p ats rest reading q → rest ≡ []
      → GotAll n p ats reading.items q
  read_to_end p ats rest reading q far none =
      let all : far.front ≡ ats = sym (append-nil far.front) ∙ ap (λ r. far.front ++ r) (sym none) ∙ far.all in
      let counted = ap (read_count most_batch_bytes) (sym (append-nil reading.items)) ∙ far.counted [] in record {
        rows = subst (λ fs. GotRows n p fs reading.items q) all far.rows;
        last = omega arith;
        ends = inl (far.many ∙ ap length all);
      }

  -- ---- the items of the request

  read_alone : (p : PassView TableEvent) (r : GetItem) (at : CellKey) (item : Option Attributes) (q : PassView TableEvent) → IsKnown n p r.table (read_rows r) at p
      → One n p (Message.Get at) (Answer.Row item) q → Reads n p r (told_read r item) q
  read_alone p r at item q known one =
      elim (read_try n p r at p known q (Tried.Reply (told_read r item)) (record { got = Got.Row item; one = one; is = refl })) [
        | inl refused ↦ let e = refused.reply_is in absurd (cc)
        | inr reads ↦ reads
      ]

  pub gots : (rs : List GetItem) (p : PassView TableEvent) (ats : List CellKey) (items : List (Option Attributes)) (q : PassView TableEvent)
      → AllZip (λ r at. PlaceKnown (reverse p.front) r.table (read_rows r) at) rs ats → GotRows n p ats items q → AreGot n p rs items q
  gots rs p ats [] q known is = is
  gots [] p [] (item ∷ items) q known is = absurd is
  gots [] p (at ∷ ats) (item ∷ items) q known is = absurd known
  gots (r ∷ rs) p [] (item ∷ items) q known is = absurd is
  gots (r ∷ rs) p (at ∷ ats) (item ∷ items) q known is =
      let e = answered n p (Message.Get at) (Answer.Row item) in (
        is.0,
        record { at = at; got = is.1; alone = read_alone p r at item is.0 (known_now n p r.table (read_rows r) at known.0) is.1 },
        gots rs is.0 ats items q
            (places_on n p (e ∷ []) 0 is.0 (one_counts n p (Message.Get at) (Answer.Row item) is.0 is.1) (λ (x : GetItem). x.table) read_rows rs ats known.1)
            is.2,
      )

-- ---- the reply

-- what is behind the first item without room is not counted
over_stays : (room : ℕ) (items more : List (Option Attributes)) → read_count room items < length items → read_count room (items ++ more) ≡ read_count room items
over_stays room [] more over = absurd (omega arith)
over_stays room (None ∷ items) more over = ap (λ k. suc k) (over_stays room items more (omega arith))
over_stays room (Some item ∷ items) more over =
    either (nat_lt room (item_size item)) (read_count (room - item_size item) (items ++ more)) (read_count (room - item_size item) items) (length items)
    (λ fewer. over_stays (room - item_size item) items more fewer) over
  where
    either : (b : Bool) (k m l : ℕ) → (m < l → k ≡ m) → cond b 0 (suc m) < suc l → cond b 0 (suc k) ≡ cond b 0 (suc m)
    either true k m l same over = refl
    either false k m l same over = ap (λ j. suc j) (same (omega arith))

-- the reply is that to all items, whatever those behind are
pub reads_all : (r : BatchGet) (ats : List CellKey) (items : List (Option Attributes)) → ReadEnds ats items
    → (more : List (Option Attributes)) → length (items ++ more) ≡ length ats → read_of r.capacity r.tables items ≡ read_of r.capacity r.tables (items ++ more)
reads_all r ats items (inl all) more many =
    let long = length-append items more in
    let short : length more ≡ 0 = omega arith in
    let none : more ≡ [] = nil_from_length more short in
    ap (read_of r.capacity r.tables) (sym (ap (λ xs. items ++ xs) none ∙ append-nil items))
reads_all r ats items (inr over) more many =
    let count = over_stays most_batch_bytes items more over in
    let few = within most_batch_bytes items in
    let front : take (read_count most_batch_bytes items) (items ++ more) ≡ take (read_count most_batch_bytes items) items =
    take-append-le (read_count most_batch_bytes items) items more few in
    let ts = r.tables in
    sym ((λ i. (let k = count i in BatchRead (found_among ts (take k (items ++ more))) (unread k ts) (where_asked r.capacity (used_among ts (take k (items ++ more))))))
    ∙ (λ i. BatchRead (found_among ts (front i)) (unread (read_count most_batch_bytes items) ts) (where_asked r.capacity (used_among ts (front i)))))

-- ---- what holds behind the Gets

module _ (n : ℕ) (p : PassView TableEvent) (ats : List CellKey) where
  pub read_told : (items : Option (List (Option Attributes))) (q : PassView TableEvent) → GotOrGone n p ats items q → (looks : Looks) → AreTold (reverse p.front) looks
      → AreTold (reverse q.front) looks
  read_told None q vain looks told = told_after n p vain.own 0 q vain.counts looks told
  read_told (Some items) q got looks told = told_asked n p q (gets_asked n p ats items q got.rows) looks told

  -- memory was refused for the reply
  pub read_stops : (items : Option (List (Option Attributes))) (q : PassView TableEvent) → GotOrGone n p ats items q → GivesUp n p StepError.NoMemory q
  read_stops None q vain = record { own = vain.own; counts = inl vain.counts; nothing = vain.nothing }
  read_stops (Some items) q got =
      let asked = gets_asked n p ats items q got.rows in
      record { own = asked.own; counts = inl asked.counts; nothing = asked.nothing }

  -- a Get was not answered, memory was refused behind one, or a table was gone
  module _ (rest : List CellKey) (reading : Reading) (mid : PassView TableEvent) (far : ReadSoFar n p ats rest reading mid) where
    pub read_cut : (why : StepError) (q : PassView TableEvent) → Stops n mid why q → GivesUp n p why q
    read_cut why q stops = gives_behind n p mid (gets_asked n p far.front reading.items mid far.rows) why q (not_answered n mid why q stops)

    pub read_gone : (at : CellKey) (q : PassView TableEvent) → One n mid (Message.Get at) Answer.Stale q → IsInVain n p q
    read_gone at q one =
        let e = answered n mid (Message.Get at) Answer.Stale in
        vain_behind n p mid (gets_asked n p far.front reading.items mid far.rows) q
        (in_vain n mid (e ∷ []) q (one_counts n mid (Message.Get at) Answer.Stale q one) refl (omega arith))

    pub read_unkept : (at : CellKey) (item : Option Attributes) (q : PassView TableEvent) → One n mid (Message.Get at) (Answer.Row item) q → GivesUp n p StepError.NoMemory q
    read_unkept at item q one =
        gives_behind n p mid (gets_asked n p far.front reading.items mid far.rows) StepError.NoMemory q (not_told n mid (Message.Get at) (Answer.Row item) q one refl)
