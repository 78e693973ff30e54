-- Writes, one after another, and what each of them does.
use Rattle.std.proofs.Common.{◌≡◌, ℕ, suc, false, List, [], ◌∷◌, ◌++◌, append_assoc, length, length-append, map, zip, Result, reverse, refl, sym, ap, subst, ◌∙◌, inl, arith, Bool, true, Option, None, Some, is_some}
use Rattle.std.specs.List.{AllZip, flat_map}
use Rattle.std.proofs.lemmas.List.{append-nil, map-append}
use Rattle.attr_value.specs.Tree.{Attributes}
use Rattle.update_eval.specs.declared.fault.EvalFault.{EvalFault}
use Rattle.turnstile.specs.Passes.{PassView}
use Rattle.row_keys.specs.declared.row_key.RowKey.{RowKey}
use Rattle.table_schema.specs.declared.schema.Schema.{Schema}
use Rattle.txn_core.specs.declared.message.Message.{Message}
use Rattle.txn_core.specs.declared.answer.Answer.{Answer}
use Rattle.txn_core.specs.declared.outcome.Outcome.{Outcome}
use Rattle.txn_core.specs.declared.outcome.Outcome.TheVariants.{New, Unmet, Fails}
use Rattle.txn_core.specs.Answers.{write_answer}
use Rattle.txn_core.specs.Legal.{state}
use Rattle.txn_core.proofs.Exports.{catalog_is_serial}
use Rattle.cluster.specs.declared.step.StepError.{StepError}
use Rattle.cluster.specs.Counts.{Counts}
use Rattle.cluster.proofs.OwnEntries.{counts_none, counts_on}
use Rattle.table_request.specs.declared.request.Request.{Request}
use Rattle.table_request.specs.declared.request.Request.TheVariants as request
use Rattle.table_request.specs.declared.batches.TableWrites.{TableWrites}
use Rattle.table_request.specs.declared.batches.WriteRequest.{WriteRequest}
use Rattle.table_request.specs.declared.batches.WriteRequest.TheVariants as write
use Rattle.table_model.specs.declared.reply.Reply.TheVariants.{Refused}
use Rattle.table_model.specs.declared.refusal.Refusal.TheVariants as refusal
use Rattle.table_model.specs.declared.refusal.Invalid.{Invalid}
use Rattle.table_model.specs.Batches.{is_oversized}
use Rattle.cell_model.specs.declared.key.CellKey.{CellKey}
use Rattle.cell_model.specs.declared.catalog.CatalogTable.{CatalogTable}
use Rattle.cell_model.specs.Actions.{ItemAction}
use Rattle.cell_model.specs.Catalogs.{numbered}
use Rattle.cell_model.specs.Keys.{table_of}
use Rattle.cell_model.specs.Service.{service}
use Rattle.cell_model.proofs.Lawful.{service_lawful}
use Rattle.table_history.specs.Entries.{TableAnswer, TableEvent}
use Rattle.cell_asks.specs.declared.asks.Wrote.{Wrote}
use Rattle.cell_asks.specs.declared.looks.Looks.{Looks}
use Rattle.cell_asks.specs.Steps.{answered, One, past_of, Stops}
use Rattle.cell_asks.specs.Answers.{wrote_answer}
use Rattle.cell_asks.specs.Told.{AreTold}
use Rattle.cell_asks.proofs.Histories.{is_answer}
use Rattle.cell_asks.proofs.Trails.{one_counts, told_after, told_stops}
use Rattle.item_calls.specs.Places.{item_at, IsKnown}
use Rattle.item_calls.specs.Items.{table_asked}
use Rattle.item_calls.proofs.Places.{key_behind}
use Rattle.item_calls.proofs.Requests.{StatesAt, put_states, delete_states}
use Rattle.item_calls.proofs.Tries.{stated, does}
use Rattle.batch_calls.specs.Singles.{put_alone, delete_alone, writes_of, all_writes, key_written, action_alone}
use Rattle.batch_calls.specs.Writes.{IsActionOf, IsGone, IsDoneAlone, WritesOne, AreWritten}
use Rattle.batch_calls.specs.Steps.{actions_at, actions_among, WroteRows, WroteEach, WroteSome}
use Rattle.batch_calls.proofs.Small.{can_be, AreSmall}
use Rattle.batch_calls.proofs.Places.{PlaceKnown, places_on, known_now, rows_written, IsWriteAt}

-- ---- one write

none_there : (b : Bool) (holding : Option ℕ) (row : Option Attributes) (o : Outcome Attributes EvalFault) (a : TableAnswer) → a ≡ write_answer b holding row o
    → a ≡ Answer.Stale → b ≡ false
none_there false holding row o a is stale = refl
none_there true (Some k) row o a is stale = absurd (cc)
none_there true None row (New item) a is stale = absurd (cc)
none_there true None row Unmet a is stale = absurd (cc)
none_there true None row (Fails fault) a is stale = absurd (cc)

none_some : (o : Option CatalogTable) → is_some o ≡ false → o ≡ None
none_some None is = refl
none_some (Some table) is = absurd (cc)

is_gone : (n : ℕ) (p : PassView TableEvent) (action : ItemAction) (q : PassView TableEvent) (one : One n p (Message.Write action) Answer.Stale q)
    → IsGone n (past_of one) action
is_gone n p action q one =
    let es = reverse (past_of one) in
    let number = table_of action.key in
    let b = none_there _ _ _ _ Answer.Stale (is_answer n p (Message.Write action) Answer.Stale q one) refl in
    sym (ap (λ c. numbered c.tables number) (catalog_is_serial (service n) (service_lawful n) es))
    ∙ none_some (numbered (state (service n) es).catalog.tables number) b

module _ (n : ℕ) (p : PassView TableEvent) (asked : Request) (rows : Schema → Result RowKey Invalid) (act : CellKey → ItemAction) (states : StatesAt asked rows act)
    (key : CellKey) (known : IsKnown n p (table_asked asked) rows key p) (q : PassView TableEvent) where
  done_alone : (wrote : Wrote) (one : One n p (Message.Write (act key)) (wrote_answer wrote) q)
      → IsDoneAlone n (past_of one) (answered n p (Message.Write (act key)) (wrote_answer wrote)) asked (act key) wrote
  done_alone (Wrote.Written old new) one =
      let a : TableAnswer = Answer.Written old new in
      let r = states.replies a refl in
      (stated n p asked rows act states key p known q a one refl, (r.0, does n p asked rows act states key p known q a one refl r.0 r.1))
  done_alone (Wrote.Held number) one =
      (stated n p asked rows act states key p known q (Answer.Held number) one refl, (Refused (refusal.Conflict number), refl))
  done_alone (Wrote.CondFalse old) one =
      let a : TableAnswer = Answer.CondFalse old in
      let r = states.replies a refl in
      (stated n p asked rows act states key p known q a one refl, (r.0, does n p asked rows act states key p known q a one refl r.0 r.1))
  done_alone (Wrote.Invalid fault) one =
      let a : TableAnswer = Answer.Invalid fault in
      let r = states.replies a refl in
      (stated n p asked rows act states key p known q a one refl, (r.0, does n p asked rows act states key p known q a one refl r.0 r.1))
  done_alone Wrote.Stale one = is_gone n p (act key) q one

action_of : (es : List TableEvent) (name : List ℕ) (w : WriteRequest) (at : CellKey) → PlaceKnown es name (rows_written w) at
    → IsActionOf es name w (action_alone name w at)
action_of es name w at known =
    let k = key_behind (key_written known.look.schema w) known.row known.row_is in record {
      look = known.look;
      told = known.told;
      key = k.key;
      key_is = k.is;
      is = ap (action_alone name w) (known.is ∙ ap (item_at known.look.number) (sym k.row_is));
    }

-- what is sent at these places
abbrev pub actions_of : List (List ℕ × WriteRequest) → List CellKey → List ItemAction
actions_of ws ats = map (λ both. action_alone both.0.0 both.0.1 both.1) (zip ws ats)

module _ (n : ℕ) where
  one_alone : (p : PassView TableEvent) (name : List ℕ) (w : WriteRequest) (at : CellKey) → PlaceKnown (reverse p.front) name (rows_written w) at
      → is_oversized w ≡ false → (wrote : Wrote) (q : PassView TableEvent) → One n p (Message.Write (action_alone name w at)) (wrote_answer wrote) q → WritesOne n p name w wrote q
  one_alone p name (write.Put item) at known small wrote q one =
      let r = put_alone name item in record {
        action = action_alone name (write.Put item) at;
        of = action_of (reverse p.front) name (write.Put item) at known;
        one = one;
        can = can_be n p name (write.Put item) at small wrote q one;
        alone =
            done_alone n p (request.PutItem r) (rows_written (write.Put item)) (action_alone name (write.Put item)) (put_states r) at
            (known_now n p name (rows_written (write.Put item)) at known) q wrote one;
      }
  one_alone p name (write.Delete key) at known small wrote q one =
      let r = delete_alone name key in record {
        action = action_alone name (write.Delete key) at;
        of = action_of (reverse p.front) name (write.Delete key) at known;
        one = one;
        can = can_be n p name (write.Delete key) at small wrote q one;
        alone =
            done_alone n p (request.DeleteItem r) (rows_written (write.Delete key)) (action_alone name (write.Delete key)) (delete_states r) at
            (known_now n p name (rows_written (write.Delete key)) at known) q wrote one;
      }

  -- ---- one after another

  pub written : (ws : List (List ℕ × WriteRequest)) (p : PassView TableEvent) (ats : List CellKey) (wrotes : List Wrote) (q : PassView TableEvent)
      → AllZip (IsWriteAt (reverse p.front)) ws ats → AreSmall ws → WroteRows n p (actions_of ws ats) wrotes q → AreWritten n p ws wrotes q
  written ws p ats [] q known small is = is
  written [] p ats (wrote ∷ wrotes) q known small is = absurd is
  written (w ∷ ws) p [] (wrote ∷ wrotes) q known small is = absurd known
  written (w ∷ ws) p (at ∷ ats) (wrote ∷ wrotes) q known small is =
      let m = Message.Write (action_alone w.0 w.1 at) in
      let e = answered n p m (wrote_answer wrote) in (
        is.0,
        one_alone p w.0 w.1 at known.0 small.0 wrote is.0 is.1,
        written ws is.0 ats wrotes q
            (places_on n p (e ∷ []) 0 is.0 (one_counts n p m (wrote_answer wrote) is.0 is.1) (λ (x : List ℕ × WriteRequest). x.0) (λ x. rows_written x.1) ws ats known.1)
            small.1 is.2,
      )

  -- ---- as they are sent

  pub wrote_more : (p : PassView TableEvent) (acts : List ItemAction) (wrotes : List Wrote) (mid : PassView TableEvent) → length wrotes ≡ length acts
      → WroteRows n p acts wrotes mid → (a : ItemAction) (wrote : Wrote) (q : PassView TableEvent) → One n mid (Message.Write a) (wrote_answer wrote) q
      → WroteRows n p (acts ++ a ∷ []) (wrotes ++ wrote ∷ []) q
  wrote_more p [] [] mid same is a wrote q one = (q, subst (λ x. One n x (Message.Write a) (wrote_answer wrote) q) is one, refl)
  wrote_more p [] (x ∷ wrotes) mid same is a wrote q one = absurd is
  wrote_more p (x ∷ acts) [] mid same is a wrote q one = absurd (omega arith)
  wrote_more p (x ∷ acts) (y ∷ wrotes) mid same is a wrote q one = (is.0, is.1, wrote_more is.0 acts wrotes mid (omega arith) is.2 a wrote q one)

  -- whatever is sent behind
  wrote_behind : (p : PassView TableEvent) (acts : List ItemAction) (wrotes : List Wrote) (q : PassView TableEvent) → WroteRows n p acts wrotes q
      → (more : List ItemAction) → WroteRows n p (acts ++ more) wrotes q
  wrote_behind p acts [] q is more = is
  wrote_behind p [] (x ∷ wrotes) q is more = absurd is
  wrote_behind p (a ∷ acts) (x ∷ wrotes) q is more = (is.0, is.1, wrote_behind is.0 acts wrotes q is.2 more)

  -- so far these were sent, and the rest is left
  pub record WroteSoFar (p : PassView TableEvent) (actions rest : List ItemAction) (wrotes : List Wrote) (q : PassView TableEvent) : Type 0 where
    pub front : List ItemAction
    pub all : front ++ rest ≡ actions
    pub rows : WroteRows n p front wrotes q
    pub many : length wrotes ≡ length front

  pub wrote_none : (p : PassView TableEvent) (actions rest : List ItemAction) (wrotes : List Wrote) → rest ≡ actions → wrotes ≡ [] → WroteSoFar p actions rest wrotes p
  wrote_none p actions rest wrotes same none = subst (λ ws. WroteSoFar p actions rest ws p) (sym none) (record {
    front = [];
    all = same;
    rows = refl;
    many = refl;
  })

  -- memory is refused where no message is sent
  no_more : (q : PassView TableEvent) → Stops n q StepError.NoMemory q
  no_more q = record { counts = inl (counts_none (service n) q) }

  module _ (p : PassView TableEvent) (actions : List ItemAction) where
    pub some_none : WroteSome n p actions StepError.NoMemory p
    some_none = record { wrotes = []; after = p; rows = refl; stops = no_more p }

    module _ (a : ItemAction) (rest : List ItemAction) (wrotes : List Wrote) (mid : PassView TableEvent) (far : WroteSoFar p actions (a ∷ rest) wrotes mid) where
      pub some_stops : (why : StepError) (q : PassView TableEvent) → Stops n mid why q → WroteSome n p actions why q
      some_stops why q stops = record {
        wrotes = wrotes;
        after = mid;
        rows = subst (λ acts. WroteRows n p acts wrotes mid) far.all (wrote_behind p far.front wrotes mid far.rows (a ∷ rest));
        stops = stops;
      }

      module _ (wrote : Wrote) (q : PassView TableEvent) (one : One n mid (Message.Write a) (wrote_answer wrote) q) where
        pub wrote_on : (next : List Wrote) → next ≡ wrotes ++ wrote ∷ [] → WroteSoFar p actions rest next q
        wrote_on next is =
            let long = length-append wrotes (wrote ∷ []) in
            let far_long = length-append far.front (a ∷ []) in
            let many = far.many in
            subst (λ ws. WroteSoFar p actions rest ws q) (sym is) (record {
              front = far.front ++ a ∷ [];
              all = append_assoc far.front (a ∷ []) rest ∙ far.all;
              rows = wrote_more p far.front wrotes mid far.many far.rows a wrote q one;
              many = omega arith;
            })

        pub some_unkept : WroteSome n p actions StepError.NoMemory q
        some_unkept =
            let on = wrote_on (wrotes ++ wrote ∷ []) refl in record {
              wrotes = wrotes ++ wrote ∷ [];
              after = q;
              rows = subst (λ acts. WroteRows n p acts (wrotes ++ wrote ∷ []) q) on.all (wrote_behind p on.front (wrotes ++ wrote ∷ []) q on.rows rest);
              stops = no_more q;
            }

    pub wrote_each : (rest : List ItemAction) (wrotes : List Wrote) (q : PassView TableEvent) → WroteSoFar p actions rest wrotes q → rest ≡ []
        → WroteEach n p actions wrotes q
    wrote_each rest wrotes q far none =
        let all : far.front ≡ actions = sym (append-nil far.front) ∙ ap (λ r. far.front ++ r) (sym none) ∙ far.all in
        record { rows = subst (λ acts. WroteRows n p acts wrotes q) all far.rows; all = far.many ∙ ap length all }

    -- memory was refused for the reply
    pub some_untold : (wrotes : List Wrote) (q : PassView TableEvent) → WroteEach n p actions wrotes q → WroteSome n p actions StepError.NoMemory q
    some_untold wrotes q each = record { wrotes = wrotes; after = q; rows = each.rows; stops = no_more q }

  -- what they count
  record Wrotes (p q : PassView TableEvent) : Type 0 where
    own : List TableEvent
    counts : Counts (service n) p own 0 q

  wrote_counts : (p : PassView TableEvent) (acts : List ItemAction) (wrotes : List Wrote) (q : PassView TableEvent) → WroteRows n p acts wrotes q → Wrotes p q
  wrote_counts p acts [] q is = record {
    own = [];
    counts = subst (λ (z : PassView TableEvent). Counts (service n) p [] 0 z) (sym is) (counts_none (service n) p);
  }
  wrote_counts p [] (wrote ∷ wrotes) q is = absurd is
  wrote_counts p (a ∷ acts) (wrote ∷ wrotes) q is =
      let rest = wrote_counts is.0 acts wrotes q is.2 in
      let e = answered n p (Message.Write a) (wrote_answer wrote) in record {
        own = e ∷ rest.own;
        counts = counts_on (service n) p (e ∷ []) 0 is.0 rest.own 0 q (one_counts n p (Message.Write a) (wrote_answer wrote) is.0 is.1) rest.counts;
      }

  module _ (p : PassView TableEvent) (actions : List ItemAction) (looks : Looks) (told : AreTold (reverse p.front) looks) where
    pub told_each : (wrotes : List Wrote) (q : PassView TableEvent) → WroteEach n p actions wrotes q → AreTold (reverse q.front) looks
    told_each wrotes q each = let c = wrote_counts p actions wrotes q each.rows in told_after n p c.own 0 q c.counts looks told

    pub told_some : (why : StepError) (q : PassView TableEvent) → WroteSome n p actions why q → AreTold (reverse q.front) looks
    told_some why q some =
        let c = wrote_counts p actions some.wrotes some.after some.rows in
        told_stops n some.after why q some.stops looks (told_after n p c.own 0 some.after c.counts looks told)

-- ---- the actions of all tables

-- one more of a table
pub sent_more : (name : List ℕ) (old before new : List ItemAction) (both : List (WriteRequest × CellKey)) (w : WriteRequest) (at : CellKey) (a : ItemAction)
    → before ≡ old ++ map (λ one. action_alone name one.0 one.1) both → a ≡ action_alone name w at → new ≡ before ++ a ∷ []
    → new ≡ old ++ map (λ one. action_alone name one.0 one.1) (both ++ (w, at) ∷ [])
sent_more name old before new both w at a is this more =
    more ∙ (λ i. is i ++ this i ∷ []) ∙ append_assoc old (map (λ one. action_alone name one.0 one.1) both) (action_alone name w at ∷ [])
    ∙ ap (λ acts. old ++ acts) (sym (map-append (λ one. action_alone name one.0 one.1) both ((w, at) ∷ [])))

zip_both : {A B C : Type 0} (f : A × B → C) (R : A → B → Type 0) (xs : List A) (ys : List B) (us : List A) (vs : List B) → AllZip R xs ys
    → map f (zip (xs ++ us) (ys ++ vs)) ≡ map f (zip xs ys) ++ map f (zip us vs)
zip_both f R [] [] us vs all = refl
zip_both f R [] (y ∷ ys) us vs all = absurd all
zip_both f R (x ∷ xs) [] us vs all = absurd all
zip_both f R (x ∷ xs) (y ∷ ys) us vs all = ap (λ cs. f (x, y) ∷ cs) (zip_both f R xs ys us vs all.1)

of_table : (name : List ℕ) (ws : List WriteRequest) (ats : List CellKey) → actions_at name ws ats ≡ actions_of (map (λ w. (name, w)) ws) ats
of_table name [] ats = refl
of_table name (w ∷ ws) [] = refl
of_table name (w ∷ ws) (at ∷ ats) = ap (λ acts. action_alone name w at ∷ acts) (of_table name ws ats)

pub of_all : (R : List ℕ × WriteRequest → CellKey → Type 0) (ts : List TableWrites) (places : List (List CellKey))
    → AllZip (λ t mine. AllZip R (writes_of t) mine) ts places → actions_among ts places ≡ actions_of (all_writes ts) (flat_map (λ mine. mine) places)
of_all R [] [] all = refl
of_all R [] (mine ∷ places) all = absurd all
of_all R (t ∷ ts) [] all = absurd all
of_all R (t ∷ ts) (mine ∷ places) all =
    (λ i. of_table t.table t.writes mine i ++ of_all R ts places all.1 i)
    ∙ sym (zip_both (λ both. action_alone both.0.0 both.0.1 both.1) R (writes_of t) mine (all_writes ts) (flat_map (λ m. m) places) all.0)

-- of the same tables
pub among : (actions : List ItemAction) (lent ts : List TableWrites) (places : List (List CellKey)) → actions ≡ actions_among lent places → lent ≡ ts
    → actions ≡ actions_among ts places
among actions lent ts places is same = is ∙ ap (λ xs. actions_among xs places) same

pub as_many : (R : List ℕ × WriteRequest → CellKey → Type 0) (ws : List (List ℕ × WriteRequest)) (ats : List CellKey) → AllZip R ws ats → length (actions_of ws ats) ≡ length ws
as_many R [] [] all = refl
as_many R [] (at ∷ ats) all = absurd all
as_many R (w ∷ ws) [] all = absurd all
as_many R (w ∷ ws) (at ∷ ats) all = ap (λ k. suc k) (as_many R ws ats all.1)
