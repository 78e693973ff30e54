-- What a try comes to, put together from what it found and what it was answered.
use Rattle.std.proofs.Common.{◌≡◌, ℕ, true, List, reverse, Option, None, Some, Result, refl, sym, ap, subst, ◌∙◌, inl, inr}
use Rattle.turnstile.specs.Passes.{PassView}
use Rattle.attr_value.specs.Tree.{Attributes}
use Rattle.item_keys.specs.ItemKey.{key_alone}
use Rattle.row_keys.specs.declared.row_key.RowKey.{RowKey}
use Rattle.row_keys.specs.Keys.{row_key}
use Rattle.table_schema.specs.declared.schema.Schema.{Schema}
use Rattle.table_request.specs.declared.request.Request.{Request}
use Rattle.table_request.specs.declared.request.Request.TheVariants as request
use Rattle.table_request.specs.declared.items.GetItem.{GetItem}
use Rattle.table_model.specs.declared.reply.Reply.{Reply}
use Rattle.table_model.specs.declared.reply.Reply.TheVariants.{Refused}
use Rattle.table_model.specs.declared.refusal.Refusal.{Refusal}
use Rattle.table_model.specs.declared.refusal.Refusal.TheVariants as refusal
use Rattle.table_model.specs.declared.refusal.Invalid.{Invalid}
use Rattle.table_model.specs.Database.{Database, in_table, at_key}
use Rattle.table_model.specs.Effect.{IsEffect}
use Rattle.table_model.specs.Reads.{told_read}
use Rattle.table_model.specs.Writes.{old_at}
use Rattle.cluster.specs.declared.step.StepError.{StepError}
use Rattle.txn_core.specs.declared.message.Message.{Message}
use Rattle.txn_core.specs.declared.answer.Answer.{Answer}
use Rattle.txn_core.specs.Legal.{IsAnswer, IsLegal}
use Rattle.txn_core.specs.Laws.{catalog_by, item_by, shown_by}
use Rattle.txn_core.proofs.Exports.{get_is_shown}
use Rattle.cell_model.specs.declared.answer.TableLook.{TableLook}
use Rattle.cell_model.specs.declared.key.CellKey.{CellKey}
use Rattle.cell_model.specs.declared.question.CatalogQuestion.TheVariants.{Look}
use Rattle.cell_model.specs.Actions.{ItemAction}
use Rattle.cell_model.specs.Catalogs.{numbered}
use Rattle.cell_model.specs.Keys.{table_of}
use Rattle.cell_model.specs.Service.{service}
use Rattle.cell_model.proofs.Lawful.{service_lawful}
use Rattle.table_history.specs.Entries.{TableAnswer, TableEvent}
use Rattle.table_history.specs.Standing.{StandsFor, HasTables, HasShown}
use Rattle.table_history.specs.CommandEffects.{HasEffect}
use Rattle.table_history.specs.WriteEffects.{StatesWrite, write_reply}
use Rattle.table_history.proofs.Named.{found_named, absent_named}
use Rattle.table_history.proofs.WriteEffects.{writes_are_effects}
use Rattle.cell_asks.specs.declared.asks.Got.{Got}
use Rattle.cell_asks.specs.declared.asks.Wrote.{Wrote}
use Rattle.cell_asks.specs.declared.tried.Tried.{Tried}
use Rattle.cell_asks.specs.Steps.{answered, One, past_of}
use Rattle.cell_asks.specs.Answers.{look_answer, got_answer, wrote_answer}
use Rattle.item_calls.specs.declared.place.Place.{Place}
use Rattle.item_calls.specs.Places.{item_at, place_told, IsKnown, LookRefuses}
use Rattle.item_calls.specs.Answers.{ReadAt, read_tried, WroteAt, WriteStops, tried_if, write_tried}
use Rattle.item_calls.specs.Items.{table_asked, IsReadAt, IsStated, RefusedByLook, IsReadTry, IsWriteTry, WriteGivesUp}
use Rattle.cell_asks.proofs.Trails.{vain_on, gives_up_on}
use Rattle.cell_asks.proofs.SameKeys.{same_key_alone}
use Rattle.cell_asks.proofs.Histories.{before_legal, is_answer, told_then, looked_none, looked_some, is_there, wrote_table, got_table, IsThatTable, that_table}
use Rattle.item_calls.proofs.Places.{row_refuses, key_behind}
use Rattle.item_calls.proofs.Requests.{IsRefusedFor, StatesAt, read_rows, no_conflict}

-- ---- refused by a Look

module _ (n : ℕ) (p : PassView TableEvent) (asked : Request) (rows : Schema → Result RowKey Invalid) (refuses : IsRefusedFor asked rows) where
  effect_is : (told : Option TableLook) (es : List TableEvent) (moment : ℕ) → IsAnswer (service n) es moment (Message.Ask (Look (table_asked asked))) (look_answer told)
      → (why : Refusal) → place_told (table_asked asked) rows told ≡ Place.Refused why
      → (db : Database) → StandsFor (catalog_by (service n) es) (item_by (service n) es) db → IsEffect db asked moment db (Refused why)
  effect_is None es moment answer why is db stands =
      let tables = (catalog_by (service n) es).tables in
      let absent = absent_named (item_by (service n) es) tables db.tables stands (table_asked asked) (looked_none n es (table_asked asked) moment answer) in
      let same : refusal.NoTable (table_asked asked) ≡ why = cc in
      subst (λ w. IsEffect db asked moment db (Refused w)) same (refuses.absent db moment absent)
  effect_is (Some look) es moment answer why is db stands =
      let tables = (catalog_by (service n) es).tables in
      let told = looked_some n es (table_asked asked) moment look answer in
      let found = found_named (item_by (service n) es) tables db.tables stands (table_asked asked) told.table told.is in
      let row = row_refuses look.number (rows look.schema) why is in
      subst (λ w. IsEffect db asked moment db (Refused w)) row.why_is
      (refuses.faulty db moment found.table found.is row.bad (ap rows (found.that.schema ∙ told.schema) ∙ row.is))

  pub refused_by_look : (why : Refusal) (q : PassView TableEvent) → LookRefuses n p (table_asked asked) rows why q → RefusedByLook n p asked (Refused why) q
  refused_by_look why q refused = record {
    told = refused.told;
    look = refused.look;
    why = why;
    reply_is = refl;
    is = λ db stands. effect_is refused.told (reverse (past_of refused.look)) p.moment (is_answer n p _ _ q refused.look) why refused.is db stands;
  }

-- ---- reads

module _ (n : ℕ) (p : PassView TableEvent) (r : GetItem) (key : CellKey) (mid : PassView TableEvent) (known : IsKnown n p r.table (read_rows r) key mid) (q : PassView TableEvent) where
  module _ (item : Option Attributes) (one : One n mid (Message.Get key) (Answer.Row item) q) where
    abbrev at : List TableEvent
    at = reverse (past_of one)

    its_table : IsThatTable n at r.table known.look
    its_table =
        let there = got_table n at mid.moment key item (is_answer n mid _ _ q one) in
        that_table n at (before_legal n mid _ _ q one) r.table known.look (told_then n mid _ _ q one r.table known.look known.told)
        (subst (λ k. (t : _) × (numbered (catalog_by (service n) at).tables k ≡ Some t)) (ap table_of known.is) there)

    of : IsReadAt n (past_of one) r key
    of =
        let t = its_table in
        let k = key_behind (key_alone known.look.schema known.look.schema.keys r.key) known.row known.row_is in
        record {
          table = t.table;
          there = t.there;
          name = t.name_is;
          key = k.key;
          key_is = same_key_alone known.look.schema t.table.schema t.that r.key ∙ k.is;
          is = known.is ∙ (λ i. item_at (sym t.number i) (sym k.row_is i));
        }

    shows : (db : Database) → HasShown n (past_of one) db → IsEffect db (request.GetItem r) p.moment db (told_read r item)
    unfolding its_table of
    shows db stands =
        let t = its_table in
        let o = of in
        let found = found_named (shown_by (service n) at) (catalog_by (service n) at).tables db.tables stands r.table t.table t.named_so in
        let shown = get_is_shown (service n) (service_lawful n) at (before_legal n mid _ _ q one) mid.moment key item (is_answer n mid _ _ q one) in
        sym (ap (λ x. in_table db r.table x (λ table. at_key db (key_alone table.schema table.schema.keys r.key) (λ k. (db, told_read r (old_at table k))))) found.is
        ∙ ap (λ x. at_key db x (λ k. (db, told_read r (old_at found.table k)))) (ap (λ s. key_alone s s.keys r.key) found.that.schema ∙ o.key_is)
        ∙ ap (λ x. (db, told_read r x)) (found.that.rows (row_key o.key) ∙ ap (shown_by (service n) at) (sym o.is) ∙ sym shown))

  pub read_try : (tried : Tried) → ReadAt n mid r key tried q → IsReadTry n p r tried q
  read_try tried read = subst (λ x. IsReadTry n p r x q) (sym read.is) (by_answer read.got read.one)
    where
      by_answer : (got : Got) → One n mid (Message.Get key) (got_answer got) q → IsReadTry n p r (read_tried r got) q
      by_answer (Got.Row item) one = inr (record {
        mid = mid;
        looked = known.looked;
        key = key;
        item = item;
        got = one;
        of = of item one;
        is = shows item one;
      })
      by_answer Got.Stale one = vain_on n p r.table mid known.looked (Message.Get key) Answer.Stale q one refl

-- ---- writes

module _ (n : ℕ) (p : PassView TableEvent) (asked : Request) (rows : Schema → Result RowKey Invalid) (act : CellKey → ItemAction) (states : StatesAt asked rows act)
    (key : CellKey) (mid : PassView TableEvent) (known : IsKnown n p (table_asked asked) rows key mid) (q : PassView TableEvent) where
  pub stated : (a : TableAnswer) (one : One n mid (Message.Write (act key)) a q) → is_there a ≡ true → IsStated n (past_of one) asked (act key)
  stated a one there =
      let at = reverse (past_of one) in
      let found = wrote_table n at mid.moment (act key) a (is_answer n mid _ _ q one) there in
      let t = that_table n at (before_legal n mid _ _ q one) (table_asked asked) known.look (told_then n mid _ _ q one (table_asked asked) known.look known.told)
      (subst (λ k. (t : _) × (numbered (catalog_by (service n) at).tables k ≡ Some t)) (ap table_of (states.on key ∙ known.is)) found) in
      let s = states.states known.look.schema t.table t.that t.name_is known.row known.row_is in
      let place : item_at t.table.number known.row ≡ key = (λ i. item_at (t.number i) known.row) ∙ sym known.is in
      record { table = t.table; there = t.there; key = s.0; states = subst (λ k. StatesWrite asked t.table s.0 (act k)) place s.1 }

  pub does : (a : TableAnswer) (one : One n mid (Message.Write (act key)) a q) → is_there a ≡ true → (reply : Reply) → write_reply asked a ≡ Some reply
      → (db : Database) → HasTables n (past_of one) db → HasEffect n (past_of one) (answered n mid (Message.Write (act key)) a) asked reply db
  does a one there reply told db stands =
      let s = stated a one there in
      writes_are_effects n (past_of one) (answered n mid (Message.Write (act key)) a) (subst (IsLegal (service n)) (ap reverse (sym one.adds.ends.is)) one.adds.legal)
      s.table s.there asked s.key (act key) s.states refl reply told db stands

  pub write_try : (tried : Tried) → WroteAt n mid (act key) (write_reply asked) tried q → IsWriteTry n p asked tried q
  write_try tried wrote = subst (λ x. IsWriteTry n p asked x q) (sym wrote.is) (by_answer wrote.wrote wrote.one)
    where
      by_answer : (w : Wrote) → One n mid (Message.Write (act key)) (wrote_answer w) q → IsWriteTry n p asked (write_tried (write_reply asked) w) q
      by_answer (Wrote.Written old new) one =
          let a : TableAnswer = Answer.Written old new in
          let r = states.replies a refl in
          subst (λ o. IsWriteTry n p asked (tried_if o) q) (sym r.1) (inr (record {
            mid = mid;
            looked = known.looked;
            action = act key;
            answer = a;
            wrote = one;
            stated = stated a one refl;
            is = does a one refl r.0 r.1;
            held = λ number conflict. absurd (no_conflict asked a number (r.1 ∙ ap Some conflict));
          }))
      by_answer (Wrote.CondFalse old) one =
          let a : TableAnswer = Answer.CondFalse old in
          let r = states.replies a refl in
          subst (λ o. IsWriteTry n p asked (tried_if o) q) (sym r.1) (inr (record {
            mid = mid;
            looked = known.looked;
            action = act key;
            answer = a;
            wrote = one;
            stated = stated a one refl;
            is = does a one refl r.0 r.1;
            held = λ number conflict. absurd (no_conflict asked a number (r.1 ∙ ap Some conflict));
          }))
      by_answer (Wrote.Invalid fault) one =
          let a : TableAnswer = Answer.Invalid fault in
          let r = states.replies a refl in
          subst (λ o. IsWriteTry n p asked (tried_if o) q) (sym r.1) (inr (record {
            mid = mid;
            looked = known.looked;
            action = act key;
            answer = a;
            wrote = one;
            stated = stated a one refl;
            is = does a one refl r.0 r.1;
            held = λ number conflict. absurd (no_conflict asked a number (r.1 ∙ ap Some conflict));
          }))
      by_answer (Wrote.Held number) one = inr (record {
        mid = mid;
        looked = known.looked;
        action = act key;
        answer = Answer.Held number;
        wrote = one;
        stated = stated (Answer.Held number) one refl;
        is = refl;
        held = λ other same. cc;
      })
      by_answer Wrote.Stale one = vain_on n p (table_asked asked) mid known.looked (Message.Write (act key)) Answer.Stale q one refl

  pub write_gives_up : (why : StepError) → WriteStops n mid (act key) why q → WriteGivesUp n p asked why q
  write_gives_up why (inl gives) = inl (gives_up_on n p (table_asked asked) mid known.looked why q gives)
  write_gives_up why (inr (why_is, made)) = inr (
    why_is,
    record {
      mid = mid;
      looked = known.looked;
      action = act key;
      old = made.old;
      new = made.new;
      wrote = made.one;
      stated = stated (Answer.Written made.old made.new) made.one refl;
    },
  )
