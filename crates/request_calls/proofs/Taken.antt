-- What the tables took at a commit, every database that had them accepts.
use Rattle.std.specs.List.{list_all, AllByRecursion, AllZip}
use Rattle.std.proofs.Common.{◌≡◌, ◌⊎◌, inl, inr, ℕ, true, List, [], ◌∷◌, ◌++◌, Option, None, Some, is_some, option_map, refl, sym, ap, ◌∙◌, subst, subst₂, append_assoc}
use Rattle.std.proofs.lemmas.Bool.{and_from}
use Rattle.std.proofs.lemmas.List.{reverse-reverse}
use Rattle.attr_value.specs.Tree.{Attributes}
use Rattle.table_schema.specs.declared.schema.Schema.{Schema}
use Rattle.table_request.specs.declared.transactions.ActionChange.{ActionChange}
use Rattle.table_request.specs.declared.transactions.ActionChange.TheVariants as change
use Rattle.table_request.specs.declared.transactions.TransactAction.{TransactAction}
use Rattle.table_model.specs.Batches.{place_if}
use Rattle.table_model.specs.Database.{Database, table_named}
use Rattle.table_model.specs.Outcome.{ItemOutcome, becomes, is_false, is_faulty}
use Rattle.table_model.specs.Transactions as database
use Rattle.table_model.specs.Writes.{shown_if}
use Rattle.table_model.specs.declared.refusal.Reason.{Reason as ToldReason}
use Rattle.table_model.specs.declared.refusal.Reason.TheVariants as told
use Rattle.update_eval.specs.declared.fault.EvalFault.{EvalFault}
use Rattle.txn_core.specs.declared.message.Message.{Message}
use Rattle.txn_core.specs.declared.answer.Answer.{Answer}
use Rattle.txn_core.specs.declared.outcome.Outcome.TheVariants.{New, Unmet, Fails}
use Rattle.txn_core.specs.declared.reason.Reason.{Reason}
use Rattle.txn_core.specs.declared.stamp.Stamp.{Stamp}
use Rattle.txn_core.specs.Laws.{catalog_by, item_by, IsCause, HadThisCause, HadCauses}
use Rattle.txn_core.specs.Legal.{IsAnswer, IsLegal, state}
use Rattle.txn_core.proofs.Exports.{catalog_is_serial, follows_at, legal_before}
use Rattle.cell_model.specs.declared.answer.CatalogAnswer.{CatalogAnswer}
use Rattle.cell_model.specs.declared.answer.TableLook.{TableLook}
use Rattle.cell_model.specs.declared.catalog.CatalogTable.{CatalogTable}
use Rattle.cell_model.specs.declared.key.CellKey.{CellKey}
use Rattle.cell_model.specs.declared.question.CatalogQuestion.TheVariants.{Look}
use Rattle.cell_model.specs.Actions.{ItemAction, act, outcome_in, outcome_of, stated_action}
use Rattle.cell_model.specs.Catalogs.{named, numbered}
use Rattle.cell_model.specs.Keys.{table_of}
use Rattle.cell_model.specs.Pages.{told_table}
use Rattle.cell_model.specs.Service.{service}
use Rattle.cell_model.specs.Told.{told_look}
use Rattle.cell_model.proofs.Lawful.{service_lawful}
use Rattle.cell_model.proofs.Lookups.{own_number, some_is}
use Rattle.cell_model.proofs.Ties.{act_as_the_database}
use Rattle.table_history.specs.Entries.{TableAnswer, TableEvent}
use Rattle.table_history.specs.SameTable.{IsOfThatTable}
use Rattle.table_history.specs.Standing.{StandsFor}
use Rattle.table_history.proofs.Found.{name_of_numbered, number_of_named, own_name}
use Rattle.table_history.proofs.KeptHistories.{catalogs_are_kept}
use Rattle.table_history.proofs.Named.{found_named}
use Rattle.table_history.proofs.NumbersStay.{numbers_stay}
use Rattle.cell_asks.specs.Answers.{look_answer}
use Rattle.cell_asks.specs.Told.{WasTold}
use Rattle.cell_asks.proofs.Histories.{that_table}
use Rattle.cell_asks.proofs.Kept.{told_later}
use Rattle.cell_asks.proofs.SameKeys.{same_key_in, same_key_alone}
use Rattle.transact_calls.specs.Ends.{reason_told}
use Rattle.transact_calls.specs.Stated.{item_at, IsStated}
use Rattle.transact_calls.proofs.Looking.{told_numbered}
use Rattle.request_calls.specs.Complete.{AreTaken, IsGiven, AreGiven}
use Rattle.request_calls.proofs.Causes.{Takes, TakesAll}

-- ---- a table at a point, by a Look before it or after it

-- of two points of a history the one is before the other
splits : (newer older others : List TableEvent) (e : TableEvent) (rest : List TableEvent) → newer ++ older ≡ others ++ e ∷ rest
    → ((between : List TableEvent) × (between ++ e ∷ rest ≡ older)) ⊎ ((between : List TableEvent) × (between ++ older ≡ rest))
splits [] older others e rest is = inl (others, sym is)
splits (x ∷ newer) older [] e rest is = inr (newer, (let tail : newer ++ older ≡ rest = cc in tail))
splits (x ∷ newer) older (y ∷ others) e rest is = splits newer older others e rest (let tail : newer ++ older ≡ others ++ e ∷ rest = cc in tail)

-- the table is there under the number and the name that a Look told, and makes the same keys
record IsThere (n : ℕ) (es : List TableEvent) (name : List ℕ) (look : TableLook) : Type 0 where
  table : CatalogTable
  found : numbered (catalog_by (service n) es).tables look.number ≡ Some table
  named_so : named (catalog_by (service n) es).tables name ≡ Some table
  keys : (c : ActionChange) → database.change_key table.schema c ≡ database.change_key look.schema c

change_alike : (old new : Schema) → IsOfThatTable old new → (c : ActionChange) → database.change_key new c ≡ database.change_key old c
change_alike old new that (change.Put item) = same_key_in old new that item
change_alike old new that (change.Update key update) = same_key_alone old new that key
change_alike old new that (change.Delete key) = same_key_alone old new that key
change_alike old new that (change.Check key) = same_key_alone old new that key

told_parts : (x y : CatalogAnswer) → (let a : TableAnswer = Answer.Told x in a) ≡ Answer.Told y → x ≡ y
told_parts x y e = cc

module _ (n : ℕ) (name : List ℕ) (look : TableLook) where
  told_before : (es : List TableEvent) → IsLegal (service n) es → WasTold es name look → (t : CatalogTable)
      → numbered (catalog_by (service n) es).tables look.number ≡ Some t → IsThere n es name look
  told_before es legal told t found =
      let that = that_table n es legal name look told (t, found) in
      record {
        table = that.table;
        found = ap (numbered (catalog_by (service n) es).tables) (sym that.number) ∙ that.there;
        named_so = that.named_so;
        keys = change_alike look.schema that.table.schema that.that;
      }

  told_after : (between es : List TableEvent) → IsLegal (service n) (between ++ es) → (moment : ℕ)
      → IsAnswer (service n) (between ++ es) moment (Message.Ask (Look name)) (look_answer (Some look)) → (t : CatalogTable)
      → numbered (catalog_by (service n) es).tables look.number ≡ Some t → IsThere n es name look
  told_after between es legal moment answer t found =
      let here = (catalog_by (service n) es).tables in
      let later = (catalog_by (service n) (between ++ es)).tables in
      let catalogs = catalog_is_serial (service n) (service_lawful n) (between ++ es) in
      let told : told_look (Some look) ≡ told_table (named (state (service n) (between ++ es)).catalog.tables name) = told_parts _ _ answer in
      let (u, is, number, schema) = told_numbered look (named (state (service n) (between ++ es)).catalog.tables name) told in
      let named_later : named later name ≡ Some u = sym (ap (λ c. named c.tables name) catalogs) ∙ is in
      let at_later = number_of_named later name u (catalogs_are_kept n (between ++ es) legal).apart named_later in
      let same_number : u.number ≡ t.number = number ∙ sym (own_number here look.number t found) in
      let named_here = name_of_numbered here look.number t (catalogs_are_kept n es (legal_before (service n) between es legal)).ordered found in
      let still = numbers_stay n between es legal t.schema.name t named_here u (ap (numbered later) (sym same_number) ∙ at_later) in
      let same_name : t.schema.name ≡ name = sym still.that.name ∙ own_name later name u named_later in
      record {
        table = t;
        found = found;
        named_so = subst (λ x. named here x ≡ Some t) same_name named_here;
        keys = λ c. sym (change_alike t.schema u.schema still.that c) ∙ ap (λ s. database.change_key s c) schema;
      }

  -- wherever in the history the Look is
  is_there : (newer older : List TableEvent) → IsLegal (service n) (newer ++ older) → WasTold (newer ++ older) name look
      → is_some (numbered (catalog_by (service n) older).tables look.number) ≡ true → IsThere n older name look
  is_there newer older legal told there = by_order (splits newer older told.newer told.entry told.older (sym told.is))
    where
      t : (x : CatalogTable) × (numbered (catalog_by (service n) older).tables look.number ≡ Some x)
      t = some_is (numbered (catalog_by (service n) older).tables look.number) there

      by_order : ((between : List TableEvent) × (between ++ told.entry ∷ told.older ≡ older)) ⊎ ((between : List TableEvent) × (between ++ older ≡ told.older))
          → IsThere n older name look
      by_order (inl (between, is)) =
          told_before older (legal_before (service n) newer older legal)
          (record { newer = between; entry = told.entry; older = told.older; is = is; message = told.message; answer = told.answer }) t.0 t.1
      by_order (inr (between, is)) =
          let whole = subst (IsLegal (service n)) (sym told.is) legal in
          let follows = follows_at (service n) told.newer told.entry told.older whole in
          let answer = subst₂ (λ m a. IsAnswer (service n) told.older told.entry.moment m a) told.message told.answer follows.answer in
          let before = (legal_before (service n) told.newer (told.entry ∷ told.older) whole).0 in
          told_after between older (subst (IsLegal (service n)) (sym is) before) told.entry.moment
          (subst (λ es. IsAnswer (service n) es told.entry.moment (Message.Ask (Look name)) (look_answer (Some look))) (sym is) answer) t.0 t.1

-- ---- in a database

accepted_by : (w : ItemOutcome) (new : Option Attributes) → outcome_of w ≡ New new → database.is_accepted w ≡ true
accepted_by (becomes item) new is = refl
accepted_by is_false new is = absurd (cc)
accepted_by (is_faulty fault) new is = absurd (cc)

false_by : (w : ItemOutcome) → outcome_of w ≡ Unmet → w ≡ is_false
false_by (becomes item) is = absurd (cc)
false_by is_false is = refl
false_by (is_faulty fault) is = absurd (cc)

faulty_by : (w : ItemOutcome) (fault : EvalFault) → outcome_of w ≡ Fails fault → w ≡ is_faulty fault
faulty_by (becomes item) fault is = absurd (cc)
faulty_by is_false fault is = absurd (cc)
faulty_by (is_faulty other) fault is = let same : other ≡ fault = cc in ap is_faulty same

-- an action in a table that is not there is refused by nothing
unmet_there : (o : Option CatalogTable) (x : ItemAction) (old : Option Attributes) → outcome_in o x old ≡ Unmet → is_some o ≡ true
unmet_there None x old is = absurd (cc)
unmet_there (Some t) x old is = refl

fails_there : (o : Option CatalogTable) (x : ItemAction) (old : Option Attributes) (fault : EvalFault) → outcome_in o x old ≡ Fails fault → is_some o ≡ true
fails_there None x old fault is = absurd (cc)
fails_there (Some t) x old fault is = refl

module _ (n : ℕ) (newer older : List TableEvent) (legal : IsLegal (service n) (newer ++ older)) (db : Database)
    (stands : StandsFor (catalog_by (service n) older) (item_by (service n) older) db) where
  abbrev item : CellKey → Option Attributes
  item q = item_by (service n) older q

  -- what the database makes of an action, and what it shows of its item, as the tables do
  record ActsAlike (asked : TransactAction) (action : ItemAction) : Type 0 where
    schema : Schema
    outcome : database.outcome_of db asked ≡ database.action_outcome schema asked (item action.key)
    shown : database.shown_old db asked (table_named db asked.table) (database.target_of db asked) ≡ shown_if action.show_old (item action.key)
    acts : act (catalog_by (service n) older) action (item action.key) ≡ outcome_of (database.action_outcome schema asked (item action.key))

  acts_alike : (asked : TransactAction) (action : ItemAction) → IsStated (newer ++ older) asked action
      → is_some (numbered (catalog_by (service n) older).tables (table_of action.key)) ≡ true → ActsAlike asked action
  acts_alike asked action stated alive =
      let key = item_at stated.look.number stated.row in
      let x = stated_action key asked in
      let alive_so = subst (λ (y : ItemAction). is_some (numbered (catalog_by (service n) older).tables (table_of y.key)) ≡ true) stated.is alive in
      let there = is_there n asked.table stated.look newer older legal stated.told alive_so in
      let t = there.table in
      let f = found_named item (catalog_by (service n) older).tables db.tables stands asked.table t there.named_so in
      let same_number : t.number ≡ stated.look.number = own_number (catalog_by (service n) older).tables stated.look.number t there.found in
      let row = f.that.rows stated.row ∙ ap (λ k. item (item_at k stated.row)) same_number in
      let place = ap (λ s. place_if (database.change_key s asked.change)) f.that.schema ∙ ap place_if (there.keys asked.change) ∙ stated.row_is in
      subst (λ (y : ItemAction). ActsAlike asked y) (sym stated.is)
      (record {
        schema = t.schema;
        outcome =
            ap (λ o. database.outcome_if o asked (database.target_if o asked)) f.is
            ∙ ap (λ o. database.outcome_if (Some f.table) asked (option_map (λ k. record { name = asked.table; number = f.table.number; key = k }) o)) place
            ∙ (λ i. database.action_outcome (f.that.schema i) asked (row i));
        shown =
            ap (λ o. database.shown_old db asked o (database.target_if o asked)) f.is
            ∙ ap (λ o. database.shown_old db asked (Some f.table) (option_map (λ k. record { name = asked.table; number = f.table.number; key = k }) o)) place
            ∙ ap (λ v. shown_if asked.show_old v) row;
        acts =
            ap (λ o. outcome_in o x (item key)) there.found
            ∙ ap outcome_of (act_as_the_database.transacts t.schema key asked (item key));
      })

  accepted_one : (number : ℕ) (asked : TransactAction) (action : ItemAction) → IsStated (newer ++ older) asked action
      → Takes (service n) (service_lawful n) number older action → database.is_accepted (database.outcome_of db asked) ≡ true
  accepted_one number asked action stated taken =
      let like = acts_alike asked action stated taken.alive in
      ap database.is_accepted like.outcome
      ∙ accepted_by (database.action_outcome like.schema asked (item action.key)) taken.new (sym like.acts ∙ taken.acts)

  accepted_all : (number : ℕ) (asked : List TransactAction) (actions : List ItemAction) → AllZip (IsStated (newer ++ older)) asked actions
      → AllByRecursion (Takes (service n) (service_lawful n) number older) actions
      → list_all (λ action. database.is_accepted (database.outcome_of db action)) asked ≡ true
  accepted_all number [] [] stated taken = refl
  accepted_all number [] (y ∷ actions) stated taken = absurd stated
  accepted_all number (x ∷ asked) [] stated taken = absurd stated
  accepted_all number (x ∷ asked) (y ∷ actions) stated taken =
      and_from _ _ (accepted_one number x y stated.0 taken.0) (accepted_all number asked actions stated.1 taken.1)

  -- the reasons of an action that the tables do not take
  false_one : (asked : TransactAction) (action : ItemAction) → IsStated (newer ++ older) asked action → (old : Option Attributes)
      → old ≡ item action.key → act (catalog_by (service n) older) action old ≡ Unmet
      → database.reason_of db asked ≡ reason_told action.show_old (Reason.ConditionFalse old)
  false_one asked action stated old same acts =
      let now = ap (λ v. act (catalog_by (service n) older) action v) (sym same) ∙ acts in
      let like = acts_alike asked action stated (unmet_there _ action (item action.key) now) in
      let w = database.action_outcome like.schema asked (item action.key) in
      ap (λ o. database.reason_if db asked o) (like.outcome ∙ false_by w (sym like.acts ∙ now))
      ∙ ap (λ v. told.ConditionFalse v) (like.shown ∙ ap (λ v. shown_if action.show_old v) (sym same))

  faulty_one : (asked : TransactAction) (action : ItemAction) → IsStated (newer ++ older) asked action → (fault : EvalFault)
      → act (catalog_by (service n) older) action (item action.key) ≡ Fails fault
      → database.reason_of db asked ≡ reason_told action.show_old (Reason.Invalid fault)
  faulty_one asked action stated fault acts =
      let like = acts_alike asked action stated (fails_there _ action (item action.key) fault acts) in
      let w = database.action_outcome like.schema asked (item action.key) in
      ap (λ o. database.reason_if db asked o) (like.outcome ∙ faulty_by w fault (sym like.acts ∙ acts))

-- ---- by what was stated before

stated_later : (newer es : List TableEvent) (asked : List TransactAction) (actions : List ItemAction) → AllZip (IsStated es) asked actions → AllZip (IsStated (newer ++ es)) asked actions
stated_later newer es [] [] stated = stated
stated_later newer es [] (y ∷ actions) stated = absurd stated
stated_later newer es (x ∷ asked) [] stated = absurd stated
stated_later newer es (x ∷ asked) (y ∷ actions) stated =
    let one = stated.0 in (
      record { look = one.look; told = told_later newer es x.table one.look one.told; row = one.row; row_is = one.row_is; is = one.is },
      stated_later newer es asked actions stated.1,
    )

-- what a history that goes on from where it was stated took at a commit
pub taken_there : (n : ℕ) (es : List TableEvent) → IsLegal (service n) es → (number : ℕ) (asked : List TransactAction) (actions : List ItemAction)
    → (later stood : List TableEvent) → later ++ stood ≡ es → AllZip (IsStated stood) asked actions
    → (takes : TakesAll (service n) (service_lawful n) number es) → AllByRecursion (Takes (service n) (service_lawful n) number takes.at.older) actions
    → AreTaken n es number asked
taken_there n es legal number asked actions later stood goes_on stated takes each =
    let at = takes.at in
    let newer = at.newer ++ at.entry ∷ [] in
    let whole : newer ++ at.older ≡ es = append_assoc at.newer (at.entry ∷ []) at.older ∙ at.there in
    let all = subst (λ l. AllZip (IsStated l) asked actions) (goes_on ∙ sym whole) (stated_later later stood asked actions stated) in
    record {
      newer = at.newer;
      entry = at.entry;
      older = at.older;
      there = at.there;
      commits = at.commits;
      accepted = λ db stands.
          accepted_all n newer at.older (subst (IsLegal (service n)) (sym whole) legal) db
          (subst (λ l. StandsFor (catalog_by (service n) l) (item_by (service n) l) db) (reverse-reverse at.older) stands) number asked actions all each;
    }

-- ---- reasons

module _ (n : ℕ) (es : List TableEvent) (legal : IsLegal (service n) es) (number : ℕ) (stamp : Stamp) where
  -- where a Prepare of the action had this cause
  record HadAt (action : ItemAction) (reason : Reason Attributes EvalFault) (all : List TableEvent) : Type 0 where
    newer : List TableEvent
    entry : TableEvent
    older : List TableEvent
    there : newer ++ entry ∷ older ≡ all
    message : entry.message ≡ Message.Prepare number stamp action
    cause : IsCause (service n) older number stamp action reason

  had_at : (action : ItemAction) (reason : Reason Attributes EvalFault) (all : List TableEvent) → HadThisCause (service n) all number stamp action reason → HadAt action reason all
  had_at action reason [] had = absurd had
  had_at action reason (e ∷ all) (inl now) = record { newer = []; entry = e; older = all; there = refl; message = now.0; cause = now.1 }
  had_at action reason (e ∷ all) (inr before) =
      let h = had_at action reason all before in
      record { newer = e ∷ h.newer; entry = h.entry; older = h.older; there = ap (λ l. e ∷ l) h.there; message = h.message; cause = h.cause }

  given_by : (asked : TransactAction) (action : ItemAction) (reason : Reason Attributes EvalFault) → HadAt action reason es → (told : ToldReason)
      → ((newer older : List TableEvent) → IsLegal (service n) (newer ++ older) → newer ++ older ≡ es → IsCause (service n) older number stamp action reason
      → (db : Database) → StandsFor (catalog_by (service n) older) (item_by (service n) older) db → database.reason_of db asked ≡ told)
      → IsGiven n es number stamp asked action told
  given_by asked action reason at told gives =
      let newer = at.newer ++ at.entry ∷ [] in
      let whole : newer ++ at.older ≡ es = append_assoc at.newer (at.entry ∷ []) at.older ∙ at.there in
      record {
        newer = at.newer;
        entry = at.entry;
        older = at.older;
        there = at.there;
        message = at.message;
        given = λ db stands.
            gives newer at.older (subst (IsLegal (service n)) (sym whole) legal) whole at.cause db
            (subst (λ l. StandsFor (catalog_by (service n) l) (item_by (service n) l) db) (reverse-reverse at.older) stands);
      }

  given_all : (asked : List TransactAction) (actions : List ItemAction) (reasons : List (Reason Attributes EvalFault)) → AllZip (IsStated es) asked actions
      → HadCauses (service n) es number stamp actions reasons → AreGiven n es number stamp asked actions reasons
  given_all [] [] [] stated had = tt
  given_all [] [] (r ∷ reasons) stated had = absurd had
  given_all [] (y ∷ actions) reasons stated had = absurd stated
  given_all (x ∷ asked) [] reasons stated had = absurd stated
  given_all (x ∷ asked) (y ∷ actions) [] stated had = absurd had
  given_all (x ∷ asked) (y ∷ actions) (Reason.ConditionFalse old ∷ reasons) stated had = (
    given_by x y (Reason.ConditionFalse old) (had_at y (Reason.ConditionFalse old) es had.0) (reason_told y.show_old (Reason.ConditionFalse old))
        (λ newer older whole is cause db stands. false_one n newer older whole db stands x y (subst (λ l. IsStated l x y) (sym is) stated.0) old cause.0 cause.1),
    given_all asked actions reasons stated.1 had.1,
  )
  given_all (x ∷ asked) (y ∷ actions) (Reason.Invalid fault ∷ reasons) stated had = (
    given_by x y (Reason.Invalid fault) (had_at y (Reason.Invalid fault) es had.0) (reason_told y.show_old (Reason.Invalid fault))
        (λ newer older whole is cause db stands. faulty_one n newer older whole db stands x y (subst (λ l. IsStated l x y) (sym is) stated.0) fault cause),
    given_all asked actions reasons stated.1 had.1,
  )
  given_all (x ∷ asked) (y ∷ actions) (_ ∷ reasons) stated had = given_all asked actions reasons stated.1 had.1

-- in a history that goes on from where the request was stated
pub given_there : (n : ℕ) (es : List TableEvent) → IsLegal (service n) es → (number : ℕ) (stamp : Stamp) (asked : List TransactAction) (actions : List ItemAction)
    → (later stood : List TableEvent) → later ++ stood ≡ es → AllZip (IsStated stood) asked actions → (reasons : List (Reason Attributes EvalFault))
    → HadCauses (service n) es number stamp actions reasons → AreGiven n es number stamp asked actions reasons
given_there n es legal number stamp asked actions later stood goes_on stated reasons had =
    given_all n es legal number stamp asked actions reasons
    (subst (λ l. AllZip (IsStated l) asked actions) goes_on (stated_later later stood asked actions stated)) had
