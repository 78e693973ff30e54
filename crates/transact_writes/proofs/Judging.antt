-- What is made of an action on the tables as they are.
use Rattle.std.specs.List.{list_all, cons_option}
use Rattle.std.specs.Map.{lookup}
use Rattle.std.proofs.Common.{◌≡◌, ℕ, Bool, true, false, cond, ◌&&◌, not, List, [], ◌∷◌, ◌++◌, map, Option, None, Some, option_map, Result, Ok, Err, refl, sym, ap, ◌∙◌, append_assoc, append-nil}
use Rattle.std.specs.FinMap.{empty}
use Rattle.attr_value.specs.Tree.{Attributes}
use Rattle.attr_value.specs.declared.value.Value.{Value}
use Rattle.expr_words.specs.declared.tree.Condition.{Condition}
use Rattle.expr_parse.specs.declared.tree.Update.{Update as UpdateTree}
use Rattle.row_keys.specs.declared.row_key.RowKey.{RowKey}
use Rattle.row_keys.specs.Rows.{item_at}
use Rattle.table_rows.specs.View.{TableView}
use Rattle.table_request.specs.declared.transactions.TransactAction.{TransactAction}
use Rattle.table_request.specs.declared.transactions.ActionChange.{ActionChange}
use Rattle.table_request.specs.declared.transactions.ActionChange.TheVariants.{Put, Update, Delete, Check}
use Rattle.table_model.specs.declared.action.NumberedAction.{NumberedAction}
use Rattle.table_model.specs.declared.refusal.Reason.{Reason}
use Rattle.table_model.specs.declared.refusal.Reason.TheVariants as reason
use Rattle.table_model.specs.Outcome.{ItemOutcome, becomes, is_false, is_faulty, is_met, where_met}
use Rattle.table_model.specs.Database.{Database, Table, table_named}
use Rattle.table_model.specs.Transactions.{Target, target_if, target_of, action_outcome, outcome_if, outcome_of, is_accepted, shown_old, reason_if, reason_of}
use Rattle.numbered_tables.specs.declared.change.TableChange.{TableChange}
use Rattle.numbered_tables.specs.declared.table.NumberedTable.{NumberedTable}
use Rattle.numbered_tables.specs.Tables.{Kept, table_in}
use Rattle.numbered_tables.proofs.Kept.{at, absent, there}
use Rattle.transact_writes.specs.declared.aimed.Aimed.{Aimed}
use Rattle.transact_writes.specs.declared.judge.Aim.{Aim}
use Rattle.transact_writes.specs.declared.verdicts.Verdicts.{Verdicts}
use Rattle.transact_writes.specs.Judged.{change_if, judged_if, judged, change_in, changes_of, change_at, judged_by, judged_in, IsAt}
use Rattle.transact_writes.specs.Aimed.{database_of}
use Rattle.transact_writes.specs.Verdicts.{verdict_of, action_of, no_verdicts, with_verdict, settled, AreJudged}

-- ---- verdicts of outcomes

-- the verdict of a change that writes
verdict_is : (aim : Aim) (condition : Option Condition) (values : List Value) (change : ActionChange) (old : Option Attributes) (outcome : ItemOutcome)
    → ((new : Option Attributes) → change_at aim.table aim.key change new ≡ Some (record { table = aim.table; key = aim.key; new = new }))
    → verdict_of aim old outcome ≡ judged_by aim.key (action_of aim condition values change) old outcome
verdict_is aim condition values change old (becomes new) writes = ap Ok (sym (writes new))
verdict_is aim condition values change old is_false writes = refl
verdict_is aim condition values change old (is_faulty fault) writes = refl

-- a verdict that was made of what was looked up
pub put_is : (rows : TableView) (aim : Aim) (condition : Option Condition) (values : List Value) (item : Attributes) (outcome : ItemOutcome)
    → (let action = action_of aim condition values (Put item) in
    outcome ≡ action_outcome rows.schema action (item_at rows.rows aim.key)
    → verdict_of aim (item_at rows.rows aim.key) outcome ≡ judged_in rows aim.key action)
put_is rows aim condition values item outcome is =
    let old = item_at rows.rows aim.key in
    verdict_is aim condition values (Put item) old outcome (λ new. refl)
    ∙ ap (judged_by aim.key (action_of aim condition values (Put item)) old) is

pub update_is : (rows : TableView) (aim : Aim) (condition : Option Condition) (values : List Value) (key : Attributes) (update : UpdateTree) (outcome : ItemOutcome)
    → (let action = action_of aim condition values (Update key update) in
    outcome ≡ action_outcome rows.schema action (item_at rows.rows aim.key)
    → verdict_of aim (item_at rows.rows aim.key) outcome ≡ judged_in rows aim.key action)
update_is rows aim condition values key update outcome is =
    let old = item_at rows.rows aim.key in
    verdict_is aim condition values (Update key update) old outcome (λ new. refl)
    ∙ ap (judged_by aim.key (action_of aim condition values (Update key update)) old) is

pub delete_is : (rows : TableView) (aim : Aim) (condition : Option Condition) (values : List Value) (key : Attributes) (outcome : ItemOutcome)
    → (let action = action_of aim condition values (Delete key) in
    outcome ≡ action_outcome rows.schema action (item_at rows.rows aim.key)
    → verdict_of aim (item_at rows.rows aim.key) outcome ≡ judged_in rows aim.key action)
delete_is rows aim condition values key outcome is =
    let old = item_at rows.rows aim.key in
    verdict_is aim condition values (Delete key) old outcome (λ new. refl)
    ∙ ap (judged_by aim.key (action_of aim condition values (Delete key)) old) is

-- a check makes no change where it is met, and is told where it is not
pub check_met : (rows : TableView) (aim : Aim) (condition : Option Condition) (values : List Value) (key : Attributes)
    → is_met condition values (item_at rows.rows aim.key) ≡ true
    → Ok None ≡ judged_in rows aim.key (action_of aim condition values (Check key))
check_met rows aim condition values key met =
    let old = item_at rows.rows aim.key in
    sym (ap (λ b. judged_by aim.key (action_of aim condition values (Check key)) old (where_met b (becomes old))) met)

pub check_failed : (rows : TableView) (aim : Aim) (condition : Option Condition) (values : List Value) (key : Attributes)
    → is_met condition values (item_at rows.rows aim.key) ≡ false
    → verdict_of aim (item_at rows.rows aim.key) is_false ≡ judged_in rows aim.key (action_of aim condition values (Check key))
check_failed rows aim condition values key failed =
    let old = item_at rows.rows aim.key in
    sym (ap (λ b. judged_by aim.key (action_of aim condition values (Check key)) old (where_met b (becomes old))) failed)

-- ---- an action of a database is one of its table

change_is : (name : List ℕ) (target : Target) (change : ActionChange) (new : Option Attributes) → change_if name change (Some target) new ≡ change_at name target.key change new
change_is name target (Put item) new = refl
change_is name target (Update key update) new = refl
change_is name target (Delete key) new = refl
change_is name target (Check key) new = refl

judged_is : (db : Database) (action : TransactAction) (t : Table) (target : Target) (outcome : ItemOutcome) → table_named db action.table ≡ Some t
    → target_of db action ≡ Some target
    → judged_by target.key action (item_at t.rows target.key) outcome ≡ judged_if db action outcome
judged_is db action t target (becomes new) here aimed =
    ap Ok (sym (change_is action.table target action.change new) ∙ sym (ap (λ o. change_if action.table action.change o new) aimed))
judged_is db action t target is_false here aimed =
    ap (λ old. Err (reason.ConditionFalse old)) (λ i. shown_old db action (sym here i) (sym aimed i))
judged_is db action t target (is_faulty fault) here aimed = refl

abbrev view_of : NumberedTable → TableView
view_of t = t.rows

pub judged_there : (es : Kept) (action : TransactAction) (t : NumberedTable) (target : Target) → lookup (at action.table) es ≡ Some t
    → target_of (database_of es) action ≡ Some target → judged_in t.rows target.key action ≡ judged (database_of es) action
judged_there es action t target found aimed =
    let db : Database = database_of es in
    let here = there es empty 0 action.table t found in
    judged_is db action (table_in t) target (action_outcome t.rows.schema action (item_at t.rows.rows target.key)) here aimed
    ∙ ap (judged_if db action) (λ i. outcome_if (sym here i) action (sym aimed i))

-- ---- verdicts one after the other

abbrev reason_in : Result (Option TableChange) Reason → Reason
reason_in (Ok change) = reason.None
reason_in (Err why) = why

abbrev is_good : Result (Option TableChange) Reason → Bool
is_good (Ok change) = true
is_good (Err why) = false

reason_by : (db : Database) (action : TransactAction) (outcome : ItemOutcome) → reason_in (judged_if db action outcome) ≡ reason_if db action outcome
reason_by db action (becomes new) = refl
reason_by db action is_false = refl
reason_by db action (is_faulty fault) = refl

good_by : (db : Database) (action : TransactAction) (outcome : ItemOutcome) → is_good (judged_if db action outcome) ≡ is_accepted outcome
good_by db action (becomes new) = refl
good_by db action is_false = refl
good_by db action (is_faulty fault) = refl

-- the verdicts of the actions before, and what they come to with those of the rest
pub record AreSoFar (db : Database) (actions rest : List TransactAction) (verdicts : Verdicts) : Type 0 where
  pub changes : verdicts.changes ++ changes_of db rest ≡ changes_of db actions
  pub reasons : verdicts.reasons ++ map (reason_of db) rest ≡ map (reason_of db) actions
  pub accepted :
      (not verdicts.is_cancelled && list_all (λ action. is_accepted (outcome_of db action)) rest)
      ≡ list_all (λ action. is_accepted (outcome_of db action)) actions

pub none_yet : (db : Database) (actions rest : List TransactAction) → rest ≡ actions → AreSoFar db actions rest no_verdicts
none_yet db actions rest is = record {
  changes = ap (changes_of db) is;
  reasons = ap (map (reason_of db)) is;
  accepted = ap (list_all (λ action. is_accepted (outcome_of db action))) is;
}

changes_with : (verdicts : Verdicts) (verdict : Result (Option TableChange) Reason) (rest : List TableChange)
    → (with_verdict verdicts verdict).changes ++ rest ≡ verdicts.changes ++ cons_option (change_in verdict) rest
changes_with verdicts (Ok None) rest = ap (λ (xs : List TableChange). xs ++ rest) (append-nil verdicts.changes)
changes_with verdicts (Ok (Some change)) rest = append_assoc verdicts.changes (change ∷ []) rest
changes_with verdicts (Err why) rest = refl

reasons_with : (verdicts : Verdicts) (verdict : Result (Option TableChange) Reason) (rest : List Reason)
    → (with_verdict verdicts verdict).reasons ++ rest ≡ verdicts.reasons ++ reason_in verdict ∷ rest
reasons_with verdicts (Ok change) rest = append_assoc verdicts.reasons (reason.None ∷ []) rest
reasons_with verdicts (Err why) rest = append_assoc verdicts.reasons (why ∷ []) rest

accepted_with : (verdicts : Verdicts) (verdict : Result (Option TableChange) Reason) (rest : Bool)
    → (not (with_verdict verdicts verdict).is_cancelled && rest) ≡ (not verdicts.is_cancelled && (is_good verdict && rest))
accepted_with verdicts (Ok change) rest = refl
accepted_with verdicts (Err why) rest = none_left (not verdicts.is_cancelled)
  where
    none_left : (b : Bool) → false ≡ (b && false)
    none_left true = refl
    none_left false = refl

pub verdict_more : (db : Database) (actions left rest : List TransactAction) (action : TransactAction) (verdicts new : Verdicts)
    (verdict : Result (Option TableChange) Reason)
    → AreSoFar db actions left verdicts → left ≡ action ∷ rest → new ≡ with_verdict verdicts verdict → verdict ≡ judged db action
    → AreSoFar db actions rest new
verdict_more db actions left rest action verdicts new verdict so_far is added told = record {
  changes =
      ap (λ (v : Verdicts). v.changes ++ changes_of db rest) added ∙ changes_with verdicts verdict (changes_of db rest)
      ∙ ap (λ v. verdicts.changes ++ cons_option (change_in v) (changes_of db rest)) told
      ∙ sym (ap (λ xs. verdicts.changes ++ changes_of db xs) is) ∙ so_far.changes;
  reasons =
      ap (λ (v : Verdicts). v.reasons ++ map (reason_of db) rest) added ∙ reasons_with verdicts verdict (map (reason_of db) rest)
      ∙ ap (λ why. verdicts.reasons ++ why ∷ map (reason_of db) rest) (ap reason_in told ∙ reason_by db action (outcome_of db action))
      ∙ sym (ap (λ xs. verdicts.reasons ++ map (reason_of db) xs) is) ∙ so_far.reasons;
  accepted =
      ap (λ (v : Verdicts). not v.is_cancelled && list_all (λ a. is_accepted (outcome_of db a)) rest) added
      ∙ accepted_with verdicts verdict (list_all (λ a. is_accepted (outcome_of db a)) rest)
      ∙ ap (λ b. not verdicts.is_cancelled && (b && list_all (λ a. is_accepted (outcome_of db a)) rest)) (ap is_good told ∙ good_by db action (outcome_of db action))
      ∙ sym (ap (λ xs. not verdicts.is_cancelled && list_all (λ a. is_accepted (outcome_of db a)) xs) is) ∙ so_far.accepted;
}

front_true : (b : Bool) → (not b && true) ≡ not b
front_true true = refl
front_true false = refl

settled_by : (db : Database) (actions : List TransactAction) (verdicts : Verdicts) (b : Bool) → verdicts.is_cancelled ≡ b
    → verdicts.changes ≡ changes_of db actions → verdicts.reasons ≡ map (reason_of db) actions
    → list_all (λ action. is_accepted (outcome_of db action)) actions ≡ not b
    → AreJudged db actions (cond b (Err verdicts.reasons) (Ok verdicts.changes))
settled_by db actions verdicts true is changes reasons accepted = (accepted, reasons)
settled_by db actions verdicts false is changes reasons accepted = (accepted, changes)

pub all_judged : (db : Database) (actions rest : List TransactAction) (verdicts : Verdicts) → AreSoFar db actions rest verdicts → rest ≡ []
    → AreJudged db actions (settled verdicts)
all_judged db actions rest verdicts so_far none =
    settled_by db actions verdicts verdicts.is_cancelled refl
    (sym (append-nil verdicts.changes) ∙ sym (ap (λ xs. verdicts.changes ++ changes_of db xs) none) ∙ so_far.changes)
    (sym (append-nil verdicts.reasons) ∙ sym (ap (λ xs. verdicts.reasons ++ map (reason_of db) xs) none) ∙ so_far.reasons)
    (sym (sym (front_true verdicts.is_cancelled)
    ∙ sym (ap (λ xs. not verdicts.is_cancelled && list_all (λ action. is_accepted (outcome_of db action)) xs) none) ∙ so_far.accepted))

-- ---- a table that is there

not_absent : (es : Kept) (action : TransactAction) → lookup (at action.table) es ≡ None → target_of (database_of es) action ≡ None
not_absent es action none = ap (λ o. target_if o action) (absent es empty 0 action.table none)

pub there_for : (es : Kept) (action : TransactAction) (target : Target) → target_of (database_of es) action ≡ Some target → lookup (at action.table) es ≡ None → ⊥
there_for es action target is none = let absent_is = not_absent es action none in cc

pub there_at : (es : Kept) (action : TransactAction) (key : RowKey) → IsAt (database_of es) action key → lookup (at action.table) es ≡ None → ⊥
there_at es action key is none =
    let gone : option_map (λ (target : Target). target.key) (target_of (database_of es) action) ≡ None =
    ap (option_map (λ (target : Target). target.key)) (not_absent es action none) in
    cc

judged_by_target : (es : Kept) (action : TransactAction) (t : NumberedTable) (key : RowKey) (target : Option Target) → lookup (at action.table) es ≡ Some t
    → target_of (database_of es) action ≡ target → option_map (λ target. target.key) target ≡ Some key
    → judged_in t.rows key action ≡ judged (database_of es) action
judged_by_target es action t key None found is has = absurd (cc)
judged_by_target es action t key (Some target) found is has =
    let same : target.key ≡ key = cc in
    ap (λ (k : RowKey). judged_in t.rows k action) (sym same) ∙ judged_there es action t target found is

pub judged_at : (es : Kept) (action : TransactAction) (t : NumberedTable) (key : RowKey) → lookup (at action.table) es ≡ Some t
    → IsAt (database_of es) action key → judged_in t.rows key action ≡ judged (database_of es) action
judged_at es action t key found is = judged_by_target es action t key (target_of (database_of es) action) found refl is

-- one action more is kept
pub kept_more : (kept more : List NumberedAction) (all left rest : List Aimed) (aimed : Aimed) → left ≡ aimed ∷ rest → more ≡ kept ++ aimed.action ∷ []
    → kept ++ map (λ aimed. aimed.action) left ≡ map (λ aimed. aimed.action) all
    → more ++ map (λ aimed. aimed.action) rest ≡ map (λ aimed. aimed.action) all
kept_more kept more all left rest aimed is pushed so_far =
    ap (λ (xs : List NumberedAction). xs ++ map (λ (a : Aimed). a.action) rest) pushed
    ∙ append_assoc kept (aimed.action ∷ []) (map (λ (a : Aimed). a.action) rest)
    ∙ sym (ap (λ (xs : List Aimed). kept ++ map (λ (a : Aimed). a.action) xs) is) ∙ so_far
