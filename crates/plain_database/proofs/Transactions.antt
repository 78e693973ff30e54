-- Transactions leave rows at their keys.
use Rattle.std.specs.Prelude.{⊤}
use Rattle.std.proofs.Common.{◌≡◌, ℕ, List, [], ◌∷◌, map, filter_map, Bool, true, false, cond, Option, None, Some, option_map, option_and_then, Result, Ok, Err, refl, sym, ap, ◌∙◌, subst}
use Rattle.std.specs.List.{list_all}
use Rattle.std.specs.Ordering.{nat_cmp}
use Rattle.std.specs.Cmp.Lexicographic.{slice_cmp, pointwise}
use Rattle.std.specs.BTreeMap.{is_at}
use Rattle.std.specs.Map.{lookup, set_value}
use Rattle.attr_value.specs.Tree.{Attributes}
use Rattle.client_tokens.specs.declared.kept.Kept.{Kept}
use Rattle.item_keys.specs.ItemKey.{key_in, key_alone}
use Rattle.item_keys.specs.declared.fault.KeyFault.{KeyFault}
use Rattle.item_keys.specs.declared.key.Key.{Key}
use Rattle.row_keys.specs.declared.row_key.RowKey.{RowKey}
use Rattle.row_keys.specs.Keys.{row_key}
use Rattle.row_keys.specs.Rows.{item_at, with_item}
use Rattle.page_ranges.specs.AtKeys.{IsAtKey}
use Rattle.table_schema.specs.declared.schema.Schema.{Schema}
use Rattle.table_request.specs.declared.transactions.TransactWrite.{TransactWrite}
use Rattle.table_request.specs.declared.transactions.TransactAction.{TransactAction}
use Rattle.table_request.specs.declared.transactions.ActionChange.{ActionChange}
use Rattle.table_request.specs.declared.transactions.ActionChange.TheVariants.{Put, Update, Delete, Check}
use Rattle.table_request.specs.declared.transactions.TransactGet.{TransactGet}
use Rattle.table_model.specs.declared.action.NumberedAction.{NumberedAction}
use Rattle.table_model.specs.declared.reply.Reply.TheVariants as answer
use Rattle.table_model.specs.declared.refusal.Refusal.{Refusal}
use Rattle.table_model.specs.declared.refusal.Refusal.TheVariants.{Cancelled, Invalid, Mismatch}
use Rattle.table_model.specs.declared.refusal.Invalid.TheVariants as invalid
use Rattle.table_model.specs.Batches.{place_if, missing}
use Rattle.table_model.specs.Database.{Database, Table, Effect, table_named, with_row, refused, first, where_true}
use Rattle.table_model.specs.Outcome.{ItemOutcome, becomes, is_false, is_faulty, is_met}
use Rattle.table_model.specs.Transactions.{Target, has_repeat, bad_key, change_key, target_if, target_of, change_key_update, updates_key, transact_refusal, change_outcome, action_outcome, outcome_if, outcome_of}
use Rattle.table_model.specs.Transactions.{is_accepted, reason_of, made_if, made_all, same_action, numbered_all, with_token, kept_of, without_expired, transacted, repeated, transact_write, read_refusal, transact_get}
use Rattle.plain_database.specs.Keyed.{IsKeyed, HasRowsAtKeys}
use Rattle.plain_database.proofs.Rows.{Fits, item_fits, named_keyed, row_keyed}
use Rattle.plain_database.proofs.Singles.{FitsOutcome, where_fits, put_fits, update_fits, at_own_key, unless_keyed}
use Rattle.plain_database.proofs.Batches.{placed_key}

-- ---- schemas, which no row changes

-- what is looked up after a value was set, seen by what the old and the new value have in common
set_alike : {K X Y : Type 0} (f : X → Y) (test other : K → Bool) (es : List (K × X)) (x w : X) → lookup test es ≡ Some x → f w ≡ f x
    → option_map f (lookup other (set_value test es w)) ≡ option_map f (lookup other es)
set_alike f test other [] x w is same = cc
set_alike {X = X} f test other (e ∷ es) x w is same = go (test e.0) is (λ later. set_alike f test other es x w later same)
  where
    here : (b : Bool) → f w ≡ f e.1 → option_map f (cond b (Some w) (lookup other es)) ≡ option_map f (cond b (Some e.1) (lookup other es))
    here true h = ap Some h
    here false h = refl

    behind : (b : Bool) → option_map f (lookup other (set_value test es w)) ≡ option_map f (lookup other es)
        → option_map f (cond b (Some e.1) (lookup other (set_value test es w))) ≡ option_map f (cond b (Some e.1) (lookup other es))
    behind true h = refl
    behind false h = h

    some_is : (a b : X) → ◌≡◌ {A = Option X} (Some a) (Some b) → a ≡ b
    some_is a b g = cc

    go : (b : Bool) → cond b (Some e.1) (lookup test es) ≡ Some x → (lookup test es ≡ Some x → option_map f (lookup other (set_value test es w)) ≡ option_map f (lookup other es))
        → option_map f (lookup other (cond b ((e.0, w) ∷ es) (e ∷ set_value test es w))) ≡ option_map f (cond (other e.0) (Some e.1) (lookup other es))
    go true found later = here (other e.0) (same ∙ ap f (sym (some_is e.1 x found)))
    go false found later = behind (other e.0) (later found)

abbrev schema_named : Database → List ℕ → Option Schema
schema_named db name = option_map (λ (t : Table). t.schema) (table_named db name)

schema_kept : (db : Database) (name other : List ℕ) (table : Table) (key : RowKey) (item : Option Attributes) → table_named db name ≡ Some table
    → schema_named (with_row db name table key item) other ≡ schema_named db other
schema_kept db name other table key item is =
    set_alike (λ (t : Table). t.schema) (is_at (slice_cmp nat_cmp name)) (is_at (slice_cmp nat_cmp other)) db.tables table
    (record table { rows = with_item table.rows key item }) is refl

-- ---- outcomes that fit their items

-- an outcome fits the item that the action is on
abbrev FitsKey : Schema → Option RowKey → ItemOutcome → Type 0
FitsKey schema None outcome = ⊤
FitsKey schema (Some key) outcome = FitsOutcome schema key outcome

abbrev FitsAction : Option Schema → TransactAction → ItemOutcome → Type 0
FitsAction None action outcome = ⊤
FitsAction (Some schema) action outcome = FitsKey schema (place_if (change_key schema action.change)) outcome

placed_is : (k : Result Key KeyFault) (key : RowKey) → place_if k ≡ Some key → (own : Key) × ((k ≡ Ok own) × (row_key own ≡ key))
placed_is (Ok own) key e = (own, (refl, some_is (row_key own) key e))
  where
    some_is : (a b : RowKey) → ◌≡◌ {A = Option RowKey} (Some a) (Some b) → a ≡ b
    some_is a b g = cc
placed_is (Err fault) key e = cc

own_item : (schema : Schema) (item : Attributes) (key : RowKey) → place_if (key_alone schema schema.keys item) ≡ Some key → IsAtKey schema schema.keys key item
own_item schema item key is =
    let own = placed_is (key_alone schema schema.keys item) key is in
    subst (λ k. IsAtKey schema schema.keys k item) own.1.1 (at_own_key schema item own.0 own.1.0)

change_fits : (schema : Schema) (action : TransactAction) (old : Option Attributes) (key : RowKey) (change : ActionChange) → place_if (change_key schema change) ≡ Some key
    → change_key_update schema change ≡ None → Fits schema key old → FitsOutcome schema key (change_outcome schema action old change)
change_fits schema action old key (Put item) is none fits = put_fits schema key item (placed_key (key_in schema schema.keys item) ∙ is)
change_fits schema action old key (Update item update) is none fits =
    update_fits schema key (Some update) action.values item old none (own_item schema item key is) fits
change_fits schema action old key (Delete item) is none fits = tt
change_fits schema action old key (Check item) is none fits = fits

action_fits : (table : Table) (action : TransactAction) (key : RowKey) → IsKeyed table → place_if (change_key table.schema action.change) ≡ Some key
    → change_key_update table.schema action.change ≡ None → FitsOutcome table.schema key (action_outcome table.schema action (item_at table.rows key))
action_fits table action key keyed is none =
    where_fits table.schema key (is_met action.condition action.values (item_at table.rows key)) _
    (change_fits table.schema action (item_at table.rows key) key action.change is none (item_fits table.schema table.rows key keyed))

target_fits : (table : Table) (action : TransactAction) (o : Option RowKey) → IsKeyed table → place_if (change_key table.schema action.change) ≡ o
    → change_key_update table.schema action.change ≡ None
    → FitsKey table.schema o (outcome_if (Some table) action (option_map (λ key. let t : Target = record { name = action.table; number = table.number; key = key } in t) o))
target_fits table action None keyed is none = tt
target_fits table action (Some key) keyed is none = action_fits table action key keyed is none

outcome_fits : (db : Database) (action : TransactAction) → HasRowsAtKeys db → updates_key db action ≡ None
    → FitsAction (schema_named db action.table) action (outcome_of db action)
outcome_fits db action all none = go (table_named db action.table) refl none
  where
    go : (o : Option Table) → table_named db action.table ≡ o → option_and_then (λ table. change_key_update table.schema action.change) o ≡ None
        → FitsAction (option_map (λ (t : Table). t.schema) o) action (outcome_if o action (target_if o action))
    go None is e = tt
    go (Some table) is e =
        target_fits table action (place_if (change_key table.schema action.change)) (named_keyed db action.table table is all) refl e

-- ---- all outcomes are made

abbrev AllFit : Database → List TransactAction → List ItemOutcome → Type 0
AllFit db (action ∷ actions) (outcome ∷ outcomes) = FitsAction (schema_named db action.table) action outcome × AllFit db actions outcomes
AllFit db _ _ = ⊤

still_fit : (db new : Database) (actions : List TransactAction) (outcomes : List ItemOutcome) → ((name : List ℕ) → schema_named new name ≡ schema_named db name)
    → AllFit db actions outcomes → AllFit new actions outcomes
still_fit db new [] outcomes same h = tt
still_fit db new (action ∷ actions) [] same h = tt
still_fit db new (action ∷ actions) (outcome ∷ outcomes) same h = (
  subst (λ s. FitsAction s action outcome) (sym (same action.table)) h.0,
  still_fit db new actions outcomes same h.1,
)

-- one outcome leaves rows at their keys, and schemas as they are
abbrev IsWell : Database → Database → Type 0
IsWell db new = HasRowsAtKeys new × ((name : List ℕ) → schema_named new name ≡ schema_named db name)

one_well : (db : Database) (action : TransactAction) (table : Table) (o : Option RowKey) (outcome : ItemOutcome) → HasRowsAtKeys db → table_named db action.table ≡ Some table
    → FitsKey table.schema o outcome
    → IsWell db (made_if db action.table (Some table) (option_map (λ key. let t : Target = record { name = action.table; number = table.number; key = key } in t) o) outcome)
one_well db action table None (becomes new) all is fits = (all, λ name. refl)
one_well db action table None is_false all is fits = (all, λ name. refl)
one_well db action table None (is_faulty why) all is fits = (all, λ name. refl)
one_well db action table (Some key) (becomes new) all is fits = (row_keyed db action.table table key new is fits all, λ name. schema_kept db action.table name table key new is)
one_well db action table (Some key) is_false all is fits = (all, λ name. refl)
one_well db action table (Some key) (is_faulty why) all is fits = (all, λ name. refl)

made_well : (db : Database) (action : TransactAction) (outcome : ItemOutcome) → HasRowsAtKeys db → FitsAction (schema_named db action.table) action outcome
    → IsWell db (made_if db action.table (table_named db action.table) (target_of db action) outcome)
made_well db action outcome all fits = go (table_named db action.table) refl fits
  where
    go : (o : Option Table) → table_named db action.table ≡ o → FitsAction (option_map (λ (t : Table). t.schema) o) action outcome
        → IsWell db (made_if db action.table o (target_if o action) outcome)
    go None is h = (all, λ name. refl)
    go (Some table) is h = one_well db action table (place_if (change_key table.schema action.change)) outcome all is h

all_well : (db : Database) (actions : List TransactAction) (outcomes : List ItemOutcome) → HasRowsAtKeys db → AllFit db actions outcomes
    → HasRowsAtKeys (made_all db actions outcomes)
all_well db [] outcomes all h = all
all_well db (action ∷ actions) [] all h = all
all_well db (action ∷ actions) (outcome ∷ outcomes) all h =
    let one = made_well db action outcome all h.0 in
    let new = made_if db action.table (table_named db action.table) (target_of db action) outcome in
    all_well new actions outcomes one.0 (still_fit db new actions outcomes one.1 h.1)

-- ---- no action updates a key

none_first : (o : Option Refusal) (others : List (Option Refusal)) → first (o ∷ others) ≡ None → (o ≡ None) × (first others ≡ None)
none_first None others e = (refl, e)
none_first (Some refusal) others e = cc

all_fit : (db : Database) (actions : List TransactAction) → HasRowsAtKeys db → first (map (updates_key db) actions) ≡ None
    → AllFit db actions (map (outcome_of db) actions)
all_fit db [] all none = tt
all_fit db (action ∷ actions) all none =
    let one = none_first (updates_key db action) (map (updates_key db) actions) none in
    (outcome_fits db action all one.0, all_fit db actions all one.1)

fourth : (a b c d : Option Refusal) → first (a ∷ b ∷ c ∷ d ∷ []) ≡ None → d ≡ None
fourth (Some a) b c d e = cc
fourth None (Some b) c d e = cc
fourth None None (Some c) d e = cc
fourth None None None (Some d) e = cc
fourth None None None None e = refl

no_updates : (db : Database) (actions : List TransactAction) → transact_refusal db actions ≡ None → first (map (updates_key db) actions) ≡ None
no_updates db actions e =
    fourth (first (map (λ action. missing db action.table) actions)) (first (map (bad_key db) actions))
    (where_true (has_repeat (filter_map (target_of db) actions)) (Invalid invalid.Twice)) (first (map (updates_key db) actions)) e

-- ---- the effects

token_keyed : (db : Database) (token : Option (List ℕ)) (moment : ℕ) (actions : List NumberedAction) → HasRowsAtKeys db → HasRowsAtKeys (with_token db token moment actions)
token_keyed db None moment actions all = all
token_keyed db (Some token) moment actions all = all

either_keyed : (b : Bool) (x y : Effect) → HasRowsAtKeys x.0 → HasRowsAtKeys y.0 → HasRowsAtKeys (cond b x y).0
either_keyed true x y p q = p
either_keyed false x y p q = q

transacted_keyed : (db : Database) (r : TransactWrite) (moment : ℕ) → HasRowsAtKeys db → first (map (updates_key db) r.actions) ≡ None
    → HasRowsAtKeys (transacted db r moment).0
transacted_keyed db r moment all none =
    either_keyed (list_all (λ action. is_accepted (outcome_of db action)) r.actions)
    (with_token (made_all db r.actions (map (outcome_of db) r.actions)) r.token moment (numbered_all db r.actions), answer.TransactWritten r.consumed)
    (refused db (Cancelled (map (reason_of db) r.actions)))
    (token_keyed (made_all db r.actions (map (outcome_of db) r.actions)) r.token moment (numbered_all db r.actions)
    (all_well db r.actions (map (outcome_of db) r.actions) all (all_fit db r.actions all none)))
    all

repeated_keyed : (db : Database) (r : TransactWrite) (moment : ℕ) (o : Option (Kept (List NumberedAction))) → HasRowsAtKeys db
    → first (map (updates_key db) r.actions) ≡ None → HasRowsAtKeys (repeated db r moment o).0
repeated_keyed db r moment None all none = transacted_keyed db r moment all none
repeated_keyed db r moment (Some kept) all none =
    either_keyed (pointwise same_action kept.actions (numbered_all db r.actions)) (db, answer.TransactWritten r.consumed) (refused db Mismatch) all all

pub transact_write_keyed : (db : Database) (r : TransactWrite) (moment : ℕ) → HasRowsAtKeys db → HasRowsAtKeys (transact_write db r moment).0
transact_write_keyed db r moment all =
    let living = without_expired db moment in
    unless_keyed db (transact_refusal db r.actions) (repeated living r moment (kept_of living r.token)) all
    (λ none. repeated_keyed living r moment (kept_of living r.token) all (no_updates db r.actions none))

pub transact_get_keyed : (db : Database) (r : TransactGet) → HasRowsAtKeys db → HasRowsAtKeys (transact_get db r).0
transact_get_keyed db r all = unless_keyed db (read_refusal db r.reads) _ all (λ none. all)
