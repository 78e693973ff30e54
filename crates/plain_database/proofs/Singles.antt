-- Requests on one item leave rows at their keys.
use Rattle.std.specs.Prelude.{⊤}
use Rattle.std.proofs.Common.{◌≡◌, ℕ, List, Bool, true, false, cond, Option, None, Some, option_map, unwrap_or, Result, Ok, Err, refl, sym, ap, ◌∙◌, subst}
use Rattle.attr_value.specs.Tree.{Attributes}
use Rattle.attr_value.specs.Paths.{value_at}
use Rattle.attr_value.specs.declared.value.Value.{Value}
use Rattle.expr_parse.specs.declared.tree.Update.{Update}
use Rattle.expr_parse.specs.Update.{update_tree}
use Rattle.update_eval.specs.Places.{touches}
use Rattle.update_eval.specs.declared.fault.EvalFault.{EvalFault}
use Rattle.update_eval.specs.declared.fault.EvalFault.TheVariants.{ItemTooLarge, IndexKey}
use Rattle.item_keys.specs.ItemKey.{sort_in, key_in, has_only, alone, key_alone}
use Rattle.item_keys.specs.declared.fault.KeyFault.{KeyFault}
use Rattle.item_keys.specs.declared.key.Key.{Key}
use Rattle.table_schema.specs.declared.keys.KeyNames.{KeyNames}
use Rattle.table_schema.specs.declared.schema.Schema.{Schema}
use Rattle.row_keys.specs.declared.row_key.RowKey.{RowKey}
use Rattle.row_keys.specs.Keys.{row_key}
use Rattle.row_keys.specs.Rows.{is_refused}
use Rattle.page_ranges.specs.AtKeys.{key_if, IsAtKey}
use Rattle.table_request.specs.declared.items.PutItem.{PutItem}
use Rattle.table_request.specs.declared.items.GetItem.{GetItem}
use Rattle.table_request.specs.declared.items.UpdateItem.{UpdateItem}
use Rattle.table_request.specs.declared.items.DeleteItem.{DeleteItem}
use Rattle.table_model.specs.declared.refusal.Refusal.{Refusal}
use Rattle.table_model.specs.declared.refusal.Refusal.TheVariants.{Invalid}
use Rattle.table_model.specs.declared.refusal.Invalid as why
use Rattle.table_model.specs.declared.refusal.Invalid.TheVariants as invalid
use Rattle.table_model.specs.Database.{Database, Table, Effect, table_named, in_table, at_key, unless}
use Rattle.table_model.specs.Outcome.{ItemOutcome, becomes, is_false, is_faulty, is_met, where_met, fit_if, is_too_large, updated_by, put_outcome, update_outcome, delete_outcome}
use Rattle.table_model.specs.declared.reply.Reply.{Reply}
use Rattle.table_model.specs.Writes.{written, old_at, put_item, touched_name, touched_key, key_update, update_at, update_item, delete_item}
use Rattle.table_model.specs.Reads.{get_item}
use Rattle.plain_database.specs.Keyed.{HasRowsAtKeys}
use Rattle.plain_database.proofs.Rows.{Fits, item_fits, named_keyed, row_keyed}
use Rattle.plain_database.proofs.Untouched.{untouched}

-- ---- effects by their cases

pub in_keyed : (db : Database) (name : List ℕ) (o : Option Table) (effect : Table → Effect) → HasRowsAtKeys db
    → ((t : Table) → o ≡ Some t → HasRowsAtKeys (effect t).0) → HasRowsAtKeys (in_table db name o effect).0
in_keyed db name None effect all later = all
in_keyed db name (Some t) effect all later = later t refl

pub key_keyed : (db : Database) (k : Result Key KeyFault) (effect : Key → Effect) → HasRowsAtKeys db
    → ((key : Key) → k ≡ Ok key → HasRowsAtKeys (effect key).0) → HasRowsAtKeys (at_key db k effect).0
key_keyed db (Err fault) effect all later = all
key_keyed db (Ok key) effect all later = later key refl

pub unless_keyed : (db : Database) (o : Option Refusal) (effect : Effect) → HasRowsAtKeys db → (o ≡ None → HasRowsAtKeys effect.0)
    → HasRowsAtKeys (unless db o effect).0
unless_keyed db None effect all later = later refl
unless_keyed db (Some refusal) effect all later = all

-- ---- outcomes that fit a key

abbrev pub FitsOutcome : Schema → RowKey → ItemOutcome → Type 0
FitsOutcome schema key (becomes new) = Fits schema key new
FitsOutcome schema key is_false = ⊤
FitsOutcome schema key (is_faulty fault) = ⊤

pub where_fits : (schema : Schema) (key : RowKey) (b : Bool) (o : ItemOutcome) → FitsOutcome schema key o → FitsOutcome schema key (where_met b o)
where_fits schema key true o h = h
where_fits schema key false o h = tt

item_where : (schema : Schema) (key : RowKey) (item : Attributes) (b c : Bool) → IsAtKey schema schema.keys key item
    → FitsOutcome schema key (cond b (is_faulty ItemTooLarge) (cond c (is_faulty IndexKey) (becomes (Some item))))
item_where schema key item true c h = tt
item_where schema key item false true h = tt
item_where schema key item false false h = h

pub put_fits : (schema : Schema) (key : RowKey) (item : Attributes) → IsAtKey schema schema.keys key item → FitsOutcome schema key (put_outcome schema item)
put_fits schema key item h = item_where schema key item (is_too_large item) (is_refused schema item) h

-- ---- keys that an update does not touch

sort_stays : (schema : Schema) (sort : Option (List ℕ)) (old new : Attributes) → ((name : List ℕ) → sort ≡ Some name → value_at name new ≡ value_at name old)
    → sort_in schema sort new ≡ sort_in schema sort old
sort_stays schema None old new same = refl
sort_stays schema (Some name) old new same = rw (same name refl) refl

key_stays : (schema : Schema) (keys : KeyNames) (old new : Attributes) → value_at keys.partition new ≡ value_at keys.partition old
    → ((name : List ℕ) → keys.sort ≡ Some name → value_at name new ≡ value_at name old) → key_in schema keys new ≡ key_in schema keys old
unfolding key_in
key_stays schema keys old new first second =
    rw (first, sort_stays schema keys.sort old new second) refl

none_told : (o : Option (List ℕ)) → option_map (λ (name : List ℕ). Invalid (invalid.UpdateOfKey name)) o ≡ None → o ≡ None
none_told None e = refl
none_told (Some name) e = cc

not_first : (b : Bool) (name : List ℕ) (o : Option (List ℕ)) → cond b (Some name) o ≡ None → (b ≡ false) × (o ≡ None)
not_first true name o e = cc
not_first false name o e = (refl, e)

not_sort : (update : Update) (sort : Option (List ℕ)) → touched_name update sort ≡ None → (name : List ℕ) → sort ≡ Some name → touches (update_tree update) name ≡ false
not_sort update None e name is = cc
not_sort update (Some other) e name is = ap (touches (update_tree update)) (sym (some_is other name is)) ∙ (not_first (touches (update_tree update) other) other None e).0
  where
    some_is : (a b : List ℕ) → ◌≡◌ {A = Option (List ℕ)} (Some a) (Some b) → a ≡ b
    some_is a b e = cc

updated_fits : (schema : Schema) (key : RowKey) (update : Option Update) (values : List Value) (item : Attributes) → key_update schema.keys update ≡ None
    → IsAtKey schema schema.keys key item → (new : Attributes) → updated_by update values item ≡ Ok new → IsAtKey schema schema.keys key new
updated_fits schema key None values item none at new e = subst (IsAtKey schema schema.keys key) (ok_is item new e) at
  where
    ok_is : (a b : Attributes) → ◌≡◌ {A = Result Attributes EvalFault} (Ok a) (Ok b) → a ≡ b
    ok_is a b e = cc
updated_fits schema key (Some update) values item none at new e =
    let free = not_first (touches (update_tree update) schema.keys.partition) schema.keys.partition (touched_name update schema.keys.sort) (none_told (touched_key schema.keys (Some update)) none) in
    let stays = λ (name : List ℕ) (h : touches (update_tree update) name ≡ false). untouched name values item new (update_tree update) h e in
    ap key_if (key_stays schema schema.keys item new (stays schema.keys.partition free.0) (λ name is. stays name (not_sort update schema.keys.sort free.1 name is))) ∙ at

fit_result : (schema : Schema) (key : RowKey) (made : Result Attributes EvalFault) → ((new : Attributes) → made ≡ Ok new → IsAtKey schema schema.keys key new)
    → FitsOutcome schema key (fit_if schema made)
fit_result schema key (Ok new) h = put_fits schema key new (h new refl)
fit_result schema key (Err fault) h = tt

base_fits : (schema : Schema) (key : RowKey) (old : Option Attributes) (item : Attributes) → Fits schema key old → IsAtKey schema schema.keys key item
    → IsAtKey schema schema.keys key (unwrap_or old item)
base_fits schema key None item h at = at
base_fits schema key (Some old) item h at = h

pub update_fits : (schema : Schema) (key : RowKey) (update : Option Update) (values : List Value) (item : Attributes) (old : Option Attributes)
    → key_update schema.keys update ≡ None → IsAtKey schema schema.keys key item → Fits schema key old
    → FitsOutcome schema key (update_outcome schema update values item old)
update_fits schema key update values item old none at fits =
    fit_result schema key (updated_by update values (unwrap_or old item))
    (updated_fits schema key update values (unwrap_or old item) none (base_fits schema key old item fits at))

-- ---- keys that are sent

pub at_its_key : (schema : Schema) (item : Attributes) (key : Key) → key_in schema schema.keys item ≡ Ok key → IsAtKey schema schema.keys (row_key key) item
at_its_key schema item key e = ap key_if e

without_others : (b : Bool) (k : Result Key KeyFault) (key : Key) → alone b k ≡ Ok key → k ≡ Ok key
without_others b (Err fault) key e = cc
without_others true (Ok k) key e = e
without_others false (Ok k) key e = cc

pub at_own_key : (schema : Schema) (item : Attributes) (key : Key) → key_alone schema schema.keys item ≡ Ok key → IsAtKey schema schema.keys (row_key key) item
at_own_key schema item key e = at_its_key schema item key (without_others (has_only schema.keys item) (key_in schema schema.keys item) key e)

-- ---- writes

written_keyed : (db : Database) (name : List ℕ) (table : Table) (key : Key) (lost : Option Attributes) (fault : EvalFault → why.Invalid) (told : Option Attributes → Reply) (o : ItemOutcome)
    → table_named db name ≡ Some table → FitsOutcome table.schema (row_key key) o → HasRowsAtKeys db → HasRowsAtKeys (written db name table key lost fault told o).0
written_keyed db name table key lost fault told (becomes new) is fits all = row_keyed db name table (row_key key) new is fits all
written_keyed db name table key lost fault told is_false is fits all = all
written_keyed db name table key lost fault told (is_faulty why) is fits all = all

pub put_keyed : (db : Database) (r : PutItem) → HasRowsAtKeys db → HasRowsAtKeys (put_item db r).0
put_keyed db r all =
    in_keyed db r.table (table_named db r.table) _ all (λ t is. key_keyed db (key_in t.schema t.schema.keys r.item) _ all (λ key has.
    written_keyed db r.table t key _ _ _ _ is
    (where_fits t.schema (row_key key) (is_met r.condition r.values (old_at t key)) (put_outcome t.schema r.item)
    (put_fits t.schema (row_key key) r.item (at_its_key t.schema r.item key has))) all))

pub update_keyed : (db : Database) (r : UpdateItem) → HasRowsAtKeys db → HasRowsAtKeys (update_item db r).0
update_keyed db r all =
    in_keyed db r.table (table_named db r.table) _ all (λ t is. key_keyed db (key_alone t.schema t.schema.keys r.key) _ all (λ key has.
    unless_keyed db (key_update t.schema.keys r.update) (update_at db r t key) all (λ none.
    written_keyed db r.table t key _ _ _ _ is
    (where_fits t.schema (row_key key) (is_met r.condition r.values (old_at t key)) (update_outcome t.schema r.update r.values r.key (old_at t key))
    (update_fits t.schema (row_key key) r.update r.values r.key (old_at t key) none (at_own_key t.schema r.key key has)
    (item_fits t.schema t.rows (row_key key) (named_keyed db r.table t is all)))) all)))

pub delete_keyed : (db : Database) (r : DeleteItem) → HasRowsAtKeys db → HasRowsAtKeys (delete_item db r).0
delete_keyed db r all =
    in_keyed db r.table (table_named db r.table) _ all (λ t is. key_keyed db (key_alone t.schema t.schema.keys r.key) _ all (λ key has.
    written_keyed db r.table t key _ _ _ _ is
    (where_fits t.schema (row_key key) (is_met r.condition r.values (old_at t key)) delete_outcome tt) all))

pub get_keyed : (db : Database) (r : GetItem) → HasRowsAtKeys db → HasRowsAtKeys (get_item db r).0
get_keyed db r all =
    in_keyed db r.table (table_named db r.table) _ all (λ t is. key_keyed db (key_alone t.schema t.schema.keys r.key) _ all (λ key has. all))
