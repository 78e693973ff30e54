-- The outcomes that were taken first, made one after the other, are the changes of the accepted actions.
use Rattle.std.specs.Prelude.{⊤}
use Rattle.std.specs.List.{AllByRecursion, list_any, cons_option}
use Rattle.std.specs.List.Sorted.{IsStrictlySortedBy}
use Rattle.std.specs.Cmp.{eq_by_cmp_equiv}
use Rattle.std.specs.Map.{keys_of, remove_entry}
use Rattle.std.specs.BTreeMap.{is_at}
use Rattle.std.specs.Ordering.{nat_cmp}
use Rattle.std.specs.Cmp.Lexicographic.{slice_cmp}
use Rattle.std.specs.Str.{bytes_eq}
use Rattle.std.proofs.Common.{◌≡◌, ℕ, Bool, true, false, cond, ◌&&◌, ◌||◌, List, [], ◌∷◌, map, filter_map, Option, None, Some, is_some, IsSome, option_map, refl, sym, ap, ◌∙◌, subst}
use Rattle.std.proofs.lemmas.Bool.{cond-true, cond-false}
use Rattle.std.proofs.lemmas.Cmp.{nat_list_cmp_total}
use Rattle.std.proofs.lemmas.Map.{lookup-set_value}
use Rattle.std.proofs.lemmas.Map.Lookups.{exact_bytes}
use Rattle.std.proofs.lemmas.Map.Steps.{set_value_same}
use Rattle.std.proofs.lemmas.Map.Text.{is_eq-slice_cmp}
use Rattle.attr_value.specs.Tree.{Attributes}
use Rattle.table_schema.specs.declared.schema.Schema.{Schema}
use Rattle.row_keys.specs.declared.row_key.RowKey.{RowKey}
use Rattle.row_keys.specs.Keys.{row_order}
use Rattle.row_keys.specs.KeyLaws.{row_total}
use Rattle.row_keys.specs.Rows.{Rows, item_at, with_item}
use Rattle.table_rows.proofs.Exact.{row_exact}
use Rattle.table_rows.proofs.Entries.{by_bool, at_is, flip, same_entries, sorted_in, lookup_in, sorted_out, lookup_out}
use Rattle.table_request.specs.declared.transactions.TransactAction.{TransactAction}
use Rattle.table_request.specs.declared.transactions.ActionChange.{ActionChange}
use Rattle.table_request.specs.declared.transactions.ActionChange.TheVariants.{Put, Update, Delete, Check}
use Rattle.update_eval.specs.declared.fault.EvalFault.{EvalFault}
use Rattle.table_model.specs.Outcome.{ItemOutcome, becomes, is_false, is_faulty, is_met, where_met}
use Rattle.table_model.specs.Database.{Database, Table, table_named, with_table, with_row}
use Rattle.table_model.specs.Batches.{place_if}
use Rattle.table_model.specs.Transactions.{Target, is_one, has_repeat, change_key, target_if, target_of, change_outcome, outcome_if, outcome_of, made_if, made_all}
use Rattle.numbered_tables.specs.declared.change.TableChange.{TableChange}
use Rattle.numbered_tables.specs.Changes.{is_same, has_repeat as is_changed_twice, changed_if, changed, changed_all}
use Rattle.transact_writes.specs.Judged.{change_if, judged_if, judged, change_in, changes_of, AreInOrderIf, IsInOrder}

-- ---- rows

abbrev AreInOrder : Rows → Type 0
AreInOrder rows = IsStrictlySortedBy row_order (keys_of rows)

-- the item at a key that no change is of
removed_other : (k q : RowKey) (rows : Rows) → is_at (row_order k) q ≡ false → item_at (remove_entry (is_at (row_order k)) rows) q ≡ item_at rows q
removed_other k q [] apart = refl
removed_other k q (row ∷ rows) apart = by_bool (is_at (row_order k) row.0) _
    (λ here.
    let kept : is_at (row_order q) row.0 ≡ false =
    flip row_total row_exact q row.0 ∙ ap (λ (x : RowKey). is_at (row_order x) q) (sym (at_is row_total row_exact k row.0 here)) ∙ apart in
    ap (λ (rs : Rows). item_at rs q) (cond-true (is_at (row_order k) row.0) rows (row ∷ remove_entry (is_at (row_order k)) rows) here)
    ∙ sym (cond-false (is_at (row_order q) row.0) (Some row.1) (item_at rows q) kept))
    (λ past.
    ap (λ (rs : Rows). item_at rs q) (cond-false (is_at (row_order k) row.0) rows (row ∷ remove_entry (is_at (row_order k)) rows) past)
    ∙ ap (λ (o : Option Attributes). cond (is_at (row_order q) row.0) (Some row.1) o) (removed_other k q rows apart))

other_item : (rows : Rows) (k q : RowKey) (new : Option Attributes) → is_at (row_order k) q ≡ false → item_at (with_item rows k new) q ≡ item_at rows q
other_item rows k q None apart = removed_other k q rows apart
other_item rows k q (Some item) apart =
    lookup_in row_total row_exact q k item rows ∙ cond-false (is_at (row_order k) q) (Some item) (item_at rows q) apart

with_order : (rows : Rows) (k : RowKey) (new : Option Attributes) → AreInOrder rows → AreInOrder (with_item rows k new)
with_order rows k None order = sorted_out row_total row_exact (is_at (row_order k)) rows order
with_order rows k (Some item) order = sorted_in row_total row_exact k item rows order

-- the item that is there, made again
item_again : (rows : Rows) (k : RowKey) (new : Option Attributes) → AreInOrder rows → item_at rows k ≡ new → with_item rows k new ≡ rows
item_again rows k None order is =
    same_entries row_total row_exact (with_item rows k None) rows (with_order rows k None order) order
    (λ q. lookup_out row_total row_exact q k rows order ∙ by_bool (is_at (row_order k) q) _
    (λ here.
    cond-true (is_at (row_order k) q) None (item_at rows q) here ∙ sym is
    ∙ ap (item_at rows) (at_is row_total row_exact k q here))
    (λ past. cond-false (is_at (row_order k) q) None (item_at rows q) past))
item_again rows k (Some item) order is =
    same_entries row_total row_exact (with_item rows k (Some item)) rows (with_order rows k (Some item) order) order
    (λ q. lookup_in row_total row_exact q k item rows ∙ by_bool (is_at (row_order k) q) _
    (λ here.
    cond-true (is_at (row_order k) q) (Some item) (item_at rows q) here ∙ sym is
    ∙ ap (item_at rows) (at_is row_total row_exact k q here))
    (λ past. cond-false (is_at (row_order k) q) (Some item) (item_at rows q) past))

-- ---- tables of a database with one change more

abbrev at : List ℕ → List ℕ → Bool
at name = is_at (slice_cmp nat_cmp name)

name_is : (x y : List ℕ) → at x y ≡ true → x ≡ y
name_is x y h = at_is nat_list_cmp_total exact_bytes x y h

abbrev change_made : TableChange → Table → Table
change_made change t = record t { rows = with_item t.rows change.key change.new }

-- the table of a name after the change
named_if : (db : Database) (change : TableChange) (name : List ℕ) (o : Option Table) → table_named db change.table ≡ o
    → table_named (changed_if db change o) name ≡ cond (at change.table name) (option_map (change_made change) (table_named db name)) (table_named db name)
named_if db change name None none = by_bool (at change.table name) _
    (λ here.
    let absent : table_named db name ≡ None = ap (table_named db) (sym (name_is change.table name here)) ∙ none in
    absent ∙ sym (ap (option_map (change_made change)) absent)
    ∙ sym (cond-true (at change.table name) (option_map (change_made change) (table_named db name)) (table_named db name) here))
    (λ past. sym (cond-false (at change.table name) (option_map (change_made change) (table_named db name)) (table_named db name) past))
named_if db change name (Some t) found =
    lookup-set_value (eq_by_cmp_equiv nat_list_cmp_total) (at change.table)
    (λ x y h. ap (λ (z : List ℕ). at z y) (name_is change.table x h)) name (change_made change t) db.tables (subst IsSome (sym found) refl)
    ∙ by_bool (at change.table name) _
    (λ here.
    let there : table_named db name ≡ Some t = ap (table_named db) (sym (name_is change.table name here)) ∙ found in
    cond-true (at change.table name) (Some (change_made change t)) (table_named db name) here
    ∙ sym (ap (option_map (change_made change)) there)
    ∙ sym (cond-true (at change.table name) (option_map (change_made change) (table_named db name)) (table_named db name) here))
    (λ past.
    cond-false (at change.table name) (Some (change_made change t)) (table_named db name) past
    ∙ sym (cond-false (at change.table name) (option_map (change_made change) (table_named db name)) (table_named db name) past))

abbrev after : TableChange → List ℕ → Option Table → Option Table
after change name o = cond (at change.table name) (option_map (change_made change) o) o

named_after : (db : Database) (change : TableChange) (name : List ℕ) → table_named (changed db change) name ≡ after change name (table_named db name)
named_after db change name = named_if db change name (table_named db change.table) refl

-- ---- what an action finds

-- the number and the schema of a table
abbrev kind : Table → ℕ × Schema
kind t = (t.number, t.schema)

kind_if : (b : Bool) (change : TableChange) (o : Option Table) → option_map kind (cond b (option_map (change_made change) o) o) ≡ option_map kind o
kind_if true change None = refl
kind_if true change (Some t) = refl
kind_if false change o = refl

abbrev target_by : Option (ℕ × Schema) → TransactAction → Option Target
target_by None action = None
target_by (Some kind) action =
    option_map (λ key. record { name = action.table; number = kind.0; key = key }) (place_if (change_key kind.1 action.change))

target_kind : (o : Option Table) (action : TransactAction) → target_if o action ≡ target_by (option_map kind o) action
target_kind None action = refl
target_kind (Some t) action = refl

-- tables are of one kind in both databases
abbrev pub IsAlike : Database → Database → Type 0
IsAlike a b = (name : List ℕ) → option_map kind (table_named a name) ≡ option_map kind (table_named b name)

same_target : (a b : Database) (action : TransactAction) → IsAlike a b → target_of a action ≡ target_of b action
same_target a b action alike =
    target_kind (table_named a action.table) action ∙ ap (λ o. target_by o action) (alike action.table)
    ∙ sym (target_kind (table_named b action.table) action)

alike_after : (a b : Database) (change : TableChange) → IsAlike a b → IsAlike (changed a change) b
alike_after a b change alike name =
    ap (option_map kind) (named_after a change name) ∙ kind_if (at change.table name) change (table_named a name) ∙ alike name

-- the item of an action's target
abbrev item_if : Option Table → Option Target → Option Attributes
item_if (Some t) (Some target) = item_at t.rows target.key
item_if _ _ = None

abbrev pub item_of : Database → TransactAction → Option Attributes
item_of db action = item_if (table_named db action.table) (target_of db action)

order_if : (b : Bool) (change : TableChange) (o : Option Table) → AreInOrderIf o → AreInOrderIf (cond b (option_map (change_made change) o) o)
order_if true change None order = tt
order_if true change (Some t) order = with_order t.rows change.key change.new order
order_if false change o order = order

order_after : (db : Database) (change : TableChange) (action : TransactAction) → IsInOrder db action → IsInOrder (changed db change) action
order_after db change action order =
    subst AreInOrderIf (sym (named_after db change action.table)) (order_if (at change.table action.table) change (table_named db action.table) order)

-- a change is not of the target
abbrev is_of : TableChange → Target → Bool
is_of change target = bytes_eq change.table target.name && is_at (row_order change.key) target.key

both_false : (a b : Bool) → (a && b) ≡ false → a ≡ true → b ≡ false
both_false true b h t = h
both_false false b h t = absurd (cc)

item_by : (b : Bool) (change : TableChange) (o : Option Table) (target : Option Target)
    → ((found : Target) → target ≡ Some found → b ≡ true → is_at (row_order change.key) found.key ≡ false)
    → item_if (cond b (option_map (change_made change) o) o) target ≡ item_if o target
item_by true change None target apart = refl
item_by true change (Some t) None apart = refl
item_by true change (Some t) (Some found) apart = other_item t.rows change.key found.key change.new (apart found refl refl)
item_by false change o target apart = refl

target_name : (o : Option Table) (action : TransactAction) (found : Target) → target_if o action ≡ Some found → found.name ≡ action.table
target_name None action found is = absurd (cc)
target_name (Some t) action found is = by_place (place_if (change_key t.schema action.change)) is
  where
    by_place : (p : Option RowKey) → option_map (λ key. (let target : Target = record { name = action.table; number = t.number; key = key } in target)) p ≡ Some found
        → found.name ≡ action.table
    by_place None e = absurd (cc)
    by_place (Some key) e = let same : (let target : Target = record { name = action.table; number = t.number; key = key } in target) ≡ found = cc in ap (λ target. target.name) (sym same)

item_after : (db : Database) (change : TableChange) (action : TransactAction)
    → ((found : Target) → target_of db action ≡ Some found → is_of change found ≡ false) → item_of (changed db change) action ≡ item_of db action
item_after db change action apart =
    let target : target_of (changed db change) action ≡ target_of db action = same_target (changed db change) db action (alike_after db db change (λ name. refl)) in
    (λ i. item_if (named_after db change action.table i) (target i))
    ∙ item_by (at change.table action.table) change (table_named db action.table) (target_of db action)
    (λ found is here.
    both_false (bytes_eq change.table found.name) (is_at (row_order change.key) found.key) (apart found is)
    (ap (bytes_eq change.table) (target_name (table_named db action.table) action found is) ∙ sym (is_eq-slice_cmp change.table action.table) ∙ here))

-- ---- one action

-- a change that is made, or none
abbrev changed_by : Database → Option TableChange → Database
changed_by db None = db
changed_by db (Some change) = changed db change

-- a check is of the item that is there
check_is : (met : Bool) (old new : Option Attributes) → where_met met (becomes old) ≡ becomes new → old ≡ new
check_is true old new is = cc
check_is false old new is = absurd (cc)

same_row : (db : Database) (name : List ℕ) (t : Table) (key : RowKey) (new : Option Attributes) → table_named db name ≡ Some t → AreInOrder t.rows
    → item_at t.rows key ≡ new → with_row db name t key new ≡ db
same_row db name t key new found order is =
    ap (λ (rows : Rows). with_table db name (record t { rows = rows })) (item_again t.rows key new order is)
    ∙ ap (λ (ts : List (List ℕ × Table)). (let d : Database = record db { tables = ts } in d)) (set_value_same (at name) db.tables t found)

-- what is made by the outcome, where it is a check
checked_one : (db : Database) (action : TransactAction) (o o₀ : Option Table) (target : Option Target) (key : Attributes) (new : Option Attributes)
    → table_named db action.table ≡ o → AreInOrderIf o → item_if o target ≡ item_if o₀ target
    → is_some o ≡ is_some o₀ → action.change ≡ Check key
    → outcome_if o₀ action target ≡ becomes new
    → made_if db action.table o target (becomes new) ≡ db
checked_one db action None o₀ target key new found order same both is made = refl
checked_one db action (Some t) o₀ None key new found order same both is made = refl
checked_one db action (Some t) None (Some target) key new found order same both is made = absurd (cc)
checked_one db action (Some t) (Some t₀) (Some target) key new found order same both is made =
    let old = item_at t₀.rows target.key in
    let by_check : where_met (is_met action.condition action.values old) (becomes old) ≡ becomes new =
    ap (λ change. where_met (is_met action.condition action.values old) (change_outcome t₀.schema action old change)) (sym is) ∙ made in
    same_row db action.table t target.key new found order (same ∙ check_is (is_met action.condition action.values old) old new by_check)

abbrev write_of : List ℕ → Option Target → Option Attributes → Option TableChange
write_of name target new = option_map (λ t. record { table = name; key = t.key; new = new }) target

-- and where it writes
written_one : (db : Database) (name : List ℕ) (o : Option Table) (target : Option Target) (new : Option Attributes) → table_named db name ≡ o
    → made_if db name o target (becomes new) ≡ changed_by db (write_of name target new)
written_one db name None None new found = refl
written_one db name (Some t) None new found = refl
written_one db name None (Some target) new found = sym (ap (changed_if db (record { table = name; key = target.key; new = new })) found)
written_one db name (Some t) (Some target) new found = sym (ap (changed_if db (record { table = name; key = target.key; new = new })) found)

-- where it is not accepted nothing is made
not_false : (db : Database) (name : List ℕ) (o : Option Table) (target : Option Target) → made_if db name o target is_false ≡ db
not_false db name None target = refl
not_false db name (Some t) None = refl
not_false db name (Some t) (Some target) = refl

not_faulty : (db : Database) (name : List ℕ) (o : Option Table) (target : Option Target) (fault : EvalFault) → made_if db name o target (is_faulty fault) ≡ db
not_faulty db name None target fault = refl
not_faulty db name (Some t) None fault = refl
not_faulty db name (Some t) (Some target) fault = refl

some_kind : (o : Option Table) → is_some (option_map kind o) ≡ is_some o
some_kind None = refl
some_kind (Some t) = refl

module _ (db first : Database) (action : TransactAction) (alike : IsAlike db first) (item : item_of db action ≡ item_of first action)
    (order : IsInOrder db action) where
  made_now : ItemOutcome → Database
  made_now outcome = made_if db action.table (table_named db action.table) (target_of db action) outcome

  writes : (new : Option Attributes) → made_if db action.table (table_named db action.table) (target_of db action) (becomes new)
      ≡ changed_by db (write_of action.table (target_of first action) new)
  writes new =
      written_one db action.table (table_named db action.table) (target_of db action) new refl
      ∙ ap (λ target. changed_by db (write_of action.table target new)) (same_target db first action alike)

  write_is : (change : ActionChange) (target : Option Target) (new : Option Attributes) → ((key : Attributes) → change ≡ Check key → ⊥)
      → write_of action.table target new ≡ change_if action.table change target new
  write_is (Put item) None new check = refl
  write_is (Put item) (Some target) new check = refl
  write_is (Update key update) None new check = refl
  write_is (Update key update) (Some target) new check = refl
  write_is (Delete key) None new check = refl
  write_is (Delete key) (Some target) new check = refl
  write_is (Check key) target new check = absurd (check key refl)

  by_write : (change : ActionChange) (new : Option Attributes) → ((key : Attributes) → change ≡ Check key → ⊥)
      → made_if db action.table (table_named db action.table) (target_of db action) (becomes new)
      ≡ changed_by db (change_if action.table change (target_of first action) new)
  by_write change new check = writes new ∙ ap (changed_by db) (write_is change (target_of first action) new check)

  by_change : (change : ActionChange) (new : Option Attributes) → action.change ≡ change → outcome_of first action ≡ becomes new
      → made_if db action.table (table_named db action.table) (target_of db action) (becomes new)
      ≡ changed_by db (change_if action.table change (target_of first action) new)
  by_change (Put item) new is made = by_write (Put item) new (λ key e. cc)
  by_change (Update key update) new is made = by_write (Update key update) new (λ key e. cc)
  by_change (Delete key) new is made = by_write (Delete key) new (λ key e. cc)
  by_change (Check key) new is made =
      let target = same_target db first action alike in
      ap (λ t. made_if db action.table (table_named db action.table) t (becomes new)) target
      ∙ checked_one db action (table_named db action.table) (table_named first action.table) (target_of first action) key new refl order
      (ap (item_if (table_named db action.table)) (sym target) ∙ item)
      (sym (some_kind (table_named db action.table)) ∙ ap is_some (alike action.table) ∙ some_kind (table_named first action.table)) is made

  by_outcome : (outcome : ItemOutcome) → outcome_of first action ≡ outcome
      → made_if db action.table (table_named db action.table) (target_of db action) outcome ≡ changed_by db (change_in (judged_if first action outcome))
  by_outcome (becomes new) is = by_change action.change new refl is
  by_outcome is_false is = not_false db action.table (table_named db action.table) (target_of db action)
  by_outcome (is_faulty fault) is = not_faulty db action.table (table_named db action.table) (target_of db action) fault

  -- an outcome that was taken first and is made now is the change of the action
  one : made_if db action.table (table_named db action.table) (target_of db action) (outcome_of first action) ≡ changed_by db (change_in (judged first action))
  one = by_outcome (outcome_of first action) refl

-- ---- all of them

-- the change is of this target
abbrev IsOf : List ℕ → Option TableChange → Option Target → Type 0
IsOf name None target = ⊤
IsOf name (Some change) None = ⊥
IsOf name (Some change) (Some target) = (change.table ≡ name) × (change.key ≡ target.key)

of_change : (name : List ℕ) (change : ActionChange) (target : Option Target) (new : Option Attributes) → IsOf name (change_if name change target new) target
of_change name (Put item) None new = tt
of_change name (Put item) (Some target) new = (refl, refl)
of_change name (Update key update) None new = tt
of_change name (Update key update) (Some target) new = (refl, refl)
of_change name (Delete key) None new = tt
of_change name (Delete key) (Some target) new = (refl, refl)
of_change name (Check key) target new = tt

of_outcome : (db : Database) (action : TransactAction) (outcome : ItemOutcome) → IsOf action.table (change_in (judged_if db action outcome)) (target_of db action)
of_outcome db action (becomes new) = of_change action.table action.change (target_of db action) new
of_outcome db action is_false = tt
of_outcome db action (is_faulty fault) = tt

or_front : (a b : Bool) → (a || b) ≡ false → a ≡ false
or_front true b h = h
or_front false b h = refl

or_back : (a b : Bool) → (a || b) ≡ false → b ≡ false
or_back true b h = absurd (cc)
or_back false b h = h

-- the other targets are not this one
abbrev AreOthers : Database → Target → List TransactAction → Type 0
AreOthers db target actions = AllByRecursion (λ action. (found : Target) → target_of db action ≡ Some found → is_one target found ≡ false) actions

others_by : (db : Database) (target : Target) (action : TransactAction) (actions : List TransactAction) (o : Option Target) → target_of db action ≡ o
    → list_any (is_one target) (cons_option o (filter_map (target_of db) actions)) ≡ false
    → (list_any (is_one target) (filter_map (target_of db) actions) ≡ false → AreOthers db target actions) → AreOthers db target (action ∷ actions)
others_by db target action actions None e h rest = ((λ found is. absurd (cc)), rest h)
others_by db target action actions (Some other) e h rest = (
  (λ found is. let same : other ≡ found = cc in ap (is_one target) (sym same) ∙ or_front (is_one target other) (list_any (is_one target) (filter_map (target_of db) actions)) h),
  rest (or_back (is_one target other) (list_any (is_one target) (filter_map (target_of db) actions)) h),
)

others_from : (db : Database) (target : Target) (actions : List TransactAction) → list_any (is_one target) (filter_map (target_of db) actions) ≡ false → AreOthers db target actions
others_from db target [] h = tt
others_from db target (action ∷ actions) h = others_by db target action actions (target_of db action) refl h (others_from db target actions)

-- no later target is this action's
apart_from : (db : Database) (target : Option Target) (actions : List TransactAction) → has_repeat (cons_option target (filter_map (target_of db) actions)) ≡ false
    → (found : Target) → target ≡ Some found → AreOthers db found actions
apart_from db None actions h found is = absurd (cc)
apart_from db (Some target) actions h found is =
    let same : target ≡ found = cc in
    subst (λ (t : Target). AreOthers db t actions) same
    (others_from db target actions (or_front (list_any (is_one target) (filter_map (target_of db) actions)) (has_repeat (filter_map (target_of db) actions)) h))

rest_apart : (db : Database) (target : Option Target) (targets : List Target) → has_repeat (cons_option target targets) ≡ false → has_repeat targets ≡ false
rest_apart db None targets h = h
rest_apart db (Some target) targets h = or_back (list_any (is_one target) targets) (has_repeat targets) h

module _ (first : Database) where
  -- what is still as it was, for the actions that are left
  pub record AreLeft (db : Database) (actions : List TransactAction) : Type 0 where
    pub alike : IsAlike db first
    pub items : AllByRecursion (λ action. item_of db action ≡ item_of first action) actions
    pub order : AllByRecursion (IsInOrder db) actions

  items_after : (db : Database) (change : TableChange) (target : Target) (actions : List TransactAction) → IsAlike db first
      → change.table ≡ target.name → change.key ≡ target.key → AreOthers first target actions
      → AllByRecursion (λ action. item_of db action ≡ item_of first action) actions
      → AllByRecursion (λ action. item_of (changed db change) action ≡ item_of first action) actions
  items_after db change target [] alike name key others items = tt
  items_after db change target (action ∷ actions) alike name key others items = (
    item_after db change action
        (λ found is. (λ i. bytes_eq (name i) found.name && is_at (row_order (key i)) found.key) ∙ others.0 found (sym (same_target db first action alike) ∙ is))
        ∙ items.0,
    items_after db change target actions alike name key others.1 items.1,
  )

  order_all : (db : Database) (change : TableChange) (actions : List TransactAction) → AllByRecursion (IsInOrder db) actions
      → AllByRecursion (IsInOrder (changed db change)) actions
  order_all db change [] order = tt
  order_all db change (action ∷ actions) order = (order_after db change action order.0, order_all db change actions order.1)

  left_after : (db : Database) (action : TransactAction) (actions : List TransactAction) (change : Option TableChange) (target : Option Target)
      → IsOf action.table change target → target_of first action ≡ target
      → ((found : Target) → target ≡ Some found → AreOthers first found actions) → AreLeft db actions → AreLeft (changed_by db change) actions
  left_after db action actions None target of is others left = left
  left_after db action actions (Some change) None of is others left = absurd of
  left_after db action actions (Some change) (Some target) of is others left = record {
    alike = alike_after db first change left.alike;
    items = items_after db change target actions left.alike (of.0 ∙ sym (target_name (table_named first action.table) action target is)) of.1 (others target refl) left.items;
    order = order_all db change actions left.order;
  }

  one_by_one : (db : Database) (change : Option TableChange) (changes : List TableChange)
      → changed_all (changed_by db change) changes ≡ changed_all db (cons_option change changes)
  one_by_one db None changes = refl
  one_by_one db (Some change) changes = refl

  all_from : (db : Database) (actions : List TransactAction) → AreLeft db actions → has_repeat (filter_map (target_of first) actions) ≡ false
      → made_all db actions (map (outcome_of first) actions) ≡ changed_all db (changes_of first actions)
  all_from db [] left apart = refl
  all_from db (action ∷ actions) left apart =
      let change = change_in (judged first action) in
      let rest : AreLeft db actions = record { alike = left.alike; items = left.items.1; order = left.order.1 } in
      ap (λ (d : Database). made_all d actions (map (outcome_of first) actions)) (one db first action left.alike left.items.0 left.order.0)
      ∙ all_from (changed_by db change) actions
      (left_after db action actions change (target_of first action) (of_outcome first action (outcome_of first action)) refl
      (apart_from first (target_of first action) actions apart) rest)
      (rest_apart first (target_of first action) (filter_map (target_of first) actions) apart)
      ∙ one_by_one db change (changes_of first actions)

  same_items : (actions : List TransactAction) → AllByRecursion (λ action. item_of first action ≡ item_of first action) actions
  same_items [] = tt
  same_items (action ∷ actions) = (refl, same_items actions)

  -- the outcomes of all actions, made, are their changes
  pub all_made : (actions : List TransactAction) → AllByRecursion (IsInOrder first) actions → has_repeat (filter_map (target_of first) actions) ≡ false
      → made_all first actions (map (outcome_of first) actions) ≡ changed_all first (changes_of first actions)
  all_made actions order apart =
      all_from first actions (record { alike = λ name. refl; items = same_items actions; order = order }) apart

  -- ---- no item is changed twice

  apart_by : (change : TableChange) (target : Target) (action : TransactAction) (other : Option TableChange) (found : Option Target) (rest : List TableChange)
      → change.table ≡ target.name → change.key ≡ target.key → target_of first action ≡ found → IsOf action.table other found
      → ((item : Target) → target_of first action ≡ Some item → is_one target item ≡ false)
      → list_any (is_same change) rest ≡ false → list_any (is_same change) (cons_option other rest) ≡ false
  apart_by change target action None found rest name key is of others none = none
  apart_by change target action (Some other) None rest name key is of others none = absurd of
  apart_by change target action (Some other) (Some found) rest name key is of others none =
      let same_name : other.table ≡ found.name = of.0 ∙ sym (target_name (table_named first action.table) action found is) in
      or_none (is_same change other) (list_any (is_same change) rest)
      ((λ i. bytes_eq (name i) (same_name i) && is_at (row_order (key i)) (of.1 i)) ∙ others found is) none
    where
      or_none : (a b : Bool) → a ≡ false → b ≡ false → (a || b) ≡ false
      or_none true b h g = h
      or_none false b h g = g

  none_same : (change : TableChange) (target : Target) (actions : List TransactAction) → change.table ≡ target.name → change.key ≡ target.key
      → AreOthers first target actions → list_any (is_same change) (changes_of first actions) ≡ false
  none_same change target [] name key others = refl
  none_same change target (action ∷ actions) name key others =
      apart_by change target action (change_in (judged first action)) (target_of first action) (changes_of first actions) name key refl
      (of_outcome first action (outcome_of first action)) others.0 (none_same change target actions name key others.1)

  twice_by : (action : TransactAction) (actions : List TransactAction) (change : Option TableChange) (target : Option Target)
      → target_of first action ≡ target → IsOf action.table change target
      → ((found : Target) → target ≡ Some found → AreOthers first found actions) → is_changed_twice (changes_of first actions) ≡ false
      → is_changed_twice (cons_option change (changes_of first actions)) ≡ false
  twice_by action actions None target is of others rest = rest
  twice_by action actions (Some change) None is of others rest = absurd of
  twice_by action actions (Some change) (Some target) is of others rest =
      or_none (list_any (is_same change) (changes_of first actions)) (is_changed_twice (changes_of first actions))
      (none_same change target actions (of.0 ∙ sym (target_name (table_named first action.table) action target is)) of.1 (others target refl)) rest
    where
      or_none : (a b : Bool) → a ≡ false → b ≡ false → (a || b) ≡ false
      or_none true b h g = h
      or_none false b h g = g

  -- where no item stands twice, none is changed twice
  pub changed_once : (actions : List TransactAction) → has_repeat (filter_map (target_of first) actions) ≡ false
      → is_changed_twice (changes_of first actions) ≡ false
  changed_once [] apart = refl
  changed_once (action ∷ actions) apart =
      twice_by action actions (change_in (judged first action)) (target_of first action) refl (of_outcome first action (outcome_of first action))
      (apart_from first (target_of first action) actions apart)
      (changed_once actions (rest_apart first (target_of first action) (filter_map (target_of first) actions) apart))
