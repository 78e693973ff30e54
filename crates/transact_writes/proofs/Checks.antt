-- Refusals of a request, one after the other.
use Rattle.std.specs.List.{AllByRecursion, cons_option}
use Rattle.std.specs.List.Sorted.{IsStrictlySortedBy}
use Rattle.std.specs.Map.{keys_of, lookup}
use Rattle.std.proofs.lemmas.List.{at_drop_more}
use Rattle.std.proofs.Common.{◌≡◌, ℕ, ◌+◌, ◌<◌, length, get_or, drop, is_some, true, false, List, [], ◌∷◌, ◌++◌, map, filter_map, Option, None, Some, option_map, option_and_then, Result, Ok, Err, refl, sym, ap, ◌∙◌, subst}
use Rattle.item_keys.specs.declared.fault.KeyFault.{KeyFault}
use Rattle.item_keys.specs.declared.key.Key.{Key}
use Rattle.row_keys.specs.declared.row_key.RowKey.{RowKey}
use Rattle.row_keys.specs.Keys.{row_order}
use Rattle.table_request.specs.declared.transactions.TransactAction.{TransactAction}
use Rattle.table_model.specs.declared.refusal.Refusal.{Refusal}
use Rattle.table_model.specs.declared.refusal.Refusal.TheVariants as refusal
use Rattle.table_model.specs.declared.refusal.Invalid.TheVariants as invalid
use Rattle.table_model.specs.Database.{Database, Table, first, table_named, where_true}
use Rattle.table_model.specs.Batches.{missing, missing_if, key_refusal, place_if}
use Rattle.table_model.specs.Transactions.{Target, has_repeat, change_key, key_if, target_if, target_of, bad_key, updates_key, transact_refusal}
use Rattle.table_items.specs.Outcomes.{row_key_if}
use Rattle.numbered_tables.specs.declared.table.NumberedTable.{NumberedTable}
use Rattle.numbered_tables.specs.Tables.{Kept}
use Rattle.numbered_tables.proofs.Kept.{at, absent, there, known}
use Rattle.std.specs.FinMap.{empty}
use Rattle.transact_reads.proofs.Firsts.{refused_here, goes_on, either_first}
use Rattle.transact_writes.specs.declared.aimed.Aimed.{Aimed}
use Rattle.transact_writes.specs.Judged.{AreInOrderIf}
use Rattle.transact_writes.specs.Aimed.{database_of, action_in, target_in, refusal_at, IsPlaced, IsTarget, IsAimed, AreAimed, twice_or_key, IsFit, IsChecked}

-- ---- the first of several refusals

pub first_here : (o : Option Refusal) (others : List (Option Refusal)) (why : Refusal) → o ≡ Some why → first (o ∷ others) ≡ Some why
first_here None others why is = absurd (cc)
first_here (Some other) others why is = is

pub first_later : (o : Option Refusal) (others : List (Option Refusal)) → o ≡ None → first (o ∷ others) ≡ first others
first_later None others is = refl
first_later (Some other) others is = absurd (cc)

-- the refusal of an action's table
abbrev pub missing_in : Database → TransactAction → Option Refusal
missing_in db action = missing db action.table

-- ---- where an item is

placed_if :
    (action : TransactAction) (t : NumberedTable) (key : RowKey) (stated : Result Key KeyFault) → Ok key ≡ row_key_if stated
    → (key_refusal stated ≡ None) × (place_if stated ≡ Some key)
placed_if action t key (Ok found) is = (refl, cc)
placed_if action t key (Err fault) is = absurd (cc)

faulty_if : (fault : KeyFault) (stated : Result Key KeyFault) → Err fault ≡ row_key_if stated → key_refusal stated ≡ Some (refusal.Invalid (invalid.Key fault))
faulty_if fault (Ok found) is = absurd (cc)
faulty_if fault (Err other) is = cc

pub no_table : (es : Kept) (action : TransactAction) → lookup (at action.table) es ≡ None
    → refusal_at (database_of es) action ≡ Some (refusal.NoTable action.table)
no_table es action none =
    first_here (missing (database_of es) action.table) (bad_key (database_of es) action ∷ []) (refusal.NoTable action.table)
    (ap (missing_if action.table) (absent es empty 0 action.table none))

pub placed : (es : Kept) (action : TransactAction) (t : NumberedTable) (key : RowKey) → lookup (at action.table) es ≡ Some t
    → IsStrictlySortedBy row_order (keys_of t.rows.rows) → Ok key ≡ row_key_if (change_key t.rows.schema action.change)
    → IsPlaced (database_of es) action (Ok (record { table = t.number; key = key }))
placed es action t key found order is =
    let here = there es empty 0 action.table t found in
    let stated = placed_if action t key (change_key t.rows.schema action.change) is in (
      first_later (missing (database_of es) action.table) (bad_key (database_of es) action ∷ []) (ap (missing_if action.table) here)
          ∙ first_later (bad_key (database_of es) action) [] (ap (λ o. option_and_then key_refusal (key_if o action)) here ∙ stated.0),
      ap (λ o. target_if o action) here
          ∙ ap (option_map (λ k. (let target : Target = record { name = action.table; number = t.number; key = k } in target))) stated.1,
      subst AreInOrderIf (sym here) order,
    )

pub bad : (es : Kept) (action : TransactAction) (t : NumberedTable) (fault : KeyFault) → lookup (at action.table) es ≡ Some t
    → Err fault ≡ row_key_if (change_key t.rows.schema action.change) → refusal_at (database_of es) action ≡ Some (refusal.Invalid (invalid.Key fault))
bad es action t fault found is =
    let here = there es empty 0 action.table t found in
    first_later (missing (database_of es) action.table) (bad_key (database_of es) action ∷ []) (ap (missing_if action.table) here)
    ∙ first_here (bad_key (database_of es) action) [] (refusal.Invalid (invalid.Key fault))
    (ap (λ o. option_and_then key_refusal (key_if o action)) here ∙ faulty_if fault (change_key t.rows.schema action.change) is)

-- ---- one action after the other

all_more : {X : Type 0} (P : X → Type 0) (xs : List X) (x : X) → AllByRecursion P xs → P x → AllByRecursion P (xs ++ x ∷ [])
all_more P [] x all here = (here, tt)
all_more P (y ∷ ys) x all here = (all.0, all_more P ys x all.1 here)

map_more : {X Y : Type 0} (f : X → Y) (xs : List X) (x : X) (rest : List Y) → map f (xs ++ x ∷ []) ++ rest ≡ map f xs ++ f x ∷ rest
map_more f [] x rest = refl
map_more {X} {Y} f (y ∷ ys) x rest = ap (λ (zs : List Y). f y ∷ zs) (map_more f ys x rest)

-- what is left of the actions, where those before were aimed
pub record AreLeft (db : Database) (actions : List TransactAction) (done : List Aimed) (rest : List TransactAction) : Type 0 where
  pub refusals : first (map (refusal_at db) rest) ≡ first (map (refusal_at db) actions)
  pub whole : map action_in done ++ rest ≡ actions
  pub targets : AllByRecursion (IsTarget db) done

pub one_more : (db : Database) (actions : List TransactAction) (done new : List Aimed) (action : TransactAction) (left rest : List TransactAction) (aimed : Aimed)
    → AreLeft db actions done left → left ≡ action ∷ rest → new ≡ done ++ aimed ∷ [] → IsAimed db action (Ok aimed) → AreLeft db actions new rest
one_more db actions done new action left rest aimed so_far is pushed here = record {
  refusals = goes_on (refusal_at db) action left rest (first (map (refusal_at db) actions)) is here.0 so_far.refusals;
  whole =
      ap (λ xs. map action_in xs ++ rest) pushed ∙ map_more action_in done aimed rest
      ∙ ap (λ x. map action_in done ++ x ∷ rest) here.1 ∙ sym (ap (λ xs. map action_in done ++ xs) is) ∙ so_far.whole;
  targets = subst (AllByRecursion (IsTarget db)) (sym pushed) (all_more (IsTarget db) done aimed so_far.targets here.2);
}

pub one_refused : (db : Database) (actions : List TransactAction) (done : List Aimed) (action : TransactAction) (left rest : List TransactAction) (why : Refusal)
    → AreLeft db actions done left → left ≡ action ∷ rest → refusal_at db action ≡ Some why → first (map (refusal_at db) actions) ≡ Some why
one_refused db actions done action left rest why so_far is here =
    sym (refused_here (refusal_at db) action left rest why (first (map (refusal_at db) actions)) is here so_far.refusals)

-- ---- the request

pub targets_are : (db : Database) (aimed : List Aimed) → AllByRecursion (IsTarget db) aimed → filter_map (target_of db) (map action_in aimed) ≡ map target_in aimed
targets_are db [] all = refl
targets_are db (aimed ∷ rest) all = λ i. cons_option (all.0.0 i) (targets_are db rest all.1 i)

abbrev stages : Database → List TransactAction → List (Option Refusal)
stages db actions =
    where_true (has_repeat (filter_map (target_of db) actions)) (refusal.Invalid invalid.Twice) ∷ first (map (updates_key db) actions) ∷ []

pub missing_first : (db : Database) (actions : List TransactAction) (why : Refusal) → first (map (λ action. missing db action.table) actions) ≡ Some why
    → transact_refusal db actions ≡ Some why
missing_first db actions why is =
    first_here (first (map (λ action. missing db action.table) actions)) (first (map (bad_key db) actions) ∷ stages db actions) why is

pub refused_first : (db : Database) (actions : List TransactAction) (why : Refusal) → first (map (λ action. missing db action.table) actions) ≡ None
    → first (map (refusal_at db) actions) ≡ Some why → transact_refusal db actions ≡ Some why
refused_first db actions why none is =
    first_later (first (map (λ action. missing db action.table) actions)) (first (map (bad_key db) actions) ∷ stages db actions) none
    ∙ first_here (first (map (bad_key db) actions)) (stages db actions) why (sym (either_first (missing_in db) (bad_key db) actions none) ∙ is)

later_stages : (db : Database) (actions : List TransactAction) (aimed : List Aimed) → first (map (λ action. missing db action.table) actions) ≡ None
    → first (map (refusal_at db) actions) ≡ None → map action_in aimed ≡ actions → AllByRecursion (IsTarget db) aimed
    → transact_refusal db actions ≡ twice_or_key db aimed
later_stages db actions aimed none keys same targets =
    first_later (first (map (λ action. missing db action.table) actions)) (first (map (bad_key db) actions) ∷ stages db actions) none
    ∙ first_later (first (map (bad_key db) actions)) (stages db actions) (sym (either_first (missing_in db) (bad_key db) actions none) ∙ keys)
    ∙ sym (ap (λ xs. first (stages db xs)) same)
    ∙ ap (λ ts. first (where_true (has_repeat ts) (refusal.Invalid invalid.Twice) ∷ first (map (updates_key db) (map action_in aimed)) ∷ [])) (targets_are db aimed targets)

-- what became of fit actions is what became of the request
pub checked_by : (db : Database) (actions : List TransactAction) (aimed : List Aimed) (result : Result (List Aimed) Refusal)
    → first (map (λ action. missing db action.table) actions) ≡ None → AreAimed db actions (Ok aimed) → IsFit db aimed result → IsChecked db actions result
checked_by db actions aimed (Err why) none all fit = later_stages db actions aimed none all.0 all.1 all.2 ∙ fit
checked_by db actions aimed (Ok same) none all fit = (
  later_stages db actions aimed none all.0 all.1 all.2 ∙ fit.0,
  ap (map action_in) fit.1 ∙ all.1,
  record {
    targets = subst (AllByRecursion (IsTarget db)) (sym fit.1) all.2;
    apart = ap (λ xs. has_repeat (map target_in xs)) fit.1 ∙ fit.2;
  },
)

-- ---- loops that look for the first refusal

missing_by : (name : List ℕ) (o : Option Table) → is_some o ≡ false → missing_if name o ≡ Some (refusal.NoTable name)
missing_by name None is = refl
missing_by name (Some t) is = absurd (cc)

there_by : (name : List ℕ) (o : Option Table) → is_some o ≡ true → missing_if name o ≡ None
there_by name None is = absurd (cc)
there_by name (Some t) is = refl

pub is_missing : (es : Kept) (action : TransactAction) → is_some (lookup (at action.table) es) ≡ false
    → missing_in (database_of es) action ≡ Some (refusal.NoTable action.table)
is_missing es action is = missing_by action.table (table_named (database_of es) action.table) (known es empty 0 action.table ∙ is)

pub is_there : (es : Kept) (action : TransactAction) → is_some (lookup (at action.table) es) ≡ true → missing_in (database_of es) action ≡ None
is_there es action is = there_by action.table (table_named (database_of es) action.table) (known es empty 0 action.table ∙ is)

next_is : (xs : List TransactAction) (i : ℕ) (x : TransactAction) → i < length xs → x ≡ get_or xs i x → drop i xs ≡ x ∷ drop (i + 1) xs
next_is xs i x below is = at_drop_more (λ ys. ys) xs i x below ∙ ap (λ y. y ∷ drop (i + 1) xs) (sym is)

pub found_first : (m : TransactAction → Option Refusal) (xs : List TransactAction) (i : ℕ) (x : TransactAction) (why : Refusal) → i < length xs → x ≡ get_or xs i x
    → first (map m (drop i xs)) ≡ first (map m xs) → m x ≡ Some why → Some why ≡ first (map m xs)
found_first m xs i x why below is so_far here =
    refused_here m x (drop i xs) (drop (i + 1) xs) why (first (map m xs)) (next_is xs i x below is) here so_far

pub passed_first : (m : TransactAction → Option Refusal) (xs : List TransactAction) (i : ℕ) (x : TransactAction) → i < length xs → x ≡ get_or xs i x
    → first (map m (drop i xs)) ≡ first (map m xs) → m x ≡ None → first (map m (drop (i + 1) xs)) ≡ first (map m xs)
passed_first m xs i x below is so_far here =
    goes_on m x (drop i xs) (drop (i + 1) xs) (first (map m xs)) (next_is xs i x below is) here so_far
