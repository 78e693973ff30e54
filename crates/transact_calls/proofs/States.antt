-- Actions on their items, and what refuses them.
use Rattle.std.specs.List.{AllByRecursion, AllZip}
use Rattle.std.specs.FinMap.{empty}
use Rattle.std.proofs.Common.{◌≡◌, ℕ, true, List, [], ◌∷◌, map, reverse, Option, None, Some, is_some, option_map, Ok, refl, sym, ap, subst, ◌∙◌}
use Rattle.std.proofs.lemmas.List.{append-nil}
use Rattle.turnstile.specs.Passes.{PassView}
use Rattle.row_keys.specs.declared.row_key.RowKey.{RowKey}
use Rattle.table_request.specs.declared.transactions.TransactAction.{TransactAction}
use Rattle.table_model.specs.declared.refusal.Refusal.{Refusal}
use Rattle.table_model.specs.Database.{Database, Table, first}
use Rattle.table_model.specs.Batches.{missing, missing_if, place_if}
use Rattle.table_model.specs.Transactions.{Target, change_key, target_if, target_of, transact_refusal}
use Rattle.numbered_tables.specs.declared.table.NumberedTable.{NumberedTable}
use Rattle.numbered_tables.specs.Tables.{Kept}
use Rattle.numbered_tables.proofs.Kept.{absent, there}
use Rattle.transact_writes.specs.declared.aimed.Aimed.{Aimed}
use Rattle.transact_writes.specs.Aimed.{database_of, action_in, target_in, IsTarget}
use Rattle.cell_model.specs.Actions.{ItemAction, stated_action}
use Rattle.table_history.specs.Entries.{TableEvent}
use Rattle.transact_calls.specs.declared.keyed.Stated.{Stated}
use Rattle.transact_calls.specs.Known.{known_of, IsKnown, AreKnown, LooksOn, MissesTable, AreConfirmed}
use Rattle.transact_calls.specs.Looks.{FindsRefusal}
use Rattle.transact_calls.specs.Stated.{item_at, IsStated, AreStated, keyed_of, IsKeyed, NoneMisses, IsStatedBy, FindsActions, Finds}
use Rattle.transact_calls.proofs.Entries.{found_so}
use Rattle.transact_calls.proofs.Alike.{refused_alike, missed_first}

-- ---- actions

module _ (es : List TableEvent) (entries : Kept) (known : AreKnown es entries) where
  abbrev db : Database
  db = database_of entries

  -- the place of an action in a table that is known
  record IsPlacedIn (t : NumberedTable) (aimed : Aimed) : Type 0 where
    number : t.number ≡ aimed.action.table
    row : place_if (change_key t.rows.schema (action_in aimed).change) ≡ Some aimed.key

  some_target : (x y : Target) → Some x ≡ Some y → x ≡ y
  some_target x y e = cc

  placed_by : (t : NumberedTable) (aimed : Aimed) (o : Option RowKey) → place_if (change_key t.rows.schema (action_in aimed).change) ≡ o
      → option_map (λ (key : RowKey). (let target : Target = record { name = (action_in aimed).table; number = t.number; key = key } in target)) o ≡ Some (target_in aimed)
      → IsPlacedIn t aimed
  placed_by t aimed None is e = absurd (cc)
  placed_by t aimed (Some key) is e =
      let here : Target = record { name = (action_in aimed).table; number = t.number; key = key } in
      let same = some_target here (target_in aimed) e in
      record { number = ap (λ (x : Target). x.number) same; row = is ∙ ap (λ (x : Target). Some x.key) same }

  stated_one : (aimed : Aimed) → IsTarget db aimed → IsStated es (action_in aimed) (keyed_of aimed)
  stated_one aimed target = by_table (known_of entries (action_in aimed).table) refl
    where
      by_table : (o : Option NumberedTable) → known_of entries (action_in aimed).table ≡ o → IsStated es (action_in aimed) (keyed_of aimed)
      by_table None is =
          let none : target_of db (action_in aimed) ≡ None = ap (λ (o : Option Table). target_if o (action_in aimed)) (absent entries empty 0 (action_in aimed).table is) in
          absurd (let clash = sym none ∙ target.0 in cc)
      by_table (Some t) is =
          let k = found_so (IsKnown es) entries (action_in aimed).table t known is in
          let placed =
          placed_by t aimed (place_if (change_key t.rows.schema (action_in aimed).change)) refl
          (sym (ap (λ (o : Option Table). target_if o (action_in aimed)) (there entries empty 0 (action_in aimed).table t is)) ∙ target.0) in
          record {
            look = k.0;
            told = k.1;
            row = aimed.key;
            row_is = sym (ap (λ (x : NumberedTable). place_if (change_key x.rows.schema (action_in aimed).change)) k.2) ∙ placed.row;
            is = ap (λ number. stated_action (item_at number aimed.key) (action_in aimed)) (sym placed.number ∙ ap (λ (x : NumberedTable). x.number) k.2);
          }

  stated_all : (aimed : List Aimed) → AllByRecursion (IsTarget db) aimed → AllZip (IsStated es) (map action_in aimed) (map keyed_of aimed)
  stated_all [] all = tt
  stated_all (x ∷ aimed) all = (stated_one x all.0, stated_all aimed all.1)

  pub are_stated : (asked : List TransactAction) (actions : List ItemAction) → IsKeyed entries asked (Ok actions) → AreStated es asked actions
  are_stated asked actions keyed =
      let checked = keyed.1 in
      subst (AreStated es asked) (sym keyed.2) (subst (λ xs. AreStated es xs (map keyed_of keyed.0)) checked.1 (stated_all keyed.0 checked.2.targets))

-- ---- what is found

module _ (n : ℕ) (p : PassView TableEvent) (asked : List TransactAction) where
  -- by tables that were told of before
  pub finds_kept : (entries : Kept) → AreKnown (reverse p.front) entries → (actions : List ItemAction) → IsKeyed entries asked (Ok actions) → FindsActions n p asked actions p
  finds_kept entries known actions keyed = record { told = []; looks = refl; stated = are_stated (reverse p.front) entries known asked actions keyed }

  pub refused_kept : (entries : Kept) → NoneMisses entries asked → (why : Refusal) → transact_refusal (database_of entries) asked ≡ Some why
      → (q : PassView TableEvent) → AreConfirmed n p entries q → FindsRefusal n p (λ db. transact_refusal db asked) why q
  refused_kept entries none why is q confirmed = record {
    told = confirmed.told;
    looks = confirmed.looks;
    is = λ db agrees. refused_alike db confirmed.told agrees entries confirmed.shown asked none ∙ is;
  }

  abbrev names : List (List ℕ)
  names = map (λ (a : TransactAction). a.table) asked

  -- by own Looks
  pub refused_missing : (why : Refusal) (q : PassView TableEvent) → MissesTable n p names why q → FindsRefusal n p (λ db. transact_refusal db asked) why q
  refused_missing why q misses = record { told = misses.told; looks = misses.looks; is = λ db agrees. missed_first db asked why (misses.is db agrees) }

  known_there : (entries : Kept) (o : Option NumberedTable) (name : List ℕ) → known_of entries name ≡ o → is_some o ≡ true → missing (database_of entries) name ≡ None
  known_there entries None name is h = absurd (cc)
  known_there entries (Some t) name is h = ap (missing_if name) (there entries empty 0 name t is)

  none_misses : (entries : Kept) (xs : List TransactAction)
      → AllByRecursion (λ name. is_some (known_of entries name) ≡ true) (map (λ (a : TransactAction). a.table) xs) → NoneMisses entries xs
  none_misses entries [] all = refl
  none_misses entries (x ∷ xs) all =
      ap (λ (o : Option Refusal). first (o ∷ map (λ (a : TransactAction). missing (database_of entries) a.table) xs))
      (known_there entries (known_of entries x.table) x.table refl all.0)
      ∙ none_misses entries xs all.1

  -- all tables were looked for
  pub all_there : (entries : Kept) (q : PassView TableEvent) → LooksOn n p names [] entries q → NoneMisses entries asked
  all_there entries q on =
      none_misses entries asked (subst (AllByRecursion (λ name. is_some (known_of entries name) ≡ true)) (sym (on.names_are ∙ append-nil on.before)) on.there)

  pub finds_looked : (entries : Kept) (q : PassView TableEvent) → LooksOn n p names [] entries q → (actions : List ItemAction) → IsKeyed entries asked (Ok actions)
      → FindsActions n p asked actions q
  finds_looked entries q on actions keyed =
      record { told = on.told; looks = on.looks; stated = are_stated (reverse q.front) entries on.known asked actions keyed }

  pub refused_looked : (entries : Kept) (q : PassView TableEvent) → LooksOn n p names [] entries q → (why : Refusal)
      → transact_refusal (database_of entries) asked ≡ Some why → FindsRefusal n p (λ db. transact_refusal db asked) why q
  refused_looked entries q on why is = record {
    told = on.told;
    looks = on.looks;
    is = λ db agrees. refused_alike db on.told agrees entries on.shown asked (all_there entries q on) ∙ is;
  }

  -- what is found by them
  pub finds_stated : (entries : Kept) (q : PassView TableEvent) → LooksOn n p names [] entries q → (stated : Stated) → IsStatedBy entries asked stated
      → Finds n p asked stated q
  finds_stated entries q on (Stated.Actions actions) keyed = finds_looked entries q on actions keyed
  finds_stated entries q on (Stated.Refused why) keyed = refused_looked entries q on why keyed
  finds_stated entries q on Stated.Again keyed = absurd keyed
