-- A request is refused alike by databases whose tables make the same keys.
use Rattle.std.specs.List.{list_any, filter_map, cons_option, AllByRecursion, AllZip}
use Rattle.std.specs.BTreeMap.{is_at}
use Rattle.std.specs.FinMap.{empty}
use Rattle.std.specs.Prelude.{◌&&◌, ◌||◌, bytes_eq, option_and_then}
use Rattle.std.proofs.Common.{◌≡◌, ℕ, List, [], ◌∷◌, map, Option, None, Some, option_map, refl, sym, ap, subst, ◌∙◌}
use Rattle.row_keys.specs.declared.row_key.RowKey.{RowKey}
use Rattle.row_keys.specs.Keys.{row_order}
use Rattle.table_schema.specs.declared.schema.Schema.{Schema}
use Rattle.table_request.specs.declared.transactions.TransactAction.{TransactAction}
use Rattle.table_request.specs.declared.transactions.ActionChange.{ActionChange}
use Rattle.table_request.specs.declared.transactions.ActionChange.TheVariants.{Put, Update, Delete, Check}
use Rattle.table_model.specs.declared.refusal.Refusal.{Refusal}
use Rattle.table_model.specs.declared.refusal.Refusal.TheVariants as refusal
use Rattle.table_model.specs.declared.refusal.Invalid.TheVariants as invalid
use Rattle.table_model.specs.Database.{Database, Table, table_named, first, where_true}
use Rattle.table_model.specs.Batches.{missing, missing_if, key_refusal, place_if}
use Rattle.table_model.specs.Transactions.{Target, is_one, has_repeat, change_key, key_if, target_if, target_of, bad_key, change_key_update, updates_key, transact_refusal}
use Rattle.table_model.specs.Writes.{key_update}
use Rattle.numbered_tables.specs.declared.table.NumberedTable.{NumberedTable}
use Rattle.numbered_tables.specs.Tables.{Kept, table_in}
use Rattle.numbered_tables.proofs.Kept.{absent, there}
use Rattle.transact_writes.specs.Aimed.{database_of}
use Rattle.transact_writes.proofs.Checks.{missing_first}
use Rattle.transact_calls.specs.Looks.{Told, AgreesWith}
use Rattle.transact_calls.specs.Known.{known_of, HaveSameKeys, IsShown, AreShown}
use Rattle.transact_calls.specs.Stated.{NoneMisses}
use Rattle.transact_calls.proofs.Entries.{found_so}
use Rattle.transact_calls.proofs.Looking.{table_told}

-- ---- items of the same names and keys

pub record SameSpot (one other : Target) : Type 0 where
  pub name : one.name ≡ other.name
  pub key : one.key ≡ other.key

any_alike : (t u : Target) → SameSpot t u → (ts us : List Target) → AllZip SameSpot ts us → list_any (is_one t) ts ≡ list_any (is_one u) us
any_alike t u same [] [] all = refl
any_alike t u same [] (y ∷ us) all = absurd all
any_alike t u same (x ∷ ts) [] all = absurd all
any_alike t u same (x ∷ ts) (y ∷ us) all = λ i.
    (bytes_eq (same.name i) (all.0.name i) && is_at (row_order (same.key i)) (all.0.key i)) || any_alike t u same ts us all.1 i

pub repeats_alike : (ts us : List Target) → AllZip SameSpot ts us → has_repeat ts ≡ has_repeat us
repeats_alike [] [] all = refl
repeats_alike [] (y ∷ us) all = absurd all
repeats_alike (x ∷ ts) [] all = absurd all
repeats_alike (x ∷ ts) (y ∷ us) all = λ i. any_alike x y all.0 ts us all.1 i || repeats_alike ts us all.1 i

abbrev SpotsIf : Option Target → Option Target → Type 0
SpotsIf None None = Unit {0}
SpotsIf (Some t) (Some u) = SameSpot t u
SpotsIf _ _ = ⊥

cons_alike : (o p : Option Target) → SpotsIf o p → (ts us : List Target) → AllZip SameSpot ts us → AllZip SameSpot (cons_option o ts) (cons_option p us)
cons_alike None None same ts us all = all
cons_alike (Some t) (Some u) same ts us all = (same, all)
cons_alike None (Some u) same ts us all = absurd same
cons_alike (Some t) None same ts us all = absurd same

-- ---- one action

change_alike : (one other : Schema) → HaveSameKeys one other → (change : ActionChange) → change_key other change ≡ change_key one change
change_alike one other same (Put item) = same.inside item
change_alike one other same (Update key update) = same.alone key
change_alike one other same (Delete key) = same.alone key
change_alike one other same (Check key) = same.alone key

update_alike : (one other : Schema) → HaveSameKeys one other → (change : ActionChange) → change_key_update other change ≡ change_key_update one change
update_alike one other same (Put item) = refl
update_alike one other same (Update key update) = ap (λ keys. key_update keys (Some update)) same.names
update_alike one other same (Delete key) = refl
update_alike one other same (Check key) = refl

abbrev target_at : List ℕ → ℕ → RowKey → Target
target_at name number key = record { name = name; number = number; key = key }

spots_at : (name : List ℕ) (number other : ℕ) (o p : Option RowKey) → o ≡ p → SpotsIf (option_map (target_at name number) o) (option_map (target_at name other) p)
spots_at name number other None None e = tt
spots_at name number other (Some k) (Some l) e = record { name = refl; key = cc }
spots_at name number other None (Some l) e = absurd (cc)
spots_at name number other (Some k) None e = absurd (cc)

-- both databases say the same of it
record AreAlike (db other : Database) (action : TransactAction) : Type 0 where
  is_missing : missing db action.table ≡ missing other action.table
  bad : bad_key db action ≡ bad_key other action
  spots : SpotsIf (target_of db action) (target_of other action)
  updates : updates_key db action ≡ updates_key other action

alike_by : (db other : Database) (action : TransactAction) (t u : Table) → table_named db action.table ≡ Some t → table_named other action.table ≡ Some u
    → HaveSameKeys u.schema t.schema → AreAlike db other action
alike_by db other action t u here there same =
    let keys = change_alike u.schema t.schema same action.change in
    record {
      is_missing = ap (missing_if action.table) here ∙ sym (ap (missing_if action.table) there);
      bad =
          ap (λ (o : Option Table). option_and_then key_refusal (key_if o action)) here ∙ ap key_refusal keys
          ∙ sym (ap (λ (o : Option Table). option_and_then key_refusal (key_if o action)) there);
      spots =
          subst (λ (z : Option Target × Option Target). SpotsIf z.0 z.1) (λ i. (ap (λ (o : Option Table). target_if o action) (sym here) i, ap (λ (o : Option Table). target_if o action) (sym there) i))
          (spots_at action.table t.number u.number (place_if (change_key t.schema action.change)) (place_if (change_key u.schema action.change)) (ap place_if keys));
      updates =
          ap (option_and_then (λ (table : Table). change_key_update table.schema action.change)) here ∙ update_alike u.schema t.schema same action.change
          ∙ sym (ap (option_and_then (λ (table : Table). change_key_update table.schema action.change)) there);
    }

-- ---- the request

none_missed : (o : Option Refusal) (rest : List (Option Refusal)) → first (o ∷ rest) ≡ None → (o ≡ None) × (first rest ≡ None)
none_missed None rest e = (refl, e)
none_missed (Some why) rest e = absurd (cc)

module _ (db : Database) (told : Told) (agrees : AgreesWith told db) (entries : Kept) (shown : AreShown told entries) where
  abbrev other : Database
  other = database_of entries

  alike_one : (action : TransactAction) → missing other action.table ≡ None → AreAlike db other action
  alike_one action none = by_table (known_of entries action.table) refl
    where
      by_table : (o : Option NumberedTable) → known_of entries action.table ≡ o → AreAlike db other action
      by_table None is =
          let gone : Some (refusal.NoTable action.table) ≡ missing other action.table = sym (ap (missing_if action.table) (absent entries empty 0 action.table is)) in
          absurd (let clash = gone ∙ none in cc)
      by_table (Some t) is =
          let s = found_so (IsShown told) entries action.table t shown is in
          let u = table_told told db agrees action.table s.0 s.1 in
          alike_by db other action u.table (table_in t) u.is (there entries empty 0 action.table t is)
          (subst (HaveSameKeys t.rows.schema) (sym u.schema) s.2)

  alike_all : (asked : List TransactAction) → NoneMisses entries asked → AllByRecursion (AreAlike db other) asked
  alike_all [] none = tt
  alike_all (action ∷ asked) none =
      let both = none_missed (missing other action.table) (map (λ (a : TransactAction). missing other a.table) asked) none in
      (alike_one action both.0, alike_all asked both.1)

  missing_all : (asked : List TransactAction) → AllByRecursion (AreAlike db other) asked
      → map (λ (a : TransactAction). missing db a.table) asked ≡ map (λ (a : TransactAction). missing other a.table) asked
  missing_all [] all = refl
  missing_all (action ∷ asked) all = λ i. all.0.is_missing i ∷ missing_all asked all.1 i

  bad_all : (asked : List TransactAction) → AllByRecursion (AreAlike db other) asked → map (bad_key db) asked ≡ map (bad_key other) asked
  bad_all [] all = refl
  bad_all (action ∷ asked) all = λ i. all.0.bad i ∷ bad_all asked all.1 i

  updates_all : (asked : List TransactAction) → AllByRecursion (AreAlike db other) asked → map (updates_key db) asked ≡ map (updates_key other) asked
  updates_all [] all = refl
  updates_all (action ∷ asked) all = λ i. all.0.updates i ∷ updates_all asked all.1 i

  spots_all : (asked : List TransactAction) → AllByRecursion (AreAlike db other) asked
      → AllZip SameSpot (filter_map (target_of db) asked) (filter_map (target_of other) asked)
  spots_all [] all = tt
  spots_all (action ∷ asked) all =
      cons_alike (target_of db action) (target_of other action) all.0.spots (filter_map (target_of db) asked) (filter_map (target_of other) asked) (spots_all asked all.1)

  -- it is refused alike
  pub refused_alike : (asked : List TransactAction) → NoneMisses entries asked → transact_refusal db asked ≡ transact_refusal other asked
  refused_alike asked none =
      let all = alike_all asked none in
      let missed = missing_all asked all in
      let bad = bad_all asked all in
      let twice = repeats_alike _ _ (spots_all asked all) in
      let updates = updates_all asked all in
      λ i. first (first (missed i) ∷ first (bad i) ∷ where_true (twice i) (refusal.Invalid invalid.Twice) ∷ first (updates i) ∷ [])

-- a table that is missed refuses the request
pub missed_first : (db : Database) (asked : List TransactAction) (why : Refusal) → first (map (missing db) (map (λ (a : TransactAction). a.table) asked)) ≡ Some why
    → transact_refusal db asked ≡ Some why
missed_first db asked why is = missing_first db asked why (sym (ap first (over asked)) ∙ is)
  where
    over : (xs : List TransactAction) → map (missing db) (map (λ (a : TransactAction). a.table) xs) ≡ map (λ (a : TransactAction). missing db a.table) xs
    over [] = refl
    over (x ∷ xs) = λ i. missing db x.table ∷ over xs i
