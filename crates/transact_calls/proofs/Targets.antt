-- The items of reads, by tables that are known.
use Rattle.std.specs.List.{AllZip}
use Rattle.std.specs.FinMap.{empty}
use Rattle.std.proofs.Common.{◌≡◌, ℕ, List, [], ◌∷◌, map, reverse, Option, None, Some, option_map, Result, Ok, Err, refl, sym, ap, subst, ◌∙◌}
use Rattle.std.proofs.lemmas.Simd.{map-map}
use Rattle.turnstile.specs.Passes.{PassView}
use Rattle.item_keys.specs.ItemKey.{key_alone}
use Rattle.row_keys.specs.declared.row_key.RowKey.{RowKey}
use Rattle.table_request.specs.declared.transactions.TransactRead.{TransactRead}
use Rattle.table_model.specs.declared.refusal.Refusal.{Refusal}
use Rattle.table_model.specs.Database.{Database, Table, first}
use Rattle.table_model.specs.Batches.{missing, place_if}
use Rattle.table_model.specs.Transactions.{Target, read_target_if, read_target, read_refusal}
use Rattle.numbered_tables.specs.declared.table.NumberedTable.{NumberedTable}
use Rattle.numbered_tables.specs.Tables.{Kept}
use Rattle.numbered_tables.proofs.Kept.{absent, there}
use Rattle.transact_reads.specs.Found.{database_of}
use Rattle.table_history.specs.Entries.{TableEvent}
use Rattle.cell_model.specs.declared.key.CellKey.{CellKey}
use Rattle.transact_reads.specs.declared.found.ReadAt.{ReadAt}
use Rattle.transact_reads.specs.Checked.{place_of, AreTargets, IsChecked}
use Rattle.transact_calls.specs.Looks.{FindsRefusal}
use Rattle.transact_calls.specs.Known.{known_of, IsKnown, AreKnown, LooksOn, MissesTable}
use Rattle.transact_calls.specs.Targets.{IsTargetOf, key_of, key_at, AreItemsOf, AreKeysBy, FindsItems}
use Rattle.transact_calls.proofs.Entries.{found_so}
use Rattle.transact_calls.proofs.Alike.{missed_first}
use Rattle.transact_calls.proofs.States.{refused_looked}
use Rattle.transact_calls.proofs.Checks.{check_of, names_of_checks, as_checks}

-- where they are
pub keys_checked : (db : Database) (reads : List TransactRead) (places : List ReadAt) (keys : List CellKey) → IsChecked db reads (Ok places) → keys ≡ map key_at places
    → (targets : List Target) × AreTargets db reads targets × (keys ≡ map key_of targets)
keys_checked db reads places keys checked are = (checked.0, checked.1, are ∙ ap (map key_at) checked.2 ∙ map-map key_at place_of checked.0)

module _ (es : List TableEvent) (entries : Kept) (known : AreKnown es entries) where
  abbrev target_at : TransactRead → ℕ → RowKey → Target
  target_at read number row = record { name = read.table; number = number; key = row }

  -- the item of a read in a table
  record IsIn (t : NumberedTable) (read : TransactRead) (target : Target) : Type 0 where
    row : RowKey
    row_is : place_if (key_alone t.rows.schema t.rows.schema.keys read.key) ≡ Some row
    is : target ≡ target_at read t.number row

  some_target : (x y : Target) → Some x ≡ Some y → x ≡ y
  some_target x y e = cc

  placed_by : (t : NumberedTable) (read : TransactRead) (target : Target) (o : Option RowKey) → place_if (key_alone t.rows.schema t.rows.schema.keys read.key) ≡ o
      → option_map (target_at read t.number) o ≡ Some target → IsIn t read target
  placed_by t read target None is e = absurd (cc)
  placed_by t read target (Some row) is e = record { row = row; row_is = is; is = sym (some_target (target_at read t.number row) target e) }

  target_one : (read : TransactRead) (target : Target) → read_target (database_of entries) read ≡ Some target → IsTargetOf es read target
  target_one read target h = by_table (known_of entries read.table) refl
    where
      by_table : (o : Option NumberedTable) → known_of entries read.table ≡ o → IsTargetOf es read target
      by_table None is =
          let none : read_target (database_of entries) read ≡ None = ap (λ (o : Option Table). read_target_if o read) (absent entries empty 0 read.table is) in
          absurd (let clash = sym none ∙ h in cc)
      by_table (Some t) is =
          let k = found_so (IsKnown es) entries read.table t known is in
          let placed =
          placed_by t read target (place_if (key_alone t.rows.schema t.rows.schema.keys read.key)) refl
          (sym (ap (λ (o : Option Table). read_target_if o read) (there entries empty 0 read.table t is)) ∙ h) in
          record {
            look = k.0;
            told = k.1;
            row = placed.row;
            row_is = sym (ap (λ (x : NumberedTable). place_if (key_alone x.rows.schema x.rows.schema.keys read.key)) k.2) ∙ placed.row_is;
            is = placed.is ∙ ap (λ (x : NumberedTable). target_at read x.number placed.row) k.2;
          }

  targets_all : (reads : List TransactRead) (targets : List Target) → map (read_target (database_of entries)) reads ≡ map (λ (t : Target). Some t) targets
      → AllZip (IsTargetOf es) reads targets
  targets_all [] [] e = tt
  targets_all [] (t ∷ targets) e = absurd (cc)
  targets_all (read ∷ reads) [] e = absurd (cc)
  targets_all (read ∷ reads) (t ∷ targets) e =
      let here : read_target (database_of entries) read ≡ Some t = cc in
      let rest : map (read_target (database_of entries)) reads ≡ map (λ (t : Target). Some t) targets = cc in
      (target_one read t here, targets_all reads targets rest)

  pub items_by : (reads : List TransactRead) (keys : List CellKey) → AreKeysBy entries reads (Ok keys) → AreItemsOf es reads keys
  items_by reads keys by = record { targets = by.0; each = targets_all reads by.0 by.1.are; apart = by.1.apart; are = by.2 }

-- ---- by own Looks

module _ (n : ℕ) (p : PassView TableEvent) (reads : List TransactRead) where
  abbrev names : List (List ℕ)
  names = map (λ (read : TransactRead). read.table) reads

  abbrev Refuses : Refusal → PassView TableEvent → Type 0
  Refuses why q = FindsRefusal n p (λ db. read_refusal db reads) why q

  pub reads_missing : (why : Refusal) (q : PassView TableEvent) → MissesTable n p names why q → Refuses why q
  reads_missing why q misses = record {
    told = misses.told;
    looks = misses.looks;
    is = λ db agrees.
        sym (as_checks db reads)
        ∙ missed_first db (map check_of reads) why (ap (λ (xs : List (List ℕ)). first (map (missing db) xs)) (names_of_checks reads) ∙ misses.is db agrees);
  }

  module _ (entries : Kept) (q : PassView TableEvent) (on : LooksOn n p names [] entries q) where
    reads_refused : (why : Refusal) → read_refusal (database_of entries) reads ≡ Some why → Refuses why q
    reads_refused why is =
        let checks = map check_of reads in
        let refused = refused_looked n p checks entries q (subst (λ (xs : List (List ℕ)). LooksOn n p xs [] entries q) (sym (names_of_checks reads)) on) why
        (as_checks (database_of entries) reads ∙ is) in
        record { told = refused.told; looks = refused.looks; is = λ db agrees. sym (as_checks db reads) ∙ refused.is db agrees }

    pub finds_items : (found : Result (List CellKey) Refusal) → AreKeysBy entries reads found → FindsItems n p reads found q
    finds_items (Err why) refused = reads_refused why refused
    finds_items (Ok keys) by = record { told = on.told; looks = on.looks; items = items_by (reverse q.front) entries on.known reads keys by }
