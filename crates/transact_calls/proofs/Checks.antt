-- Reads are refused as actions are that check the same items.
use Rattle.std.specs.List.{cons_option}
use Rattle.std.proofs.Common.{◌≡◌, List, [], ◌∷◌, map, filter_map, Option, None, Some, refl, ap, ◌∙◌}
use Rattle.std.proofs.lemmas.Simd.{map-map}
use Rattle.table_request.specs.declared.transactions.TransactAction.{TransactAction}
use Rattle.table_request.specs.declared.transactions.ActionChange.TheVariants.{Check}
use Rattle.table_request.specs.declared.transactions.TransactRead.{TransactRead}
use Rattle.table_model.specs.declared.refusal.Refusal.{Refusal}
use Rattle.table_model.specs.declared.refusal.Refusal.TheVariants as refusal
use Rattle.table_model.specs.declared.refusal.Invalid.TheVariants as invalid
use Rattle.table_model.specs.Database.{Database, Table, table_named, first, where_true}
use Rattle.table_model.specs.Batches.{missing, key_refusal}
use Rattle.table_model.specs.Transactions.{has_repeat, target_if, target_of, bad_key, change_key_update, updates_key, transact_refusal, read_key, read_target_if, read_target, read_refusal}
use Rattle.std.specs.Prelude.{false, option_and_then}

-- the check of the item that is read
abbrev pub check_of : TransactRead → TransactAction
check_of read = record { table = read.table; change = Check read.key; condition = None; values = []; show_old = false }

-- of the same tables
pub names_of_checks : (reads : List TransactRead)
    → map (λ (action : TransactAction). action.table) (map check_of reads) ≡ map (λ (read : TransactRead). read.table) reads
names_of_checks reads = map-map (λ (action : TransactAction). action.table) check_of reads

last_none : (a b c : Option Refusal) → first (a ∷ b ∷ c ∷ None ∷ []) ≡ first (a ∷ b ∷ c ∷ [])
last_none None None None = refl
last_none None None (Some why) = refl
last_none None (Some why) c = refl
last_none (Some why) b c = refl

module _ (db : Database) where
  target_alike : (read : TransactRead) → target_of db (check_of read) ≡ read_target db read
  target_alike read = by_table (table_named db read.table)
    where
      by_table : (o : Option Table) → target_if o (check_of read) ≡ read_target_if o read
      by_table None = refl
      by_table (Some table) = refl

  targets_alike : (reads : List TransactRead) → filter_map (target_of db) (map check_of reads) ≡ filter_map (read_target db) reads
  targets_alike [] = refl
  targets_alike (read ∷ reads) = λ i. cons_option (target_alike read i) (targets_alike reads i)

  no_update : (read : TransactRead) → updates_key db (check_of read) ≡ None
  no_update read = by_table (table_named db read.table)
    where
      by_table : (o : Option Table) → option_and_then (λ (table : Table). change_key_update table.schema (check_of read).change) o ≡ None
      by_table None = refl
      by_table (Some table) = refl

  no_updates : (reads : List TransactRead) → first (map (updates_key db) (map check_of reads)) ≡ None
  no_updates [] = refl
  no_updates (read ∷ reads) = ap (λ (o : Option Refusal). first (o ∷ map (updates_key db) (map check_of reads))) (no_update read) ∙ no_updates reads

  pub as_checks : (reads : List TransactRead) → transact_refusal db (map check_of reads) ≡ read_refusal db reads
  as_checks reads =
      let missed = map-map (λ (action : TransactAction). missing db action.table) check_of reads in
      let bad = map-map (bad_key db) check_of reads in
      let spots = targets_alike reads in
      let updates = no_updates reads in
      (λ i. first (first (missed i) ∷ first (bad i) ∷ where_true (has_repeat (spots i)) (refusal.Invalid invalid.Twice) ∷ updates i ∷ []))
      ∙ last_none (first (map (λ (read : TransactRead). missing db read.table) reads)) (first (map (λ (read : TransactRead). option_and_then key_refusal (read_key db read)) reads))
      (where_true (has_repeat (filter_map (read_target db) reads)) (refusal.Invalid invalid.Twice))
