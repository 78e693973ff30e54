-- Reads of items: one that is refused or found, all of them, and the reply.
use Rattle.std.proofs.Common.{◌≡◌, refl, sym, ap, ◌∙◌, Bool, true, false, ℕ, List, [], ◌∷◌, ◌++◌, map, filter_map, Option, None, Some, is_some, option_map, Result, Ok, Err}
use Rattle.std.specs.Prelude.{option_and_then}
use Rattle.std.specs.FinMap.{empty}
use Rattle.std.specs.List.{cons_option}
use Rattle.std.specs.Map.{lookup}
use Rattle.std.proofs.lemmas.Simd.{map-map}
use Rattle.item_keys.specs.declared.fault.KeyFault.{KeyFault}
use Rattle.item_keys.specs.declared.key.Key.{Key}
use Rattle.item_keys.specs.ItemKey.{key_alone}
use Rattle.row_keys.specs.declared.row_key.RowKey.{RowKey}
use Rattle.capacity.specs.declared.halves.Mode.TheVariants.{Transact}
use Rattle.capacity.specs.Units.{read_halves}
use Rattle.table_request.specs.Usage.{by_table}
use Rattle.table_request.specs.declared.transactions.TransactRead.{TransactRead}
use Rattle.table_model.specs.declared.reply.Reply.{Reply}
use Rattle.table_model.specs.declared.reply.Reply.TheVariants as answer
use Rattle.table_model.specs.declared.refusal.Refusal.{Refusal}
use Rattle.table_model.specs.declared.refusal.Refusal.TheVariants.{NoTable, Invalid}
use Rattle.table_model.specs.declared.refusal.Invalid.TheVariants as invalid
use Rattle.table_model.specs.Database.{Database, Table, table_named, unless, first, where_true}
use Rattle.table_model.specs.Batches.{missing, missing_if, key_refusal, place_if}
use Rattle.table_model.specs.Reads.{view}
use Rattle.table_model.specs.Consumed.{where_asked, bytes_of, used_of}
use Rattle.table_model.specs.Transactions.{Target, has_repeat, read_key, read_target, read_target_if, read_item, read_view, read_refusal, used_by_read}
use Rattle.table_items.specs.Outcomes.{row_key_if}
use Rattle.numbered_tables.specs.declared.table.NumberedTable.{NumberedTable}
use Rattle.numbered_tables.specs.Tables.{Kept, database_in}
use Rattle.numbered_tables.proofs.Kept.{at, absent, there, known}
use Rattle.transact_reads.specs.declared.found.FoundRead.{FoundRead}
use Rattle.transact_reads.specs.declared.found.ReadAt.{ReadAt}
use Rattle.transact_reads.specs.Checked.{place_of, IsChecked, IsFit}
use Rattle.transact_reads.specs.Found.{database_of, target_of, item_of, shown_of, used_by, refusal_at, IsFound, AreFound}
use Rattle.transact_reads.specs.Reads.{IsAnswered}
use Rattle.transact_reads.specs.Told.{all_told}
use Rattle.transact_reads.proofs.Firsts.{refused_here, either_first}

-- ---- one read

-- a table that is there, and one that is not
pub present : (es : Kept) (name : List ℕ) → is_some (lookup (at name) es) ≡ true → missing (database_of es) name ≡ None
present es name h = go (table_named (database_of es) name) (known es empty 0 name ∙ h)
  where
    go : (o : Option Table) → is_some o ≡ true → missing_if name o ≡ None
    go None e = absurd (cc)
    go (Some t) e = refl

pub not_present : (es : Kept) (name : List ℕ) → is_some (lookup (at name) es) ≡ false → missing (database_of es) name ≡ Some (NoTable name)
not_present es name h = go (table_named (database_of es) name) (known es empty 0 name ∙ h)
  where
    go : (o : Option Table) → is_some o ≡ false → missing_if name o ≡ Some (NoTable name)
    go None e = refl
    go (Some t) e = absurd (cc)

-- the refusal of a read in its table
abbrev pub refusal_in : TransactRead → Option Table → Option Refusal
refusal_in read table =
    first (missing_if read.table table ∷ option_and_then key_refusal (option_map (λ t. key_alone t.schema t.schema.keys read.key) table) ∷ [])

pub not_there : (es : Kept) (read : TransactRead) → lookup (at read.table) es ≡ None → refusal_at (database_of es) read ≡ Some (NoTable read.table)
not_there es read h = ap (refusal_in read) (absent es empty 0 read.table h)

-- the key has a fault
pub unfit : (es : Kept) (read : TransactRead) (x : NumberedTable) (fault : KeyFault) → lookup (at read.table) es ≡ Some x
    → Err fault ≡ row_key_if (key_alone x.rows.schema x.rows.schema.keys read.key) → refusal_at (database_of es) read ≡ Some (Invalid (invalid.Key fault))
unfit es read x fault found is =
    ap (refusal_in read) (there es empty 0 read.table x found) ∙ go (key_alone x.rows.schema x.rows.schema.keys read.key) is
  where
    fault_in : Result RowKey KeyFault → KeyFault
    fault_in (Ok key) = fault
    fault_in (Err f) = f

    go : (k : Result Key KeyFault) → Err fault ≡ row_key_if k → first (key_refusal k ∷ []) ≡ Some (Invalid (invalid.Key fault))
    go (Ok key) e = absurd (cc)
    go (Err f) e = λ i. Some (Invalid (invalid.Key (fault_in (sym e i))))

place_of_row : (key : RowKey) (k : Result Key KeyFault) → Ok key ≡ row_key_if k → (first (key_refusal k ∷ []) ≡ None) × (place_if k ≡ Some key)
place_of_row key (Err f) e = absurd (cc)
place_of_row key (Ok x) e = (refl, λ i. Some (key_in (sym e i)))
  where
    key_in : Result RowKey KeyFault → RowKey
    key_in (Ok row) = row
    key_in (Err f) = key

-- the key is fit
pub fit : (es : Kept) (found : FoundRead) → lookup (at found.read.now.table) es ≡ Some found.table.now
    → Ok found.key ≡ row_key_if (key_alone found.table.now.rows.schema found.table.now.rows.schema.keys found.read.now.key)
    → IsFound (database_of es) found.read.now (Ok found)
fit es found is key =
    let read = found.read.now in
    let x = found.table.now in
    let table = there es empty 0 read.table x is in
    let place = place_of_row found.key (key_alone x.rows.schema x.rows.schema.keys read.key) key in
    let target : read_target (database_of es) read ≡ Some (target_of found) =
    ap (λ (o : Option Table). read_target_if o read) table
    ∙ ap (option_map (λ (k : RowKey). let t : Target = record { name = read.table; number = x.number; key = k } in t)) place.1 in (
      ap (refusal_in read) table ∙ place.0,
      target,
      (λ i. option_map (view read.projection) (read_item (table i) (target i))),
      (λ i. used_of read.table (read_halves Transact (bytes_of (read_item (table i) (target i))))),
    )

-- ---- all reads

-- what is left to be found is what is left of the whole, and these were found
pub record IsSoFar (db : Database) (reads rest : List TransactRead) (found : List FoundRead) : Type 0 where
  pub refusal : first (map (refusal_at db) rest) ≡ first (map (refusal_at db) reads)
  pub targets : map (λ read. Some (target_of read)) found ++ map (read_target db) rest ≡ map (read_target db) reads
  pub views : map shown_of found ++ map (read_view db) rest ≡ map (read_view db) reads
  pub used : map used_by found ++ map (used_by_read db) rest ≡ map (used_by_read db) reads

pub one_refused : (db : Database) (reads rest others : List TransactRead) (found : List FoundRead) (read : TransactRead) (refusal : Refusal)
    → IsSoFar db reads rest found → rest ≡ read ∷ others → IsFound db read (Err refusal) → AreFound db reads (Err refusal)
one_refused db reads rest others found read refusal so_far is one =
    sym (refused_here (refusal_at db) read rest others refusal (first (map (refusal_at db) reads)) is one so_far.refusal)

-- ---- the request

module _ {X Y : Type 0} (f : X → Option Target) (g : Y → Target) where
  -- what each of the first has is picked of them
  picked : (xs : List X) (ys : List Y) → map f xs ≡ map (λ y. Some (g y)) ys → filter_map f xs ≡ map g ys
  picked [] [] e = refl
  picked [] (y ∷ ys) e = absurd (cc)
  picked (x ∷ xs) [] e = absurd (cc)
  picked (x ∷ xs) (y ∷ ys) e =
      let here : f x ≡ Some (g y) = cc in
      let rest : map f xs ≡ map (λ (z : Y). Some (g z)) ys = cc in
      λ i. cons_option (here i) (picked xs ys rest i)

module _ (db : Database) (reads : List TransactRead) where
  abbrev missing_at : TransactRead → Option Refusal
  missing_at read = missing db read.table

  abbrev unfit_at : TransactRead → Option Refusal
  unfit_at read = option_and_then key_refusal (read_key db read)

  -- the refusal by that of a table, that of a key, and whether an item stands twice
  abbrev stages : Option Refusal → Option Refusal → Bool → Option Refusal
  stages m k twice = first (m ∷ k ∷ where_true twice (Invalid invalid.Twice) ∷ [])

  abbrev repeats : Bool
  repeats = has_repeat (filter_map (read_target db) reads)

  module _ (there : first (map missing_at reads) ≡ None) where
    -- a key is unfit
    pub fit_bad : (why : Refusal) → AreFound db reads (Err why) → IsFit db reads (Err why)
    fit_bad why are =
        let bad : first (map unfit_at reads) ≡ Some why = sym (either_first missing_at unfit_at reads there) ∙ are in
        λ i. stages (there i) (bad i) repeats

    module _ (found : List FoundRead) (are : AreFound db reads (Ok found)) where
      refusal_by : (twice : Bool) → has_repeat (map target_of found) ≡ twice → read_refusal db reads ≡ stages None None twice
      refusal_by twice is =
          let bad : first (map unfit_at reads) ≡ None = sym (either_first missing_at unfit_at reads there) ∙ are.0 in
          let same : repeats ≡ twice = ap has_repeat (picked (read_target db) target_of reads found are.1) ∙ is in
          λ i. stages (there i) (bad i) (same i)

      -- an item is read twice
      pub fit_twice : has_repeat (map target_of found) ≡ true → IsFit db reads (Err (Invalid invalid.Twice))
      fit_twice twice = refusal_by true twice

      -- nothing refuses them
      pub fit_all : has_repeat (map target_of found) ≡ false → IsFit db reads (Ok found)
      fit_all apart = record {
        targets = record { free = refusal_by false apart; are = are.1 ∙ sym (map-map (λ (target : Target). Some target) target_of found); apart = apart };
        views = are.2;
        used = are.3;
      }

-- ---- the reply

module _ (es : Kept) (reads : List TransactRead) (capacity : Bool) where
  pub answered_refused : (why : Refusal) → IsFit (database_of es) reads (Err why) → IsAnswered es reads capacity (answer.Refused why)
  answered_refused why refused = λ tokens made.
      let db : Database = database_in es tokens made in
      (λ i. unless db (refused i)
      (db, answer.TransactRead (map (read_view (database_of es)) reads) (where_asked capacity (by_table (map (used_by_read (database_of es)) reads)))))

  pub answered_fit : (found : List FoundRead) (reply : Reply) → IsFit (database_of es) reads (Ok found)
      → reply ≡ all_told (λ (read : FoundRead). read.read.now) item_of capacity found → IsAnswered es reads capacity reply
  answered_fit found reply fit said = λ tokens made.
      let db : Database = database_in es tokens made in
      (λ i. unless db (fit.targets.free i) (db, answer.TransactRead (fit.views i) (where_asked capacity (by_table (fit.used i)))))
      ∙ ap (λ (r : Reply). (db, r)) (sym said)

-- where the items are that were found
pub checked_fit : (db : Database) (reads : List TransactRead) (found : List FoundRead) (places : List ReadAt) → IsFit db reads (Ok found)
    → places ≡ map (λ read. place_of (target_of read)) found → IsChecked db reads (Ok places)
checked_fit db reads found places fit are = (map target_of found, fit.targets, are ∙ sym (map-map place_of target_of found))
