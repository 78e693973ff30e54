-- Reads that nothing refuses, by the schemas of tables alone.
use Rattle.std.specs.Prelude.{◌≡◌, List, map, false, None, Some, Result, Ok, Err}
use Rattle.table_request.specs.declared.transactions.TransactRead.{TransactRead}
use Rattle.table_model.specs.declared.refusal.Refusal.{Refusal}
use Rattle.table_model.specs.Database.{Database}
use Rattle.table_model.specs.Transactions.{Target, has_repeat, read_target, read_view, used_by_read, read_refusal}
use Rattle.transact_reads.specs.declared.found.FoundRead.{FoundRead}
use Rattle.transact_reads.specs.declared.found.ReadAt.{ReadAt}
use Rattle.transact_reads.specs.Found.{target_of, shown_of, used_by}

-- where an item is
abbrev pub place_of : Target → ReadAt
place_of target = record { table = target.number; key = target.key }

-- nothing refuses the reads, and these are their items, no two of them one
pub record AreTargets (db : Database) (reads : List TransactRead) (targets : List Target) : Type 0 where
  pub free : read_refusal db reads ≡ None
  pub are : map (read_target db) reads ≡ map (λ target. Some target) targets
  pub apart : has_repeat targets ≡ false

-- the request is refused, or these are where its items are
abbrev pub IsChecked : Database → List TransactRead → Result (List ReadAt) Refusal → Type 0
IsChecked db reads (Err refusal) = read_refusal db reads ≡ Some refusal
IsChecked db reads (Ok places) = (targets : List Target) × AreTargets db reads targets × (places ≡ map place_of targets)

-- nothing refuses the reads, which are these with their tables and keys
pub record AreFit (db : Database) (reads : List TransactRead) (found : List FoundRead) : Type 0 where
  pub targets : AreTargets db reads (map target_of found)
  pub views : map (read_view db) reads ≡ map shown_of found
  pub used : map (used_by_read db) reads ≡ map used_by found

abbrev pub IsFit : Database → List TransactRead → Result (List FoundRead) Refusal → Type 0
IsFit db reads (Err refusal) = read_refusal db reads ≡ Some refusal
IsFit db reads (Ok found) = AreFit db reads found
