use Rattle.std.proofs.Common.{rules, ◌≡◌, ◌∙◌, ◌+◌, ◌∷◌, ℕ, List, true, false, Some, is_some, drop, map, sym, ap}
use Rattle.std.specs.Map.{lookup}
use Rattle.std.proofs.lemmas.List.{at_drop_more}
use Rattle.table_model.specs.declared.refusal.Refusal.TheVariants.{NoTable}
use Rattle.table_model.specs.Database.{first}
use Rattle.table_model.specs.Batches.{missing}
use Rattle.numbered_tables.proofs.Kept.{at}
use Rattle.transact_reads.specs.Found.{database_of}
use Rattle.transact_reads.proofs.Firsts.{refused_here, goes_on}
use Rattle.transact_reads.proofs.Reading.{present, not_present}
use Rattle.transact_reads.proofs.found.missing_table.Goals as goal

pub returns-then-not-contains_key : goal.returns-then-not-contains_key
returns-then-not-contains_key c =
    let es = c.args.tables.now.entries in
    let reads = c.args.reads.now in
    let i = c.loop-read.read-index in
    let read = c.read-item.result in
    let next : drop i reads ≡ read ∷ drop (i + 1) reads =
    at_drop_more (λ xs. xs) reads i read c.loop-read-test.true ∙ ap (λ x. x ∷ drop (i + 1) reads) (sym c.read-item.is) in
    let none : is_some (lookup (at read.table) es) ≡ false = search rules in
    refused_here (λ r. missing (database_of es) r.table) read (drop i reads) (drop (i + 1) reads) (NoTable c.in_ok-try_clone.field-0)
    (first (map (λ r. missing (database_of es) r.table) reads)) next
    (not_present es read.table none ∙ ap (λ (name : List ℕ). Some (NoTable name)) (sym c.in_ok-try_clone.ensures)) c.loop-read.invariant

pub loop-read-preserved : goal.loop-read-preserved
loop-read-preserved c =
    let es = c.args.tables.now.entries in
    let reads = c.args.reads.now in
    let i = c.loop-read.read-index in
    let read = c.read-item.result in
    let next : drop i reads ≡ read ∷ drop (i + 1) reads =
    at_drop_more (λ xs. xs) reads i read c.loop-read-test.true ∙ ap (λ x. x ∷ drop (i + 1) reads) (sym c.read-item.is) in
    let there : is_some (lookup (at read.table) es) ≡ true = search rules in
    goes_on (λ r. missing (database_of es) r.table) read (drop i reads) (drop (i + 1) reads) (first (map (λ r. missing (database_of es) r.table) reads)) next
    (present es read.table there) c.loop-read.invariant
