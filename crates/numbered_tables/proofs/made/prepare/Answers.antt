use Rattle.std.specs.Map.{lookup, set_value}
use Rattle.std.proofs.Common.{rules, ◌≡◌, [], ◌∷◌, ◌++◌, Option, None, Some, ap, ◌∙◌}
use Rattle.std.proofs.lemmas.Result.{on_ok_weaker, on_err_weaker}
use Rattle.std.proofs.lemmas.Map.Steps.{set_value_same}
use Rattle.attr_value.specs.Tree.{Attributes}
use Rattle.row_keys.specs.declared.row_key.RowKey.{RowKey}
use Rattle.numbered_tables.specs.declared.table.NumberedTable.{NumberedTable}
use Rattle.table_rows.specs.View.{TableView}
use Rattle.numbered_tables.specs.Prepared.{names}
use Rattle.numbered_tables.proofs.Prepared.{prepared_there, prepared_nowhere}
use Rattle.numbered_tables.proofs.made.prepare.Goals as goal

-- the table with one more change prepared
abbrev with_new : TableView → RowKey → Option Attributes → TableView
with_new t key new = record t { pending = t.pending ++ record { key = key; new = new } ∷ [] }

pub returns-in_default-clause-ok : goal.returns-in_default-clause-ok
returns-in_default-clause-ok c =
    let change = c.args.change in
    let es = c.args.tables.now.entries in
    let none : lookup (names change) es ≡ None = search rules in
    let same : c.get_mut.follows.lender-at-none.entries ≡ es = search rules in
    same ∙ prepared_nowhere change es c.get_mut.ensures.ordered none

pub returns-clause-ok : goal.returns-clause-ok
returns-clause-ok c =
    let change = c.args.change in
    let es = c.args.tables.now.entries in
    let x = c.in-Some.table.now in
    let found : lookup (names change) es ≡ Some x = search rules in
    let numbered : TableView → NumberedTable = λ rows. record { number = x.number; rows = rows } in
    let w = numbered c.prepare.new.self in
    let kept : with_new x.rows change.key c.in_ok-new.new ≡ with_new x.rows change.key change.new = ap (with_new x.rows change.key) c.in_ok-new.ensures in
    on_ok_weaker c.prepare.result
    (λ done.
    prepared_there change es (c.get_mut.follows.lender w).entries x w c.get_mut.ensures.ordered found (c.get_mut.follows.holds w).0 (ap numbered (done ∙ kept)))
    c.prepare.ensures.ok

pub returns-clause-err : goal.returns-clause-err
returns-clause-err c =
    let change = c.args.change in
    let es = c.args.tables.now.entries in
    let x = c.in-Some.table.now in
    let found : lookup (names change) es ≡ Some x = search rules in
    let numbered : TableView → NumberedTable = λ rows. record { number = x.number; rows = rows } in
    let w = numbered c.prepare.new.self in
    on_err_weaker c.prepare.result
    (λ same.
    (c.get_mut.follows.holds w).0 ∙ ap (λ rows. set_value (names change) es (numbered rows)) same ∙ set_value_same (names change) es x found)
    c.prepare.ensures.err
