use Rattle.std.proofs.Common.{◌≡◌, map, false, None, sym, ap, ◌∙◌}
use Rattle.std.specs.List.{list_any}
use Rattle.table_request.specs.declared.batches.TableWrites.{TableWrites}
use Rattle.table_model.specs.Database.{table_named, first}
use Rattle.table_model.specs.Batches.{missing, is_oversized, is_unfit_write}
use Rattle.numbered_tables.specs.Changes.{has_repeat}
use Rattle.table_batches.specs.Answers.{tables_alone}
use Rattle.table_batches.proofs.Repeats.{no_repeat}
use Rattle.table_batches.proofs.Writing.{keys_refuse, items_refuse, items_are, none_twice}
use Rattle.table_batches.proofs.write.changes_asked.Goals as goal

pub returns-in-Err : goal.returns-in-Err
returns-in-Err c =
    let db = tables_alone c.args.tables.now.entries in
    let ts = c.args.requests in
    let asked = rw c.in-Err.is at c.in_ok-changes.ensures in
    let there : first (map (λ (t : TableWrites). missing db t.table) ts) ≡ None =
    ap (λ us. first (map (λ (t : TableWrites). missing db t.table) us)) (sym c.as_slice.ensures) ∙ sym c.in_ok-refusal.ensures ∙ c.in_default.is in
    keys_refuse db ts there c.in-Err.refusal asked

pub returns : goal.returns
returns c =
    let db = tables_alone c.args.tables.now.entries in
    let ts = c.args.requests in
    let asked = rw c.in-Ok.is at c.in_ok-changes.ensures in
    let there : first (map (λ (t : TableWrites). missing db t.table) ts) ≡ None =
    ap (λ us. first (map (λ (t : TableWrites). missing db t.table) us)) (sym c.as_slice.ensures) ∙ sym c.in_ok-refusal.ensures ∙ c.in_default.is in
    let small : false ≡ list_any (λ t. list_any is_oversized t.writes) ts =
    c.if-oversized.ensures ∙ ap (list_any (λ t. list_any is_oversized t.writes)) c.as_slice-2.ensures in
    let fit : false ≡ list_any (λ t. list_any (is_unfit_write (table_named db t.table)) t.writes) ts =
    c.if-unfit.ensures ∙ ap (list_any (λ t. list_any (is_unfit_write (table_named db t.table)) t.writes)) c.as_slice-3.ensures in (
      items_refuse db ts there asked.0 ∙ items_are db ts false false small fit,
      (asked.1, ap has_repeat asked.1 ∙ no_repeat db ts c.requires.ascending (none_twice db ts asked.0)),
    )
