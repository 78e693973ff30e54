use Rattle.std.proofs.Common.{◌≡◌, ◌∷◌, ◌+◌, drop, option_map, true, false, sym, ap, ◌∙◌}
use Rattle.std.specs.List.{list_any}
use Rattle.std.specs.Option.{option_copied}
use Rattle.std.proofs.lemmas.List.{drop_more}
use Rattle.table_request.specs.declared.batches.TableWrites.{TableWrites}
use Rattle.table_model.specs.Database.{table_named}
use Rattle.table_model.specs.Batches.{is_unfit_write}
use Rattle.numbered_tables.specs.Tables.{table_in}
use Rattle.numbered_tables.proofs.Kept.{at, named}
use Rattle.table_batches.specs.Answers.{tables_alone}
use Rattle.table_batches.proofs.Refusals.{any_found, any_passed}
use Rattle.table_batches.proofs.fit.some_unfit.Goals as goal

pub returns-then-has_unfit : goal.returns-then-has_unfit
returns-then-has_unfit c =
    let l = c.loop-asked in
    let es = c.args.tables.now.entries in
    let db = tables_alone es in
    let ts = c.args.requests.now in
    let t = c.asked-item.result in
    let rest = drop (l.asked-index + 1) ts in
    let test = λ (u : TableWrites). list_any (is_unfit_write (table_named db u.table)) u.writes in
    let here : drop l.asked-index ts ≡ t ∷ rest = drop_more ts l.asked-index t c.loop-asked-test.true ∙ ap (λ y. y ∷ rest) (sym c.asked-item.is) in
    let table : table_named db t.table ≡ option_map table_in (option_copied c.get.result) =
    named (at t.table) es ∙ ap (option_map table_in) (sym c.get.ensures.value) in
    let unfit : test t ≡ true = (λ i. list_any (is_unfit_write (table i)) (sym c.as_slice.ensures i)) ∙ sym c.if-has_unfit.ensures in
    any_found test t rest (list_any test ts) unfit (ap (list_any test) (sym here) ∙ l.invariant)

pub loop-asked-preserved : goal.loop-asked-preserved
loop-asked-preserved c =
    let l = c.loop-asked in
    let es = c.args.tables.now.entries in
    let db = tables_alone es in
    let ts = c.args.requests.now in
    let t = c.asked-item.result in
    let rest = drop (l.asked-index + 1) ts in
    let test = λ (u : TableWrites). list_any (is_unfit_write (table_named db u.table)) u.writes in
    let here : drop l.asked-index ts ≡ t ∷ rest = drop_more ts l.asked-index t c.loop-asked-test.true ∙ ap (λ y. y ∷ rest) (sym c.asked-item.is) in
    let table : table_named db t.table ≡ option_map table_in (option_copied c.get.result) =
    named (at t.table) es ∙ ap (option_map table_in) (sym c.get.ensures.value) in
    let fits : test t ≡ false = (λ i. list_any (is_unfit_write (table i)) (sym c.as_slice.ensures i)) ∙ sym c.if-has_unfit.ensures in
    any_passed test t rest (list_any test ts) fits (ap (list_any test) (sym here) ∙ l.invariant)
