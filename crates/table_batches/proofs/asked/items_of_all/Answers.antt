use Rattle.std.proofs.Common.{◌≡◌, ◌∷◌, ◌++◌, ◌+◌, drop, map, sym, ap, ◌∙◌, subst}
use Rattle.std.specs.Option.{option_copied}
use Rattle.std.proofs.lemmas.List.{drop_more}
use Rattle.table_model.specs.Batches.{asked_keys, asked_items}
use Rattle.table_batches.specs.Answers.{tables_alone}
use Rattle.table_batches.specs.Keys.{IsAsked}
use Rattle.table_batches.proofs.Refusals.{Asking, one_table, faulty}
use Rattle.table_batches.proofs.asked.items_of_all.Goals as goal

pub returns-in-Err : goal.returns-in-Err
returns-in-Err c =
    let l = c.loop-asked in
    let db = tables_alone c.args.tables.now.entries in
    let ts = c.args.requests.now in
    let t = c.asked-item.result in
    let rest = drop (l.asked-index + 1) ts in
    let items = map option_copied l.items.items in
    let here : drop l.asked-index ts ≡ t ∷ rest = drop_more ts l.asked-index t c.loop-asked-test.true ∙ ap (λ y. y ∷ rest) (sym c.asked-item.is) in
    faulty (asked_keys db) (asked_items db) ts t rest items l.twice c.in-Err.fault
    (subst (λ found. IsAsked (asked_keys db t) found (map option_copied c.items_of.new.items.items ≡ items ++ asked_items db t)) c.in-Err.is
    c.in_ok-repeats.ensures)
    (subst (λ us. Asking (asked_keys db) (asked_items db) ts us items l.twice) here l.invariant)

pub loop-asked-preserved : goal.loop-asked-preserved
loop-asked-preserved c =
    let l = c.loop-asked in
    let db = tables_alone c.args.tables.now.entries in
    let ts = c.args.requests.now in
    let t = c.asked-item.result in
    let rest = drop (l.asked-index + 1) ts in
    let items = map option_copied l.items.items in
    let here : drop l.asked-index ts ≡ t ∷ rest = drop_more ts l.asked-index t c.loop-asked-test.true ∙ ap (λ y. y ∷ rest) (sym c.asked-item.is) in
    one_table (asked_keys db) (asked_items db) ts t rest items (map option_copied c.items_of.new.items.items) l.twice c.in-Ok.repeats
    (subst (λ found. IsAsked (asked_keys db t) found (map option_copied c.items_of.new.items.items ≡ items ++ asked_items db t)) c.in-Ok.is
    c.in_ok-repeats.ensures)
    (subst (λ us. Asking (asked_keys db) (asked_items db) ts us items l.twice) here l.invariant)
