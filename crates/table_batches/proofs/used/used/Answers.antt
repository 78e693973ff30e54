use Rattle.std.proofs.Common.{◌≡◌, ◌∷◌, ◌++◌, ◌+◌, List, drop, sym, ap, ◌∙◌}
use Rattle.std.proofs.lemmas.List.{drop_more}
use Rattle.table_request.specs.declared.batches.TableWrites.{TableWrites}
use Rattle.table_request.specs.declared.consumed.Consumed.{Consumed}
use Rattle.table_model.specs.Batches.{used_by_writes}
use Rattle.table_batches.specs.Answers.{tables_alone}
use Rattle.table_batches.proofs.Named.{used_more}
use Rattle.table_batches.proofs.used.used.Goals as goal

pub loop-asked-preserved : goal.loop-asked-preserved
loop-asked-preserved c =
    let l = c.loop-asked in
    let db = tables_alone c.args.tables.now.entries in
    let ts = c.args.requests.now in
    let t = c.asked-item.result in
    let rest = drop (l.asked-index + 1) ts in
    let here : drop l.asked-index ts ≡ t ∷ rest = drop_more ts l.asked-index t c.loop-asked-test.true ∙ ap (λ y. y ∷ rest) (sym c.asked-item.is) in
    ap (λ (us : List Consumed). us ++ used_by_writes db rest) c.in_ok-push_used.ensures ∙ used_more db l.all t rest
    ∙ ap (λ (us : List TableWrites). l.all ++ used_by_writes db us) (sym here) ∙ l.invariant
