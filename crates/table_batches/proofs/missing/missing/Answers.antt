use Rattle.std.proofs.Common.{◌≡◌, ◌∷◌, ◌+◌, ℕ, List, drop, map, Some, None, sym, ap, ◌∙◌}
use Rattle.std.proofs.lemmas.List.{drop_more}
use Rattle.table_model.specs.declared.refusal.Refusal.TheVariants.{NoTable}
use Rattle.table_model.specs.Database.{first}
use Rattle.table_model.specs.Batches.{missing}
use Rattle.table_batches.specs.Answers.{tables_alone}
use Rattle.table_batches.proofs.Named.{is_missing, not_missing}
use Rattle.table_batches.proofs.Refusals.{passed, refused}
use Rattle.table_batches.proofs.missing.missing.Goals as goal

pub returns-then-not-contains_key : goal.returns-then-not-contains_key
returns-then-not-contains_key g c =
    let l = c.loop-asked in
    let es = c.args.tables.now.entries in
    let xs = c.args.requests.now in
    let x = c.asked-item.result in
    let name = c.table-name.result.now in
    let rest = drop (l.asked-index + 1) xs in
    let of = λ (t : g.row.T.Denot). missing (tables_alone es) (g.T.OnTable.table_of t) in
    let here : drop l.asked-index xs ≡ x ∷ rest = drop_more xs l.asked-index x c.loop-asked-test.true ∙ ap (λ y. y ∷ rest) (sym c.asked-item.is) in
    let none : of x ≡ Some (NoTable name) =
    ap (missing (tables_alone es)) (sym c.table-name.ensures) ∙ is_missing es name (sym c.if-not-contains_key.ensures) in
    ap (λ (n : List ℕ). Some (NoTable n)) c.in_ok-try_clone.ensures ∙ refused (of x) (map of rest) (NoTable name) none ∙ ap (λ ys. first (map of ys)) (sym here)
    ∙ l.invariant

pub loop-asked-preserved : goal.loop-asked-preserved
loop-asked-preserved g c =
    let l = c.loop-asked in
    let es = c.args.tables.now.entries in
    let xs = c.args.requests.now in
    let x = c.asked-item.result in
    let name = c.table-name.result.now in
    let rest = drop (l.asked-index + 1) xs in
    let of = λ (t : g.row.T.Denot). missing (tables_alone es) (g.T.OnTable.table_of t) in
    let here : drop l.asked-index xs ≡ x ∷ rest = drop_more xs l.asked-index x c.loop-asked-test.true ∙ ap (λ y. y ∷ rest) (sym c.asked-item.is) in
    let known : of x ≡ None =
    ap (missing (tables_alone es)) (sym c.table-name.ensures) ∙ not_missing es name (sym c.if-not-contains_key.ensures) in
    passed (of x) (map of rest) known ∙ ap (λ ys. first (map of ys)) (sym here) ∙ l.invariant
