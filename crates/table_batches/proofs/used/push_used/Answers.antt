use Rattle.std.proofs.Common.{rules, ◌≡◌, List, ◌∷◌, ◌++◌, [], Some, None, sym, ap, ◌∙◌}
use Rattle.std.specs.Map.{lookup}
use Rattle.std.proofs.lemmas.List.{append-nil}
use Rattle.table_request.specs.declared.consumed.Consumed.{Consumed}
use Rattle.numbered_tables.proofs.Kept.{at}
use Rattle.table_batches.proofs.Named.{used_nowhere, used_there}
use Rattle.table_batches.proofs.used.push_used.Goals as goal

pub returns-in_default : goal.returns-in_default
returns-in_default c =
    let es = c.args.tables.now.entries in
    let t = c.args.asked.now in
    let none : lookup (at t.table) es ≡ None = search rules in
    let old = c.args.all.now in
    sym (ap (λ (more : List Consumed). old ++ more) (used_nowhere es t none) ∙ append-nil old)

pub returns : goal.returns
returns c =
    let es = c.args.tables.now.entries in
    let t = c.args.asked.now in
    let x = c.in-Some.table.now in
    let here : lookup (at t.table) es ≡ Some x = search rules in
    let old = c.args.all.now in
    c.in_ok-push.ensures.ok ∙ ap (λ (used : Consumed). old ++ used ∷ []) c.in_ok-used_in.ensures
    ∙ ap (λ (more : List Consumed). old ++ more) (sym (used_there es t x here))
