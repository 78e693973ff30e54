use Rattle.std.proofs.Common.{rules, ◌≡◌, ◌-◌, true, None, Some, slice_get, length, sym, ap, ◌∙◌}
use Rattle.std.proofs.lemmas.Bool.{cond-true}
use Rattle.table_model.specs.Catalog.{last_name}
use Rattle.table_calls.proofs.NamesTold.{last_at}
use Rattle.table_calls.proofs.list.last_name.Goals as goal

pub returns-in_ok-try_clone-in-Some : goal.returns-in_ok-try_clone-in-Some
returns-in_ok-try_clone-in-Some c =
    let names = c.args.list.now.names in
    let more : c.args.list.now.more ≡ true = search rules in
    let here : slice_get names (length names - 1) ≡ Some c.in-Some.name.now = search rules in
    ap Some c.in_ok-try_clone-in-Some.ensures ∙ sym here ∙ sym (last_at names) ∙ sym (cond-true c.args.list.now.more (last_name names) None more)
